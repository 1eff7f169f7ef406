use Rattle.std.proofs.Common.{rules, ◌≤◌, ◌+◌, ◌-◌, ℕ, length, take, drop, arith, length-take, length-drop}
use Rattle.std.proofs.lemmas.Result.{err_from_is_err_and}
use Rattle.outer_io.proofs.GrowsLemmas.{Grows-more}
use Rattle.outer_io.proofs.writing.write_all.Goals as goal

pub returns-in_err-at-clause-err : goal.returns-in_err-at-clause-err
returns-in_err-at-clause-err g c =
    let p = err_from_is_err_and c.from_residual.result c.from_residual.ensures.1 in
    let h = c.in_err-at.ensures.err in
    let le : h.0 ≤ length (take (length c.args.bytes.now - c.loop-at.at) (drop c.loop-at.at c.args.bytes.now)) = h.1 in
    let within : c.loop-at.at + h.0 ≤ length c.args.bytes.now = omega (arith, length-take {A = ℕ}, length-drop {A = ℕ}) in
    rw p.1 (c.loop-at.at + h.0, within, Grows-more _ _ _ c.args.bytes.now c.loop-at.at h.0 c.loop-at.invariant.grown h.1 h.2)

pub loop-at-preserved : goal.loop-at-preserved
loop-at-preserved g c =
    record {
      within = search rules;
      grown = Grows-more _ _ _ c.args.bytes.now c.loop-at.at c.in_ok-at.field-0 c.loop-at.invariant.grown c.in_ok-at.ensures.bound c.in_ok-at.ensures.ok;
      quiet = search rules;
    }
