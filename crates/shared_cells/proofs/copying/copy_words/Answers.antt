use Rattle.std.proofs.Common.{◌+◌, ◌-◌, ◌*◌, refl, arith, ◌∙◌}
use Rattle.shared_cells.proofs.Copies.{copied_none, copied_then, may_then}
use Rattle.shared_cells.proofs.copying.copy_words.Goals as goal

pub loop-done-init : goal.loop-done-init
loop-done-init g c = record { table = refl; copied = copied_none c.args.place.now.me c.args.from c.args.to; within = omega arith }

pub copy_eight-requires-clause-may : goal.copy_eight-requires-clause-may
copy_eight-requires-clause-may g c = let t = c.loop-done-test.true in may_then 8 (omega arith) refl refl c.requires.may.all c.loop-done.invariant.copied

pub loop-done-preserved : goal.loop-done-preserved
loop-done-preserved g c =
    let t = c.loop-done-test.true in
    let w = c.loop-done.invariant.within in
    record {
      table = c.copy_eight.ensures.table ∙ c.loop-done.invariant.table;
      copied = copied_then (omega arith) refl refl (λ i j k l. c.requires.may.all.apart i j (omega arith) (omega arith)) c.loop-done.invariant.copied c.copy_eight.ensures.copied;
      within = omega arith;
    }

pub copy_few-requires-clause-may : goal.copy_few-requires-clause-may
copy_few-requires-clause-may g c =
    let w = c.loop-done.invariant.within in
    let from = c.requires.may.small.0 in
    let to = c.requires.may.small.1 in
    record {
      small = (omega arith, omega arith);
      all = may_then (2 * (c.args.cells - c.loop-done.done)) (omega arith) refl refl c.requires.may.all c.loop-done.invariant.copied;
    }

pub returns-clause-copied : goal.returns-clause-copied
returns-clause-copied g c =
    let w = c.loop-done.invariant.within in
    copied_then {later = c.copy_few.new.place.me} (omega arith) refl refl c.requires.may.all.apart c.loop-done.invariant.copied c.copy_few.ensures.copied
