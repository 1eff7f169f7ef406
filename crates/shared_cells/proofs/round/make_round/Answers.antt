use Rattle.std.proofs.Common.{◌≡◌, ◌⊎◌, ℕ, ◌+◌, ◌<◌, List, length, refl, sym, ap, ◌∙◌, subst, arith}
use Rattle.std.specs.List.{AllPairs, Contains}
use Rattle.atomic_table.specs.Table.{Me}
use Rattle.pin_core.specs.declared.kept.Kept.{Kept}
use Rattle.shared_cells.specs.declared.view.View.{View}
use Rattle.shared_cells.specs.Views.{is_told, kept_in, marks_of}
use Rattle.shared_cells.specs.Steps.{Rounded}
use Rattle.shared_cells.proofs.Images.{some_word}
use Rattle.shared_cells.proofs.Looking.{may_look}
use Rattle.shared_cells.proofs.RoundLaws.{still_kept}
use Rattle.shared_cells.proofs.KeptLaws.{Gathered, gathers_first, gathers_idle, gathers_pinned, gathered_round, gathered_named}
use Rattle.shared_cells.proofs.round.make_round.Goals as goal
use Rattle.shared_cells.proofs.round.make_round.Goals.{then-pin-ne-IDLE, else-pin-ne-IDLE}

pub load-word-requires : goal.load-word-requires
load-word-requires g c = (c.requires.table, some_word _ _ c.args.shared.now.wide, may_look g.L.HistoryLaw.applied g.L.HistoryLaw.lawful g.L.HistoryLaw.permitted g.L.HistoryLaw.stands _ _ _ _ c.requires.can.turn)

pub loop-pass-init : goal.loop-pass-init
loop-pass-init g c =
    let look = c.load-word.ensures.2 in
    let v = c.load-word.new.seat.me.0 in
    let is = ap (λ (m : Me (Unit {0}) (View g.row.O.Denot g.row.E.Denot)). m.0.turn) look.0 ∙ look.1.1 in
    let blank = ap (λ (m : Me (Unit {0}) (View g.row.O.Denot g.row.E.Denot)). marks_of m.0.turn) look.0 ∙ c.requires.can.blank in
    record { table = refl; slots = refl; gathered = gathers_first c.args.passes c.args.version v look.1.0 is blank c.requires.can.passes_fit.0 c.begin.new.self c.begin.ensures }

pub mark_pass-pin-requires-clause-can : goal.mark_pass-pin-requires-clause-can
mark_pass-pin-requires-clause-can g c =
    let look = c.load-word.ensures.2 in
    let v = c.load-word.new.seat.me.0 in
    let w = c.loop-pass.place.me.0 in
    let r = c.loop-pass.invariant.gathered in
    let known = look.1.2.current in
    let still = still_kept c.args.passes v w r.found r.round (let l : c.loop-pass.pass < c.args.passes = c.loop-pass-test.true in let n = r.count in omega arith) in
    let kept = still.0 ∙ ap (λ (m : Me (Unit {0}) (View g.row.O.Denot g.row.E.Denot)). kept_in m.0.turn) look.0 ∙ ap kept_in look.1.1 in
    let history = ap length (still.1 ∙ ap (λ (m : Me (Unit {0}) (View g.row.O.Denot g.row.E.Denot)). m.0.seen.history) look.0) in
    let fits = c.requires.can.passes_fit.1 in
    let small : c.loop-pass.pass < c.args.passes = c.loop-pass-test.true in
    record {
      told = ap is_told (still.2 ∙ ap (λ (m : Me (Unit {0}) (View g.row.O.Denot g.row.E.Denot)). m.0.seen.opening) look.0) ∙ c.requires.can.told;
      pass_fits = subst (λ (n : ℕ). c.loop-pass.pass < n) (sym still.3) small;
      few = omega arith;
      word = (known.0, subst (λ (ks : List Kept). Contains ks known.0) (sym kept) known.1, known.2 ∙ sym history, known.3);
      fits = look.1.2.fits;
    }

pub loop-pass-preserved : goal.loop-pass-preserved
loop-pass-preserved g c =
    let n = c.args.passes in
    let version = c.args.version in
    let v = c.load-word.new.seat.me.0 in
    let w = c.loop-pass.place.me.0 in
    let w' = c.mark_pass-pin.new.place.me.0 in
    let p = c.loop-pass.pass in
    let list = c.loop-pass.kept in
    let r = c.loop-pass.invariant in
    let pin = c.mark_pass-pin.result in
    let marked = c.mark_pass-pin.ensures in
    let small : p < n = c.loop-pass-test.true in
    let gathered : Gathered n version v w' (p + 1) c.if-pin-ne-IDLE.kept =
    elim c.if-pin-ne-IDLE.branch [
      | then-pin-ne-IDLE b ↦ (let named = b.version_of_pin.ensures in let add = b.add.ensures in
          subst (Gathered n version v w' (p + 1)) (sym b.kept-is) (gathers_pinned n version v w w' p list r.gathered pin marked.marked marked.settled small b.add.new.self b.if-pin-ne-IDLE.true
          (subst (Contains b.add.new.self) named add.adds.has) add.adds.keeps (λ k h. subst (λ (x : ℕ). (k ≡ x) ⊎ Contains list k) named (add.adds.only k h)) add.adds.few add.rising))
      | else-pin-ne-IDLE b ↦ subst (Gathered n version v w' (p + 1)) (sym b.kept-is) (gathers_idle n version v w w' p list r.gathered pin marked.marked marked.settled small b.if-pin-ne-IDLE.false)
    ] in
    record { table = marked.table.0 ∙ r.table; slots = marked.table.1 ∙ r.slots; gathered = gathered }

pub returns-clause-rounded : goal.returns-clause-rounded
returns-clause-rounded g c =
    let n = c.args.passes in
    let look = c.load-word.ensures.2 in
    let v = c.load-word.new.seat.me.0 in
    let w = c.loop-pass.place.me.0 in
    let all : c.loop-pass.pass ≡ n = omega arith in
    let done = subst (λ (p : ℕ). Gathered n c.args.version v w p c.loop-pass.kept) all c.loop-pass.invariant.gathered in
    let known = look.1.2.current in
    let kept = ap (λ (m : Me (Unit {0}) (View g.row.O.Denot g.row.E.Denot)). kept_in m.0.turn) look.0 ∙ ap kept_in look.1.1 in
    let history = ap (λ (m : Me (Unit {0}) (View g.row.O.Denot g.row.E.Denot)). length m.0.seen.history) look.0 in
    subst (λ (x : View g.row.O.Denot g.row.E.Denot). Rounded x w c.loop-pass.kept) (ap (λ (m : Me (Unit {0}) (View g.row.O.Denot g.row.E.Denot)). m.0) look.0)
    (gathered_round n c.args.version v w c.loop-pass.kept done (c.requires.can.version ∙ sym history) (subst (AllPairs (λ k j. k.version < j.version)) (sym kept) look.1.2.rising)
    known.0 (subst (λ (ks : List Kept). Contains ks known.0) (sym kept) known.1) (known.2 ∙ sym c.requires.can.version))

pub returns-clause-kept : goal.returns-clause-kept
returns-clause-kept g c =
    let n = c.args.passes in
    let v = c.load-word.new.seat.me.0 in
    let w = c.loop-pass.place.me.0 in
    let all : c.loop-pass.pass ≡ n = omega arith in
    let done = subst (λ (p : ℕ). Gathered n c.args.version v w p c.loop-pass.kept) all c.loop-pass.invariant.gathered in
    record {
      few = done.few;
      named = gathered_named n c.args.version v w c.loop-pass.kept done;
    }
