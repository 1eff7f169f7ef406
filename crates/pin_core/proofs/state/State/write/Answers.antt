use Rattle.std.proofs.Common.{ℕ, List, set, sym, ap, ◌∙◌, subst}
use Rattle.pin_core.specs.declared.kept.Kept.{Kept}
use Rattle.pin_core.specs.Words.{chunk_of}
use Rattle.pin_core.specs.Sound.{Sound}
use Rattle.pin_core.specs.Machine.{Core, is_given, is_kept_cell}
use Rattle.pin_core.specs.Inside.{core_of}
use Rattle.pin_core.proofs.Cells.{writes, given_test}
use Rattle.pin_core.proofs.state.State.write.Goals as goal

pub invariant_of-self : goal.invariant_of-self
invariant_of-self c =
    let s = core_of c.self.inside in
    let chunk = chunk_of c.args.at in
    let given = ap (λ (v : Core). is_given v.size v.words chunk) c.self.view_is ∙ sym c.is_given.ensures ∙ c.if-not-is_given.false in
    let apart = sym (ap (λ (ks : List Kept). is_kept_cell ks c.args.at) c.deref.ensures.value) ∙ sym c.is_in_kept_image.ensures ∙ c.if-is_in_kept_image.false in
    subst (λ (i : ℕ). Sound s.size (set s.words i c.args.value) s.stages s.seen s.turn) (sym c.place_of_half.ensures)
    (writes s.size s.words s.stages s.seen s.turn c.self.invariant c.args.at c.args.half c.args.value (given_test s.size s.words chunk given).0 apart)
