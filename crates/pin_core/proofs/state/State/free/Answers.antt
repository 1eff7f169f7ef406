use Rattle.std.proofs.Common.{List, sym, ap, ◌∙◌}
use Rattle.pin_core.specs.declared.kept.Kept.{Kept}
use Rattle.pin_core.specs.Machine.{Core, is_given, is_kept_chunk}
use Rattle.pin_core.specs.Inside.{core_of}
use Rattle.pin_core.proofs.Cells.{frees, given_test}
use Rattle.pin_core.proofs.state.State.free.Goals as goal

pub invariant_of-self : goal.invariant_of-self
invariant_of-self c =
    let s = core_of c.self.inside in
    let given = ap (λ (v : Core). is_given v.size v.words c.args.chunk) c.self.view_is ∙ sym c.is_given.ensures ∙ c.if-not-is_given.false in
    let apart = sym (ap (λ (ks : List Kept). is_kept_chunk ks c.args.chunk) c.deref.ensures.value) ∙ sym c.meets_kept_image.ensures ∙ c.if-meets_kept_image.false in
    frees s.size s.words s.stages s.seen s.turn c.self.invariant c.args.chunk (given_test s.size s.words c.args.chunk given).0 apart
