use Rattle.std.proofs.Common.{ℕ, set, sym, subst}
use Rattle.pin_core.specs.declared.kept.Stage.TheVariants.{Looked}
use Rattle.pin_core.specs.Sound.{Sound}
use Rattle.pin_core.specs.Inside.{core_of}
use Rattle.pin_core.proofs.Inside.{within, stage_read, current_read}
use Rattle.pin_core.proofs.Pins.{looks}
use Rattle.pin_core.proofs.state.State.look.Goals as goal

pub invariant_of-self : goal.invariant_of-self
invariant_of-self c =
    let s = core_of c.self.inside in
    let l = within s _ c.self.invariant c.self.view_is c.args.p c.requires in
    let is = stage_read s _ c.self.invariant c.self.view_is c.args.p c.requires _ _ c.index.ensures c.in-Entered.is in
    subst (λ (w : ℕ). Sound s.size s.words (set s.stages c.args.p (Looked w)) s.seen s.turn) (sym (current_read s c.self.invariant _ c.index-in-Entered.ensures))
    (looks s.size s.words s.stages s.seen s.turn c.self.invariant c.args.p l is)
