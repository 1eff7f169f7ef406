use Rattle.std.proofs.Common.{ℕ, max, set, sym, ap, ◌∙◌, subst}
use Rattle.pin_core.specs.Sound.{Sound}
use Rattle.pin_core.specs.Inside.{core_of}
use Rattle.pin_core.proofs.Inside.{within, stage_read, seen_read}
use Rattle.pin_core.proofs.Pins.{learns}
use Rattle.pin_core.proofs.state.State.learn.Goals as goal

pub invariant_of-self : goal.invariant_of-self
invariant_of-self c =
    let s = core_of c.self.inside in
    let l = within s _ c.self.invariant c.self.view_is c.args.p c.requires in
    let is = stage_read s _ c.self.invariant c.self.view_is c.args.p c.requires _ _ c.index.ensures c.in-Idle.is in
    let seen = seen_read s _ c.self.invariant c.self.view_is c.args.p c.requires _ c.index-in-Idle.ensures in
    let learned = c.max.ensures ∙ ap (λ (n : ℕ). max n c.args.version) seen in
    subst (λ (n : ℕ). Sound s.size s.words s.stages (set s.seen c.args.p n) s.turn) (sym learned)
    (learns s.size s.words s.stages s.seen s.turn c.self.invariant c.args.p c.args.version l is c.if-version-self.true)
