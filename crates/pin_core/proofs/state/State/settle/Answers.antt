use Rattle.std.proofs.Common.{ℕ, get_or, set, sym, ap, ◌∙◌, subst}
use Rattle.pin_core.specs.declared.kept.Stage.TheVariants.{Pinned}
use Rattle.pin_core.specs.Words.{pin_at, version_of}
use Rattle.pin_core.specs.Sound.{Sound}
use Rattle.pin_core.specs.Machine.{exchanged}
use Rattle.pin_core.specs.Inside.{core_of}
use Rattle.pin_core.proofs.Inside.{within, stage_read, pin_read}
use Rattle.pin_core.proofs.Pins.{settles}
use Rattle.pin_core.proofs.state.State.settle.Goals as goal

pub invariant_of-self : goal.invariant_of-self
invariant_of-self c =
    let s = core_of c.self.inside in
    let l = within s _ c.self.invariant c.self.view_is c.args.p c.requires in
    let is = stage_read s _ c.self.invariant c.self.view_is c.args.p c.requires _ _ c.index.ensures c.in-Looked.is in
    let pin = pin_read s _ c.self.invariant c.self.view_is c.args.p c.requires _ c.index-2.ensures in
    let settled = c.pin_after_exchange-pin.ensures ∙ ap (λ (n : ℕ). exchanged n c.in-Looked.word) pin in
    let version = c.version_of_pin-version.ensures ∙ ap version_of settled in
    subst (λ (x : ℕ). Sound s.size (set s.words (pin_at c.args.p) x) (set s.stages c.args.p (Pinned c.version_of_pin-version.result)) (set s.seen c.args.p c.version_of_pin-version.result) s.turn) (sym settled)
    (subst (λ (v : ℕ). Sound s.size (set s.words (pin_at c.args.p) (exchanged (get_or s.words (pin_at c.args.p) 0) c.in-Looked.word)) (set s.stages c.args.p (Pinned v)) (set s.seen c.args.p v) s.turn) (sym version)
    (settles s.size s.words s.stages s.seen s.turn c.self.invariant c.args.p c.in-Looked.word l is))
