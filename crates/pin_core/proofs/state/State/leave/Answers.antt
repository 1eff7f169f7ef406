use Rattle.pin_core.specs.Inside.{core_of}
use Rattle.pin_core.proofs.Inside.{within, stage_read}
use Rattle.pin_core.proofs.Pins.{leaves}
use Rattle.pin_core.proofs.state.State.leave.Goals as goal

pub invariant_of-self : goal.invariant_of-self
invariant_of-self c =
    let s = core_of c.self.inside in
    let l = within s _ c.self.invariant c.self.view_is c.args.p c.requires in
    let is = stage_read s _ c.self.invariant c.self.view_is c.args.p c.requires _ _ c.index.ensures c.in-Pinned.is in
    leaves s.size s.words s.stages s.seen s.turn c.self.invariant c.args.p c.in-Pinned.field-0 l is
