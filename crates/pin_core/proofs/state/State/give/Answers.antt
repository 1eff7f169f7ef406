use Rattle.pin_core.specs.Inside.{core_of}
use Rattle.pin_core.proofs.Cells.{gives}
use Rattle.pin_core.proofs.state.State.give.Goals as goal

pub invariant_of-self : goal.invariant_of-self
invariant_of-self c =
    let s = core_of c.self.inside in
    gives s.size s.words s.stages s.seen s.turn c.self.invariant c.args.chunk c.if-chunk-self.true
