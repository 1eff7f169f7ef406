use Rattle.std.proofs.Common.{◌+◌, ◌∙◌, arith}
use Rattle.std.specs.Prelude.{Result, Ok, Err, OnErr}
use Rattle.pin_core.specs.Runs.{StoppedWithin}
use Rattle.pin_core.proofs.Histories.{reaches, tells}
use Rattle.pin_core.proofs.state.State.play.Goals as goal

whichever : {T E : Type 0} (r : Result T E) (P : Type 0) → P → OnErr r P
whichever (Ok x) P h = tt
whichever (Err e) P h = h

pub returns-in_err-push-clause-err : goal.returns-in_err-push-clause-err
returns-in_err-push-clause-err c =
    let reached = c.in_ok-step.ensures.step.after ∙ reaches _ _ c.args.events.now c.loop-event.event-index _ (omega arith) c.event-item.is c.loop-event.invariant.reached in
    let stopped : StoppedWithin c.args.self.now c.args.events.now c.step.new.self = (c.loop-event.event-index + 1, reached) in
    whichever _ _ stopped

pub loop-event-preserved : goal.loop-event-preserved
loop-event-preserved c = record {
  reached = c.in_ok-step.ensures.step.after ∙ reaches _ _ c.args.events.now c.loop-event.event-index _ (omega arith) c.event-item.is c.loop-event.invariant.reached;
  told = tells c.loop-event.self c.step.new.self c.loop-event.steps.items c.push.new.self.items _ c.in_ok-step.field-0 c.args.events.now c.loop-event.event-index _ (omega arith) c.event-item.is c.loop-event.invariant.told
      c.in_ok-step.ensures.step.after c.in_ok-step.ensures.step.answer c.in_ok-push.ensures.items;
}
