use Rattle.std.proofs.Common.{◌≡◌, ◌++◌, drop, take}
use Rattle.pin_core.specs.Runs.{after, answers}
use Rattle.pin_core.proofs.state.State.play.Given as goal

-- the state is as after the events so far, and the answers to those that are left are still to come
abbrev pub invariant-loop-event : goal.invariant-loop-event
invariant-loop-event l = record {
  reached : l.self ≡ after l.initial.self (take l.event-index l.events);
  told : l.steps.items ++ answers l.self (drop l.event-index l.events) ≡ answers l.initial.self l.events;
}
