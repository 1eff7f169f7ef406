use Rattle.std.proofs.Common.{◌≡◌}
use Rattle.crossbeam_queue.specs.Passes.{view, IsSamePass}
use Rattle.feed_core.specs.Knowledge.{alone}
use Rattle.feed_core.proofs.feed.fill.Given as goal

abbrev pub invariant-loop-put : goal.invariant-loop-put
invariant-loop-put g l = IsSamePass l.initial.pass l.pass × (view l.pass ≡ alone (view l.initial.pass).parts l.put 0)
