use Rattle.std.proofs.Common.{◌≡◌}
use Rattle.crossbeam_queue.specs.Passes.{view, IsSamePass}
use Rattle.feed_core.specs.Knowledge.{alone}
use Rattle.feed_core.proofs.feed.grow.Given as goal

abbrev pub invariant-loop : goal.invariant-loop
invariant-loop l = IsSamePass l.initial.pass l.pass × (view l.pass ≡ alone l.counter 0 0)
