use Rattle.std.proofs.Common.{◌≡◌}
use Rattle.crossbeam_queue.specs.Passes.{view, IsSamePass}
use Rattle.feed_core.specs.Knowledge.{alone}
use Rattle.feed_core.proofs.feed.mark_end.Given as goal

abbrev pub invariant-loop-marks : goal.invariant-loop-marks
invariant-loop-marks g l = IsSamePass l.initial.pass l.pass × (view l.pass ≡ alone (view l.initial.pass).parts (view l.initial.pass).put l.marks)
