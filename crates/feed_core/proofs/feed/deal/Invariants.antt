use Rattle.std.proofs.Common.{◌≡◌, ◌+◌, [], replicate}
use Rattle.crossbeam_queue.specs.Passes.{view, IsSamePass}
use Rattle.feed_core.specs.Feeds.{feed_of, new_seat}
use Rattle.feed_core.proofs.feed.deal.Given as goal

abbrev pub invariant-loop : goal.invariant-loop
invariant-loop l = record {
  same : IsSamePass l.initial.pass l.pass;
  parts : (view l.pass).parts + l.counter ≡ l.seats;
  feed : feed_of l.pass ≡ feed_of l.initial.pass;
  nothing : (view l.pass).taken ≡ [];
  not_done : (view l.pass).ends ≡ 0;
  marked : (view l.pass).marks ≡ (view l.pass).whole;
  dealt : l.dealt.items ≡ replicate l.counter (new_seat (feed_of l.initial.pass));
}
