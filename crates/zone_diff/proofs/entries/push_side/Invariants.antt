use Rattle.std.proofs.Common.{length}
use Rattle.zone_diff.specs.Differences.{set_changes, unless_soa}
use Rattle.zone_diff.specs.Walks.{changes_walked, sets_ahead}
use Rattle.zone_diff.proofs.WalkLemmas.{WalksOn}
use Rattle.zone_diff.proofs.entries.push_side.Given as goal

abbrev pub invariant-loop-set : goal.invariant-loop-set
invariant-loop-set g l =
    WalksOn (g.K.OperationSink.has l.fn.sink) (g.K.OperationSink.has l.sink) (changes_walked l.side l.owner l.fn.others l.fn.sets) (λ other s. unless_soa s (set_changes l.side l.owner other s)) (sets_ahead l.others.ahead l.others.behind) l.sets

abbrev pub decreases-loop-set : goal.decreases-loop-set
decreases-loop-set g l = length l.sets
