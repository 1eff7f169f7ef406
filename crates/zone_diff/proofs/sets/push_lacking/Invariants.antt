use Rattle.std.proofs.Common.{map, length}
use Rattle.zone_diff.specs.Differences.{record_change}
use Rattle.zone_diff.specs.Merges.{records_ahead, lacking_beside}
use Rattle.zone_diff.specs.Sinks.{AddsFront}
use Rattle.zone_diff.proofs.sets.push_lacking.Given as goal

abbrev pub invariant-loop-octets : goal.invariant-loop-octets
invariant-loop-octets g l =
    AddsFront (g.K.OperationSink.has l.fn.sink) (g.K.OperationSink.has l.sink) (map (record_change l.side l.owner l.set) (lacking_beside (records_ahead l.fn.others.ahead l.fn.others.behind) l.set.records))
    (map (record_change l.side l.owner l.set) (lacking_beside (records_ahead l.others.ahead l.others.behind) l.records))

abbrev pub decreases-loop-octets : goal.decreases-loop-octets
decreases-loop-octets g l = length l.records
