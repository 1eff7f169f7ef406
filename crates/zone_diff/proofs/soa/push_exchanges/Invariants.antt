use Rattle.std.proofs.Common.{length, Some}
use Rattle.std.specs.List.{flat_map}
use Rattle.zone_diff.specs.Differences.{soa_exchange, soa_additions}
use Rattle.zone_diff.specs.Sinks.{AddsFront}
use Rattle.zone_diff.proofs.soa.push_exchanges.Given as goal

abbrev pub invariant-loop-octets : goal.invariant-loop-octets
invariant-loop-octets g l =
    AddsFront (g.K.OperationSink.has l.fn.sink) (g.K.OperationSink.has l.sink) (soa_additions l.serial l.owner l.before (Some l.after)) (flat_map (soa_exchange l.serial l.owner l.before l.after.ttl) l.records)

abbrev pub decreases-loop-octets : goal.decreases-loop-octets
decreases-loop-octets g l = length l.records
