use Rattle.zone_table.proofs.BucketLaws.{FiledTo}
use Rattle.zone_table.proofs.buckets.zones_on.Given as goal

-- of the zones so far
abbrev pub invariant-loop-zone : goal.invariant-loop-zone
invariant-loop-zone l = FiledTo l.origins l.bucket l.zone l.zones.items
