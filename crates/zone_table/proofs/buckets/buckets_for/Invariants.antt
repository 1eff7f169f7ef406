use Rattle.std.specs.Prelude.{◌≡◌, length}
use Rattle.zone_table.proofs.BucketLaws.{AreBuckets}
use Rattle.zone_table.proofs.buckets.buckets_for.Given as goal

-- the buckets so far
abbrev pub invariant-loop-bucket : goal.invariant-loop-bucket
invariant-loop-bucket l = record {
  count : length l.buckets.items ≡ l.bucket;
  are : AreBuckets l.origins l.buckets.items;
}
