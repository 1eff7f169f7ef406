use Rattle.std.proofs.Common.{arith}
use Rattle.zone_table.proofs.BucketLaws.{buckets_zones, buckets_filed}
use Rattle.zone_table.proofs.buckets.buckets_for.Goals as goal

pub returns-clause-zones : goal.returns-clause-zones
returns-clause-zones c = buckets_zones c.args.origins.now c.loop-bucket.buckets.items c.loop-bucket.invariant.are

pub returns-clause-filed : goal.returns-clause-filed
returns-clause-filed c =
    let count = c.loop-bucket.invariant.count in
    let l = c.loop-bucket-test.false in
    let m = c.loop-bucket.auto.bucket-end in
    buckets_filed c.args.origins.now c.loop-bucket.buckets.items (omega arith) c.loop-bucket.invariant.are
