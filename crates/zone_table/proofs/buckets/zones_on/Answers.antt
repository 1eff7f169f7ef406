use Rattle.std.proofs.Common.{◌≡◌, ◌∙◌, ◌+◌, length, arith, sym, ap, subst}
use Rattle.dns_name.proofs.WireLemmas.{wire_some}
use Rattle.zone_table.specs.Buckets.{bucket_of}
use Rattle.zone_table.proofs.Lists.{read_at}
use Rattle.zone_table.proofs.BucketLaws.{FiledTo, filed_none, filed_more, filed_other, filed_all}
use Rattle.zone_table.proofs.buckets.zones_on.Goals as goal
use Rattle.zone_table.proofs.buckets.zones_on.Goals.{then-bucket_of-bucket+in_ok-push, else-bucket_of-bucket}

pub loop-zone-init : goal.loop-zone-init
loop-zone-init c = subst (FiledTo c.args.origins.now c.args.bucket 0) (sym c.new-zones.ensures.items) (filed_none c.args.origins.now c.args.bucket)

pub bucket_of-requires : goal.bucket_of-requires
bucket_of-requires c = wire_some c.wire.result.now c.index-origins-zone.result (record { each = c.wire.ensures.name.each; same = c.wire.ensures.wire })

pub loop-zone-preserved : goal.loop-zone-preserved
loop-zone-preserved c =
    let origins = c.args.origins.now in
    let zone = c.loop-zone.zone in
    let origin = c.index-origins-zone.result in
    let i = c.loop-zone.invariant in
    elim c.if-bucket_of-bucket.branch [
      | then-bucket_of-bucket+in_ok-push w ↦
          subst (FiledTo origins c.args.bucket (zone + 1)) (sym (ap (λ v. v.items) w.zones-is ∙ w.in_ok-push.ensures.items)) (filed_more origins c.args.bucket zone c.loop-zone.zones.items c.loop-zone-test.true i)
      | else-bucket_of-bucket w ↦
          subst (λ v. FiledTo origins c.args.bucket (zone + 1) v.items) (sym w.zones-is)
          (filed_other origins c.args.bucket zone c.loop-zone.zones.items origin (read_at origins zone origin c.loop-zone-test.true c.index-origins-zone.is)
          (λ here.
          let e : c.bucket_of.result ≡ c.args.bucket = c.bucket_of.ensures.is ∙ ap bucket_of c.wire.ensures.wire ∙ here in
          let f = w.if-bucket_of-bucket.false in absurd (omega arith)) i)
    ]

pub returns : goal.returns
returns c =
    let l = c.loop-zone-test.false in
    let m = c.loop-zone.auto.zone-end in
    let all : c.loop-zone.zone ≡ length c.args.origins.now = omega arith in
    filed_all c.args.origins.now c.args.bucket c.loop-zone.zones.items (subst (λ n. FiledTo c.args.origins.now c.args.bucket n c.loop-zone.zones.items) all c.loop-zone.invariant)
