use Rattle.std.proofs.Common.{◌≡◌, ◌∙◌, inl, inr, ◌<◌, true, false, length, get_or, arith, sym, ap, subst}
use Rattle.std.specs.List.{All, Contains}
use Rattle.std.proofs.lemmas.Bool.{cases_lt}
use Rattle.std.proofs.lemmas.Option.{get_or_from_slice_get}
use Rattle.zone_table.specs.Remembered.{IsAt}
use Rattle.zone_table.specs.Buckets.{bucket_of}
use Rattle.zone_table.proofs.Lists.{place_in}
use Rattle.zone_table.proofs.BucketLaws.{bucket_has, bucket_inside}
use Rattle.zone_table.proofs.zones.Zones.zone_at.Goals as goal

pub loop-zone-init : goal.loop-zone-init
loop-zone-init g c = λ k zone l. absurd (omega arith)

pub is_at-requires : goal.is_at-requires
is_at-requires g c =
    let self = c.args.self.now in
    let many = self.bucket_count in
    let within = c.bucket_of.ensures.inside in
    let inside : c.bucket_of.result < length self.buckets.items = omega arith in
    let all = bucket_inside self.buckets.items c.bucket_of.result c.index-zones.result.now inside c.index-zones.ensures (length self.origins.items) self.bucket_zones in
    subst (All (λ zone. zone < length self.origins.items)) (sym c.deref-zone-items.ensures.value) all c.loop-zone.zone-index 0 c.loop-zone-test.true

pub loop-zone-preserved : goal.loop-zone-preserved
loop-zone-preserved g c = λ k zone l is at. elim (cases_lt k c.loop-zone.zone-index) [
  | inl m ↦ c.loop-zone.invariant k zone m is at
  | inr n ↦ (
      let items = c.deref-zone-items.result.now in
      let e : k ≡ c.loop-zone.zone-index = omega arith in
      let same : get_or items c.loop-zone.zone-index 0 ≡ zone = ap (λ j. get_or items j 0) (sym e) ∙ get_or_from_slice_get items k zone 0 is in
      let yes = c.is_at.ensures.1 (subst (IsAt c.args.self.now.origins.items c.args.attached.now c.args.octets.now) (sym same) at) in
      let bad : true ≡ false = sym yes ∙ c.if-is_at.false in
      absurd cc
      )
]

pub returns-clause-none : goal.returns-clause-none
returns-clause-none g c = λ none zone at.
    let self = c.args.self.now in
    let many = self.bucket_count in
    let within = c.bucket_of.ensures.inside in
    let inside : c.bucket_of.result < length self.buckets.items = omega arith in
    let on = bucket_has self.buckets.items c.bucket_of.result c.index-zones.result.now inside c.index-zones.ensures self.origins.items self.filed zone at.origin at.origin_is
    (ap bucket_of at.wire_is ∙ sym c.bucket_of.ensures.is) in
    let p = place_in c.deref-zone-items.result.now zone (subst (λ zones. Contains zones zone) (sym c.deref-zone-items.ensures.value) on) in
    c.loop-zone.invariant p.0 zone (let l = p.1 in let end = c.loop-zone-test.false in omega arith) p.2 at
