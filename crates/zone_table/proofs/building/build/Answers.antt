use Rattle.std.proofs.Common.{◌∙◌, List, length, map, arith, sym, ap, subst, refl}
use Rattle.std.specs.List.{All, IsDistinct}
use Rattle.std.proofs.lemmas.List.{length-map}
use Rattle.std.proofs.lemmas.List.Elements.{recursion_from_All}
use Rattle.zone_model.specs.Names.{IsName, Name, same_name}
use Rattle.zone_table.specs.declared.opening.ZoneItems.{ZoneItems}
use Rattle.zone_table.specs.Buckets.{AreFiled, AreZones}
use Rattle.zone_table.specs.Tables.{IsTable}
use Rattle.zone_table.proofs.HandingLaws.{same_counts, numbered_indexes, indexes_many, made_of}
use Rattle.zone_table.proofs.building.build.Goals as goal

pub open_table-requires-clause-origins : goal.open_table-requires-clause-origins
open_table-requires-clause-origins g c =
    let are = c.deref.ensures.value ∙ c.in_ok-origins.ensures.origins in
    let many = ap length are ∙ length-map c.args.zones.now (λ (z : ZoneItems). z.origin) in
    record {
      few = (let m = c.requires.zones.few in omega arith);
      names = recursion_from_All IsName c.deref.result.now (subst (All IsName) (sym c.deref.ensures.value) c.in_ok-origins.ensures.names);
      different = subst (IsDistinct same_name) (sym are) c.requires.zones.different;
    }

pub hand_out_all-requires : goal.hand_out_all-requires
hand_out_all-requires g c =
    let o = c.requires.opened in
    let b = c.in_ok-index.ensures.2 in
    same_counts c.args.zones.now o.0 c.args.blank.shared.table.shared.key.passes c.args.opened.items o.1 o.2 o.3 (length c.in_ok-index.field-0.passes.items) b.count

pub invariant_of-zones : goal.invariant_of-zones
invariant_of-zones g c =
    let o = c.requires.opened in
    let b = c.in_ok-index.ensures.2 in
    let indexes = c.in_ok-indexes.ensures.indexes in
    let many = ap length indexes ∙ indexes_many c.args.zones.now o.0 c.args.blank.shared.table.shared.key.passes c.args.opened.items o.1 o.2 o.3 in
    let origins = ap length c.in_ok-origins.ensures.origins ∙ length-map c.args.zones.now (λ (z : ZoneItems). z.origin) in
    record {
      table_place = b.place;
      chunks = ap (λ k. k.chunks) b.size_is ∙ c.requires.blank.chunks;
      passes = (let p = ap (λ k. k.passes) b.size_is in let m = c.requires.blank.few_passes in omega arith);
      places = ap (map (λ z. z.place)) indexes ∙ numbered_indexes c.args.zones.now o.0 c.args.blank.shared.table.shared.key.passes c.args.opened.items o.1 o.2 o.3 (length c.in_ok-indexes.indexes.items) (sym (ap length indexes));
      each = origins ∙ sym many;
      some = (let m = c.requires.zones.some in omega arith);
      few = (let m = c.requires.zones.few in omega arith);
      names = recursion_from_All IsName c.in_ok-origins.origins.items c.in_ok-origins.ensures.names;
      bucket_count = c.in_ok-buckets.ensures.count;
      bucket_zones = subst (λ (names : List Name). AreZones (length names) (map (λ s. s.items) c.in_ok-buckets.buckets.items)) c.deref-2.ensures.value c.in_ok-buckets.ensures.zones;
      filed = subst (λ (names : List Name). AreFiled names (map (λ s. s.items) c.in_ok-buckets.buckets.items)) c.deref-2.ensures.value c.in_ok-buckets.ensures.filed;
    }

pub returns-clause-made : goal.returns-clause-made
returns-clause-made g c =
    let o = c.requires.opened in
    let t = c.in_ok-index.ensures in
    record {
      origins = c.in_ok-origins.ensures.origins;
      table = t.2.size_is;
      passes = made_of c.args.zones.now o.0 c.args.blank.shared.table.shared.key.passes c.args.opened.items o.1 o.2 o.3 c.args.blank.shared.table.shared.key t.0 c.in_ok-index.field-0 c.in_ok-indexes.all.items refl
          (subst (λ names. IsTable names t.0) (c.deref.ensures.value ∙ c.in_ok-origins.ensures.origins) t.1) t.2 c.in_ok-indexes.ensures.passes;
    }
