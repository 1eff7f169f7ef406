use Rattle.std.proofs.Common.{◌≡◌, ◌∙◌, arith, length, map, sym, ap, subst}
use Rattle.std.specs.Prelude.{IsSome}
use Rattle.std.specs.List.{All}
use Rattle.qp_multi.specs.Passes.{known_at}
use Rattle.zone_table.specs.Endings.{IsEnd}
use Rattle.zone_table.specs.Passes.{table_known}
use Rattle.zone_table.proofs.EndLaws.{belong, zones_end, tables_here, tables_known}
use Rattle.zone_table.proofs.zones.Zones.close.Goals as goal

pub close-first-requires : goal.close-first-requires
close-first-requires g c = record {
  here = subst (All (λ z. (IsSome z.seat) × (z.place ≡ c.args.self.table.place))) (sym c.in_ok-tables.ensures.tables)
      (tables_here c.args.self.origins.items c.args.passes.items c.args.self.table.place c.args.self.table_place c.requires);
}

pub close_each-requires : goal.close_each-requires
close_each-requires g c =
    let e = c.len.ensures in
    let many : length c.args.self.zones.items ≡ c.len.result = omega arith in
    record {
      few = c.args.self.few;
      count = c.in_ok-tables.ensures.zones.count_is ∙ sym many;
      here = belong c.args.self.origins.items c.len.result c.args.passes.items c.in_ok-tables.lists.items (c.args.self.each ∙ many) c.requires c.in_ok-tables.ensures.zones
          c.args.self.zones.items many c.args.self.places;
    }

pub returns-clause-table : goal.returns-clause-table
returns-clause-table g c =
    let known = ap (map (λ z. known_at z.seat)) c.in_ok-tables.ensures.tables ∙ tables_known c.args.passes.items in
    subst (IsEnd c.args.self.table.shared.table.shared.key.passes (map (λ p. table_known p) c.args.passes.items)) (sym c.close_each.ensures.first)
    (subst (λ vs. IsEnd c.args.self.table.shared.table.shared.key.passes vs c.close-first.result) known c.close-first.ensures.ends)

pub returns-clause-zones : goal.returns-clause-zones
returns-clause-zones g c =
    let e = c.len.ensures in
    let many : length c.args.self.zones.items ≡ c.len.result = omega arith in
    zones_end c.args.self.origins.items c.len.result c.args.passes.items c.in_ok-tables.lists.items (c.args.self.each ∙ many) c.requires c.in_ok-tables.ensures.zones
    c.args.self.zones.items c.close_each.result many c.close_each.ensures.ends
