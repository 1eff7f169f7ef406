use Rattle.std.proofs.Common.{◌∙◌, sym, ap}
use Rattle.std.proofs.lemmas.Slice.Eq.{bytes_eq-Decides}
use Rattle.zone_model.specs.Names.{Name, wire}
use Rattle.zone_table.proofs.Lists.{read_at, some_is}
use Rattle.zone_table.proofs.zones.Zones.is_at.Goals as goal

pub returns-then-attached-zone : goal.returns-then-attached-zone
returns-then-attached-zone g c =
    let origin = c.index.result.now in
    let there = read_at c.args.self.now.origins.items c.args.zone origin c.requires c.index.ensures in
    let same = bytes_eq-Decides c.wire.result.now c.args.octets.now in (
      λ yes. record { origin = origin; origin_is = there; marked = c.if-attached-zone.true; wire_is = sym c.wire.ensures.wire ∙ same.0 (sym c.eq.ensures ∙ yes) },
      λ at. c.eq.ensures ∙ same.1 (c.wire.ensures.wire ∙ ap (λ (n : Name). wire n) (some_is origin at.origin (sym there ∙ at.origin_is)) ∙ at.wire_is),
    )
