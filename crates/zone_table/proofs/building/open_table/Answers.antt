use Rattle.std.proofs.Common.{arith, sym, subst}
use Rattle.trie_model.specs.Keys.{Rises}
use Rattle.trie_write.specs.Entries.{entries_of_items}
use Rattle.qp_multi.specs.Openings.{Refuses}
use Rattle.zone_table.specs.Tables.{IsTable, IsPart}
use Rattle.zone_table.proofs.CapacityLaws.{few_cells}
use Rattle.zone_table.proofs.building.open_table.Goals as goal

pub returns-in-Ok : goal.returns-in-Ok
returns-in-Ok g c = (
  entries_of_items c.deref.result.now,
  subst (λ items. IsTable c.args.origins.now (entries_of_items items)) (sym c.deref.ensures.value) c.in_ok-items.ensures.table,
  record {
    place = c.in-Ok.ensures.opens.place;
    size_is = c.in-Ok.ensures.opens.size;
    passes = c.in-Ok.ensures.opens.passes.told;
    unused = c.in-Ok.ensures.opens.passes.unused;
    count = c.in-Ok.ensures.opens.passes.count;
    all = c.in-Ok.ensures.opens.passes.all;
    fits = c.in-Ok.ensures.opens.fits;
  },
)

pub unreachable-requires : goal.unreachable-requires
unreachable-requires g c =
    let full = subst (Refuses c.args.blank.shared.table.shared.key.chunks (entries_of_items c.deref.result.now)) c.in-Err-Full.field-0-is c.in-Err-Full.ensures.full in
    let table = subst (λ items. IsTable c.args.origins.now (entries_of_items items)) (sym c.deref.ensures.value) c.in_ok-items.ensures.table in
    let part : IsPart c.args.origins.now (entries_of_items c.deref.result.now) = record { rising = subst (λ items. Rises (entries_of_items items)) (sym c.deref.ensures.value) c.in_ok-items.ensures.rising; only = table.only } in
    let few = few_cells c.args.origins.now (entries_of_items c.deref.result.now) c.requires.origins.names c.requires.origins.few part in
    let needed = full.0 in
    let limit = full.1 in
    let over = full.2 in
    let chunks = c.requires.chunks in
    absurd (omega arith)
