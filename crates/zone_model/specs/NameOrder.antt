-- The laws of the canonical order.
use Rattle.std.specs.Prelude.{reverse}
use Rattle.std.specs.Cmp.{IsTotalOrder, IsEquivalence}
use Rattle.std.proofs.lemmas.Cmp.{on_total, lists_total, nat_list_cmp_total, eq_by_cmp_equiv}
use Rattle.zone_model.specs.Names.{name_cmp, same_name}

pub name_cmp_total : IsTotalOrder name_cmp
name_cmp_total = on_total reverse (lists_total nat_list_cmp_total)

pub same_name_equiv : IsEquivalence same_name
same_name_equiv = eq_by_cmp_equiv name_cmp_total
