use Rattle.zone_model.specs.NameOrder.{name_cmp_total}
use Rattle.zone_model.proofs.NameLemmas.{name_cmp-IsAntisymmetric}
use Rattle.dns_name.proofs.laws.names_are_in_one_order.Goals as goal

pub returns-clause-total : goal.returns-clause-total
returns-clause-total c = name_cmp_total

pub returns-clause-antisymmetric : goal.returns-clause-antisymmetric
returns-clause-antisymmetric c = name_cmp-IsAntisymmetric
