use Rattle.dns_name.proofs.ScanLemmas.{begins_once}
use Rattle.dns_name.proofs.laws.wire_forms_are_told_apart.Goals as goal

pub returns : goal.returns
returns c = λ bytes a b h k. begins_once bytes a b h.each k.each
