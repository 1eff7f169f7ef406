use Rattle.std.proofs.Common.{refl}
use Rattle.dns_name.proofs.SortKeyLemmas.{behind}
use Rattle.dns_name.proofs.sort_key.behind.Goals as goal

pub returns : goal.returns
returns c = behind c.args.octets.now _ c.min.result c.min.ensures refl
