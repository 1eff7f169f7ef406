use Rattle.std.proofs.Common.{◌<◌, Global, Vec, arith, get_or}
use Rattle.master_file.specs.declared.zones.Zone.{Zone}
use Rattle.qp_main.proofs.ListLemmas.{zones_said}
use Rattle.qp_main.proofs.ReadingLemmas.{octets_of}
use Rattle.qp_main.proofs.reading.zones_in.Goals as goal

pub returns-clause-said : goal.returns-clause-said
returns-clause-said c =
    zones_said {R = Vec Zone Global} (λ v. v.items) c.args.bytes.now (octets_of c.args.bytes.now (λ i. let k : get_or c.args.bytes.now i 0 < 256 = omega (arith, c.type_inv.bytes i) in k)) c.read_zones.result c.read_zones.ensures.zones
