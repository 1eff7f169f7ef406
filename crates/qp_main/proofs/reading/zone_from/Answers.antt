use Rattle.std.proofs.Common.{◌<◌, arith, get_or}
use Rattle.qp_main.proofs.ReadingLemmas.{octets_of, zone_from_said}
use Rattle.qp_main.proofs.reading.zone_from.Goals as goal

pub returns-clause-of_origin : goal.returns-clause-of_origin
returns-clause-of_origin c =
    zone_from_said c.args.origin.now c.args.bytes.now c.wire-wire.ensures.name (octets_of c.args.bytes.now (λ i. let k : get_or c.args.bytes.now i 0 < 256 = omega (arith, c.type_inv.bytes i) in k)) c.args.first_line c.read_zone_at.result c.read_zone_at.ensures.zone
