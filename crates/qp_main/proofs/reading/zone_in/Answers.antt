use Rattle.std.proofs.Common.{◌<◌, arith, get_or}
use Rattle.live_session.proofs.ReadingLaws.{zone_said}
use Rattle.qp_main.proofs.ReadingLemmas.{octets_of}
use Rattle.qp_main.proofs.reading.zone_in.Goals as goal

pub returns-clause-of_origin : goal.returns-clause-of_origin
returns-clause-of_origin c =
    zone_said c.args.origin.now c.args.bytes.now c.wire-wire.ensures.name (octets_of c.args.bytes.now (λ i. let k : get_or c.args.bytes.now i 0 < 256 = omega (arith, c.type_inv.bytes i) in k)) c.read_zone.result c.read_zone.ensures.zone
