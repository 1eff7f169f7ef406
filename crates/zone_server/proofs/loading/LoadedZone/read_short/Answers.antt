use Rattle.std.proofs.Common.{◌<◌, arith, get_or}
use Rattle.zone_server.proofs.LoadLaws.{octets_of, read_dumped}
use Rattle.zone_server.proofs.loading.LoadedZone.read_short.Goals as goal

pub invariant_of-result : goal.invariant_of-result
invariant_of-result c =
    read_dumped c.args.origin.now c.args.text.now c.in_ok-zone.zone c.wire-wire.ensures.name (octets_of c.args.text.now (λ i. let k : get_or c.args.text.now i 0 < 256 = omega (arith, c.type_inv.text i) in k)) c.in_ok-zone.ensures.zone c.in_ok-zone.ensures.origin
