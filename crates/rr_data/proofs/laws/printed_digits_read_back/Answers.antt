use Rattle.std.proofs.Common.{arith, ◌<◌, get_or}
use Rattle.rr_data.proofs.PrintedLemmas.{digits_back_of, bytes_of}
use Rattle.rr_data.proofs.laws.printed_digits_read_back.Goals as goal

pub returns : goal.returns
returns c = digits_back_of c.args.octets.now (bytes_of c.args.octets.now (λ i. let k : get_or c.args.octets.now i 0 < 256 = omega (arith, c.type_inv.octets i) in k))
