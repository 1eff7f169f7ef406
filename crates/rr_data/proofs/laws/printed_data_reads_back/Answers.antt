use Rattle.std.proofs.Common.{arith, ◌<◌, get_or}
use Rattle.zone_model.proofs.SplitLemmas.{IsBytes}
use Rattle.rr_data.proofs.PrintedDataLemmas.{data_back, DataBack}
use Rattle.rr_data.proofs.laws.printed_data_reads_back.Goals as goal

pub returns : goal.returns
returns c = λ printed line rtype le.
    let b : IsBytes c.args.octets.now = λ i. let k : get_or c.args.octets.now i 0 < 256 = omega (arith, c.type_inv.octets i) in k in
    let r : DataBack printed line rtype c.args.octets.now = data_back printed line rtype c.args.octets.now b le in
    (r.tokens, r.spelled, r.read)
