use Rattle.std.proofs.Common.{arith, ◌<◌, get_or}
use Rattle.zone_model.proofs.SplitLemmas.{IsBytes}
use Rattle.rr_data.proofs.PrintedFieldLemmas.{field_back, IsReadBack}
use Rattle.rr_data.proofs.laws.printed_fields_read_back.Goals as goal

pub returns : goal.returns
returns c = λ printed origin u field text rest h.
    let b : IsBytes c.args.octets.now = λ i. let k : get_or c.args.octets.now i 0 < 256 = omega (arith, c.type_inv.octets i) in k in
    let r : IsReadBack origin field text rest c.args.octets.now = field_back printed origin field c.args.octets.now text rest u b h in
    (r.front, r.read, r.octets_are)
