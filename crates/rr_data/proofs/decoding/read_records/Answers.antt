use Rattle.std.proofs.Common.{arith, sym}
use Rattle.rr_data.proofs.DecodingLemmas.{records_unsorted}
use Rattle.rr_data.proofs.decoding.read_records.Goals as goal

pub returns-then-not-is_above : goal.returns-then-not-is_above
returns-then-not-is_above c = sym (records_unsorted c.loop-left.left _ _ c.in-Some.octets.now c.in-Some.behind.now c.loop-left.records.items _ c.loop-left.invariant (omega arith) (sym c.in-Some.ensures.splits) (sym c.if-not-is_above.ensures))
