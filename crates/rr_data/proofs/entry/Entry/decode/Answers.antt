use Rattle.std.proofs.Common.{arith, ◌<◌, get_or}
use Rattle.rr_data.proofs.EntryChanges.{decoded, not_decoded}
use Rattle.rr_data.proofs.entry.Entry.decode.Goals as goal

pub invariant_of-result : goal.invariant_of-result
invariant_of-result c =
    (decoded c.args.item.now c.in-Some.sets.items (λ i. let k : get_or c.args.item.now i 0 < 256 = omega (arith, c.type_inv.item i) in k) (rw c.in-Some.is at c.in_ok-sets.ensures)).1.proper

pub returns-in-Some : goal.returns-in-Some
returns-in-Some c =
    decoded c.args.item.now c.in-Some.sets.items (λ i. let k : get_or c.args.item.now i 0 < 256 = omega (arith, c.type_inv.item i) in k) (rw c.in-Some.is at c.in_ok-sets.ensures)

pub returns-in-None : goal.returns-in-None
returns-in-None c = not_decoded c.args.item.now (rw c.in-None.is at c.in_ok-sets.ensures)
