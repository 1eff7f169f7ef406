use Rattle.std.proofs.Common.{arith, sym, ap, ◌∙◌, ℕ}
use Rattle.zone_model.specs.Items.{type_above}
use Rattle.rr_data.proofs.DecodingLemmas.{sets_unsorted}
use Rattle.rr_data.proofs.decoding.read_sets.Goals as goal

pub returns-then-not-type_above : goal.returns-then-not-type_above
returns-then-not-type_above c = sym (sets_unsorted c.loop-left.left c.loop-left.before _ c.in-Some.behind.now c.in-Some.set c.loop-left.sets.items _ c.loop-left.invariant (omega arith) (sym (rw c.in-Some.is at c.in_ok-set.ensures)) (ap (λ (t : ℕ). type_above c.loop-left.before t) (sym c.rtype-rtype.ensures) ∙ sym c.if-not-type_above.ensures))
