use Rattle.std.proofs.Common.{◌≤◌, ℕ, length, sym, subst}
use Rattle.zone_model.specs.Records.{Entry, item_limit}
use Rattle.zone_change.proofs.CountLaws.{says_many, says_short}
use Rattle.zone_change.proofs.counting.Count.of.Goals as goal

pub sets_left-sets-requires : goal.sets_left-sets-requires
sets_left-sets-requires c = subst (λ (l : Entry). length l ≤ item_limit) (sym (c.of-entry.ensures c.requires.0 c.requires.1)) (says_many c.args.owner.now c.args.octets.now c.requires.0 c.requires.1)

pub returns-clause-few : goal.returns-clause-few
returns-clause-few c =
    let many = subst (λ (l : Entry). length l ≤ item_limit) (sym (c.of-entry.ensures c.requires.0 c.requires.1)) (says_many c.args.owner.now c.args.octets.now c.requires.0 c.requires.1) in
    (subst (λ (n : ℕ). n ≤ item_limit) (sym c.sets_left-sets.ensures) many, says_short c.args.owner.now c.args.octets.now c.requires.0 c.requires.1)
