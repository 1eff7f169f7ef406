use Rattle.std.proofs.Common.{◌≡◌, ◌∙◌, rules, None}
use Rattle.std.specs.Map.{lookup}
use Rattle.std.specs.BTreeMap.{is_at}
use Rattle.dns_name.specs.SortKeys.{key_cmp}
use Rattle.master_file.proofs.OwnedLemmas.{first_placed}
use Rattle.master_file.proofs.owners.grow.Goals as goal

pub returns-in_ok-check-in-Vacant : goal.returns-in_ok-check-in-Vacant
returns-in_ok-check-in-Vacant c =
    let none : lookup (is_at (key_cmp c.args.key)) c.args.owned.now.entries ≡ None = search rules in
    first_placed c.args.last c.args.key c.args.owner.now c.args.rtype c.args.time c.args.rdata.now c.args.owned.now.entries _ c.in_ok-kept-in-Vacant.kept
    (search rules ∙ c.in_ok-taken.ensures.update.1 c.in_ok-kept-in-Vacant.kept) none c.in_ok-kept-in-Vacant.ensures c.in_ok-check-in-Vacant.ensures

pub returns-in_ok-add_copy-in-Occupied : goal.returns-in_ok-add_copy-in-Occupied
returns-in_ok-add_copy-in-Occupied c = search rules depth 12
