use Rattle.std.proofs.Common.{◌≡◌, ◌∙◌, List, length, sym, subst}
use Rattle.zone_model.specs.Names.{Name}
use Rattle.zone_model.specs.Records.{Entry}
use Rattle.rr_data.proofs.EntryChanges.{item_once}
use Rattle.master_file.specs.Owned.{IsCounted}
use Rattle.master_file.proofs.GrowthLemmas.{counted_item}
use Rattle.master_file.proofs.OwnedLemmas.{owner_is}
use Rattle.master_file.proofs.owned.several_of.Goals as goal

pub returns-in_ok-of-in-Ok-clause-is : goal.returns-in_ok-of-in-Ok-clause-is
returns-in_ok-of-in-Ok-clause-is c = λ owner entry is.
    let decoded = c.in-Ok.ensures in
    (c.in_ok-of-in-Ok.ensures ∙ owner_is c.args.octets.now c.in-Some.name owner entry is c.in-Some.ensures.name c.in-Some.ensures.found, (item_once c.args.octets.now decoded.0 owner c.in-Ok.entry entry decoded.1 is).1)

pub returns-in_ok-of-in-Ok-clause-counted : goal.returns-in_ok-of-in-Ok-clause-counted
returns-in_ok-of-in-Ok-clause-counted c =
    let octets = c.args.octets.now in
    let owner = c.requires.0 in
    let entry = c.requires.1 in
    let is = c.requires.2 in
    let decoded = c.in-Ok.ensures in
    let name = c.in_ok-of-in-Ok.ensures ∙ owner_is octets c.in-Some.name owner entry is c.in-Some.ensures.name c.in-Some.ensures.found in
    let records = (item_once octets decoded.0 owner c.in-Ok.entry entry decoded.1 is).1 in
    subst (λ (n : Name). IsCounted n c.in-Ok.entry (length octets)) (sym name) (subst (λ (e : Entry). IsCounted owner e (length octets)) (sym records) (counted_item octets owner entry is))
