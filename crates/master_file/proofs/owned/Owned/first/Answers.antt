use Rattle.std.proofs.Common.{[], ◌∷◌}
use Rattle.zone_model.specs.Records.{IsItem, fresh}
use Rattle.master_file.proofs.OwnedLemmas.{item_view}
use Rattle.master_file.proofs.owned.Owned.first.Goals as goal

pub invariant_of-result : goal.invariant_of-result
invariant_of-result c =
    let is : IsItem c.in-Some.octets.items c.args.owner.now (fresh c.args.rtype c.args.time c.octets.result.now ∷ []) = rw c.in-Some.is at c.in_ok-octets.ensures in
    (c.args.owner.now, record { rtype = c.args.rtype; ttl = c.args.time; octets = c.octets.result.now }, is)

pub returns-in-Some : goal.returns-in-Some
returns-in-Some c =
    let is : IsItem c.in-Some.octets.items c.args.owner.now (fresh c.args.rtype c.args.time c.octets.result.now ∷ []) = rw c.in-Some.is at c.in_ok-octets.ensures in
    item_view c.in-Some.octets.items c.args.owner.now (fresh c.args.rtype c.args.time c.args.rdata.now ∷ []) (rw c.octets.ensures.value at is)
