use Rattle.std.proofs.Common.{◌≡◌, ◌∙◌, true, false, take, subst}
use Rattle.rr_data.specs.ItemViews.{SaysEntry}
use Rattle.zone_model.specs.Names.{same_name}
use Rattle.zone_dump.proofs.ZoneLaws.{found_first, found_later}
use Rattle.zone_dump.proofs.zones.find_item.Goals as goal

pub returns-then-eq-clause-found : goal.returns-then-eq-clause-found
returns-then-eq-clause-found c =
    let name = c.args.name.now in
    let owner = c.in-Some-from_wire.owner in
    let octets = take c.in-Some.len c.next.new.out in
    let (pair, first, is, short) = c.in-Some.ensures in
    let same : true ≡ same_name name owner = cc (c.if-eq.ensures) in
    subst (SaysEntry name octets) c.names.invariant (found_first name owner pair c.names.left c.next.new.self octets c.in-Some-from_wire.ensures.name c.in-Some-from_wire.ensures.found is first same)

pub names-preserved : goal.names-preserved
names-preserved c =
    let name = c.args.name.now in
    let owner = c.in-Some-from_wire.owner in
    let octets = take c.in-Some.len c.next.new.out in
    let (pair, first, is, short) = c.in-Some.ensures in
    let other : false ≡ same_name name owner = cc (c.if-eq.ensures) in
    found_later name owner pair c.names.left c.next.new.self octets c.in-Some-from_wire.ensures.name c.in-Some-from_wire.ensures.found is first other ∙ c.names.invariant
