use Rattle.std.proofs.Common.{arith, rules, length-take}
use Rattle.zone_dump.proofs.WalkLaws.{first_item, some_item}
use Rattle.zone_reload.proofs.NameLemmas.{none_shown, shows_first}
use Rattle.zone_reload.proofs.versions.next_of.Goals as goal

pub returns-in_err-len-clause-names : goal.returns-in_err-len-clause-names
returns-in_err-len-clause-names g c left faces = none_shown (g.V.Reading.stands c.args.version.now c.next_item.new.iter) c.from_residual.result c.next_item.new.item left (search rules) (c.in_err-len.ensures.next left faces)

pub slice_bounds-owner_of-end : goal.slice_bounds-owner_of-end
slice_bounds-owner_of-end g c = let first = c.in_ok-len.ensures.next c.requires.faces.0 c.requires.faces.1 in first.within

pub slice_bounds-owner_of-end-2 : goal.slice_bounds-owner_of-end-2
slice_bounds-owner_of-end-2 g c =
    let first = c.in_ok-len.ensures.next c.requires.faces.0 c.requires.faces.1 in
    let within = first.within in omega (arith, within, length-take c.in_ok-len.len c.next_item.new.item)

pub owner_of-owner-requires : goal.owner_of-owner-requires
owner_of-owner-requires g c =
    let first = c.in_ok-len.ensures.next c.requires.faces.0 c.requires.faces.1 in
    some_item (g.V.Reading.stands c.args.version.now c.next_item.new.iter) c.requires.faces.0 c.next_item.new.item c.in_ok-len.len first

pub returns-clause-names : goal.returns-clause-names
returns-clause-names g c left faces =
    let stands = g.V.Reading.stands c.args.version.now c.next_item.new.iter in
    let first = c.in_ok-len.ensures.next left faces in
    shows_first stands left c.next_item.new.item c.in_ok-len.len c.owner_of-owner.result first (c.owner_of-owner.ensures first.pair.0 first.pair.1 (first_item stands left c.next_item.new.item c.in_ok-len.len first))
