use Rattle.std.proofs.Common.{subst}
use Rattle.qp_multi.specs.Openings.{Refuses}
use Rattle.zone_table.specs.Openings.{places_of, entries_in, RefusesZones}
use Rattle.zone_table.proofs.RefusalLaws.{kept, told_first, told_last, told_alone, zone_within}
use Rattle.zone_table.proofs.opening.told.Goals as goal

pub returns-in_default : goal.returns-in_default
returns-in_default c = λ sizes p count there so_far last.
    kept (places_of c.args.zones.now sizes) p c.args.refusal so_far (subst (Refuses p.size.chunks (entries_in p.zone)) c.in_default.is last)

pub bounds-zones-zone : goal.bounds-zones-zone
bounds-zones-zone c =
    zone_within c.args.zones.now c.requires.so_far.0 c.in-Full-refusal.zone c.in-Full-refusal.cells c.in-Full-refusal.limit (subst (RefusesZones (places_of c.args.zones.now c.requires.so_far.0)) c.in-Full-refusal.is c.requires.so_far.1)

pub returns-then-lt : goal.returns-then-lt
returns-then-lt c = λ sizes p count there so_far last.
    told_first c.args.zones.now sizes p c.args.last count there c.in-Full-refusal.zone c.in-Full-refusal.cells c.in-Full-refusal.limit (subst (RefusesZones (places_of c.args.zones.now sizes)) c.in-Full-refusal.is so_far)
    c.index-zones-zone.result c.index-zones-last.result c.if-lt.ensures

pub returns-else-lt : goal.returns-else-lt
returns-else-lt c = λ sizes p count there so_far last.
    told_last c.args.zones.now sizes p c.args.last count there c.in-Full-refusal.zone c.in-Full-refusal.cells c.in-Full-refusal.limit (subst (RefusesZones (places_of c.args.zones.now sizes)) c.in-Full-refusal.is so_far)
    c.index-zones-zone.result c.index-zones-last.result c.in-Full.cells c.in-Full.limit c.if-lt.ensures (subst (Refuses p.size.chunks (entries_in p.zone)) c.in-Full.is last)

pub returns-in_default-refusal : goal.returns-in_default-refusal
returns-in_default-refusal c = λ sizes p count there so_far last.
    told_alone c.args.zones.now sizes p c.args.last count there c.in-Full.cells c.in-Full.limit (subst (RefusesZones (places_of c.args.zones.now sizes)) c.in_default-refusal.is so_far)
    (subst (Refuses p.size.chunks (entries_in p.zone)) c.in-Full.is last)
