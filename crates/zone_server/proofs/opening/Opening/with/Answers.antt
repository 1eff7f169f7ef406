use Rattle.std.proofs.Common.{arith, ap, map}
use Rattle.zone_server.specs.Openings.{OpeningView}
use Rattle.zone_server.proofs.OpeningLaws.{has_one_more, many_served, more_opening, one_has, none_has}
use Rattle.zone_server.proofs.opening.Opening.with.Goals as goal

pub returns-then-len-ge-ZONE_LIMIT : goal.returns-then-len-ge-ZONE_LIMIT
returns-then-len-ge-ZONE_LIMIT c =
    let many = many_served c.self.inside.zones.items (map (λ b. b.shared.table.shared.key) c.self.inside.blanks.items) c.self.invariant.each c.args.self.zones (ap (λ (v : OpeningView). v.zones) c.self.view_is) in
    let counted = c.len.ensures in
    let held = c.self.inside.zones.ok.0 in
    let test = c.if-len-ge-ZONE_LIMIT.true in omega (arith, many, counted, held, test)

pub returns-then-has_origin : goal.returns-then-has_origin
returns-then-has_origin c =
    one_has c.self.inside.zones.items (map (λ b. b.shared.table.shared.key) c.self.inside.blanks.items) c.self.invariant.each c.args.self.zones (ap (λ (v : OpeningView). v.zones) c.self.view_is) c.args.zone.origin
    c.deref.result.now c.origin.result.now c.has_origin.result c.deref.ensures.value c.origin.ensures c.has_origin.ensures c.if-has_origin.true

pub invariant_of-result : goal.invariant_of-result
invariant_of-result c =
    more_opening (λ b. b.shared.table.shared.key) c.self.inside.passes c.self.inside.zones.items c.self.inside.blanks.items c.self.inside.table.shared.table.shared.key c.in_ok-items_of.field-0 c.in_ok-new.field-0 c.push-2.new.self.items c.push.new.self.items c.self.invariant
    (let counted = c.len.ensures in let held = c.self.inside.zones.ok.0 in let test = c.if-len-ge-ZONE_LIMIT.false in omega (arith, counted, held, test)) c.in_ok-new.ensures.passes
    (none_has c.self.inside.zones.items c.args.zone.origin c.deref.result.now c.origin.result.now c.has_origin.result c.deref.ensures.value c.origin.ensures c.has_origin.ensures c.if-has_origin.false)
    c.in_ok-items_of.ensures.0 c.in_ok-items_of.ensures.2 c.in_ok-push-2.ensures.items c.in_ok-push.ensures.items

pub returns : goal.returns
returns c =
    has_one_more (λ b. b.shared.table.shared.key) c.self.inside.passes c.self.inside.zones.items c.self.inside.blanks.items c.args.zone c.args.chunks c.in_ok-items_of.field-0 c.in_ok-new.field-0 c.push-2.new.self.items c.push.new.self.items c.self.invariant.each
    c.args.self c.self.view_is c.in_ok-new.ensures.passes c.in_ok-new.ensures.chunks c.in_ok-items_of.ensures.0 c.in_ok-items_of.ensures.1 c.in_ok-push-2.ensures.items c.in_ok-push.ensures.items
