use Rattle.std.proofs.Common.{◌≡◌, ◌∙◌, ◌<◌, [], None, Some, length, refl, sym, ap, subst}
use Rattle.dns_name.proofs.WireLemmas.{ended, shorter, stepped, wire_some}
use Rattle.zone_model.specs.Names.{Name, wire}
use Rattle.zone_table.specs.Locations.{IsZoneOf}
use Rattle.zone_table.specs.Remembered.{IsAt}
use Rattle.zone_table.proofs.OriginLaws.{zone_above, zone_here, zone_none}
use Rattle.zone_table.proofs.zones.Zones.deepest.Goals as goal

pub loop-zone-init : goal.loop-zone-init
loop-zone-init g c = record { spelled = c.requires; zone_on = λ es name spells are zone left. left name spells }

pub zone_at-requires : goal.zone_at-requires
zone_at-requires g c = let s = c.loop-zone.invariant.spelled in wire_some c.loop-zone.rest.now s.0 s.1

pub returns-in-Some : goal.returns-in-Some
returns-in-Some g c = λ es name spells are.
    let self = c.args.self.now in
    c.loop-zone.invariant.zone_on es name spells are (Some c.in-Some.zone) (λ left spelled. zone_here self.origins.items es c.args.attached.now are left spelled.each self.names c.in-Some.zone
    (subst (λ octets. IsAt self.origins.items c.args.attached.now octets c.in-Some.zone) spelled.same c.in-Some.ensures.found))

pub returns-in_err-above : goal.returns-in_err-above
returns-in_err-above g c = λ es name spells are.
    let origins = c.args.self.now.origins.items in
    subst (IsZoneOf origins es name) (sym c.from_residual.ensures) (c.loop-zone.invariant.zone_on es name spells are None (λ left spelled.
    let root : left ≡ [] = ended c.loop-zone.rest.now left spelled (c.in_err-above.ensures left spelled) in
    let none = zone_none origins es c.args.attached.now are (λ zone at. c.in_default.ensures.none refl zone
    (subst (λ octets. IsAt origins c.args.attached.now octets zone) (sym (spelled.same ∙ ap (λ (n : Name). wire n) root)) at)) in
    subst (λ n. IsZoneOf origins es n None) (sym root) none))

pub loop-zone-smaller : goal.loop-zone-smaller
loop-zone-smaller g c =
    let s = c.loop-zone.invariant.spelled in
    shorter c.loop-zone.rest.now s.0 (c.in_ok-above.field-0-0, c.in_ok-above.above) s.1 (c.in_ok-above.ensures s.0 s.1)

pub loop-zone-preserved : goal.loop-zone-preserved
loop-zone-preserved g c =
    let origins = c.args.self.now.origins.items in
    let s = c.loop-zone.invariant.spelled in
    let next = stepped c.loop-zone.rest.now s.0 (c.in_ok-above.field-0-0, c.in_ok-above.above) s.1 (c.in_ok-above.ensures s.0 s.1) in
    record {
      spelled = (next.labels, next.spells);
      zone_on = λ es name spells are zone on. c.loop-zone.invariant.zone_on es name spells are zone (λ left spelled.
          let rest = stepped c.loop-zone.rest.now left (c.in_ok-above.field-0-0, c.in_ok-above.above) spelled (c.in_ok-above.ensures left spelled) in
          subst (λ n. IsZoneOf origins es n zone) (sym rest.is)
          (zone_above origins es c.args.attached.now are c.in_ok-above.field-0-0.now rest.labels
          (λ other at. c.in_default.ensures.none refl other (subst (λ octets. IsAt origins c.args.attached.now octets other) (sym (spelled.same ∙ ap (λ (n : Name). wire n) rest.is)) at)) zone
          (on rest.labels rest.spells)));
    }
