use Rattle.std.proofs.Common.{◌∙◌, ◌&&◌, Bool, ap, sym}
use Rattle.std.specs.Option.{is_some}
use Rattle.zone_model.specs.Records.{rrset_of}
use Rattle.zone_change.proofs.CountLaws.{set_lost, eqb_of, not_of}
use Rattle.zone_change.proofs.refusals.takes_set.Goals as goal

pub returns-then-rtype-eq-SOA : goal.returns-then-rtype-eq-SOA
returns-then-rtype-eq-SOA c =
    c.has.ensures ∙ ap (λ (b : Bool). b && is_some (rrset_of 6 c.args.entry.now)) (sym (eqb_of c.args.rtype 6 c.if-rtype-eq-SOA.true)) ∙ set_lost c.args.rtype c.args.entry.now c.requires

pub returns-else-rtype-eq-SOA : goal.returns-else-rtype-eq-SOA
returns-else-rtype-eq-SOA c = not_of c.args.rtype 6 c.if-rtype-eq-SOA.false ∙ ap (λ (b : Bool). b && is_some (rrset_of 6 c.args.entry.now)) (sym (not_of c.args.rtype 6 c.if-rtype-eq-SOA.false)) ∙ set_lost c.args.rtype c.args.entry.now c.requires
