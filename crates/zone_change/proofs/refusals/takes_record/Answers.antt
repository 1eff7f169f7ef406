use Rattle.std.proofs.Common.{◌∙◌, ◌&&◌, Bool, length, ap, sym}
use Rattle.zone_model.specs.Records.{has_record}
use Rattle.zone_change.proofs.CountLaws.{taken, other_kept, eqb_of, not_of}
use Rattle.zone_change.proofs.refusals.takes_record.Goals as goal

pub returns-then-rtype-ne-SOA : goal.returns-then-rtype-ne-SOA
returns-then-rtype-ne-SOA c = other_kept c.args.rtype c.args.octets.now c.args.entry.now c.requires c.if-rtype-ne-SOA.true

pub returns-then-len-eq1 : goal.returns-then-len-eq1
returns-then-len-eq1 c =
    let one = eqb_of (length c.in-Some.set.records) 1 (sym c.len.ensures ∙ c.if-len-eq1.true) in
    c.has.ensures ∙ ap (λ (b : Bool). b && has_record c.args.octets.now c.in-Some.set.records) (sym one)
    ∙ taken c.args.rtype c.args.octets.now c.args.entry.now c.in-Some.set c.requires c.if-rtype-ne-SOA.false c.in-Some.ensures

pub returns-else-len-eq1 : goal.returns-else-len-eq1
returns-else-len-eq1 c =
    let more = not_of (length c.in-Some.set.records) 1 (λ one. c.if-len-eq1.false (c.len.ensures ∙ one)) in
    not_of c.len.result 1 c.if-len-eq1.false ∙ ap (λ (b : Bool). b && has_record c.args.octets.now c.in-Some.set.records) (sym more)
    ∙ taken c.args.rtype c.args.octets.now c.args.entry.now c.in-Some.set c.requires c.if-rtype-ne-SOA.false c.in-Some.ensures
