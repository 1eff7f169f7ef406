use Rattle.std.proofs.Common.{◌≡◌, ◌∙◌, ◌+◌, List, ℕ, length, sym, ap, subst}
use Rattle.zone_model.specs.Records.{has_record}
use Rattle.zone_model.specs.Versions.{with_added}
use Rattle.zone_change.specs.Views.{addition_view}
use Rattle.zone_change.specs.Counts.{count_of}
use Rattle.zone_change.specs.declared.counting.Count.{Count}
use Rattle.zone_change.proofs.CountLaws.{set_begins, record_joined, record_stays, if_same}
use Rattle.zone_change.proofs.counting.Count.with_record.Goals as goal

pub returns-in_default : goal.returns-in_default
returns-in_default c =
    let a = addition_view c.args.added.now in
    subst (λ (o : List ℕ). ◌≡◌ {A = Count} (record { sets = c.args.self.sets + 1; aliases = c.aliases_with.result; octets = c.args.self.octets + 10 + length o }) (count_of a.owner (with_added a c.args.entry.now))) (sym c.octets-octets.ensures.value)
    (set_begins a c.args.entry.now c.requires.entry c.args.self c.requires.counted c.requires.other c.in_default.ensures c.aliases_with.result c.aliases_with.ensures)

pub returns-then-has : goal.returns-then-has
returns-then-has c =
    let a = addition_view c.args.added.now in
    let held = ap (λ (o : List ℕ). has_record o c.in-Some.set.records) (sym c.octets-octets.ensures.value) ∙ sym c.has.ensures ∙ c.if-has.true in
    record_stays a c.args.entry.now c.requires.entry c.args.self c.requires.counted c.requires.other c.in-Some.set c.in-Some.ensures held

pub returns : goal.returns
returns c =
    let a = addition_view c.args.added.now in
    let new = ap (λ (o : List ℕ). has_record o c.in-Some.set.records) (sym c.octets-octets.ensures.value) ∙ sym c.has.ensures ∙ c.if-has.false in
    let many = c.aliases_with-2.ensures ∙ if_same a.rtype (c.len.result + 1) (length c.in-Some.set.records + 1) c.args.self.aliases (ap (λ (n : ℕ). n + 1) c.len.ensures) in
    subst (λ (o : List ℕ). ◌≡◌ {A = Count} (record { sets = c.args.self.sets; aliases = c.aliases_with-2.result; octets = c.args.self.octets + 2 + length o }) (count_of a.owner (with_added a c.args.entry.now))) (sym c.octets-octets.ensures.value)
    (record_joined a c.args.entry.now c.requires.entry c.args.self c.requires.counted c.requires.other c.in-Some.set c.in-Some.ensures new c.aliases_with-2.result many)
