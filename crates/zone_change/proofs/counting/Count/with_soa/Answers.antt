use Rattle.std.proofs.Common.{◌≡◌, ◌+◌, ◌-◌, List, ℕ, length, sym, subst, arith}
use Rattle.zone_model.specs.Versions.{with_added}
use Rattle.zone_change.specs.Views.{addition_view}
use Rattle.zone_change.specs.Counts.{count_of}
use Rattle.zone_change.specs.declared.counting.Count.{Count}
use Rattle.zone_change.proofs.CountLaws.{found_within, set_is, soa_begins, soa_replaces}
use Rattle.zone_change.proofs.counting.Count.with_soa.Goals as goal

pub set_octets-requires : goal.set_octets-requires
set_octets-requires c =
    let within = found_within (addition_view c.args.added.now) c.args.entry.now c.requires.entry c.args.self c.requires.counted 6 c.in-Some.set c.in-Some.ensures in
    omega (arith, within, set_is c.in-Some.set, c.requires.short.1)

pub overflow_sub-result : goal.overflow_sub-result
overflow_sub-result c =
    let within = found_within (addition_view c.args.added.now) c.args.entry.now c.requires.entry c.args.self c.requires.counted 6 c.in-Some.set c.in-Some.ensures in
    omega (arith, within, c.set_octets.ensures)

pub returns-in-Some : goal.returns-in-Some
returns-in-Some c =
    let a = addition_view c.args.added.now in
    subst (λ (o : List ℕ). ◌≡◌ {A = Count} (record { sets = c.args.self.sets; aliases = c.args.self.aliases; octets = c.args.self.octets + 10 + length o - c.set_octets.result }) (count_of a.owner (with_added a c.args.entry.now))) (sym c.octets-octets.ensures.value)
    (soa_replaces a c.args.entry.now c.requires.entry c.args.self c.requires.counted c.requires.soa c.requires.other c.in-Some.set c.in-Some.ensures c.set_octets.result c.set_octets.ensures)

pub returns-in-None : goal.returns-in-None
returns-in-None c =
    let a = addition_view c.args.added.now in
    subst (λ (o : List ℕ). ◌≡◌ {A = Count} (record { sets = c.args.self.sets + 1; aliases = c.args.self.aliases; octets = c.args.self.octets + 10 + length o }) (count_of a.owner (with_added a c.args.entry.now))) (sym c.octets-octets.ensures.value)
    (soa_begins a c.args.entry.now c.requires.entry c.args.self c.requires.counted c.requires.soa c.requires.other c.in-None.ensures)
