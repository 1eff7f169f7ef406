use Rattle.std.proofs.Common.{◌≡◌, ◌∙◌, ℕ, Bool, false, cond, eqb, List, sym, ap, arith}
use Rattle.std.proofs.lemmas.Bool.Decides.{nat_tests}
use Rattle.zone_model.specs.Records.{Entry, with_rr}
use Rattle.zone_model.specs.Versions.{Addition, with_added, with_soa}
use Rattle.zone_change.specs.Views.{addition_view}
use Rattle.zone_change.proofs.entries.add_record.Goals as goal

no_soa : (a : Addition) (octets : List ℕ) (entry new : Entry) → (a.rtype ≡ 6 → ⊥) → octets ≡ a.octets → new ≡ with_rr a.rtype a.ttl octets entry → new ≡ with_added a entry
no_soa a octets entry new n e h =
    let t : eqb a.rtype 6 ≡ false = grind (arith, nat_tests) in
    h ∙ ap (λ (o : List ℕ). with_rr a.rtype a.ttl o entry) e ∙ sym (ap (λ (b : Bool). cond b (with_soa a.ttl a.octets entry) (with_rr a.rtype a.ttl a.octets entry)) t)

pub returns : goal.returns
returns c = no_soa (addition_view c.args.record.now) _ _ _ c.if-record-eq-SOA.false c.in_ok-rdata.ensures.cases c.in_ok-add.ensures.ok
