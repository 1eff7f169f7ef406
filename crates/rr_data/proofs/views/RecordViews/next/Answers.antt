use Rattle.std.proofs.Common.{◌∙◌, ◌-◌, ◌∷◌, ℕ, List, ap, sym, arith}
use Rattle.std.specs.List.{flat_map}
use Rattle.zone_model.specs.Records.{record_bytes}
use Rattle.rr_data.proofs.ItemViewLemmas.{records_ended, records_on, records_view}
use Rattle.rr_data.proofs.views.RecordViews.next.Goals as goal

pub returns-then-self-eq0-clause-next : goal.returns-then-self-eq0-clause-next
returns-then-self-eq0-clause-next c = sym c.self.view_is ∙ records_ended c.self.inside.left c.self.inside.octets.now c.self.invariant.0 c.self.invariant.1 c.if-self-eq0.true

pub first_record-requires : goal.first_record-requires
first_record-requires c =
    let s = records_on c.self.inside.left c.self.inside.octets.now c.self.invariant.0 c.self.invariant.1 (omega (arith, c.if-self-eq0.false)) in
    (s.octets, flat_map record_bytes s.left, s.front)

pub invariant_of-self : goal.invariant_of-self
invariant_of-self c =
    let s = records_on c.self.inside.left c.self.inside.octets.now c.self.invariant.0 c.self.invariant.1 (omega (arith, c.if-self-eq0.false)) in
    (s.left, s.next (c.self.inside.left - 1) c.first_record.result.1.now (omega (arith, c.if-self-eq0.false)) (c.first_record.ensures.split s.octets (flat_map record_bytes s.left) s.front).1)

pub returns-clause-next : goal.returns-clause-next
returns-clause-next c =
    let s = records_on c.self.inside.left c.self.inside.octets.now c.self.invariant.0 c.self.invariant.1 (omega (arith, c.if-self-eq0.false)) in
    let f = c.first_record.ensures.split s.octets (flat_map record_bytes s.left) s.front in
    let rest = s.next (c.self.inside.left - 1) c.first_record.result.1.now (omega (arith, c.if-self-eq0.false)) f.1 in
    sym c.self.view_is ∙ s.is ∙ ap (λ (o : List ℕ). o ∷ s.left) (sym f.0)
    ∙ ap (λ (l : List (List ℕ)). c.first_record.result.0.now ∷ l) (sym (records_view (c.self.inside.left - 1) c.first_record.result.1.now s.left rest))
