use Rattle.std.proofs.Common.{◌∙◌, ◌-◌, ◌∷◌, ap, sym, arith}
use Rattle.std.specs.List.{flat_map}
use Rattle.zone_model.specs.Records.{Rrset, Entry, rrset_bytes}
use Rattle.rr_data.proofs.ItemViewLemmas.{sets_ended, sets_on, sets_view}
use Rattle.rr_data.proofs.views.ItemView.next.Goals as goal

pub returns-then-self-eq0 : goal.returns-then-self-eq0
returns-then-self-eq0 c = sym c.self.view_is ∙ sets_ended c.self.inside.left c.self.inside.octets.now c.self.invariant.0 c.self.invariant.1 c.if-self-eq0.true

pub first_set-set-requires : goal.first_set-set-requires
first_set-set-requires c =
    let s = sets_on c.self.inside.left c.self.inside.octets.now c.self.invariant.0 c.self.invariant.1 (omega (arith, c.if-self-eq0.false)) in
    (s.set, flat_map rrset_bytes s.left, s.front)

pub invariant_of-self : goal.invariant_of-self
invariant_of-self c =
    let s = sets_on c.self.inside.left c.self.inside.octets.now c.self.invariant.0 c.self.invariant.1 (omega (arith, c.if-self-eq0.false)) in
    (s.left, s.next (c.self.inside.left - 1) c.first_set-set.result.1.now (omega (arith, c.if-self-eq0.false)) (c.first_set-set.ensures s.set (flat_map rrset_bytes s.left) s.front).1)

pub returns : goal.returns
returns c =
    let s = sets_on c.self.inside.left c.self.inside.octets.now c.self.invariant.0 c.self.invariant.1 (omega (arith, c.if-self-eq0.false)) in
    let f = c.first_set-set.ensures s.set (flat_map rrset_bytes s.left) s.front in
    let rest = s.next (c.self.inside.left - 1) c.first_set-set.result.1.now (omega (arith, c.if-self-eq0.false)) f.1 in
    sym c.self.view_is ∙ s.is ∙ ap (λ (x : Rrset). x ∷ s.left) (sym f.0)
    ∙ ap (λ (l : Entry). c.first_set-set.result.0 ∷ l) (sym (sets_view (c.self.inside.left - 1) c.first_set-set.result.1.now s.left rest))
