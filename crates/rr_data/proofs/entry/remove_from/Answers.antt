use Rattle.std.proofs.Common.{◌≡◌, ℕ, List, [], ◌∷◌, length, ap, sym, subst, ◌∙◌, refl, arith, Some, true, false, eqb}
use Rattle.std.proofs.lemmas.List.{get_or-set_same}
use Rattle.zone_model.specs.Records.{Rrset, lessened, unless_empty}
use Rattle.rr_data.specs.Places.{StandsAt}
use Rattle.rr_data.proofs.PlaceLemmas.{replaces, leaves}
use Rattle.rr_data.proofs.entry.remove_from.Goals as goal

empty_leaves : (s : Rrset) → s.records ≡ [] → unless_empty s ≡ []
empty_leaves s e = rw e refl

other_stays : (s : Rrset) → (s.records ≡ [] → false ≡ true) → unless_empty s ≡ s ∷ []
other_stays s n = by_records s s.records refl n
  where
    by_records : (s : Rrset) (l : List (List ℕ)) → s.records ≡ l → (s.records ≡ [] → false ≡ true) → unless_empty s ≡ s ∷ []
    by_records s [] e n = let k : false ≡ true = n e in absurd cc
    by_records s (x ∷ l) e n = let t : eqb (length s.records) 0 ≡ false = rw e (grind arith) in rw t refl

pub returns-then-is_empty-clause-value : goal.returns-then-is_empty-clause-value
returns-then-is_empty-clause-value c =
    let stands : StandsAt c.args.rtype c.args.sets.now.items c.in-Ok.at = subst (λ (l : List Rrset). StandsAt c.args.rtype l c.in-Ok.at) c.deref.ensures.value c.in-Ok.ensures in
    let next : c.index.result.now ≡ c.remove-changed.new.self = c.index.ensures ∙ get_or-set_same c.args.sets.now.items c.in-Ok.at c.remove-changed.new.self c.index.result.now stands.within in
    let none : c.remove-changed.new.self.records ≡ [] = ap (λ (s : Rrset). s.records) (sym next) ∙ c.is_empty.ensures.0 c.if-is_empty.true in
    let gone : lessened c.args.octets.now (Some c.index_mut-set.result.now) ≡ [] = ap unless_empty (sym c.remove-changed.ensures.value) ∙ empty_leaves c.remove-changed.new.self none in
    c.remove-removed.ensures.items ∙ leaves c.args.rtype c.args.sets.now.items c.in-Ok.at c.index_mut-set.result.now c.remove-changed.new.self (lessened c.args.octets.now) c.index_mut-set.ensures.value stands gone

pub returns-clause-value : goal.returns-clause-value
returns-clause-value c =
    let stands : StandsAt c.args.rtype c.args.sets.now.items c.in-Ok.at = subst (λ (l : List Rrset). StandsAt c.args.rtype l c.in-Ok.at) c.deref.ensures.value c.in-Ok.ensures in
    let next : c.index.result.now ≡ c.remove-changed.new.self = c.index.ensures ∙ get_or-set_same c.args.sets.now.items c.in-Ok.at c.remove-changed.new.self c.index.result.now stands.within in
    let some : c.remove-changed.new.self.records ≡ [] → false ≡ true = λ e. sym c.if-is_empty.false ∙ c.is_empty.ensures.1 (ap (λ (s : Rrset). s.records) next ∙ e) in
    replaces c.args.rtype c.args.sets.now.items c.in-Ok.at c.index_mut-set.result.now c.remove-changed.new.self (lessened c.args.octets.now) c.index_mut-set.ensures.value stands (ap unless_empty (sym c.remove-changed.ensures.value) ∙ other_stays c.remove-changed.new.self some)
