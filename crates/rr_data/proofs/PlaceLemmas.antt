-- The walk to the RRset of a type.
use Rattle.std.proofs.Common.{◌≡◌, ℕ, zero, suc, ◌+◌, ◌<◌, List, [], ◌∷◌, ◌++◌, length, take, drop, get_or, set, sym, ap, ◌∙◌, refl, arith, Option, Some, None, append-nil, append_assoc}
use Rattle.std.specs.declared.cmp.Ordering.{Ordering}
use Rattle.std.specs.declared.cmp.Ordering.TheVariants.{Less, Equal, Greater}
use Rattle.std.specs.Ordering.{nat_cmp, match_ordering}
use Rattle.std.proofs.lemmas.List.{drop_more, take_more, set_split, get_or_read}
use Rattle.zone_model.specs.Records.{Rrset, changed_at}
use Rattle.rr_data.specs.Places.{AreLower, StandsAt, MissingAt}

here_first : (sets : List Rrset) (at : ℕ) (here : Rrset) → at < length sets → here ≡ get_or sets at here → drop at sets ≡ here ∷ drop (suc at) sets
here_first sets at here lt is =
    drop_more sets at here lt ∙ ap (λ (x : Rrset). x ∷ drop (at + 1) sets) (sym is) ∙ ap (λ (k : ℕ). here ∷ drop k sets) (let e : at + 1 ≡ suc at = omega arith in e)

step_at : (rtype : ℕ) (change : Option Rrset → List Rrset) (here : Rrset) (rest : List Rrset) (o : Ordering) → nat_cmp rtype here.rtype ≡ o
    → changed_at rtype change (here ∷ rest) ≡ match_ordering o (change None ++ (here ∷ rest)) (change (Some here) ++ rest) (here ∷ changed_at rtype change rest)
step_at rtype change here rest o e = ap (λ (p : Ordering). match_ordering p (change None ++ (here ∷ rest)) (change (Some here) ++ rest) (here ∷ changed_at rtype change rest)) e

pub stands : (rtype : ℕ) (sets : List Rrset) (at : ℕ) (here : Rrset) → at < length sets → here ≡ get_or sets at here → nat_cmp rtype here.rtype ≡ Equal → AreLower rtype sets at → StandsAt rtype sets at
stands rtype sets at here lt is same p = record {
  set = here;
  is = is;
  within = lt;
  changed = λ change. p.changed change ∙ ap (λ (l : List Rrset). take at sets ++ l) (ap (changed_at rtype change) (here_first sets at here lt is) ∙ step_at rtype change here (drop (suc at) sets) Equal same);
}

pub missing_before : (rtype : ℕ) (sets : List Rrset) (at : ℕ) (here : Rrset) → at < length sets → here ≡ get_or sets at here → nat_cmp rtype here.rtype ≡ Less → AreLower rtype sets at → MissingAt rtype sets at
missing_before rtype sets at here lt is less p = record {
  within = omega arith;
  changed = λ change. p.changed change ∙ ap (λ (l : List Rrset). take at sets ++ l) (ap (changed_at rtype change) (here_first sets at here lt is) ∙ step_at rtype change here (drop (suc at) sets) Less less ∙ ap (λ (l : List Rrset). change None ++ l) (sym (here_first sets at here lt is)));
}

pub passes : (rtype : ℕ) (sets : List Rrset) (at : ℕ) (here : Rrset) → at < length sets → here ≡ get_or sets at here → nat_cmp rtype here.rtype ≡ Greater → AreLower rtype sets at → AreLower rtype sets (at + 1)
passes rtype sets at here lt is greater p =
    let more : take (at + 1) sets ≡ take at sets ++ here ∷ [] = take_more sets at here lt ∙ ap (λ (x : Rrset). take at sets ++ x ∷ []) (sym is) in
    let next : at + 1 ≡ suc at = omega arith in record {
      changed = λ change.
          p.changed change
          ∙ ap (λ (l : List Rrset). take at sets ++ l) (ap (changed_at rtype change) (here_first sets at here lt is) ∙ step_at rtype change here (drop (suc at) sets) Greater greater)
          ∙ sym (append_assoc (take at sets) (here ∷ []) (changed_at rtype change (drop (suc at) sets)))
          ∙ ap (λ (l : List Rrset). l ++ changed_at rtype change (drop (suc at) sets)) (sym more)
          ∙ ap (λ (k : ℕ). take (at + 1) sets ++ changed_at rtype change (drop k sets)) (sym next);
    }

nothing_behind : (sets : List Rrset) → drop (length sets) sets ≡ []
nothing_behind [] = refl
nothing_behind (s ∷ sets) = nothing_behind sets

pub missing_at_end : (rtype : ℕ) (sets : List Rrset) → AreLower rtype sets (length sets) → MissingAt rtype sets (length sets)
missing_at_end rtype sets p = record {
  within = omega arith;
  changed = λ change.
      p.changed change
      ∙ ap (λ (l : List Rrset). take (length sets) sets ++ changed_at rtype change l) (nothing_behind sets)
      ∙ ap (λ (l : List Rrset). take (length sets) sets ++ l) (sym (append-nil (change None)))
      ∙ ap (λ (l : List Rrset). take (length sets) sets ++ (change None ++ l)) (sym (nothing_behind sets));
}

pub none_passed : (rtype : ℕ) (sets : List Rrset) → AreLower rtype sets 0
none_passed rtype sets = record { changed = λ change. refl }

read_once : (sets : List Rrset) (at : ℕ) (x y : Rrset) → at < length sets → x ≡ get_or sets at x → y ≡ get_or sets at y → x ≡ y
read_once sets at x y lt p q = get_or_read sets at x lt p y ∙ sym q

-- the RRset that stands there, changed into another, in its place
pub replaces : (rtype : ℕ) (sets : List Rrset) (at : ℕ) (here next : Rrset) (change : Option Rrset → List Rrset) → here ≡ get_or sets at here → StandsAt rtype sets at → change (Some here) ≡ next ∷ [] → set sets at next ≡ changed_at rtype change sets
replaces rtype sets at here next change is s e =
    let one : s.set ≡ here = read_once sets at s.set here s.within s.is is in
    set_split sets at next s.within ∙ sym (s.changed change ∙ ap (λ (x : Rrset). take at sets ++ (change (Some x) ++ drop (suc at) sets)) one ∙ ap (λ (l : List Rrset). take at sets ++ (l ++ drop (suc at) sets)) e)

take_of_set : (sets : List Rrset) (at : ℕ) (next : Rrset) → take at (set sets at next) ≡ take at sets
take_of_set [] zero next = refl
take_of_set [] (suc at) next = refl
take_of_set (s ∷ sets) zero next = refl
take_of_set (s ∷ sets) (suc at) next = ap (λ (l : List Rrset). s ∷ l) (take_of_set sets at next)

drop_of_set : (sets : List Rrset) (at : ℕ) (next : Rrset) → drop (suc at) (set sets at next) ≡ drop (suc at) sets
drop_of_set [] at next = refl
drop_of_set (s ∷ sets) zero next = refl
drop_of_set (s ∷ sets) (suc at) next = drop_of_set sets at next

-- the RRset that stands there leaves after it was changed
pub leaves : (rtype : ℕ) (sets : List Rrset) (at : ℕ) (here next : Rrset) (change : Option Rrset → List Rrset) → here ≡ get_or sets at here → StandsAt rtype sets at → change (Some here) ≡ [] → take at (set sets at next) ++ drop (suc at) (set sets at next) ≡ changed_at rtype change sets
leaves rtype sets at here next change is s e =
    let one : s.set ≡ here = read_once sets at s.set here s.within s.is is in
    ap (λ (l : List Rrset). l ++ drop (suc at) (set sets at next)) (take_of_set sets at next) ∙ ap (λ (l : List Rrset). take at sets ++ l) (drop_of_set sets at next)
    ∙ sym (s.changed change ∙ ap (λ (x : Rrset). take at sets ++ (change (Some x) ++ drop (suc at) sets)) one ∙ ap (λ (l : List Rrset). take at sets ++ (l ++ drop (suc at) sets)) e)
