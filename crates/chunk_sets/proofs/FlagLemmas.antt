-- Flags of chunks, and how many are clear.
use Rattle.std.proofs.Common.{◌≡◌, ℕ, zero, suc, ◌+◌, ◌<◌, Bool, true, false, not, List, [], ◌∷◌, cond, length, replicate, slice_index_or, slice_set, refl, ◌∙◌, sym, ap, subst, inl, inr, arith}
use Rattle.std.specs.Prelude.{count_by, slice_get, Some}
use Rattle.std.specs.List.{position_or_len}
use Rattle.std.proofs.lemmas.List.{get_or_past}
use Rattle.std.proofs.lemmas.List.Sums.{sum_by-set, sum_by-cons, passes_at_first}
use Rattle.std.proofs.lemmas.Bool.{cases_eq, cases_lt}
use Rattle.std.proofs.lemmas.Grind.{elements}

-- a flag that is set stays so where another one is set
pub set_stays : (flags : List Bool) (c k : ℕ) → slice_index_or flags k false ≡ true → slice_index_or (slice_set flags c true) k false ≡ true
set_stays flags c k h = elim (cases_eq k c) [ inl e ↦ grind (arith, elements, get_or_past) | inr ne ↦ grind (arith, elements) ]

-- a flag that is clear is set
pub one_fewer_clear : (flags : List Bool) (c : ℕ) → c < length flags → slice_index_or flags c false ≡ false → count_by not (slice_set flags c true) + 1 ≡ count_by not flags
one_fewer_clear flags c l h = let e = sum_by-set (λ (x : Bool). cond (not x) 1 0) flags c true false l in grind (arith, e, h)

-- where some flag is clear there is a first one
pub first_clear_is : (flags : List Bool) → 0 < count_by not flags → position_or_len not flags < length flags
first_clear_is [] h = absurd (omega arith)
first_clear_is (true ∷ flags) h = let i = first_clear_is flags h in omega arith
first_clear_is (false ∷ flags) h = omega arith

pub record First (n : ℕ) (flags : List Bool) : Type 0 where
  pub within : n < length flags
  pub clear : slice_index_or flags n false ≡ false

pub first_is : (flags : List Bool) (n : ℕ) → n ≡ position_or_len not flags → 0 < count_by not flags → First n flags
first_is flags n is some =
    let l = first_clear_is flags some in
    subst (λ k. First k flags) (sym is) (record { within = l; clear = unset _ (passes_at_first not flags false l) })
  where
    unset : (b : Bool) → not b ≡ true → b ≡ false
    unset true h = sym h
    unset false h = refl

-- a flag that is read stands in the list
pub set_within : (flags : List Bool) (k : ℕ) → slice_index_or flags k false ≡ true → k < length flags
set_within flags k h = elim (cases_lt k (length flags)) [ inl l ↦ l | inr past ↦ absurd (differ (sym h ∙ get_or_past flags k false past)) ]
  where
    differ : true ≡ false → ⊥
    differ e = cc

pub get_set : (flags : List Bool) (k : ℕ) → slice_index_or flags k false ≡ true → slice_get flags k ≡ Some true
get_set [] k h = absurd (differ h)
  where
    differ : false ≡ true → ⊥
    differ e = cc
get_set (b ∷ flags) zero h = ap Some h
get_set (b ∷ flags) (suc k) h = get_set flags k h

pub get_clear : (flags : List Bool) (k : ℕ) → k < length flags → slice_index_or flags k false ≡ false → slice_get flags k ≡ Some false
get_clear [] k l h = absurd (omega arith)
get_clear (b ∷ flags) zero l h = ap Some h
get_clear (b ∷ flags) (suc k) l h = get_clear flags k (omega arith) h

pub all_clear : (n : ℕ) → count_by not (replicate n false) ≡ n
all_clear zero = refl
all_clear (suc n) = let e = all_clear n in let f = sum_by-cons (λ (x : Bool). cond (not x) 1 0) false (replicate n false) in omega arith
