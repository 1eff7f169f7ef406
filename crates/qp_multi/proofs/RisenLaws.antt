-- Chunks that a call took: flags that are set later and were not before.
use Rattle.std.proofs.Common.{◌≡◌, ℕ, zero, suc, ◌+◌, ◌≤◌, Bool, true, false, not, ◌&&◌, cond, if◌then◌else◌, List, [], ◌∷◌, length, slice_index_or, slice_get, Contains, Option, Some, None, arith, refl, subst}
use Rattle.std.proofs.lemmas.Bool.Decides.{nat_tests}
use Rattle.chunk_usage.specs.declared.bump.Bump.{Bump}
use Rattle.chunk_usage.specs.Ledger.{is_bump}
use Rattle.qp_multi.proofs.OpenLaws.{clear}

-- their places, from r on
abbrev pub risen : List Bool → List Bool → ℕ → List ℕ
risen [] b r = []
risen (x ∷ a) [] r = []
risen (x ∷ a) (y ∷ b) r = if y && not x then r ∷ risen a b (suc r) else risen a b (suc r)

pub risen_few : (a b : List Bool) (r : ℕ) → length b ≡ length a → ((k : ℕ) → slice_index_or a k false ≡ true → slice_index_or b k false ≡ true) → length (risen a b r) + clear b ≤ clear a
risen_few [] [] r e h = omega arith
risen_few [] (y ∷ b) r e h = absurd (omega arith)
risen_few (x ∷ a) [] r e h = absurd (omega arith)
risen_few (x ∷ a) (y ∷ b) r e h = go x y (h 0) (risen_few a b (suc r) (omega arith) (λ k. h (suc k)))
  where
    go : (x y : Bool) → (x ≡ true → y ≡ true) → length (risen a b (suc r)) + clear b ≤ clear a
        → length (if y && not x then r ∷ risen a b (suc r) else risen a b (suc r)) + cond (not y) (1 + clear b) (clear b) ≤ cond (not x) (1 + clear a) (clear a)
    go true true g more = more
    go true false g more = absurd (differ (g refl))
      where
        differ : false ≡ true → ⊥
        differ e = cc
    go false true g more = omega arith
    go false false g more = omega arith

none_set : (k : ℕ) → ◌≡◌ {A = Bool} (slice_index_or [] k false) true → ⊥
none_set k h = cc

later : (x y : ℕ) (xs : List ℕ) → Contains xs y → Contains (x ∷ xs) y
later x y xs h = (suc h.0, (let l = h.1 in omega arith), h.2)

pub first : (x y : ℕ) (xs : List ℕ) → x ≡ y → Contains (x ∷ xs) y
first x y xs e = (0, omega arith, e)

pub risen_has : (a b : List Bool) (r k : ℕ) → length b ≡ length a → slice_index_or b k false ≡ true → slice_index_or a k false ≡ false → Contains (risen a b r) (r + k)
risen_has a [] r k e h g = absurd (none_set k h)
risen_has [] (y ∷ b) r k e h g = absurd (omega arith)
risen_has (x ∷ a) (y ∷ b) r zero e h g = go x y h g
  where
    go : (x y : Bool) → y ≡ true → x ≡ false → Contains (if y && not x then r ∷ risen a b (suc r) else risen a b (suc r)) (r + 0)
    go false true h g = first r (r + 0) (risen a b (suc r)) (omega arith)
    go true y h g = cc
    go false false h g = cc
risen_has (x ∷ a) (y ∷ b) r (suc k) e h g = go (y && not x) (risen_has a b (suc r) k (omega arith) h g)
  where
    go : (t : Bool) → Contains (risen a b (suc r)) (suc r + k) → Contains (if t then r ∷ risen a b (suc r) else risen a b (suc r)) (r + suc k)
    go true more = let n : suc r + k ≡ r + suc k = omega arith in later r (r + suc k) (risen a b (suc r)) (subst (λ (i : ℕ). Contains (risen a b (suc r)) i) n more)
    go false more = let n : suc r + k ≡ r + suc k = omega arith in subst (λ (i : ℕ). Contains (risen a b (suc r)) i) n more

-- with the chunk that was open
abbrev pub with_bump : Option Bump → List ℕ → List ℕ
with_bump None xs = xs
with_bump (Some o) xs = o.chunk ∷ xs

pub open_first : (o : Option Bump) (xs : List ℕ) (k : ℕ) → is_bump o k ≡ true → Contains (with_bump o xs) k
open_first None xs k h = cc
open_first (Some o) xs k h = first o.chunk k xs (grind (arith, nat_tests))

pub open_later : (o : Option Bump) (xs : List ℕ) (k : ℕ) → Contains xs k → Contains (with_bump o xs) k
open_later None xs k h = h
open_later (Some o) xs k h = later o.chunk k xs h

pub open_few : (o : Option Bump) (xs : List ℕ) → length (with_bump o xs) ≤ 1 + length xs
open_few None xs = omega arith
open_few (Some o) xs = omega arith

-- a flag that is read is set
pub set_of : (flags : List Bool) (k : ℕ) → slice_get flags k ≡ Some true → slice_index_or flags k false ≡ true
set_of [] k h = cc
set_of (b ∷ flags) zero h = cc
set_of (b ∷ flags) (suc k) h = set_of flags k h
