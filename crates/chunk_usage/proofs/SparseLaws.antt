-- How many chunks are sparse.
use Rattle.std.proofs.Common.{◌≡◌, ℕ, zero, suc, ◌+◌, ◌<◌, ◌≤◌, Bool, true, false, not, List, [], ◌∷◌, cond, length, slice_index, slice_index_or, refl, ◌∙◌, sym, ap, inl, inr, arith}
use Rattle.std.specs.Prelude.{Option, None, Some, ◌&&◌, ◌==◌, ◌⊎◌, count_by}
use Rattle.std.specs.List.{range_with_len}
use Rattle.std.proofs.lemmas.Bool.{cases_eq, cases_lt, eq-eqb, ne_eqb, true≢false, le-leb}
use Rattle.std.proofs.lemmas.List.{get_or_default}
use Rattle.std.proofs.lemmas.List.Sums.{sum_by-cons}
use Rattle.chunk_usage.specs.declared.bump.Bump.{Bump}
use Rattle.chunk_usage.specs.Ledger.{Ledger, IsLedger, IsBump, is_given, is_bump, free_count}
use Rattle.chunk_usage.specs.Counting.{is_low, bump_low, sparse_count}
use Rattle.chunk_sets.proofs.FlagLemmas.{set_within}

-- how many of n numbers from a on pass
abbrev passing : (ℕ → Bool) → ℕ → ℕ → ℕ
passing p a n = count_by p (range_with_len a n)

one_more : (p : ℕ → Bool) (a n : ℕ) → passing p a (suc n) ≡ cond (p a) 1 0 + passing p (a + 1) n
one_more p a n = sum_by-cons (λ (k : ℕ). cond (p k) 1 0) a (range_with_len (a + 1) n)

-- what passes in a list, by its places
by_place : {X : Type 0} (p : X → Bool) (xs : List X) (f : ℕ → X) (a : ℕ) → ((i : ℕ) (d : X) → i < length xs → f (a + i) ≡ slice_index_or xs i d) → count_by p xs ≡ passing (λ k. p (f k)) a (length xs)
by_place p [] f a each = refl
by_place p (x ∷ xs) f a each =
    let here : f a ≡ x = ap f (let e : a ≡ a + 0 = omega arith in e) ∙ each 0 x (omega arith) in
    let rest = by_place p xs f (a + 1) (λ i d l. ap f (let e : a + 1 + i ≡ a + suc i = omega arith in e) ∙ each (suc i) d (omega arith)) in
    sum_by-cons (λ y. cond (p y) 1 0) x xs ∙ ap (λ y. cond (p y) 1 0 + count_by p xs) (sym here) ∙ ap (λ m. cond (p (f a)) 1 0 + m) rest ∙ sym (one_more (λ k. p (f k)) a (length xs))

one_split : (g w o : Bool) → (g ≡ false → w ≡ true) → cond (g && (w && not o)) 1 0 + cond (not g) 1 0 + cond (g && (w && o)) 1 0 ≡ cond w 1 0
one_split true true true h = refl
one_split true true false h = refl
one_split true false o h = refl
one_split false true o h = refl
one_split false false o h = absurd (true≢false (sym (h refl)))

-- what is low is sparse, free, or open
split : (g w o : ℕ → Bool) → ((k : ℕ) → g k ≡ false → w k ≡ true) → (a n : ℕ)
    → passing (λ k. g k && (w k && not (o k))) a n + passing (λ k. not (g k)) a n + passing (λ k. g k && (w k && o k)) a n ≡ passing w a n
split g w o h a zero = refl
split g w o h a (suc n) =
    let b = one_more (λ k. g k && (w k && not (o k))) a n in
    let c = one_more (λ k. not (g k)) a n in
    let d = one_more (λ k. g k && (w k && o k)) a n in
    let e = one_more w a n in
    let f = one_split (g a) (w a) (o a) (h a) in
    let i = split g w o h (a + 1) n in
    omega arith

none_passes : (p : ℕ → Bool) (a n : ℕ) → ((k : ℕ) → a ≤ k → p k ≡ false) → passing p a n ≡ 0
none_passes p a zero h = refl
none_passes p a (suc n) h =
    let here : cond {A = ℕ} (p a) 1 0 ≡ 0 = ap (λ b. cond b 1 0) (h a (omega arith)) in
    let rest = none_passes p (a + 1) n (λ k l. h k (omega arith)) in
    let m = one_more p a n in
    omega arith

-- where no other number passes, one does or none
one_passes : (p : ℕ → Bool) (c a n : ℕ) → a ≤ c → c < a + n → ((k : ℕ) → (k ≡ c → ⊥) → p k ≡ false) → passing p a n ≡ cond (p c) 1 0
one_passes p c a zero le lt h = absurd (omega arith)
one_passes p c a (suc n) le lt h = go (cases_eq c a) (λ after. one_passes p c (a + 1) n after (omega arith) h)
  where
    go : (c ≡ a) ⊎ (c ≡ a → ⊥) → (a + 1 ≤ c → passing p (a + 1) n ≡ cond (p c) 1 0) → passing p a (suc n) ≡ cond (p c) 1 0
    go (inl same) later =
        let here : cond {A = ℕ} (p c) 1 0 ≡ cond (p a) 1 0 = ap (λ j. cond (p j) 1 0) same in
        let rest = none_passes p (a + 1) n (λ k l. h k (λ e. omega arith)) in
        let m = one_more p a n in
        omega arith
    go (inr other) later =
        let here : cond {A = ℕ} (p a) 1 0 ≡ 0 = ap (λ b. cond b 1 0) (h a (λ e. other (sym e))) in
        let rest = later (omega arith) in
        let m = one_more p a n in
        omega arith

-- an entry at its place, counted from 0
at_place : {X : Type 0} (xs : List X) (e : X) (i : ℕ) (d : X) → i < length xs → slice_index_or xs (0 + i) e ≡ slice_index_or xs i d
at_place xs e i d l = ap (λ j. slice_index_or xs j e) (let z : 0 + i ≡ i = omega arith in z) ∙ get_or_default xs i e d l

neither : (a b : Bool) → (a && (b && false)) ≡ false
neither true true = refl
neither true false = refl
neither false b = refl

pub sparse_is : (l : Ledger) → IsLedger l → sparse_count l + free_count l + bump_low l.live l.bump ≡ count_by is_low l.live
sparse_is l h =
    let parts = split (is_given l) (λ k. is_low (slice_index l.live k)) (is_bump l.bump) free_low 0 (length l.given) in
    let free : free_count l ≡ passing (λ k. not (is_given l k)) 0 (length l.given) = by_place not l.given (is_given l) 0 (at_place l.given false) in
    let all : count_by is_low l.live ≡ passing (λ k. is_low (slice_index l.live k)) 0 (length l.given) =
    by_place is_low l.live (slice_index l.live) 0 (at_place l.live 0) ∙ ap (passing (λ k. is_low (slice_index l.live k)) 0) h.counted in
    let one = open_one l.bump h.opened in
    omega arith
  where
    -- no cell of a free chunk counts
    free_low : (k : ℕ) → is_given l k ≡ false → is_low (slice_index l.live k) ≡ true
    free_low k free = elim (cases_lt 0 (slice_index l.live k)) [
      | inl some ↦ absurd (true≢false (sym (h.counts.in_given k some) ∙ free))
      | inr none ↦ le-leb (slice_index l.live k) 256 (omega arith)
    ]

    open_one : (o : Option Bump) → IsBump l.given l.live o → passing (λ k. is_given l k && (is_low (slice_index l.live k) && is_bump o k)) 0 (length l.given) ≡ bump_low l.live o
    open_one None a = none_passes _ 0 (length l.given) (λ k le. neither (is_given l k) (is_low (slice_index l.live k)))
    open_one (Some o) a =
        one_passes _ o.chunk 0 (length l.given) (omega arith) (let w = set_within l.given o.chunk a.1 in omega arith)
        (λ k other. ap (λ b. is_given l k && (is_low (slice_index l.live k) && b)) (ne_eqb o.chunk k (λ e. other (sym e))) ∙ neither (is_given l k) (is_low (slice_index l.live k)))
        ∙ ap (λ b. cond b 1 0) (here (is_given l o.chunk) (is_low (slice_index l.live o.chunk)) (o.chunk == o.chunk) a.1 (eq-eqb o.chunk o.chunk refl))
      where
        here : (g w o : Bool) → g ≡ true → o ≡ true → (g && (w && o)) ≡ w
        here true true true p q = refl
        here true false o p q = refl
        here true true false p q = q
        here false w o p q = absurd (true≢false (sym p))
