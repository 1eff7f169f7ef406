-- The counts of all chunks: what a change of one makes of them, of the journal and of the set and the number beside them.
use Rattle.std.proofs.Common.{◌≡◌, ℕ, zero, suc, ◌+◌, ◌<◌, ◌≤◌, nat_lt, Bool, true, false, List, ◌∷◌, cond, length, replicate, slice_index, slice_index_or, slice_set, refl, ◌∙◌, sym, ap, subst, inl, inr, arith}
use Rattle.std.specs.Prelude.{count_by, if◌then◌else◌, ◌⊎◌, ◌&&◌}
use Rattle.std.proofs.lemmas.Bool.{cases_eq, cases_lt, true≢false, lt-ltb}
use Rattle.std.proofs.lemmas.Bool.Decides.{nat_tests}
use Rattle.std.proofs.lemmas.List.{length-set, length-map, length-replicate, get_or-set_same, get_or-set_other, get_or_past, get_or-replicate, get_or-map, ext_get_or}
use Rattle.std.proofs.lemmas.List.FromFn.{fill_by_all, get_or-map-range_with_len, length-map-range_with_len}
use Rattle.std.proofs.lemmas.List.Sums.{sum_by-set, sum_by-cons}
use Rattle.chunk_usage.specs.Ledger.{row_of}
use Rattle.chunk_usage.specs.Counting.{Counted, is_low, is_thin, thin_row}
use Rattle.chunk_usage.specs.Counts.{count_before, counts_before}

module _ (changed : List Bool) (noted live : List ℕ) where
  pub length-counts_before : length (counts_before changed noted live) ≡ length live
  unfolding counts_before
  length-counts_before = length-map-range_with_len (count_before changed noted live) 0 (length live)

  pub get-counts_before : (k : ℕ) → k < length live → slice_index (counts_before changed noted live) k ≡ count_before changed noted live k
  unfolding counts_before
  get-counts_before k l = get_or-map-range_with_len (count_before changed noted live) 0 (length live) k k 0 l (omega arith)

  -- the counts that they were
  counts_before_are : (last : List ℕ) → length last ≡ length live → ((k : ℕ) → k < length live → count_before changed noted live k ≡ slice_index last k)
      → counts_before changed noted live ≡ last
  unfolding counts_before
  counts_before_are last same each = sym (fill_by_all (count_before changed noted live) last (length live) 0 same (λ k l. sym (each k l)))

  -- where none was set since, they are the counts
  pub none_changed : ((k : ℕ) → slice_index_or changed k false ≡ false) → counts_before changed noted live ≡ live
  none_changed none = counts_before_are live refl (λ k l. ap (λ b. if b then slice_index noted k else slice_index live k) (none k))

-- one count is set, and what it was is noted unless it is noted already
module _ (changed : List Bool) (noted live new : List ℕ) (c before count : ℕ) (l : c < length live) (m : length changed ≡ length live) (n : length noted ≡ length live)
    (was : before ≡ slice_index live c) (is : new ≡ (if slice_index_or changed c false then noted else slice_set noted c before)) where
  here : (b : Bool) → slice_index_or changed c false ≡ b → new ≡ (if b then noted else slice_set noted c before)
      → count_before (slice_set changed c true) new (slice_set live c count) c ≡ count_before changed noted live c
  here b h e =
      ap (λ x. if x then slice_index new c else slice_index (slice_set live c count) c) (get_or-set_same changed c true false (omega arith))
      ∙ go b e
      ∙ sym (ap (λ x. if x then slice_index noted c else slice_index live c) h)
    where
      go : (b : Bool) → new ≡ (if b then noted else slice_set noted c before) → slice_index new c ≡ (if b then slice_index noted c else slice_index live c)
      go true e = ap (λ (xs : List ℕ). slice_index xs c) e
      go false e = ap (λ (xs : List ℕ). slice_index xs c) e ∙ get_or-set_same noted c before 0 (omega arith) ∙ was

  there : (b : Bool) → new ≡ (if b then noted else slice_set noted c before) → (k : ℕ) → (k ≡ c → ⊥)
      → count_before (slice_set changed c true) new (slice_set live c count) k ≡ count_before changed noted live k
  there b e k other =
      ap (λ x. if x then slice_index new k else slice_index (slice_set live c count) k) (get_or-set_other changed c k true false other)
      ∙ ap (λ y. if slice_index_or changed k false then y else slice_index (slice_set live c count) k) (go b e)
      ∙ ap (λ y. if slice_index_or changed k false then slice_index noted k else y) (get_or-set_other live c k count 0 other)
    where
      go : (b : Bool) → new ≡ (if b then noted else slice_set noted c before) → slice_index new k ≡ slice_index noted k
      go true e = ap (λ (xs : List ℕ). slice_index xs k) e
      go false e = ap (λ (xs : List ℕ). slice_index xs k) e ∙ get_or-set_other noted c k before 0 other

  pub set_keeps : counts_before (slice_set changed c true) new (slice_set live c count) ≡ counts_before changed noted live
  set_keeps =
      let same = length-counts_before changed noted live ∙ sym (length-set live c count) in
      counts_before_are (slice_set changed c true) new (slice_set live c count) (counts_before changed noted live) same (λ k lt.
      let s = length-set live c count in
      one k (cases_eq k c) ∙ sym (get-counts_before changed noted live k (omega arith)))
    where
      one : (k : ℕ) → (k ≡ c) ⊎ (k ≡ c → ⊥) → count_before (slice_set changed c true) new (slice_set live c count) k ≡ count_before changed noted live k
      one k (inl e) = subst (λ (j : ℕ). count_before (slice_set changed c true) new (slice_set live c count) j ≡ count_before changed noted live j) (sym e) (here _ refl is)
      one k (inr other) = there _ is k other

-- how many counts pass a test, where one is set
pub passing_set : (p : ℕ → Bool) (live : List ℕ) (c before count : ℕ) → c < length live → before ≡ slice_index live c
    → count_by p (slice_set live c count) + cond (p before) 1 0 ≡ count_by p live + cond (p count) 1 0
passing_set p live c before count l was =
    subst (λ (b : ℕ). count_by p (slice_set live c count) + cond (p b) 1 0 ≡ count_by p live + cond (p count) 1 0) (sym was)
    (sum_by-set (λ (x : ℕ). cond (p x) 1 0) live c count 0 l)

pub length-row_of : (live : List ℕ) → length (row_of live) ≡ length live
length-row_of live = length-map live (nat_lt 0)

-- no cell counts
pub all_low : (n : ℕ) → count_by is_low (replicate n 0) ≡ n
all_low zero = refl
all_low (suc n) = let e = all_low n in let f = sum_by-cons (λ (x : ℕ). cond (is_low x) 1 0) 0 (replicate n 0) in omega arith

pub none_used : (n : ℕ) → count_by (nat_lt 0) (replicate n 0) ≡ 0
none_used zero = refl
none_used (suc n) = let e = none_used n in let f = sum_by-cons (λ (x : ℕ). cond (nat_lt 0 x) 1 0) 0 (replicate n 0) in omega arith

pub no_row : (n : ℕ) → row_of (replicate n 0) ≡ replicate n false
no_row zero = refl
no_row (suc n) = ap (λ (fs : List Bool). false ∷ fs) (no_row n)

pub none_thin : (n : ℕ) → thin_row (replicate n 0) ≡ replicate n false
none_thin zero = refl
none_thin (suc n) = ap (λ (fs : List Bool). false ∷ fs) (none_thin n)

pub clear_flag : (n k : ℕ) → slice_index_or (replicate n false) k false ≡ false
clear_flag n k = elim (cases_lt k n) [
  | inl l ↦ get_or-replicate n k false false l
  | inr past ↦ get_or_past (replicate n false) k false (subst (λ j. j ≤ k) (sym (length-replicate n false)) past)
]

-- a chunk that isn't in the row of the counts has none
pub not_counted : (live : List ℕ) (row : List Bool) → row ≡ row_of live → (k : ℕ) → k < length live → slice_index_or row k false ≡ false → slice_index live k ≡ 0
not_counted live row is k l h =
    let e = sym (get_or-map (nat_lt 0) live k 0 false l) ∙ ap (λ (fs : List Bool). slice_index_or fs k false) (sym is) ∙ h in
    grind (arith, nat_tests, e)

-- a chunk whose count wasn't set has that of the last freeze, and of one whose count was set it is noted
module _ (changed : List Bool) (noted live last : List ℕ) (is : last ≡ counts_before changed noted live) (k : ℕ) (l : k < length live) where
  was : slice_index last k ≡ count_before changed noted live k
  was = ap (λ (xs : List ℕ). slice_index xs k) is ∙ get-counts_before changed noted live k l

  pub not_changed : slice_index_or changed k false ≡ false → slice_index live k ≡ slice_index last k
  not_changed h = sym (was ∙ ap (λ b. if b then slice_index noted k else slice_index live k) h)

  pub was_changed : slice_index_or changed k false ≡ true → slice_index noted k ≡ slice_index last k
  was_changed h = sym (was ∙ ap (λ b. if b then slice_index noted k else slice_index live k) h)

-- all counts are 0, or those of the last freeze
pub zero_all : (live : List ℕ) (n : ℕ) → length live ≡ n → ((k : ℕ) → k < length live → slice_index live k ≡ 0) → live ≡ replicate n 0
zero_all live n same each =
    ext_get_or 0 live (replicate n 0) (same ∙ sym (length-replicate n 0)) (λ k l. each k l ∙ sym (get_or-replicate n k 0 0 (subst (λ m. k < m) same l)))

pub same_all : (live last : List ℕ) → length live ≡ length last → ((k : ℕ) → k < length live → slice_index live k ≡ slice_index last k) → live ≡ last
same_all live last same each = ext_get_or 0 live last same each

pub counted_is : (v : Counted) (live last : List ℕ) → v.live ≡ live → v.last ≡ last → v ≡ record { live = live; last = last }
counted_is v live last p q = ap (λ (xs : List ℕ). record { live = xs; last = v.last }) p ∙ ap (λ (xs : List ℕ). record { live = live; last = xs }) q

-- of a chunk that isn't thin, and of which few cells count, none does
pub not_thin : (live : List ℕ) (k : ℕ) → slice_index_or (thin_row live) k false ≡ false → is_low (slice_index live k) ≡ true → slice_index live k ≡ 0
not_thin live k h low = elim (cases_lt k (length live)) [
  | inl l ↦ (let e = sym (get_or-map is_thin live k 0 false l) ∙ h in none (slice_index live k) e low)
  | inr past ↦ get_or_past live k 0 past
]
  where
    none : (n : ℕ) → is_thin n ≡ false → is_low n ≡ true → n ≡ 0
    none n e low = elim (cases_lt 0 n) [
      | inl some ↦ absurd (true≢false (sym low ∙ sym (ap (λ (b : Bool). b && is_low n) (lt-ltb 0 n some)) ∙ e))
      | inr few ↦ omega arith
    ]
