-- Chunks that nothing needs: a ledger stays one without them.
use Rattle.std.proofs.Common.{◌≡◌, ℕ, ◌+◌, ◌<◌, ◌≤◌, nat_lt, Bool, true, false, not, List, [], ◌∷◌, length, slice_index, slice_index_or, refl, ◌∙◌, sym, ap, subst, inl, inr, arith}
use Rattle.std.specs.Prelude.{Option, None, Some, ◌||◌, ◌&&◌, count_by}
use Rattle.std.specs.List.{AllByRecursion, list_any}
use Rattle.std.proofs.lemmas.Bool.{cases_lt, and_from, or_left, or_right, eq-eqb, lt-ltb}
use Rattle.std.proofs.lemmas.List.{length-map, get_or-map, get_or_past}
use Rattle.std.proofs.lemmas.List.FromFn.{fill_by_all, get_or-map-range_with_len, length-map-range_with_len}
use Rattle.chunk_usage.specs.declared.bump.Bump.{Bump}
use Rattle.chunk_usage.specs.Ledger.{Row, Ledger, IsLedger, IsBump, IsRowOf, IsNewest, newest, row_of, is_in_row, is_given, is_bump, free_count}
use Rattle.chunk_usage.specs.Keeping.{is_in_rows, is_needed, is_unreached, freed}
use Rattle.chunk_usage.proofs.UsedLaws.{given_used}

-- the newest row is one of the rows
newest_passes : (p : Row → Bool) (rows : List Row) (r : Row) → newest rows ≡ Some r → p r ≡ true → list_any p rows ≡ true
newest_passes p [] r e t = cc
newest_passes p (s ∷ []) r e t = let same : s ≡ r = cc in or_left (p s) false (ap p same ∙ t)
newest_passes p (s ∷ t ∷ rows) r e h = or_right (p s) (list_any p (t ∷ rows)) (newest_passes p (t ∷ rows) r e h)

-- a count that isn't 0 stands in the list
counted_within : (live : List ℕ) (k : ℕ) → 0 < slice_index live k → k < length live
counted_within live k some = elim (cases_lt k (length live)) [ inl l ↦ l | inr past ↦ (let z = get_or_past live k 0 past in absurd (omega arith)) ]

-- what makes a chunk needed
module _ (l : Ledger) (k : ℕ) where
  bump_needed : is_bump l.bump k ≡ true → is_needed l k ≡ true
  bump_needed t = or_left (is_bump l.bump k) _ t

  fender_needed : is_bump l.fender k ≡ true → is_needed l k ≡ true
  fender_needed t = or_right (is_bump l.bump k) _ (or_left (is_bump l.fender k) _ t)

  live_needed : 0 < slice_index l.live k → is_needed l k ≡ true
  live_needed some = or_right (is_bump l.bump k) _ (or_right (is_bump l.fender k) _ (or_left (nat_lt 0 (slice_index l.live k)) _ (lt-ltb 0 (slice_index l.live k) some)))

  row_needed : is_in_rows l.rows k ≡ true → is_needed l k ≡ true
  row_needed t = or_right (is_bump l.bump k) _ (or_right (is_bump l.fender k) _ (or_right (nat_lt 0 (slice_index l.live k)) _ t))

-- the given chunks, of which those are left that something needs
module _ (l : Ledger) (h : IsLedger l) (given : List Bool) (same : length given ≡ length l.given) (each : (k : ℕ) → slice_index_or given k false ≡ (is_given l k && is_needed l k)) where
  stays : (k : ℕ) → is_given l k ≡ true → is_needed l k ≡ true → slice_index_or given k false ≡ true
  stays k a b = each k ∙ and_from (is_given l k) (is_needed l k) a b

  -- a chunk with a cell that counted at the last freeze is in the newest row
  last_live_needed : (k : ℕ) → 0 < slice_index l.last_live k → is_needed l k ≡ true
  last_live_needed k some = go (newest l.rows) refl h.newest_row
    where
      go : (o : Option Row) → newest l.rows ≡ o → IsNewest l.last_live o → is_needed l k ≡ true
      go None e zero = absurd (let z = zero k in omega arith)
      go (Some r) e is = row_needed l k (newest_passes (λ r. is_in_row r k) l.rows r e (ap (λ (flags : List Bool). slice_index_or flags k false) is
          ∙ get_or-map (nat_lt 0) l.last_live k 0 false (counted_within l.last_live k some) ∙ lt-ltb 0 (slice_index l.last_live k) some))

  open_stays : (live : List ℕ) (o : Option Bump) → ((k : ℕ) → is_bump o k ≡ true → is_needed l k ≡ true) → IsBump l.given live o → IsBump given live o
  open_stays live None needed a = a
  open_stays live (Some o) needed a = (a.0, stays o.chunk a.1 (needed o.chunk (eq-eqb o.chunk o.chunk refl)), a.2)

  rows_stay : (rows : List Row) → ((k : ℕ) → is_in_rows rows k ≡ true → is_needed l k ≡ true) → AllByRecursion (IsRowOf l.given) rows → AllByRecursion (IsRowOf given) rows
  rows_stay [] needed a = tt
  rows_stay (r ∷ rows) needed a = (
    record { wide = a.0.wide ∙ sym same; in_given = λ k t. stays k (a.0.in_given k t) (needed k (or_left (is_in_row r k) _ t)) },
    rows_stay rows (λ k t. needed k (or_right (is_in_row r k) _ t)) a.1,
  )

  pub freed_ledger : IsLedger (record l { given = given })
  freed_ledger = record {
    some = let m = h.some in omega arith;
    few = let m = h.few in omega arith;
    counted = h.counted ∙ sym same;
    known_since = h.known_since ∙ sym same;
    counted_last = h.counted_last ∙ sym same;
    some_passes = h.some_passes;
    few_passes = h.few_passes;
    counts = record { most = h.counts.most; in_given = λ k some. stays k (h.counts.in_given k some) (live_needed l k some) };
    last_counts = record { most = h.last_counts.most; in_given = λ k some. stays k (h.last_counts.in_given k some) (last_live_needed k some) };
    opened = open_stays l.live l.bump (bump_needed l) h.opened;
    last_opened = open_stays l.last_live l.fender (fender_needed l) h.last_opened;
    left_mutable = h.left_mutable;
    few_rows = h.few_rows;
    rising = h.rising;
    rows_given = rows_stay l.rows (row_needed l) h.rows_given;
    newest_row = h.newest_row;
  }

  pub freed_is : record l { given = given } ≡ freed l
  freed_is = ap (λ (flags : List Bool). record l { given = flags }) (fill_by_all (λ k. is_given l k && is_needed l k) given (length l.given) false same (λ k lt. each k))

-- which chunks are given once such chunks are freed
pub freed_by_chunk : (l : Ledger) (k : ℕ) → is_given (freed l) k ≡ (is_given l k && is_needed l k)
freed_by_chunk l k = elim (cases_lt k (length l.given)) [
  | inl lt ↦ get_or-map-range_with_len (λ k. is_given l k && is_needed l k) 0 (length l.given) k k false lt (omega arith)
  | inr past ↦ get_or_past (freed l).given k false (let n = length-map-range_with_len (λ k. is_given l k && is_needed l k) 0 (length l.given) in omega arith)
      ∙ ap (λ (b : Bool). b && is_needed l k) (sym (get_or_past l.given k false past))
]

-- The chunks that are found by sets.
by_sets : (given bump last live rows : Bool) → ((((given && not live) && not rows) && not bump) && not last) ≡ (given && not (bump || (last || (live || rows))))
by_sets false bump last live rows = refl
by_sets true bump last true rows = sym (ap not (right bump last))
  where
    right : (b l : Bool) → (b || (l || true)) ≡ true
    right true l = refl
    right false true = refl
    right false false = refl
by_sets true bump last false true = sym (ap not (right bump last))
  where
    right : (b l : Bool) → (b || (l || true)) ≡ true
    right true l = refl
    right false true = refl
    right false false = refl
by_sets true true last false false = refl
by_sets true false true false false = refl
by_sets true false false false false = refl

-- a chunk is in the row of the counts exactly where a cell of it counts
in_row_of : (live : List ℕ) (k : ℕ) → slice_index_or (row_of live) k false ≡ nat_lt 0 (slice_index live k)
in_row_of live k = elim (cases_lt k (length live)) [
  | inl l ↦ get_or-map (nat_lt 0) live k 0 false l
  | inr past ↦ get_or_past (row_of live) k false (subst (λ n. n ≤ k) (sym (length-map live (nat_lt 0))) past) ∙ ap (nat_lt 0) (sym (get_or_past live k 0 past))
]

pub found_is : (l : Ledger) (all counted unlive unkept unopen found : List Bool) (rows : List Row) → all ≡ l.given → counted ≡ row_of l.live → rows ≡ l.rows
    → ((k : ℕ) → slice_index_or unlive k false ≡ (slice_index_or all k false && not (slice_index_or counted k false)))
    → ((k : ℕ) → slice_index_or unkept k false ≡ (slice_index_or unlive k false && not (is_in_rows rows k)))
    → ((k : ℕ) → slice_index_or unopen k false ≡ (slice_index_or unkept k false && not (is_bump l.bump k)))
    → ((k : ℕ) → slice_index_or found k false ≡ (slice_index_or unopen k false && not (is_bump l.fender k)))
    → (k : ℕ) → slice_index_or found k false ≡ is_unreached l k
found_is l all counted unlive unkept unopen found rows is row are p q r s k =
    s k ∙ ap (λ b. b && not (is_bump l.fender k)) (
    r k ∙ ap (λ b. b && not (is_bump l.bump k)) (
    q k ∙ ap (λ (rs : List Row). slice_index_or unlive k false && not (is_in_rows rs k)) are ∙ ap (λ b. b && not (is_in_rows l.rows k)) (
    p k ∙ ap (λ (fs : List Bool). slice_index_or fs k false && not (slice_index_or counted k false)) is
    ∙ ap (λ b. is_given l k && not b) (ap (λ (fs : List Bool). slice_index_or fs k false) row ∙ in_row_of l.live k))))
    ∙ by_sets (is_given l k) (is_bump l.bump k) (is_bump l.fender k) (nat_lt 0 (slice_index l.live k)) (is_in_rows l.rows k)

-- what is left of the given chunks without these
left_over : (given needed : Bool) → (given && not (given && not needed)) ≡ (given && needed)
left_over false needed = refl
left_over true true = refl
left_over true false = refl

pub left_needed : (l : Ledger) (found given : List Bool) → ((k : ℕ) → slice_index_or found k false ≡ is_unreached l k) → ((k : ℕ) → slice_index_or given k false ≡ (is_given l k && not (slice_index_or found k false)))
    → (k : ℕ) → slice_index_or given k false ≡ (is_given l k && is_needed l k)
left_needed l found given each left k = left k ∙ ap (λ b. is_given l k && not b) (each k) ∙ left_over (is_given l k) (is_needed l k)

-- a chunk in a kept row stays
pub kept_stays : (l : Ledger) (k : ℕ) → is_in_rows l.rows k ≡ true → is_unreached l k ≡ false
kept_stays l k t = ap (λ b. is_given l k && not b) (row_needed l k t) ∙ none (is_given l k)
  where
    none : (b : Bool) → (b && false) ≡ false
    none true = refl
    none false = refl

-- where each given chunk has a cell that counts, nothing is unreached, and nothing is freed
pub none_unreached : (l : Ledger) → IsLedger l → count_by (nat_lt 0) l.live + free_count l ≡ length l.given → (k : ℕ) → is_unreached l k ≡ false
none_unreached l h all k = go (is_given l k) refl
  where
    go : (g : Bool) → is_given l k ≡ g → is_unreached l k ≡ false
    go false e = ap (λ b. b && not (is_needed l k)) e
    go true e =
        ap (λ b. b && not (is_needed l k)) e
        ∙ ap not (live_needed l k (given_used l.live l.given h.counted h.counts.in_given all k e))

all_stays : (given needed : Bool) → (given && not needed) ≡ false → given ≡ (given && needed)
all_stays false needed h = refl
all_stays true true h = refl
all_stays true false h = h

module _ (l : Ledger) (none : (k : ℕ) → is_unreached l k ≡ false) where
  pub each_stays : (k : ℕ) → is_given l k ≡ (is_given l k && is_needed l k)
  each_stays k = all_stays (is_given l k) (is_needed l k) (none k)

  pub nothing_freed : l ≡ freed l
  nothing_freed = ap (λ (flags : List Bool). record l { given = flags }) (fill_by_all (λ k. is_given l k && is_needed l k) l.given (length l.given) false refl (λ k lt. each_stays k))
