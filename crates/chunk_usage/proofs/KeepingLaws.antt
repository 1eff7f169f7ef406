-- Each change of the kept versions leaves a ledger.
use Rattle.std.proofs.Common.{◌≡◌, ◌≢◌, ℕ, ◌+◌, ◌/◌, ◌<◌, ◌≤◌, nat_lt, Bool, true, false, not, List, [], ◌∷◌, ◌++◌, length, replicate, slice_index, slice_index_or, refl, ◌∙◌, sym, ap, subst, inl, inr, arith, length-append}
use Rattle.std.specs.Prelude.{Option, None, Some, IfSome, cond}
use Rattle.std.specs.List.{AllByRecursion, filter}
use Rattle.std.proofs.lemmas.Bool.{cases_lt}
use Rattle.std.proofs.lemmas.Bool.Decides.{nat_tests}
use Rattle.std.proofs.lemmas.List.{length-map, length-replicate, get_or-map, get_or-replicate, get_or_past}
use Rattle.chunk_usage.specs.Ledger.{Row, Ledger, IsLedger, AreCounts, IsRowOf, unused, Rising, IsNewest, newest, row_of}
use Rattle.chunk_usage.specs.Counting.{Counted}
use Rattle.chunk_usage.specs.Keeping.{AreOlder, frozen, is_row_of}
use Rattle.chunk_sets.proofs.FlagLemmas.{set_within}

-- a row put behind older ones
rising_more : (rows : List Row) (r : Row) → Rising rows → AreOlder rows r.version → Rising (rows ++ r ∷ [])
rising_more [] r h older = (tt, tt)
rising_more (s ∷ rows) r h older = (all_more rows h.0, rising_more rows r h.1 older.1)
  where
    all_more : (rows : List Row) → AllByRecursion (λ t. s.version < t.version) rows → AllByRecursion (λ t. s.version < t.version) (rows ++ r ∷ [])
    all_more [] a = (older.0, tt)
    all_more (t ∷ rows) a = (a.0, all_more rows a.1)

rows_more : (given : List Bool) (rows : List Row) (r : Row) → AllByRecursion (IsRowOf given) rows → IsRowOf given r → AllByRecursion (IsRowOf given) (rows ++ r ∷ [])
rows_more given [] r h new = (new, tt)
rows_more given (s ∷ rows) r h new = (h.0, rows_more given rows r h.1 new)

newest_more : (rows : List Row) (r : Row) → newest (rows ++ r ∷ []) ≡ Some r
newest_more [] r = refl
newest_more (s ∷ []) r = refl
newest_more (s ∷ t ∷ rows) r = newest_more (t ∷ rows) r

-- a chunk in the row of some counts has a cell that counts
row_counts : (live : List ℕ) (k : ℕ) → slice_index_or (row_of live) k false ≡ true → 0 < slice_index live k
row_counts live k t =
    let w : k < length live = subst (λ (n : ℕ). k < n) (length-map live (nat_lt 0)) (set_within (row_of live) k t) in
    let e = sym (get_or-map (nat_lt 0) live k 0 false w) ∙ t in
    grind (arith, nat_tests, e)

-- flags that are all clear
none_set : (n k : ℕ) → slice_index_or (replicate n false) k false ≡ false
none_set n k = elim (cases_lt k n) [ inl l ↦ get_or-replicate n k false false l | inr past ↦ get_or_past (replicate n false) k false (let e = length-replicate n false in omega arith) ]

pub frozen_ledger : (l : Ledger) → IsLedger l → (version : ℕ) → length l.rows < l.passes + 2 → AreOlder l.rows version → IsLedger (frozen l version)
frozen_ledger l h version room older = record {
  some = h.some;
  few = h.few;
  counted = h.counted;
  known_since = length-replicate (length l.since) false ∙ h.known_since;
  counted_last = h.counted;
  some_passes = h.some_passes;
  few_passes = h.few_passes;
  counts = h.counts;
  last_counts = h.counts;
  opened = h.opened;
  last_opened = h.opened;
  left_mutable = λ q e f. let z = none_set (length l.since) (q / 1024) in grind (arith, nat_tests, z, e);
  few_rows = let n = length-append l.rows (record { version = version; chunks = row_of l.live } ∷ []) in omega arith;
  rising = rising_more l.rows _ h.rising older;
  rows_given = rows_more l.given l.rows _ h.rows_given (record { wide = length-map l.live (nat_lt 0) ∙ h.counted; in_given = λ k t. h.counts.in_given k (row_counts l.live k t) });
  newest_row = subst (IsNewest l.live) (sym (newest_more l.rows _)) refl;
}

-- a ledger whose fields are those of the frozen one
pub frozen_alike : (l m : Ledger) → l ≡ m → IsLedger l → (version : ℕ) → length m.rows < m.passes + 2 → AreOlder m.rows version → (live : List ℕ) (since : List Bool) (last : List ℕ) (rows : List Row)
    → live ≡ l.live → since ≡ replicate (length l.since) false → last ≡ l.live → rows ≡ l.rows ++ record { version = version; chunks = row_of l.live } ∷ []
    → IsLedger (record l { live = live; since = since; last_live = last; fender = l.bump; rows = rows })
frozen_alike l m same h version room older live since last rows z a b c =
    let e : record l { live = live; since = since; last_live = last; fender = l.bump; rows = rows } ≡ frozen l version = cc in
    subst IsLedger (sym e) (frozen_ledger l h version (subst (λ (n : Ledger). length n.rows < n.passes + 2) (sym same) room) (subst (λ (n : Ledger). AreOlder n.rows version) (sym same) older))

some_newest : (r : Row) (rows : List Row) → None ≡ newest (r ∷ rows) → ⊥
some_newest r [] e = cc
some_newest r (s ∷ rows) e = some_newest s rows e

-- what is left of rows where only some stay
module _ (stays : Row → Bool) where
  all_left : (P : Row → Type 0) (rows : List Row) → AllByRecursion P rows → AllByRecursion P (filter stays rows)
  all_left P [] h = tt
  all_left P (r ∷ rows) h = go (stays r) (all_left P rows h.1)
    where
      go : (b : Bool) → AllByRecursion P (filter stays rows) → AllByRecursion P (cond b (r ∷ filter stays rows) (filter stays rows))
      go true rest = (h.0, rest)
      go false rest = rest

  rising_left : (rows : List Row) → Rising rows → Rising (filter stays rows)
  rising_left [] h = tt
  rising_left (r ∷ rows) h = go (stays r) (rising_left rows h.1)
    where
      go : (b : Bool) → Rising (filter stays rows) → Rising (cond b (r ∷ filter stays rows) (filter stays rows))
      go true rest = (all_left (λ (s : Row). r.version < s.version) rows h.0, rest)
      go false rest = rest

  fewer_left : (rows : List Row) → length (filter stays rows) ≤ length rows
  fewer_left [] = omega arith
  fewer_left (r ∷ rows) = go (stays r) (fewer_left rows)
    where
      go : (b : Bool) → length (filter stays rows) ≤ length rows → length (cond b (r ∷ filter stays rows) (filter stays rows)) ≤ length (r ∷ rows)
      go true rest = omega arith
      go false rest = omega arith

  newest_left : (rows : List Row) → IfSome (newest rows) (λ r. stays r ≡ true) → newest (filter stays rows) ≡ newest rows
  newest_left [] last = refl
  newest_left (r ∷ []) last = ap (λ (b : Bool). newest (cond b (r ∷ []) [])) last
  newest_left (r ∷ s ∷ rows) last = go (stays r) (filter stays (s ∷ rows)) (newest_left (s ∷ rows) last)
    where
      go : (b : Bool) (rest : List Row) → newest rest ≡ newest (s ∷ rows) → newest (cond b (r ∷ rest) rest) ≡ newest (s ∷ rows)
      go false rest e = e
      go true [] e = absurd (some_newest s rows e)
      go true (t ∷ rest) e = e

  left_ledger : (l : Ledger) → IsLedger l → IfSome (newest l.rows) (λ r. stays r ≡ true) → IsLedger (record l { rows = filter stays l.rows })
  left_ledger l h last = record {
    some = h.some;
    few = h.few;
    counted = h.counted;
    known_since = h.known_since;
    counted_last = h.counted_last;
    some_passes = h.some_passes;
    few_passes = h.few_passes;
    counts = h.counts;
    last_counts = h.last_counts;
    opened = h.opened;
    last_opened = h.last_opened;
    left_mutable = h.left_mutable;
    few_rows = let n = fewer_left l.rows in let m = h.few_rows in omega arith;
    rising = rising_left l.rows h.rising;
    rows_given = all_left (IsRowOf l.given) l.rows h.rows_given;
    newest_row = subst (IsNewest l.last_live) (sym (newest_left l.rows last)) h.newest_row;
  }

  -- the same of a ledger whose rows are those
  pub left_alike : (l m : Ledger) → l ≡ m → IsLedger l → IfSome (newest m.rows) (λ r. stays r ≡ true) → (rows : List Row) → rows ≡ filter stays l.rows → IsLedger (record l { rows = rows })
  left_alike l m same h last rows e =
      subst (λ (rs : List Row). IsLedger (record l { rows = rs })) (sym e) (left_ledger l h (subst (λ (n : Ledger). IfSome (newest n.rows) (λ r. stays r ≡ true)) (sym same) last))

-- another version than the newest's leaves the newest row
pub others_newest : (rows : List Row) (version : ℕ) → IfSome (newest rows) (λ r. r.version ≢ version) → IfSome (newest rows) (λ r. not (is_row_of version r) ≡ true)
others_newest rows version other = go (newest rows) other
  where
    go : (o : Option Row) → IfSome o (λ r. r.version ≢ version) → IfSome o (λ r. not (is_row_of version r) ≡ true)
    go None h = h
    go (Some r) h = not_so (is_row_of version r) (λ e. h (grind (arith, nat_tests)))
      where
        not_so : (b : Bool) → (b ≡ true → ⊥) → not b ≡ true
        not_so true n = absurd (n refl)
        not_so false n = refl

-- nothing is given, and nothing is kept
unused_ledger : (chunks passes : ℕ) → 1 ≤ chunks → chunks ≤ 4096 → 1 ≤ passes → passes ≤ 64 → IsLedger (unused chunks passes)
unused_ledger chunks passes some few some_passes few_passes = record {
  some = let e = length-replicate chunks false in omega arith;
  few = let e = length-replicate chunks false in omega arith;
  counted = length-replicate chunks 0 ∙ sym (length-replicate chunks false);
  known_since = refl;
  counted_last = length-replicate chunks 0 ∙ sym (length-replicate chunks false);
  some_passes = some_passes;
  few_passes = few_passes;
  counts = none;
  last_counts = none;
  opened = tt;
  last_opened = tt;
  left_mutable = λ q e f. cc;
  few_rows = omega arith;
  rising = tt;
  rows_given = tt;
  newest_row = zero;
}
  where
    zero : (k : ℕ) → slice_index (replicate chunks 0) k ≡ 0
    zero k = elim (cases_lt k chunks) [ inl l ↦ get_or-replicate chunks k 0 0 l | inr past ↦ get_or_past (replicate chunks 0) k 0 (subst (λ n. n ≤ k) (sym (length-replicate chunks 0)) past) ]

    none : AreCounts (replicate chunks false) (replicate chunks 0)
    none = record { most = λ k. let z = zero k in omega arith; in_given = λ k some. absurd (let z = zero k in omega arith) }

pub unused_alike : (chunks passes : ℕ) → 1 ≤ chunks → chunks ≤ 4096 → 1 ≤ passes → passes ≤ 64 → (counts : Counted) (given since : List Bool)
    → counts ≡ record { live = replicate chunks 0; last = replicate chunks 0 } → given ≡ replicate chunks false → since ≡ replicate chunks false
    → IsLedger (record { live = counts.live; given = given; since = since; bump = None; last_live = counts.last; fender = None; rows = []; passes = passes })
unused_alike chunks passes some few some_passes few_passes counts given since a b c =
    let e : record { live = counts.live; given = given; since = since; bump = None; last_live = counts.last; fender = None; rows = []; passes = passes } ≡ unused chunks passes = cc in
    subst IsLedger (sym e) (unused_ledger chunks passes some few some_passes few_passes)
