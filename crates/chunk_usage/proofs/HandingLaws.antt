-- Each change of a ledger leaves a ledger.
use Rattle.std.proofs.Common.{◌≡◌, ℕ, ◌/◌, ◌%◌, ◌<◌, Bool, true, false, List, [], ◌∷◌, length, slice_index, slice_index_or, slice_set, ◌∙◌, sym, ap, subst, inl, inr, arith}
use Rattle.std.specs.Prelude.{Option, None, Some, nat_le, ◌==◌, ◌||◌, ◌&&◌}
use Rattle.std.specs.List.{AllByRecursion}
use Rattle.std.proofs.lemmas.Bool.{cases_lt}
use Rattle.std.proofs.lemmas.Bool.Decides.{nat_tests}
use Rattle.std.proofs.lemmas.List.{length-set, get_or-set_same}
use Rattle.std.proofs.lemmas.Grind.{get_or-set_at}
use Rattle.chunk_usage.specs.declared.bump.Bump.{Bump}
use Rattle.chunk_usage.specs.Ledger.{Row, Ledger, IsLedger, AreCounts, IsBump, IsRowOf, is_bump, is_mutable, filled}
use Rattle.chunk_usage.specs.Handing.{with_bump}
use Rattle.chunk_sets.proofs.FlagLemmas.{set_stays}

-- what is given in a list of chunks is given in the other
abbrev Grown : List Bool → List Bool → Type 0
Grown given new = (k : ℕ) → slice_index_or given k false ≡ true → slice_index_or new k false ≡ true

counts_grown : (given new : List Bool) (live : List ℕ) → Grown given new → AreCounts given live → AreCounts new live
counts_grown given new live g h = record { most = h.most; in_given = λ k l. g k (h.in_given k l) }

open_grown : (given new : List Bool) (live : List ℕ) (o : Option Bump) → Grown given new → IsBump given live o → IsBump new live o
open_grown given new live None g h = h
open_grown given new live (Some o) g h = (h.0, g o.chunk h.1, h.2)

rows_grown : (given new : List Bool) (rows : List Row) → length new ≡ length given → Grown given new → AllByRecursion (IsRowOf given) rows → AllByRecursion (IsRowOf new) rows
rows_grown given new [] e g h = h
rows_grown given new (r ∷ rows) e g h = (record { wide = h.0.wide ∙ sym e; in_given = λ k t. g k (h.0.in_given k t) }, rows_grown given new rows e g h.1)

differ : true ≡ false → ⊥
differ e = cc

-- a free chunk becomes the open one
module _ (l : Ledger) (h : IsLedger l) (c : ℕ) (within : c < length l.given) (free : slice_index_or l.given c false ≡ false) where
  grown : Grown l.given (slice_set l.given c true)
  grown k t = set_stays l.given c k t

  -- none of its cells counts
  none_live : slice_index l.live c ≡ 0
  none_live = elim (cases_lt 0 (slice_index l.live c)) [
    | inl some ↦ (let t = h.counts.in_given c some in absurd (differ (sym t ∙ free)))
    | inr none ↦ omega arith
  ]

  pub opened_mutable : (q : ℕ) → (c == q / 1024) ≡ true → is_mutable (with_bump l c) q ≡ true
  opened_mutable q e = ap (λ b. b || (is_bump l.fender (q / 1024) && nat_le (filled l.fender) (q % 1024))) (get_or-set_at l.since c (q / 1024) true false (same q e) (let n = h.known_since in omega arith))
    where
      same : (q : ℕ) → (c == q / 1024) ≡ true → q / 1024 ≡ c
      same q e = grind (arith, nat_tests)

  pub with_bump_ledger : IsLedger (with_bump l c)
  with_bump_ledger = record {
    some = let n = length-set l.given c true in let m = h.some in omega arith;
    few = let n = length-set l.given c true in let m = h.few in omega arith;
    counted = h.counted ∙ sym (length-set l.given c true);
    known_since = length-set l.since c true ∙ h.known_since ∙ sym (length-set l.given c true);
    counted_last = h.counted_last ∙ sym (length-set l.given c true);
    some_passes = h.some_passes;
    few_passes = h.few_passes;
    counts = counts_grown l.given _ l.live grown h.counts;
    last_counts = counts_grown l.given _ l.last_live grown h.last_counts;
    opened = (omega arith, get_or-set_same l.given c true false within, let z = none_live in omega arith);
    last_opened = open_grown l.given _ l.last_live l.fender grown h.last_opened;
    left_mutable = λ q e f. opened_mutable q e;
    few_rows = h.few_rows;
    rising = h.rising;
    rows_given = rows_grown l.given _ l.rows (length-set l.given c true) grown h.rows_given;
    newest_row = h.newest_row;
  }

  -- a ledger whose flags are those
  pub with_bump_alike : (given since : List Bool) → given ≡ slice_set l.given c true → since ≡ slice_set l.since c true → IsLedger (record l { given = given; since = since; bump = Some (record { chunk = c; filled = 0 }) })
  with_bump_alike given since a b =
      let e : record l { given = given; since = since; bump = Some (record { chunk = c; filled = 0 }) } ≡ with_bump l c = cc in
      subst IsLedger (sym e) with_bump_ledger
