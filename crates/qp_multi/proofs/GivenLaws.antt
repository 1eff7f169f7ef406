-- How many chunks are given: by what was consumed, and by what kept versions have cells in.
use Rattle.std.proofs.Common.{◌≡◌, ◌∙◌, ℕ, zero, suc, ◌+◌, ◌*◌, ◌/◌, ◌<◌, ◌≤◌, ◌==◌, Bool, true, false, cond, ◌||◌, if◌then◌else◌, List, [], ◌∷◌, map, length, slice_index, slice_index_or, Option, Some, None, arith, refl, sym, ap, subst, inl, inr}
use Rattle.std.specs.Prelude.{count_by}
use Rattle.std.specs.List.{All, list_any}
use Rattle.std.proofs.lemmas.Bool.{cases_lt, true≢false}
use Rattle.std.proofs.lemmas.List.{get_or_past}
use Rattle.std.proofs.lemmas.List.Elements.{All-head, All-tail}
use Rattle.std.proofs.lemmas.List.FromFn.{get_or-map-range_with_len, length-map-range_with_len}
use Rattle.std.proofs.lemmas.List.Sums.{sum_by-cons}
use Rattle.std.proofs.lemmas.Nat.{mul-le}
use Rattle.pin_core.specs.declared.kept.CellAt.{CellAt}
use Rattle.pin_core.specs.declared.kept.Kept.{Kept}
use Rattle.trie_model.specs.Extents.{row}
use Rattle.chunk_usage.specs.declared.bump.Bump.{Bump}
use Rattle.chunk_usage.specs.declared.space.Shortage.{Shortage}
use Rattle.chunk_usage.specs.Ledger.{Ledger, Row, is_given, is_in_row, is_bump}
use Rattle.chunk_usage.specs.Handing.{Lacks, consumed, unconsumed}
use Rattle.chunk_usage.specs.Keeping.{is_in_rows}
use Rattle.shared_cells.specs.Cells.{Cells}
use Rattle.qp_multi.specs.Capacity.{given_count}
use Rattle.qp_multi.specs.Crowds.{row_size}
use Rattle.qp_multi.specs.Turns.{Agrees, cell_counts, current_image, row_for}
use Rattle.qp_multi.proofs.CauseLaws.{NeededBy, any_counts, open_once, open_one, some_row}
use Rattle.qp_multi.proofs.CountedLaws.{row_le}
use Rattle.qp_multi.proofs.Lists.{either_true}
use Rattle.qp_multi.proofs.MeetLaws.{row_add, set_few}
use Rattle.qp_multi.proofs.OpenLaws.{none_unconsumed}

-- ---- by what was consumed: 769 for each chunk, but for the bump chunk

unconsumed_few : (o : Option Bump) → unconsumed o ≤ 769
unconsumed_few None = omega arith
unconsumed_few (Some o) = omega arith

pub given_consumed : (l : Ledger) → 769 * given_count l ≤ consumed l + 769
given_consumed l = let a = unconsumed_few l.bump in omega arith

pub consumed_given : (l : Ledger) → consumed l ≤ 769 * given_count l
consumed_given l = omega arith

-- where there is no room all of them count whole
pub given_short : (l : Ledger) (f : Shortage) → Lacks l f → 769 * given_count l ≤ consumed l
given_short l f lacks = let a = none_unconsumed l.bump f.needed lacks.0.few_left lacks.2 in omega arith

-- ---- by rows

shifted : (w : ℕ → ℕ) (r k : ℕ) → w (r + suc k) ≡ w (suc r + k)
shifted w r k = let e : r + suc k ≡ suc r + k = omega arith in ap w e

at_first : (w : ℕ → ℕ) (r : ℕ) → w (r + 0) ≡ w r
at_first w r = let e : r + 0 ≡ r = omega arith in ap w e

none_set : (k : ℕ) → ◌≡◌ {A = Bool} (slice_index_or [] k false) true → ⊥
none_set k h = cc

-- a sum of ones, each for a flag that is set
pub flags_met : (flags : List Bool) (w : ℕ → ℕ) (r n : ℕ) → ((k : ℕ) → w k ≤ 1) → ((k : ℕ) → 1 ≤ w (r + k) → slice_index_or flags k false ≡ true) → row w r n ≤ count_by (λ (b : Bool). b) flags
flags_met flags w r zero few only = omega arith
flags_met [] w r (suc n) few only =
    let here : w r ≤ 0 = elim (cases_lt 0 (w r)) [
      | inl some ↦ absurd (none_set 0 (only 0 (let e = at_first w r in omega arith)))
      | inr none ↦ omega arith
    ] in
    let more = flags_met [] w (suc r) n few (λ k l. absurd (none_set (suc k) (only (suc k) (let e = shifted w r k in omega arith)))) in omega arith
flags_met (b ∷ flags) w r (suc n) few only =
    let c = sum_by-cons (λ (y : Bool). cond {A = ℕ} y 1 0) b flags in
    let more = flags_met flags w (suc r) n few (λ k l. only (suc k) (let e = shifted w r k in omega arith)) in
    let here = go b (only 0) in omega arith
  where
    go : (b : Bool) → (1 ≤ w (r + 0) → b ≡ true) → w r ≤ cond {A = ℕ} b 1 0
    go true h = few r
    go false h = elim (cases_lt 0 (w r)) [
      | inl some ↦ absurd (true≢false (sym (h (let e = at_first w r in omega arith))))
      | inr none ↦ omega arith
    ]

one_most : (b : Bool) → cond {A = ℕ} b 1 0 ≤ 1
one_most true = omega arith
one_most false = omega arith

one_only : (b : Bool) → 1 ≤ cond {A = ℕ} b 1 0 → b ≡ true
one_only true h = refl
one_only false h = absurd (omega arith)

row_met : (r : Row) (n : ℕ) → row (λ k. if is_in_row r k then 1 else 0) 0 n ≤ row_size r
row_met r n = flags_met r.chunks (λ k. if is_in_row r k then 1 else 0) 0 n (λ k. one_most (is_in_row r k))
    (λ k l. let e : 0 + k ≡ k = omega arith in subst (λ (i : ℕ). is_in_row r i ≡ true) e (one_only (is_in_row r (0 + k)) l))

-- the chunks of some row are at most as many as all rows have together
rows_met : (rows : List Row) (most n : ℕ) → All (λ r. row_size r ≤ most) rows → row (some_row rows) 0 n ≤ length rows * most
rows_met [] most n few = let a = none_there 0 n in omega arith
  where
    none_there : (r n : ℕ) → row (λ k. 0) r n ≤ 0
    none_there r zero = omega arith
    none_there r (suc n) = let a = none_there (suc r) n in omega arith
rows_met (r ∷ rows) most n few =
    let a = row_le (some_row (r ∷ rows)) (λ k. (if is_in_row r k then 1 else 0) + some_row rows k) (λ k. any_counts (is_in_row r k) (is_in_rows rows k)) 0 n in
    let b = row_add (λ k. if is_in_row r k then 1 else 0) (some_row rows) 0 n in
    let c = row_met r n in
    let d = All-head (λ (r : Row). row_size r ≤ most) r rows few in
    let e = rows_met rows most n (All-tail (λ (r : Row). row_size r ≤ most) r rows few) in
    let m : suc (length rows) * most ≡ most + length rows * most = omega arith in omega arith

-- ---- at rest each given chunk is in some row, or open

count_some : (p : CellAt → Bool) (image : List CellAt) → 0 < count_by p image → list_any p image ≡ true
count_some p [] h = absurd (omega arith)
count_some p (c ∷ image) h = go (p c) (let e = sum_by-cons (λ (x : CellAt). cond {A = ℕ} (p x) 1 0) c image in omega arith) (count_some p image)
  where
    go : (b : Bool) → 0 < cond {A = ℕ} b 1 0 + count_by p image → (0 < count_by p image → list_any p image ≡ true) → (b || list_any p image) ≡ true
    go true h more = refl
    go false h more = more (omega arith)

last_row : (chunks : ℕ) (kept : List Kept) (k : ℕ) → k < chunks → list_any (λ (c : CellAt). c.at / 1024 == k) (current_image kept) ≡ true → is_in_rows (map (row_for chunks) kept) k ≡ true
last_row chunks [] k inside h = absurd (true≢false (sym h))
last_row chunks (x ∷ []) k inside h =
    either_true (is_in_row (row_for chunks x) k) false (inl (get_or-map-range_with_len (λ chunk. list_any (λ (c : CellAt). c.at / 1024 == chunk) x.image) 0 chunks k k false inside (omega arith) ∙ h))
last_row chunks (x ∷ (y ∷ kept)) k inside h = either_true (is_in_row (row_for chunks x) k) _ (inr (last_row chunks (y ∷ kept) k inside h))

counted_within : (chunks : ℕ) (image : List CellAt) (k : ℕ) → 0 < slice_index (cell_counts chunks image) k → k < chunks
counted_within chunks image k some = elim (cases_lt k chunks) [
  | inl inside ↦ inside
  | inr past ↦ absurd (let n = length-map-range_with_len (λ chunk. count_by (λ (c : CellAt). c.at / 1024 == chunk) image) 0 chunks in
      let z = get_or_past (cell_counts chunks image) k 0 (omega arith) in omega arith)
]

counted_in_rows : (cells : Cells) (u : Ledger) (count : ℕ) → Agrees cells u count → (k : ℕ) → 0 < slice_index u.last_live k → is_in_rows u.rows k ≡ true
counted_in_rows cells u count a k some =
    let image = current_image cells.kept in
    let here : 0 < slice_index (cell_counts cells.chunks image) k = (let e = ap (λ (xs : List ℕ). slice_index xs k) a.last_live in omega arith) in
    let inside = counted_within cells.chunks image k here in
    let counts = get_or-map-range_with_len (λ chunk. count_by (λ (c : CellAt). c.at / 1024 == chunk) image) 0 cells.chunks k k 0 inside (omega arith) in
    ap (λ (rows : List Row). is_in_rows rows k) a.rows ∙ last_row cells.chunks cells.kept k inside (count_some (λ (c : CellAt). c.at / 1024 == k) image (omega arith))

abbrev reasons : Ledger → ℕ → ℕ
reasons l k = (open_one l.bump k + open_one l.fender k) + some_row l.rows k

set_counts : (b : Bool) → b ≡ true → ◌≡◌ {A = ℕ} (cond b 1 0) 1
set_counts b h = ap (λ (x : Bool). cond {A = ℕ} x 1 0) h

needed_counts : (l : Ledger) (k : ℕ) → ((k : ℕ) → 0 < slice_index l.live k → is_in_rows l.rows k ≡ true) → NeededBy l k → 1 ≤ reasons l k
needed_counts l k in_rows (inl (inl h)) = let e = set_counts (is_bump l.bump k) h in omega arith
needed_counts l k in_rows (inl (inr h)) = let e = set_counts (is_bump l.fender k) h in omega arith
needed_counts l k in_rows (inr (inl h)) = let e = set_counts (is_in_rows l.rows k) (in_rows k h) in omega arith
needed_counts l k in_rows (inr (inr h)) = let e = set_counts (is_in_rows l.rows k) h in omega arith

pub given_at_rest : (cells : Cells) (l : Ledger) (count most : ℕ) → Agrees cells l count → l.live ≡ l.last_live → ((k : ℕ) → is_given l k ≡ true → NeededBy l k) → All (λ r. row_size r ≤ most) l.rows → given_count l ≤ (count + 1) * most + 2
given_at_rest cells l count most agrees rest needed few =
    let n = length l.given in
    let in_rows : (k : ℕ) → 0 < slice_index l.live k → is_in_rows l.rows k ≡ true = λ k some. counted_in_rows cells l count agrees k (let e = ap (λ (xs : List ℕ). slice_index xs k) rest in omega arith) in
    let a = set_few l.given (reasons l) (λ k t. needed_counts l k in_rows (needed k t)) in
    let b = row_add (λ k. open_one l.bump k + open_one l.fender k) (some_row l.rows) 0 n in
    let c = row_add (open_one l.bump) (open_one l.fender) 0 n in
    let d = open_once l.bump n in
    let e = open_once l.fender n in
    let f = rows_met l.rows most n few in
    let g = mul-le (length l.rows) most (count + 1) most agrees.few_rows (omega arith) in omega arith
