-- A table is crowded only by what is kept: what a transaction's steps leave, where no set has many cells.
use Rattle.std.proofs.Common.{◌≡◌, ◌∙◌, ◌⊎◌, ⊎_elim, ℕ, zero, suc, min, ◌+◌, ◌-◌, ◌*◌, ◌/◌, ◌<◌, ◌≤◌, nat_lt, Bool, true, false, not, cond, ◌||◌, ◌&&◌, if◌then◌else◌, List, [], ◌∷◌, ◌++◌, length, slice_index, slice_index_or, Option, Some, None, arith, refl, sym, ap, subst, inl, inr}
use Rattle.std.specs.Prelude.{count_by}
use Rattle.std.specs.List.{range_with_len, sum_by}
use Rattle.std.proofs.lemmas.Bool.{cases_lt, true≢false}
use Rattle.std.proofs.lemmas.Bool.Decides.{nat_tests}
use Rattle.std.proofs.lemmas.List.Elements.{All-filter, All-push, All-head, All-tail}
use Rattle.std.proofs.lemmas.List.Sums.{sum_by-cons}
use Rattle.trie_model.specs.Extents.{row}
use Rattle.chunk_usage.specs.declared.bump.Bump.{Bump}
use Rattle.chunk_usage.specs.declared.space.Shortage.{Shortage}
use Rattle.chunk_usage.specs.Ledger.{Ledger, Frozen, Row, IsBump, IsLedger, frozen_part, free_count, is_bump, is_given, is_in_row, reserve_of, reserved, row_of}
use Rattle.chunk_usage.specs.Handing.{Lacks, consumed}
use Rattle.chunk_usage.specs.Keeping.{closed, freed, frozen, full, is_among, is_in_rows, is_needed, narrowed, restored}
use Rattle.qp_multi.specs.Capacity.{given_count}
use Rattle.qp_multi.specs.Crowds.{RestsSmall, RowsAreFew, WorksSmall, base_count, is_met, met_count, met_in, most_met, row_size, spread}
use Rattle.qp_multi.specs.Movings.{FewThin, is_thin}
use Rattle.qp_multi.specs.Tries.{Grown, Spares}
use Rattle.qp_multi.proofs.CauseLaws.{NeededBy, any_counts, live_of, open_once, open_one, some_row}
use Rattle.qp_multi.proofs.CountedLaws.{row_le}
use Rattle.qp_multi.proofs.GivenLaws.{given_short, consumed_given}
use Rattle.qp_multi.proofs.MeetLaws.{row_add, set_few}
use Rattle.qp_multi.proofs.OpenLaws.{clear, clear_is}
use Rattle.qp_multi.proofs.RisenLaws.{risen_few}
use Rattle.qp_multi.proofs.WordsLaws.{freed_chunks}
use Rattle.chunk_usage.proofs.RecyclingLaws.{freed_by_chunk}
use Rattle.trie_model.proofs.ExtentLaws.{first_true, both_true}
use Rattle.chunk_usage.specs.Counting.{is_low, is_sparse}
use Rattle.qp_multi.proofs.ThinLaws.{set_size}

-- ---- a transaction begins

pub full_bump : (b : Option Bump) (k : ℕ) → is_bump (full b) k ≡ is_bump b k
full_bump None k = refl
full_bump (Some o) k = refl

row_same : (v w : ℕ → ℕ) → ((k : ℕ) → v k ≡ w k) → (r n : ℕ) → row v r n ≡ row w r n
row_same v w h r zero = refl
row_same v w h r (suc n) = let a = h r in let b = row_same v w h (suc r) n in omega arith

pub begins_small : (c : ℕ) (u : Ledger) → u.live ≡ u.last_live → ((k : ℕ) → is_bump u.bump k ≡ is_bump u.fender k) → RestsSmall c u → WorksSmall c u
begins_small c u live bump r = record {
  rests = r;
  met = λ less.
      let e = row_same (λ k. if is_met u.live u.bump k then 1 else 0) (λ k. if is_met u.last_live u.fender k then 1 else 0)
      (λ k. ap (λ (b : Bool). cond {A = ℕ} (b || nat_lt 0 (slice_index u.live k)) 1 0) (bump k)
      ∙ ap (λ (l : List ℕ). cond {A = ℕ} (is_bump u.fender k || nat_lt 0 (slice_index l k)) 1 0) live) 0 (length u.given) in
      let b = r.base in omega arith;
}

pub closed_rests : (c : ℕ) (u : Ledger) → RestsSmall c u → RestsSmall c (closed u)
closed_rests c u r = record { rows = r.rows; base = r.base }

-- ---- an operation was tried, with or without success

pub base_same : (u n : Ledger) → length n.given ≡ length u.given → frozen_part n ≡ frozen_part u → base_count n ≡ base_count u
base_same u n wide same =
    ap (λ (m : ℕ). met_in m n.last_live n.fender) wide
    ∙ ap (λ (f : Frozen). met_in (length u.given) f.live f.bump) same

pub rows_same : (c : ℕ) (u n : Ledger) → frozen_part n ≡ frozen_part u → RowsAreFew c u.rows → RowsAreFew c n.rows
rows_same c u n same few = subst (RowsAreFew c) (sym (ap (λ (f : Frozen). f.rows) same)) few

still_met : (r f f_new m m_new most : ℕ) → min f_new r ≡ min f r → m_new + f_new ≤ m + f → (f < r → m ≤ most) → f_new < r → m_new ≤ most
still_met r f f_new m m_new most same spread was less = elim (cases_lt f r) [
  | inl short ↦ (let a = was short in omega arith)
  | inr whole ↦ absurd (omega arith)
]

pub rests_grown : (c : ℕ) (u n : Ledger) → Grown u n → RestsSmall c u → RestsSmall c n
rests_grown c u n g r = record { rows = rows_same c u n g.frozen r.rows; base = let b = base_same u n g.wide g.frozen in let a = r.base in omega arith }

pub tried_small : (c : ℕ) (u n : Ledger) → Spares u n → spread n ≤ spread u → WorksSmall c u → WorksSmall c n
tried_small c u n s few w =
    let e : reserve_of n ≡ reserve_of u = ap (λ (k : ℕ). k / 4) s.grown.wide in
    record {
      rests = rests_grown c u n s.grown w.rests;
      met = λ less. still_met (reserve_of u) (free_count u) (free_count n) (met_count u) (met_count n) (most_met c) (let r = s.reserve in subst (λ (k : ℕ). min (free_count n) k ≡ reserved u) e r) few w.met (omega arith);
    }

-- ---- a try found no room, and what it left is small: so the kept versions are many, or the request is large

met_one : (b x : Bool) → (b ≡ true) ⊎ (x ≡ true) → ◌≡◌ {A = ℕ} (if b || x then 1 else 0) 1
met_one true x h = refl
met_one false true h = refl
met_one false false h = absurd (⊎_elim (λ (e : false ≡ true). true≢false (sym e)) (λ (e : false ≡ true). true≢false (sym e)) h)

abbrev reasons : Ledger → ℕ → ℕ
reasons l k = ((if is_met l.live l.bump k then 1 else 0) + open_one l.fender k) + some_row l.rows k

set_counts : (b : Bool) → b ≡ true → ◌≡◌ {A = ℕ} (cond b 1 0) 1
set_counts b h = ap (λ (x : Bool). cond {A = ℕ} x 1 0) h

counts_of : (l : Ledger) (k : ℕ) → NeededBy l k → 1 ≤ reasons l k
counts_of l k (inl (inl h)) = let e = met_one (is_bump l.bump k) (nat_lt 0 (slice_index l.live k)) (inl h) in omega arith
counts_of l k (inl (inr h)) = let e = set_counts (is_bump l.fender k) h in omega arith
counts_of l k (inr (inl h)) = let e = met_one (is_bump l.bump k) (nat_lt 0 (slice_index l.live k)) (inr (grind (arith, nat_tests))) in omega arith
counts_of l k (inr (inr h)) = let e = set_counts (is_in_rows l.rows k) h in omega arith

-- sums over rows, each with its own size

shifted : (w : ℕ → ℕ) (r k : ℕ) → w (r + suc k) ≡ w (suc r + k)
shifted w r k = let e : r + suc k ≡ suc r + k = omega arith in ap w e

at_first : (w : ℕ → ℕ) (r : ℕ) → w (r + 0) ≡ w r
at_first w r = let e : r + 0 ≡ r = omega arith in ap w e

none_set : (k : ℕ) → ◌≡◌ {A = Bool} (slice_index_or [] k false) true → ⊥
none_set k h = cc

flags_met : (flags : List Bool) (w : ℕ → ℕ) (r n : ℕ) → ((k : ℕ) → w k ≤ 1) → ((k : ℕ) → 1 ≤ w (r + k) → slice_index_or flags k false ≡ true) → row w r n ≤ count_by (λ (b : Bool). b) flags
flags_met flags w r zero few only = omega arith
flags_met [] w r (suc n) few only =
    let here : w r ≤ 0 = elim (cases_lt 0 (w r)) [
      | inl some ↦ absurd (none_set 0 (only 0 (let e = at_first w r in omega arith)))
      | inr none ↦ omega arith
    ] in
    let more = flags_met [] w (suc r) n few (λ k l. absurd (none_set (suc k) (only (suc k) (let e = shifted w r k in omega arith)))) in omega arith
flags_met (b ∷ flags) w r (suc n) few only =
    let c = sum_by-cons (λ (y : Bool). cond {A = ℕ} y 1 0) b flags in
    let more = flags_met flags w (suc r) n few (λ k l. only (suc k) (let e = shifted w r k in omega arith)) in
    let here = go b (only 0) in omega arith
  where
    go : (b : Bool) → (1 ≤ w (r + 0) → b ≡ true) → w r ≤ cond {A = ℕ} b 1 0
    go true h = few r
    go false h = elim (cases_lt 0 (w r)) [
      | inl some ↦ absurd (true≢false (sym (h (let e = at_first w r in omega arith))))
      | inr none ↦ omega arith
    ]

one_most : (b : Bool) → cond {A = ℕ} b 1 0 ≤ 1
one_most true = omega arith
one_most false = omega arith

one_only : (b : Bool) → 1 ≤ cond {A = ℕ} b 1 0 → b ≡ true
one_only true h = refl
one_only false h = absurd (omega arith)

row_met : (r : Row) (n : ℕ) → row (λ k. if is_in_row r k then 1 else 0) 0 n ≤ row_size r
row_met r n = flags_met r.chunks (λ k. if is_in_row r k then 1 else 0) 0 n (λ k. one_most (is_in_row r k))
    (λ k l. let e : 0 + k ≡ k = omega arith in subst (λ (i : ℕ). is_in_row r i ≡ true) e (one_only (is_in_row r (0 + k)) l))

zeros : (r n : ℕ) → row (λ k. 0) r n ≤ 0
zeros r zero = omega arith
zeros r (suc n) = let a = zeros (suc r) n in omega arith

pub rows_sum : (rows : List Row) (n : ℕ) → row (some_row rows) 0 n ≤ sum_by row_size rows
rows_sum [] n = let a = zeros 0 n in omega arith
rows_sum (r ∷ rows) n =
    let a = row_le (some_row (r ∷ rows)) (λ k. (if is_in_row r k then 1 else 0) + some_row rows k) (λ k. any_counts (is_in_row r k) (is_in_rows rows k)) 0 n in
    let b = row_add (λ k. if is_in_row r k then 1 else 0) (some_row rows) 0 n in
    let c = row_met r n in
    let e = rows_sum rows n in
    let f = sum_by-cons row_size r rows in omega arith

pub sum_few : (c : ℕ) (rows : List Row) → RowsAreFew c rows → sum_by row_size rows ≤ length rows * most_met c
sum_few c [] few = omega arith
sum_few c (r ∷ rows) few =
    let d = All-head (λ (r : Row). row_size r ≤ most_met c) r rows few in
    let e = sum_few c rows (All-tail (λ (r : Row). row_size r ≤ most_met c) r rows few) in
    let f = sum_by-cons row_size r rows in
    let m : suc (length rows) * most_met c ≡ most_met c + length rows * most_met c = omega arith in omega arith

-- what freeing leaves
pub given_needed : (l : Ledger) → ((k : ℕ) → is_given l k ≡ true → NeededBy l k) → given_count l ≤ met_count l + 1 + sum_by row_size l.rows
given_needed l needed =
    let n = length l.given in
    let a = set_few l.given (reasons l) (λ k t. counts_of l k (needed k t)) in
    let b = row_add (λ k. (if is_met l.live l.bump k then 1 else 0) + open_one l.fender k) (some_row l.rows) 0 n in
    let c = row_add (λ k. if is_met l.live l.bump k then 1 else 0) (open_one l.fender) 0 n in
    let d = open_once l.fender n in
    let e = rows_sum l.rows n in omega arith

-- THE BOUND: at the refused request, by what was left when room was made
pub crowded : (c cost : ℕ) (left n : Ledger) (f : Shortage) → RowsAreFew c left.rows → met_count left ≤ most_met c → ((k : ℕ) → is_given left k ≡ true → NeededBy left k)
    → consumed n ≤ consumed left + cost → Lacks n f → length n.given - reserve_of n ≤ (length left.rows + 1) * most_met c + 1 + cost / 769
crowded c cost left n f rows met needed takes lacks =
    let a = given_short n f lacks in
    let b = consumed_given left in
    let d = given_needed left needed in
    let e = sum_few c left.rows rows in
    let none = lacks.0.none_free in
    let m : (length left.rows + 1) * most_met c ≡ length left.rows * most_met c + most_met c = more (length left.rows) (most_met c) in omega arith
  where
    more : (k w : ℕ) → (k + 1) * w ≡ k * w + w
    more k w = omega arith

-- ---- room was made: a round and a freeing

pub freed_more : (l : Ledger) → free_count l ≤ free_count (freed l)
freed_more l =
    let a = risen_few (freed l).given l.given 0 (sym (freed_chunks l)) (λ k h. first_true (is_given l k) (is_needed l k) (sym (freed_by_chunk l k) ∙ h)) in
    let b = clear_is l.given in
    let c = clear_is (freed l).given in omega arith

pub round_rests : (c : ℕ) (u : Ledger) (versions : List ℕ) → RestsSmall c u → RestsSmall c (freed (narrowed u versions))
round_rests c u versions r = record {
  rows = All-filter (λ (x : Row). is_among versions x.version) (λ (x : Row). row_size x ≤ most_met c) u.rows r.rows;
  base = let g = ap (λ (k : ℕ). met_in k u.last_live u.fender) (freed_chunks (narrowed u versions)) in let b = r.base in omega arith;
}

pub round_small : (c : ℕ) (u n : Ledger) (versions : List ℕ) → n ≡ freed (narrowed u versions) → WorksSmall c u → WorksSmall c n
round_small c u n versions after w = subst (WorksSmall c) (sym after) (
    let m = freed (narrowed u versions) in
    let wide : length m.given ≡ length u.given = freed_chunks (narrowed u versions) in
    let r : reserve_of m ≡ reserve_of u = ap (λ (k : ℕ). k / 4) wide in
    let e : met_count m ≡ met_count u = ap (λ (k : ℕ). met_in k u.live u.bump) wide in
    let more = freed_more (narrowed u versions) in
    record {
      rests = round_rests c u versions w.rests;
      met = λ less. let a = w.met (omega arith) in omega arith;
    })

-- ---- chunks with more than 256 cells that count, but so many thin ones

each_met : (u : Ledger) → IsLedger u → (k : ℕ) → 257 * (if is_met u.live u.bump k then 1 else 0) ≤ (257 * open_one u.bump k + 257 * (if is_thin u k then 1 else 0)) + live_of u k
each_met u is k = go (is_bump u.bump k) (nat_lt 0 (slice_index u.live k)) refl refl
  where
    go : (a b : Bool) → is_bump u.bump k ≡ a → nat_lt 0 (slice_index u.live k) ≡ b → 257 * (if a || b then 1 else 0) ≤ (257 * open_one u.bump k + 257 * (if is_thin u k then 1 else 0)) + live_of u k
    go true b p q = let e = set_counts (is_bump u.bump k) p in omega arith
    go false false p q = omega arith
    go false true p q =
        let some : 0 < slice_index u.live k = grind (arith, nat_tests, q) in
        elim (cases_lt 256 (slice_index u.live k)) [
          | inl many ↦ omega arith
          | inr few ↦ (
              let low : is_low (slice_index u.live k) ≡ true = grind (arith, nat_tests) in
              let shut_off : not (is_bump u.bump k) ≡ true = ap not p in
              let thin : is_thin u k ≡ true = both_true (is_sparse u k) (nat_lt 0 (slice_index u.live k))
              (both_true (is_given u k) (is_low (slice_index u.live k) && not (is_bump u.bump k)) (is.counts.in_given k some) (both_true (is_low (slice_index u.live k)) (not (is_bump u.bump k)) low shut_off)) q in
              let e = set_counts (is_thin u k) thin in omega arith)
        ]

times : (w : ℕ → ℕ) (r n : ℕ) → row (λ k. 257 * w k) r n ≡ 257 * row w r n
times w r zero = refl
times w r (suc n) = let a = times w (suc r) n in omega arith

row_count : (p : ℕ → Bool) (a n : ℕ) → row (λ k. if p k then 1 else 0) a n ≡ count_by p (range_with_len a n)
row_count p a zero = refl
row_count p a (suc n) =
    let more = row_count p (a + 1) n in
    let e : suc a ≡ a + 1 = omega arith in
    let f = ap (λ (i : ℕ). row (λ k. if p k then 1 else 0) i n) e in
    let c = sum_by-cons (λ (k : ℕ). cond {A = ℕ} (p k) 1 0) a (range_with_len (a + 1) n) in omega arith

pub thin_small : (u : Ledger) (c : ℕ) → IsLedger u → FewThin 8 u → row (live_of u) 0 (length u.given) ≤ c → met_count u ≤ most_met c
thin_small u c is few_thin all =
    let n = length u.given in
    let d = row_le (λ k. 257 * (if is_met u.live u.bump k then 1 else 0)) (λ k. (257 * open_one u.bump k + 257 * (if is_thin u k then 1 else 0)) + live_of u k) (each_met u is) 0 n in
    let e = row_add (λ k. 257 * open_one u.bump k + 257 * (if is_thin u k then 1 else 0)) (live_of u) 0 n in
    let f = row_add (λ k. 257 * open_one u.bump k) (λ k. 257 * (if is_thin u k then 1 else 0)) 0 n in
    let g = times (λ k. if is_met u.live u.bump k then 1 else 0) 0 n in
    let h = times (open_one u.bump) 0 n in
    let i = times (λ k. if is_thin u k then 1 else 0) 0 n in
    let j = open_once u.bump n in
    let k = row_count (is_thin u) 0 n in omega arith

-- ---- what lies in sparse chunks was moved

-- where it could not be moved whole, no chunk was free, and none was taken
stopped_small : (c r f f_new m m_new most all : ℕ) → 1 ≤ r → all ≤ c → c ≤ 768 → f_new ≡ 0 → f + 1 ≤ f_new + (all / 769 + 1) → m_new + f_new ≤ m + f → (f < r → m ≤ most) → m_new ≤ most
stopped_small c r f f_new m m_new most all some fits small none asks spread was = let a = was (omega arith) in omega arith

pub stopped_met : (c all : ℕ) (u n : Ledger) → 1 ≤ reserve_of u → all ≤ c → c ≤ 768 → free_count n ≡ 0 → free_count u + 1 ≤ free_count n + (all / 769 + 1) → spread n ≤ spread u → WorksSmall c u → met_count n ≤ most_met c
stopped_met c all u n some fits small none asks few w = stopped_small c (reserve_of u) (free_count u) (free_count n) (met_count u) (met_count n) (most_met c) all some fits small none asks few w.met

pub moved_small : (c : ℕ) (u n : Ledger) → Grown u n → met_count n ≤ most_met c → WorksSmall c u → WorksSmall c n
moved_small c u n g met w = record { rests = rests_grown c u n g w.rests; met = λ less. met }

-- ---- a commit, and an undo

row_some : (live : List ℕ) (w : ℕ → ℕ) (r : ℕ) → ((k : ℕ) → 0 < slice_index live k → 1 ≤ w (r + k)) → count_by (nat_lt 0) live ≤ row w r (length live)
row_some [] w r h = omega arith
row_some (x ∷ live) w r h =
    let more = row_some live w (suc r) (λ k l. let a = h (suc k) l in let e = shifted w r k in omega arith) in
    let c = sum_by-cons (λ (y : ℕ). cond {A = ℕ} (nat_lt 0 y) 1 0) x live in
    let e = at_first w r in
    let here = go (nat_lt 0 x) refl in omega arith
  where
    go : (b : Bool) → nat_lt 0 x ≡ b → cond {A = ℕ} b 1 0 ≤ w r
    go true q = let a = h 0 (grind (arith, nat_tests, q)) in let e = at_first w r in omega arith
    go false q = omega arith

pub size_met : (u : Ledger) → IsLedger u → count_by (nat_lt 0) u.live ≤ met_count u
size_met u is =
    let a = row_some u.live (λ k. if is_met u.live u.bump k then 1 else 0) 0 (λ k l.
    let z : 0 + k ≡ k = omega arith in
    let f = ap (λ (i : ℕ). cond {A = ℕ} (is_met u.live u.bump i) 1 0) z in
    let e = met_one (is_bump u.bump k) (nat_lt 0 (slice_index u.live k)) (inr (grind (arith, nat_tests))) in omega arith) in
    let b = ap (λ (m : ℕ). met_in m u.live u.bump) is.counted in omega arith

pub published_small : (c version : ℕ) (u n : Ledger) (versions : List ℕ) → IsLedger u → n ≡ freed (narrowed (frozen u version) versions) → RowsAreFew c u.rows → met_count u ≤ most_met c → RestsSmall c n
published_small c version u n versions is after rows met = subst (RestsSmall c) (sym after) (
    let wide : length (freed (narrowed (frozen u version) versions)).given ≡ length u.given = freed_chunks (narrowed (frozen u version) versions) in
    let new : Row = record { version = version; chunks = row_of u.live } in
    let size = set_size u.live in
    let few = size_met u is in
    record {
      rows = All-filter (λ (r : Row). is_among versions r.version) (λ (r : Row). row_size r ≤ most_met c) (u.rows ++ new ∷ []) (All-push (λ (x : Row). row_size x ≤ most_met c) u.rows new rows (omega arith));
      base = let e = ap (λ (k : ℕ). met_in k u.live u.bump) wide in omega arith;
    })

pub undone_small : (c : ℕ) (u : Ledger) → RestsSmall c u → RestsSmall c (freed (restored u))
undone_small c u r = record {
  rows = r.rows;
  base = let e = ap (λ (k : ℕ). met_in k u.last_live u.fender) (freed_chunks (restored u)) in let b = r.base in omega arith;
}

-- ---- cells are handed out and released: what the space's calls do to the spread

-- where chunks that were not met stay so, the spread is no more
pub met_le : (n : ℕ) (live live_new : List ℕ) (b b_new : Option Bump) → ((k : ℕ) → is_met live_new b_new k ≡ true → is_met live b k ≡ true) → met_in n live_new b_new ≤ met_in n live b
met_le n live live_new b b_new only = row_le (λ k. if is_met live_new b_new k then 1 else 0) (λ k. if is_met live b k then 1 else 0) (λ k. go (is_met live_new b_new k) (is_met live b k) (only k)) 0 n
  where
    go : (x y : Bool) → (x ≡ true → y ≡ true) → cond {A = ℕ} x 1 0 ≤ cond {A = ℕ} y 1 0
    go false y h = omega arith
    go true true h = omega arith
    go true false h = absurd (true≢false (sym (h refl)))

-- ---- what the crates below would promise: a chunk with a cell that counts had one before, was the bump chunk, or was free

abbrev pub MeetsNew : Ledger → Ledger → Type 0
MeetsNew u n = (k : ℕ) → 0 < slice_index n.live k → (0 < slice_index u.live k) ⊎ ((is_bump u.bump k ≡ true) ⊎ (is_given u k ≡ false))

-- chunks that were given meanwhile
abbrev risen_one : Ledger → Ledger → ℕ → ℕ
risen_one u n k = if is_given n k && not (is_given u k) then 1 else 0

flags_risen : (a b : List Bool) (r : ℕ) → length b ≡ length a → ((k : ℕ) → slice_index_or a k false ≡ true → slice_index_or b k false ≡ true) → (w : ℕ → ℕ) → ((k : ℕ) → w (r + k) ≡ cond {A = ℕ} (slice_index_or b k false && not (slice_index_or a k false)) 1 0) → row w r (length a) + clear b ≤ clear a
flags_risen [] [] r e h w is = omega arith
flags_risen [] (y ∷ b) r e h w is = absurd (omega arith)
flags_risen (x ∷ a) [] r e h w is = absurd (omega arith)
flags_risen (x ∷ a) (y ∷ b) r e h w is =
    let more = flags_risen a b (suc r) (omega arith) (λ k. h (suc k)) w (λ k. let f = shifted w r k in let g = is (suc k) in omega arith) in
    go x y (h 0) (let f = at_first w r in let g = is 0 in omega arith) more
  where
    go : (x y : Bool) → (x ≡ true → y ≡ true) → w r ≡ cond {A = ℕ} (y && not x) 1 0 → row w (suc r) (length a) + clear b ≤ clear a → (w r + row w (suc r) (length a)) + cond (not y) (1 + clear b) (clear b) ≤ cond (not x) (1 + clear a) (clear a)
    go true true h e more = omega arith
    go true false h e more = absurd (true≢false (sym (h refl)))
    go false true h e more = omega arith
    go false false h e more = omega arith

pub bump_given : (given : List Bool) (live : List ℕ) (b : Option Bump) → IsBump given live b → (k : ℕ) → is_bump b k ≡ true → slice_index_or given k false ≡ true
bump_given given live None is k h = absurd (true≢false (sym h))
bump_given given live (Some o) is k h = let e : o.chunk ≡ k = grind (arith, nat_tests, h) in subst (λ (i : ℕ). slice_index_or given i false ≡ true) e is.1

pub spread_few : (u n : Ledger) → IsLedger n → Grown u n → MeetsNew u n → spread n ≤ spread u
spread_few u n is g meets =
    let a = row_le (λ k. if is_met n.live n.bump k then 1 else 0) (λ k. (if is_met u.live u.bump k then 1 else 0) + risen_one u n k) each 0 (length n.given) in
    let b = row_add (λ k. if is_met u.live u.bump k then 1 else 0) (risen_one u n) 0 (length n.given) in
    let c = flags_risen u.given n.given 0 g.wide g.given (risen_one u n) (λ k. let e : 0 + k ≡ k = omega arith in ap (risen_one u n) e) in
    let d = ap (λ (m : ℕ). met_in m u.live u.bump) g.wide in
    let e = ap (λ (m : ℕ). row (risen_one u n) 0 m) g.wide in
    let f = clear_is u.given in
    let h = clear_is n.given in omega arith
  where
    was_met : (k : ℕ) → (is_bump u.bump k ≡ true) ⊎ (0 < slice_index u.live k) → 1 ≤ (if is_met u.live u.bump k then 1 else 0) + risen_one u n k
    was_met k h = let e = met_one (is_bump u.bump k) (nat_lt 0 (slice_index u.live k)) (⊎_elim (λ (b : is_bump u.bump k ≡ true). inl b) (λ (l : 0 < slice_index u.live k). inr (grind (arith, nat_tests))) h) in omega arith

    was_free : (k : ℕ) → is_given n k ≡ true → is_given u k ≡ false → 1 ≤ (if is_met u.live u.bump k then 1 else 0) + risen_one u n k
    was_free k now before =
        let t : (is_given n k && not (is_given u k)) ≡ true = both_true (is_given n k) (not (is_given u k)) now (ap not before) in
        let e = set_counts (is_given n k && not (is_given u k)) t in omega arith

    each : (k : ℕ) → cond {A = ℕ} (is_met n.live n.bump k) 1 0 ≤ (if is_met u.live u.bump k then 1 else 0) + risen_one u n k
    each k = go (is_bump n.bump k) (nat_lt 0 (slice_index n.live k)) refl refl
      where
        go : (a b : Bool) → is_bump n.bump k ≡ a → nat_lt 0 (slice_index n.live k) ≡ b → cond {A = ℕ} (a || b) 1 0 ≤ (if is_met u.live u.bump k then 1 else 0) + risen_one u n k
        go true b p q = ⊎_elim (λ (h : is_bump u.bump k ≡ true). was_met k (inl h)) (λ (h : is_given u k ≡ false). was_free k (bump_given n.given n.live n.bump is.opened k p) h) (g.opens k p)
        go false true p q =
            let some : 0 < slice_index n.live k = grind (arith, nat_tests, q) in
            ⊎_elim (λ (h : 0 < slice_index u.live k). was_met k (inr h)) (λ (h : (is_bump u.bump k ≡ true) ⊎ (is_given u k ≡ false)).
            ⊎_elim (λ (b : is_bump u.bump k ≡ true). was_met k (inl b)) (λ (f : is_given u k ≡ false). was_free k (is.counts.in_given k some) f) h) (meets k some)
        go false false p q = omega arith
