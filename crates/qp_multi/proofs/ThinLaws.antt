-- In how many chunks a working set has cells, where few of them are thin.
use Rattle.std.proofs.Common.{◌≡◌, ◌∙◌, ℕ, zero, suc, ◌+◌, ◌*◌, ◌/◌, ◌<◌, ◌≤◌, nat_lt, Bool, true, false, not, cond, ◌&&◌, if◌then◌else◌, List, [], ◌∷◌, length, slice_index, slice_index_or, Option, Some, None, arith, refl, sym, ap, inl, inr}
use Rattle.std.specs.Prelude.{count_by}
use Rattle.std.specs.List.{range_with_len}
use Rattle.std.proofs.lemmas.Bool.{cases_Bool, cases_lt, true≢false}
use Rattle.std.proofs.lemmas.Bool.Decides.{nat_tests}
use Rattle.std.proofs.lemmas.List.Sums.{sum_by-cons}
use Rattle.packed_node.specs.declared.Cell.{Cell}
use Rattle.trie_model.specs.Extents.{row}
use Rattle.trie_model.specs.Keys.{Entry}
use Rattle.trie_model.specs.Shape.{cells}
use Rattle.trie_model.proofs.ExtentLaws.{both_true}
use Rattle.trie_model.proofs.ReachLaws.{live_is}
use Rattle.trie_model.proofs.SizeLaws.{size_is}
use Rattle.chunk_usage.specs.Counting.{is_low, is_sparse}
use Rattle.chunk_usage.specs.Ledger.{Ledger, IsLedger, is_given, is_bump, row_of}
use Rattle.trie_space.specs.Standing.{Standing}
use Rattle.evacuate.specs.Fillings.{old_live}
use Rattle.evacuate.proofs.SumLaws.{old_reached}
use Rattle.qp_multi.specs.Movings.{FewThin, is_thin}
use Rattle.qp_multi.proofs.CauseLaws.{live_of, open_once, open_one, some_live}
use Rattle.qp_multi.proofs.CountedLaws.{row_le}
use Rattle.qp_multi.proofs.MeetLaws.{row_add}

shifted : (w : ℕ → ℕ) (r k : ℕ) → w (r + suc k) ≡ w (suc r + k)
shifted w r k = let e : r + suc k ≡ suc r + k = omega arith in ap w e

at_first : (w : ℕ → ℕ) (r : ℕ) → w (r + 0) ≡ w r
at_first w r = let e : r + 0 ≡ r = omega arith in ap w e

-- ---- what counts in all chunks is at most what the trie has

none_free : (x : ℕ) (g : Bool) → (0 < x → g ≡ true) → x ≤ (if g then x else 0)
none_free x true h = omega arith
none_free x false h = elim (cases_lt 0 x) [ inl some ↦ absurd (true≢false (sym (h some))) | inr none ↦ omega arith ]

row_old : (given : List Bool) (live : List ℕ) (w : ℕ → ℕ) (r : ℕ) → length live ≡ length given → ((k : ℕ) → w (r + k) ≤ slice_index live k) → ((k : ℕ) → 0 < slice_index live k → slice_index_or given k false ≡ true) → row w r (length live) ≤ old_live given live
row_old [] [] w r same le all = omega arith
row_old [] (x ∷ live) w r same le all = absurd (omega arith)
row_old (g ∷ given) [] w r same le all = omega arith
row_old (g ∷ given) (x ∷ live) w r same le all =
    let here = le 0 in
    let e = at_first w r in
    let a = none_free x g (all 0) in
    let more = row_old given live w (suc r) (omega arith) (λ k. let l = le (suc k) in let f = shifted w r k in omega arith) (λ k. all (suc k)) in omega arith

pub live_few : (has : ℕ → Cell → Type 0) (used : ℕ → Bool) (u : Ledger) (root : Option ℕ) (es : List Entry) → IsLedger u → Standing has used (live_of u) root es → row (live_of u) 0 (length u.given) ≤ cells es
live_few has used u None es is s = let a = none_there 0 (length u.given) in omega arith
  where
    none_there : (r n : ℕ) → row (live_of u) r n ≤ 0
    none_there r zero = omega arith
    none_there r (suc n) = let a = none_there (suc r) n in let b = s.1 r in omega arith
live_few has used u (Some r) es is s =
    let t = s.0 in
    let a = row_old u.given u.live (live_of u) 0 is.counted (λ k. let e : 0 + k ≡ k = omega arith in let f = ap (live_of u) e in omega arith) is.counts.in_given in
    let b = old_reached u.given u.live r t (λ k. s.1.counted k ∙ live_is k r t) in
    let c = ap cells (sym s.1.trie.holds) ∙ size_is 0 t s.1.trie.shape in
    let d = ap (λ (n : ℕ). row (live_of u) 0 n) is.counted in omega arith

-- ---- each chunk with a cell that counts is the bump chunk, thin, or has more than 256

abbrev thin_one : Ledger → ℕ → ℕ
thin_one u k = if is_thin u k then 1 else 0

set_counts : (b : Bool) → b ≡ true → ◌≡◌ {A = ℕ} (cond b 1 0) 1
set_counts b h = ap (λ (x : Bool). cond {A = ℕ} x 1 0) h

some_most : (b : Bool) → cond {A = ℕ} b 1 0 ≤ 1
some_most true = omega arith
some_most false = omega arith

each_met : (u : Ledger) → IsLedger u → (k : ℕ) → 257 * some_live (live_of u) k ≤ (257 * open_one u.bump k + 257 * thin_one u k) + live_of u k
each_met u is k = elim (cases_lt 0 (slice_index u.live k)) [
  | inl some ↦ met some (some_most (nat_lt 0 (slice_index u.live k)))
  | inr none ↦ (let e : nat_lt 0 (slice_index u.live k) ≡ false = grind (arith, nat_tests) in let z : ◌≡◌ {A = ℕ} (some_live (live_of u) k) 0 = ap (λ (b : Bool). cond {A = ℕ} b 1 0) e in omega arith)
]
  where
    thin : 0 < slice_index u.live k → slice_index u.live k ≤ 256 → is_bump u.bump k ≡ false → is_thin u k ≡ true
    thin some few shut =
        let low : is_low (slice_index u.live k) ≡ true = grind (arith, nat_tests) in
        let counts : nat_lt 0 (slice_index u.live k) ≡ true = grind (arith, nat_tests) in
        let shut_off : not (is_bump u.bump k) ≡ true = ap not shut in
        both_true (is_sparse u k) (nat_lt 0 (slice_index u.live k))
        (both_true (is_given u k) (is_low (slice_index u.live k) && not (is_bump u.bump k)) (is.counts.in_given k some) (both_true (is_low (slice_index u.live k)) (not (is_bump u.bump k)) low shut_off)) counts

    met : 0 < slice_index u.live k → some_live (live_of u) k ≤ 1 → 257 * some_live (live_of u) k ≤ (257 * open_one u.bump k + 257 * thin_one u k) + live_of u k
    met some one = elim (cases_Bool (is_bump u.bump k)) [
      | inl here ↦ (let e = set_counts (is_bump u.bump k) here in omega arith)
      | inr shut ↦ elim (cases_lt 256 (slice_index u.live k)) [
        | inl many ↦ omega arith
        | inr few ↦ (let e = set_counts (is_thin u k) (thin some (omega arith) shut) in omega arith)
      ]
    ]

times : (w : ℕ → ℕ) (r n : ℕ) → row (λ k. 257 * w k) r n ≡ 257 * row w r n
times w r zero = refl
times w r (suc n) = let a = times w (suc r) n in omega arith

row_count : (p : ℕ → Bool) (a n : ℕ) → row (λ k. if p k then 1 else 0) a n ≡ count_by p (range_with_len a n)
row_count p a zero = refl
row_count p a (suc n) =
    let more = row_count p (a + 1) n in
    let e : suc a ≡ a + 1 = omega arith in
    let f = ap (λ (i : ℕ). row (λ k. if p k then 1 else 0) i n) e in
    let c = sum_by-cons (λ (k : ℕ). cond {A = ℕ} (p k) 1 0) a (range_with_len (a + 1) n) in omega arith

-- how many have cells that count
row_some : (live : List ℕ) (w : ℕ → ℕ) (r : ℕ) → ((k : ℕ) → 0 < slice_index live k → 1 ≤ w (r + k)) → count_by (nat_lt 0) live ≤ row w r (length live)
row_some [] w r h = omega arith
row_some (x ∷ live) w r h =
    let more = row_some live w (suc r) (λ k l. let a = h (suc k) l in let e = shifted w r k in omega arith) in
    let c = sum_by-cons (λ (y : ℕ). cond {A = ℕ} (nat_lt 0 y) 1 0) x live in
    let e = at_first w r in
    let here : cond {A = ℕ} (nat_lt 0 x) 1 0 ≤ w r = elim (cases_lt 0 x) [
      | inl some ↦ (let a = h 0 some in let b = some_most (nat_lt 0 x) in first a b)
      | inr none ↦ (let z : nat_lt 0 x ≡ false = grind (arith, nat_tests) in let y : ◌≡◌ {A = ℕ} (cond (nat_lt 0 x) 1 0) 0 = ap (λ (b : Bool). cond {A = ℕ} b 1 0) z in none_here y)
    ] in omega arith
  where
    first : 1 ≤ w (r + 0) → cond {A = ℕ} (nat_lt 0 x) 1 0 ≤ 1 → cond {A = ℕ} (nat_lt 0 x) 1 0 ≤ w r
    first a b = let e = at_first w r in omega arith

    none_here : ◌≡◌ {A = ℕ} (cond (nat_lt 0 x) 1 0) 0 → cond {A = ℕ} (nat_lt 0 x) 1 0 ≤ w r
    none_here y = omega arith

pub met_few : (u : Ledger) (c : ℕ) → IsLedger u → FewThin 8 u → row (live_of u) 0 (length u.given) ≤ c → count_by (nat_lt 0) u.live ≤ c / 257 + 9
met_few u c is few_thin all =
    let n = length u.given in
    let a = row_some u.live (some_live (live_of u)) 0 (λ k l. let e : 0 + k ≡ k = omega arith in let f = ap (some_live (live_of u)) e in
    let s = set_counts (nat_lt 0 (slice_index u.live k)) (grind (arith, nat_tests)) in omega arith) in
    let b = ap (λ (m : ℕ). row (some_live (live_of u)) 0 m) is.counted in
    let d = row_le (λ k. 257 * some_live (live_of u) k) (λ k. (257 * open_one u.bump k + 257 * thin_one u k) + live_of u k) (each_met u is) 0 n in
    let e = row_add (λ k. 257 * open_one u.bump k + 257 * thin_one u k) (live_of u) 0 n in
    let f = row_add (λ k. 257 * open_one u.bump k) (λ k. 257 * thin_one u k) 0 n in
    let g = times (some_live (live_of u)) 0 n in
    let h = times (open_one u.bump) 0 n in
    let i = times (thin_one u) 0 n in
    let j = open_once u.bump n in
    let k = row_count (is_thin u) 0 n in omega arith

-- ---- the chunk set that a freeze keeps

pub set_size : (live : List ℕ) → count_by (λ (b : Bool). b) (row_of live) ≡ count_by (nat_lt 0) live
set_size [] = refl
set_size (x ∷ live) =
    let a = set_size live in
    let b = sum_by-cons (λ (y : ℕ). cond {A = ℕ} (nat_lt 0 y) 1 0) x live in
    let c = sum_by-cons (λ (y : Bool). cond {A = ℕ} y 1 0) (nat_lt 0 x) (row_of live) in omega arith

-- chunks with cells that count are given
pub live_given : (live : List ℕ) (given : List Bool) → length live ≡ length given → ((k : ℕ) → 0 < slice_index live k → slice_index_or given k false ≡ true) → count_by (nat_lt 0) live + count_by not given ≤ length given
live_given [] [] same h = omega arith
live_given [] (g ∷ given) same h = absurd (omega arith)
live_given (x ∷ live) [] same h = absurd (omega arith)
live_given (x ∷ live) (g ∷ given) same h =
    let here = one_of x g (h 0) in
    let rest = live_given live given (omega arith) (λ k. h (suc k)) in
    let c = sum_by-cons (λ (y : ℕ). cond {A = ℕ} (nat_lt 0 y) 1 0) x live in
    let d = sum_by-cons (λ (y : Bool). cond {A = ℕ} (not y) 1 0) g given in omega arith
  where
    one_of : (x : ℕ) (g : Bool) → (0 < x → g ≡ true) → cond {A = ℕ} (nat_lt 0 x) 1 0 + cond {A = ℕ} (not g) 1 0 ≤ 1
    one_of x true h = let a = some_most (nat_lt 0 x) in omega arith
    one_of x false h = elim (cases_lt 0 x) [
      | inl some ↦ absurd (true≢false (sym (h some)))
      | inr none ↦ (let z : nat_lt 0 x ≡ false = grind (arith, nat_tests) in let y : ◌≡◌ {A = ℕ} (cond (nat_lt 0 x) 1 0) 0 = ap (λ (b : Bool). cond {A = ℕ} b 1 0) z in omega arith)
    ]
