-- What is known at the end of an evacuation.
use Rattle.std.proofs.Common.{◌≡◌, ℕ, zero, suc, ◌+◌, ◌-◌, ◌*◌, ◌/◌, ◌<◌, ◌≤◌, Bool, true, false, not, cond, List, length, slice_index, slice_index_or, inl, inr, refl, sym, ◌∙◌, ap, subst, arith}
use Rattle.std.specs.Prelude.{Option, None, Some, count_by}
use Rattle.std.specs.List.{range_with_len}
use Rattle.std.proofs.lemmas.Bool.{cases_lt, cases_eq, true≢false}
use Rattle.std.proofs.lemmas.Bool.Decides.{nat_tests}
use Rattle.std.proofs.lemmas.List.Sums.{count_by-le-length, sum_by-cons}
use Rattle.packed_node.specs.declared.Cell.{Cell}
use Rattle.trie_model.specs.Keys.{Entry}
use Rattle.trie_model.specs.Memory.{top_cell, Beneath}
use Rattle.trie_read.specs.Reads.{IsTop}
use Rattle.trie_model.specs.Reach.{in_chunk, weigh_tree}
use Rattle.trie_model.specs.Shape.{cells}
use Rattle.trie_model.specs.Trees.{Tree}
use Rattle.trie_model.proofs.SizeLaws.{size_is}
use Rattle.chunk_usage.specs.declared.bump.Bump.{Bump}
use Rattle.chunk_usage.specs.Counting.{is_low, is_sparse, sparse_count}
use Rattle.chunk_usage.specs.Handing.{consumed, unconsumed}
use Rattle.chunk_usage.specs.Ledger.{Ledger, IsLedger, is_given, is_bump, is_used, left, free_count}
use Rattle.chunk_usage.specs.Rooms.{account_of, reserve_account_of}
use Rattle.chunk_sets.proofs.FlagLemmas.{set_within}
use Rattle.trie_model.proofs.ExtentLaws.{first_true}
use Rattle.trie_space.specs.Standing.{HasTrie, StandsIn}
use Rattle.trie_space.proofs.RootedLaws.{stands_rooted, rooted_stands}
use Rattle.evacuate.specs.declared.evacuation.EvacuationEnd.{EvacuationEnd}
use Rattle.evacuate.specs.declared.evacuation.EvacuationEnd.TheVariants.{Whole, Stopped}
use Rattle.evacuate.specs.Evacuations.{CarriesTrie, EmptiesChunks, Ended, HasSparse, IsDense, IsCleared, refused}
use Rattle.evacuate.specs.Fillings.{Fills, IsUsedUp, is_old, old_live}
use Rattle.evacuate.specs.Places.{Stood}
use Rattle.evacuate.proofs.FillingLaws.{all_parts, fills_nothing, sparse_old}
use Rattle.evacuate.proofs.SumLaws.{old_reached}

-- ---- roots that stand

pub stood_of : {S : Type 0} {has : S → ℕ → Cell → Type 0} {s : S} {l : Ledger} {r : ℕ} {es : List Entry} {t : Tree} → StandsIn (has s) (is_used l) (slice_index l.live) r t es → Stood has s l r es t
stood_of {has = has} {s} {l} h = record { tree = h.trie.shape; rooted = stands_rooted has reserve_account_of s l h; holds = h.trie.holds }

pub stands_again : {S : Type 0} {has : S → ℕ → Cell → Type 0} {s : S} {l : Ledger} {r : ℕ} {es : List Entry} {t : Tree} → Stood has s l r es t → StandsIn (has s) (is_used l) (slice_index l.live) r t es
stands_again {has = has} {s} {l} {r} {t = t} h = subst (StandsIn (has s) (is_used l) (slice_index l.live) r t) h.holds (rooted_stands h.rooted h.tree)

-- the root's cell was read
pub node_top : {S : Type 0} {has : S → ℕ → Cell → Type 0} {s s1 : S} {l : Ledger} {r : ℕ} {es : List Entry} {t : Tree} {c : Cell} → Stood has s l r es t → s1 ≡ s → ((d : Cell) → has s r d → c ≡ d) → IsTop (has s1) 0 c t
node_top {has = has} {t = t} h same read = record { tree = h.tree; is = read (top_cell t) h.rooted.top; beneath = subst (λ z. Beneath (has z) t) (sym same) h.rooted.beneath }

-- ---- no cell of a sparse chunk counts

outside : (k q : ℕ) → (q / 1024 ≡ k → ⊥) → ◌≡◌ {A = ℕ} (in_chunk k q) 0
outside k q ne = grind (arith, nat_tests)

none_passes : (p : ℕ → Bool) (a n : ℕ) → count_by p (range_with_len a n) ≡ 0 → (k : ℕ) → a ≤ k → k < a + n → p k ≡ true → ⊥
none_passes p a zero e k le lt t = omega arith
none_passes p a (suc n) e k le lt t =
    let m = sum_by-cons (λ (j : ℕ). cond {A = ℕ} (p j) 1 0) a (range_with_len (a + 1) n) in
    elim (cases_eq k a) [
      | inl same ↦ (let one : cond {A = ℕ} (p a) 1 0 ≡ 1 = ap (λ (b : Bool). cond {A = ℕ} b 1 0) (ap p (sym same) ∙ t) in omega arith)
      | inr other ↦ none_passes p (a + 1) n (omega arith) k (omega arith) (omega arith) t
    ]

-- where no chunk is sparse
pub none_sparse : (l : Ledger) → sparse_count l ≡ 0 → IsCleared l
none_sparse l none k sparse = absurd (none_passes (is_sparse l) 0 (length l.given) none k (omega arith) (let w = set_within l.given k (first_true _ _ sparse) in omega arith) sparse)

-- the root lies in a new chunk, and below it nothing lies in a sparse one
pub all_cleared : {S : Type 0} {has : S → ℕ → Cell → Type 0} {s : S} {l : Ledger} {r : ℕ} {es : List Entry} {t : Tree} (given : List Bool) → Fills given l → is_old given r ≡ false → Stood has s l r es t →
    ((k : ℕ) → is_sparse l k ≡ true → weigh_tree (in_chunk k) t ≡ 0) → IsCleared l
all_cleared {l = l} {r} {t = t} given fills new stood none k sparse =
    let c = stood.rooted.counted k in
    let o = outside k r (λ e. true≢false (sym (sparse_old given l fills k sparse) ∙ ap (λ (j : ℕ). slice_index_or given j false) (sym e) ∙ new)) in
    let n = none k sparse in omega arith

pub dense_of : (l : Ledger) → IsLedger l → IsCleared l → IsDense l
dense_of l h cleared k some shut = elim (cases_lt 256 (slice_index l.live k)) [
  | inl more ↦ more
  | inr few ↦ absurd (let z = cleared k (all_parts (is_given l k) (is_low (slice_index l.live k)) (is_bump l.bump k) (h.counts.in_given k some) (grind (arith, nat_tests)) shut) in omega arith)
]

-- ---- what is told

pub whole_so : {l : Ledger} → IsCleared l → Ended l Whole
whole_so cleared = record { whole = λ e. cleared; full = λ e. absurd (differ e); left = λ e. absurd (differ e) }
  where
    differ : Whole ≡ Stopped → ⊥
    differ e = cc

pub stopped_so : {l : Ledger} → IsUsedUp l → HasSparse l → Ended l Stopped
stopped_so full left = record { whole = λ e. absurd (differ e); full = λ e. full; left = λ e. left }
  where
    differ : Stopped ≡ Whole → ⊥
    differ e = cc

-- where nothing was done
pub same_trie : {S : Type 0} {has : S → ℕ → Cell → Type 0} {s : S} {l : Ledger} {root new : Option ℕ} → new ≡ root → CarriesTrie has s l root s l new Whole
same_trie {has = has} {s} {l} same = record { stands = λ version h. subst (λ (r : Option ℕ). HasTrie has account_of s l r version) (sym same) h; asks = λ version h. omega arith }

pub same_chunks : {l : Ledger} → IsLedger l → IsDense l → EmptiesChunks l l Whole
same_chunks {l} is dense = record { none = λ c. refl; fills = fills_nothing l is; whole = λ e. dense; stopped = λ e. absurd (differ e); left = λ e. absurd (differ e) }
  where
    differ : Whole ≡ Stopped → ⊥
    differ e = cc

-- ---- how many chunks were asked for

module _ (l new : Ledger) (same : length new.given ≡ length l.given) (c : ℕ) (paid : consumed new ≤ 769 * (length l.given - free_count l) + c) where
  most_free : free_count l ≤ length l.given
  most_free = count_by-le-length not l.given

  most_free_then : free_count new ≤ length new.given
  most_free_then = count_by-le-length not new.given

  unconsumed_few : (o : Option Bump) → unconsumed o ≤ 769
  unconsumed_few None = omega arith
  unconsumed_few (Some o) = omega arith

  all_consumed : (o : Option Bump) → left o < 256 → unconsumed o ≡ 0
  all_consumed None s = refl
  all_consumed (Some o) s = omega arith

  pub asked : free_count l ≤ free_count new + (c / 769 + 1)
  asked = let a = most_free in let b = most_free_then in let u = unconsumed_few new.bump in omega arith

  pub asked_in_vain : IsUsedUp new → free_count l + 1 ≤ free_count new + (c / 769 + 1)
  asked_in_vain full = let a = most_free in let b = most_free_then in let s = full.short.few_left in let n = full.few in let u = all_consumed new.bump (omega arith) in omega arith

  pub asked_by : (d : EvacuationEnd) → (d ≡ Stopped → IsUsedUp new) → free_count l + refused d ≤ free_count new + (c / 769 + 1)
  asked_by Whole full = let a = asked in omega arith
  asked_by Stopped full = asked_in_vain (full refl)

-- what was old is at most what the trie has
pub old_cells : {S : Type 0} {has : S → ℕ → Cell → Type 0} {s : S} {l : Ledger} {r : ℕ} {es : List Entry} {t : Tree} → Stood has s l r es t → old_live l.given l.live ≤ cells es
old_cells {l = l} {r} {t = t} h =
    let o = old_reached l.given l.live r t (λ k. let c = h.rooted.counted k in omega arith) in
    let e = sym (size_is 0 t h.tree) ∙ ap cells h.holds in omega arith
