-- What lies in sparse chunks, moved on lent cells, as the seat that lent them knows it.
use Rattle.std.proofs.Common.{◌≡◌, ℕ, ◌≤◌, nat_lt, Bool, true, false, not, cond, ◌&&◌, List, [], ◌∷◌, length, slice_index, Option, refl, sym, arith}
use Rattle.std.specs.Prelude.{count_by}
use Rattle.std.specs.List.{range_with_len}
use Rattle.std.proofs.lemmas.Bool.{true≢false}
use Rattle.std.proofs.lemmas.Bool.Decides.{nat_tests}
use Rattle.std.proofs.lemmas.List.Sums.{sum_by-cons}
use Rattle.chunk_usage.specs.Counting.{is_low, is_sparse, sparse_count}
use Rattle.chunk_usage.specs.Ledger.{Ledger, IsLedger, is_given, is_bump}
use Rattle.chunk_usage.specs.Rooms.{account_of}
use Rattle.evacuate.specs.declared.evacuation.EvacuationEnd.{EvacuationEnd}
use Rattle.evacuate.specs.Evacuations.{CarriesTrie, EmptiesChunks, IsDense}
use Rattle.evacuate.specs.Moving.{LeavesRest}
use Rattle.shared_cells.specs.Cells.{Cells, given_chunks, kept_references, HasCell}
use Rattle.qp_multi.specs.Passes.{Known}
use Rattle.qp_multi.specs.Movings.{Moved, is_thin, FewThin}
use Rattle.qp_multi.proofs.AttemptLaws.{Leaves, Returned, entered, left, grown_now, words_seat}

-- ---- which chunks are thin

-- where one test passes so does the other
count_le : (p q : ℕ → Bool) → ((k : ℕ) → p k ≡ true → q k ≡ true) → (xs : List ℕ) → count_by p xs ≤ count_by q xs
count_le p q h [] = omega arith
count_le p q h (x ∷ xs) =
    let a = sum_by-cons (λ (j : ℕ). cond {A = ℕ} (p j) 1 0) x xs in
    let b = sum_by-cons (λ (j : ℕ). cond {A = ℕ} (q j) 1 0) x xs in
    let c = count_le p q h xs in
    let d = one (p x) (q x) (h x) in omega arith
  where
    one : (a b : Bool) → (a ≡ true → b ≡ true) → cond {A = ℕ} a 1 0 ≤ cond {A = ℕ} b 1 0
    one true true h = omega arith
    one true false h = absurd (true≢false (sym (h refl)))
    one false b h = omega arith

count_none : (p : ℕ → Bool) → ((k : ℕ) → p k ≡ true → ⊥) → (xs : List ℕ) → count_by p xs ≤ 0
count_none p h [] = omega arith
count_none p h (x ∷ xs) =
    let a = sum_by-cons (λ (j : ℕ). cond {A = ℕ} (p j) 1 0) x xs in
    let c = count_none p h xs in
    let d = zero_of (p x) (h x) in omega arith
  where
    zero_of : (a : Bool) → (a ≡ true → ⊥) → cond {A = ℕ} a 1 0 ≤ 0
    zero_of true h = absurd (h refl)
    zero_of false h = omega arith

first_holds : (a b : Bool) → (a && b) ≡ true → a ≡ true
first_holds true b h = refl
first_holds false b h = h

second_holds : (a b : Bool) → (a && b) ≡ true → b ≡ true
second_holds true b h = h
second_holds false b h = absurd (true≢false (sym h))

-- where few chunks are sparse, and where all that has cells that count is dense
pub thin_sparse : (most : ℕ) (u : Ledger) → sparse_count u ≤ most → FewThin most u
thin_sparse most u few = let a = count_le (is_thin u) (is_sparse u) (λ k h. first_holds (is_sparse u k) _ h) (range_with_len 0 (length u.given)) in omega arith

pub thin_dense : (most : ℕ) (u : Ledger) → IsDense u → FewThin most u
thin_dense most u dense = let a = count_none (is_thin u) none (range_with_len 0 (length u.given)) in omega arith
  where
    none : (k : ℕ) → is_thin u k ≡ true → ⊥
    none k h =
        let some : nat_lt 0 (slice_index u.live k) ≡ true = second_holds (is_sparse u k) (nat_lt 0 (slice_index u.live k)) h in
        let sparse = first_holds (is_sparse u k) (nat_lt 0 (slice_index u.live k)) h in
        let rest : (is_low (slice_index u.live k) && not (is_bump u.bump k)) ≡ true = second_holds (is_given u k) _ sparse in
        let low : is_low (slice_index u.live k) ≡ true = first_holds (is_low (slice_index u.live k)) _ rest in
        let shut = negated (is_bump u.bump k) (second_holds (is_low (slice_index u.live k)) _ rest) in
        let more = dense k (grind (arith, nat_tests, some)) shut in grind (arith, nat_tests, low)
      where
        negated : (b : Bool) → not b ≡ true → b ≡ false
        negated true h = sym h
        negated false h = refl

-- ---- the cells were lent by a seat that knew so much, and came back as they are now

pub leaves_moved : {first lent : Cells} {u n : Ledger} → LeavesRest HasCell kept_references given_chunks account_of first u lent n → Leaves first lent u n
leaves_moved rest = let f = rest.frame in record { given_stays = f.given_stays; opens = f.opens; grows = f.grows; last = f.last; meets = f.meets; same = rest.ready.same }

-- the trie stands for the same entries
pub moved_of : {first lent : Cells} {v w : Known} {u n : Ledger} {count : ℕ} → Returned first lent v w u n count → (root new : Option ℕ) (done : EvacuationEnd) → IsLedger n → CarriesTrie HasCell first u root lent n new done → EmptiesChunks u n done → Moved root v u w n new done
moved_of l root new done known trie chunks = record {
  stands = λ es s. let h = entered l root es s in left l new es (record { stands = trie.stands es h.stands; tells = h.tells });
  same = words_seat l;
  evacuates = record {
    ledger = known;
    grown = grown_now l;
    fills = chunks.fills;
    none = chunks.none;
    whole = chunks.whole;
    stopped = λ e. (chunks.stopped e, chunks.left e);
  };
  asks = λ es s. trie.asks es (entered l root es s).stands;
}
