-- What bounds the sets of a history: of a longer one, and of a longer transaction.
use Rattle.std.proofs.Common.{◌≡◌, ◌∙◌, ℕ, zero, suc, ◌≤◌, List, [], ◌∷◌, ◌++◌, length, take, Option, refl, sym, ap, subst, append_assoc, append-nil}
use Rattle.std.specs.Prelude.{unwrap_or}
use Rattle.trie_model.specs.Keys.{Entry}
use Rattle.trie_model.specs.Shape.{cells}
use Rattle.chunk_usage.specs.Ledger.{Ledger}
use Rattle.shared_cells.specs.declared.view.Entry.{Entry as Commit}
use Rattle.shared_cells.specs.History.{StartsWith, version_after}
use Rattle.qp_multi.specs.declared.meaning.Operation.{Operation}
use Rattle.qp_multi.specs.Closings.{AllSeen}
use Rattle.qp_multi.specs.Crowds.{BoundsWays, BoundsWork, EachSmall}
use Rattle.qp_multi.specs.Operations.{applied}
use Rattle.qp_multi.specs.Passes.{first_version, version_seen}

abbrev Commits : Type 0
Commits = List (Commit (List Operation))

-- ---- numbers that bound a history bound what it begins with

pub ways_part : {most : ℕ} (s t : AllSeen) → t.opening ≡ s.opening → StartsWith t.history s.history → BoundsWays most t → BoundsWays most s
ways_part {most} s t opening grows b = record {
  first = subst (λ (x : Option (List Entry)). cells (unwrap_or x []) ≤ most) opening b.first;
  ways = λ part entry st n. subst (λ (x : Option (List Entry)). cells (applied (version_after applied (unwrap_or x []) part) (take n entry.change)) ≤ most) opening
      (b.ways part entry (st.0 ++ grows.0, grows.1 ∙ ap (λ (h : Commits). h ++ grows.0) st.1 ∙ append_assoc (part ++ entry ∷ []) st.0 grows.0) n);
}

pub small_on : (u n : Ledger) (s t : AllSeen) {P Q : ℕ → Type 0} → length n.given ≡ length u.given → t.opening ≡ s.opening → StartsWith t.history s.history → ((most : ℕ) → most ≤ 768 → BoundsWays most t → 4 ≤ length n.given → P most → Q most) → EachSmall u s P → EachSmall n t Q
small_on u n s t wide opening history weaker each most small some b = weaker most small b some (each most small (subst (λ (k : ℕ). 4 ≤ k) wide some) (ways_part s t opening history b))

-- ---- the version is the same, and a transaction's operations begin with these

pub version_same : (s t : AllSeen) → t.opening ≡ s.opening → t.history ≡ s.history → version_seen t ≡ version_seen s
version_same s t opening history = ap (λ (x : Option (List Entry)). version_after applied (unwrap_or x []) t.history) opening ∙ ap (version_after applied (first_version s)) history

-- what a list begins with, the longer one begins with as well
begun : (n : ℕ) (xs ys : List Operation) → (m : ℕ) × (take m (xs ++ ys) ≡ take n xs)
begun zero xs ys = (0, refl)
begun (suc n) [] ys = (0, refl)
begun (suc n) (x ∷ xs) ys = let r = begun n xs ys in (suc r.0, ap (λ (l : List Operation). x ∷ l) r.1)

pub work_part : {most : ℕ} (s t : AllSeen) (operations more : List Operation) → t.opening ≡ s.opening → t.history ≡ s.history → BoundsWork most t (operations ++ more) → BoundsWork most s operations
work_part {most} s t operations more opening history b n =
    let m = begun n operations more in
    let here = subst (λ (os : List Operation). cells (applied (version_seen t) os) ≤ most) m.1 (b m.0) in
    subst (λ (es : List Entry). cells (applied es (take n operations)) ≤ most) (version_same s t opening history) here

-- all of a transaction's operations
take_all : (xs : List Operation) → take (length xs) xs ≡ xs
take_all [] = refl
take_all (x ∷ xs) = ap (λ (l : List Operation). x ∷ l) (take_all xs)

pub work_whole : {most : ℕ} (s : AllSeen) (operations : List Operation) → BoundsWork most s operations → cells (applied (version_seen s) operations) ≤ most
work_whole {most} s operations b = subst (λ (os : List Operation). cells (applied (version_seen s) os) ≤ most) (take_all operations) (b (length operations))

-- ---- a commit's ways are bounded

pub last_ways : {most : ℕ} (s t : AllSeen) (entry : Commit (List Operation)) → t.opening ≡ s.opening → t.history ≡ s.history ++ entry ∷ [] → BoundsWays most t → BoundsWork most s entry.change
last_ways {most} s t entry opening history b n =
    subst (λ (x : Option (List Entry)). cells (applied (version_after applied (unwrap_or x []) s.history) (take n entry.change)) ≤ most) opening
    (b.ways s.history entry ([], history ∙ sym (append-nil (s.history ++ entry ∷ []))) n)
