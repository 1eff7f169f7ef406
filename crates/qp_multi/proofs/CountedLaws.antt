-- What a root reaches has a cell that counts in its chunk.
use Rattle.std.proofs.Common.{◌≡◌, ℕ, zero, suc, ◌-◌, ◌/◌, ◌<◌, ◌≤◌, nat_lt, Bool, true, ◌&&◌, List, length, Option, Some, None, arith, ◌∙◌, ap, inl, inr}
use Rattle.std.proofs.lemmas.Bool.{cases_eq, cases_Bool}
use Rattle.std.proofs.lemmas.Bool.Decides.{nat_tests}
use Rattle.packed_node.specs.declared.Cell.{Cell}
use Rattle.trie_model.specs.Extents.{Extents, content_cells, linked_cells, row, weigh_extents}
use Rattle.trie_model.specs.Extents.Extents.{last, linked}
use Rattle.trie_model.specs.Keys.{Entry}
use Rattle.trie_model.specs.Trees.{Tree, Twigs}
use Rattle.trie_model.specs.Trees.Tree.{leaf, branch}
use Rattle.trie_model.specs.Trees.Twigs.{none, twig}
use Rattle.trie_model.specs.Reach.{in_chunk, weigh_tree, weigh, WithinTree}
use Rattle.trie_model.proofs.MoveLaws.{Keeps}
use Rattle.trie_model.proofs.ExtentLaws.{first_true, second_true, both_true}
use Rattle.trie_model.proofs.ReachLaws.{live_is}
use Rattle.trie_space.specs.Standing.{StandsIn, Standing}
use Rattle.trie_space.specs.Weights.{at_place}
use Rattle.trie_write.proofs.RootLaws.{stands_later}
use Rattle.trie_space.proofs.WeightLaws.{at_itself, at_another, within_met, met_within}

-- what weighs more at each reference weighs more in all
pub row_le : (v w : ℕ → ℕ) → ((x : ℕ) → v x ≤ w x) → (r n : ℕ) → row v r n ≤ row w r n
row_le v w le r zero = omega arith
row_le v w le r (suc n) = let a = le r in let b = row_le v w le (suc r) n in omega arith

extents_le : (v w : ℕ → ℕ) → ((q : ℕ) → v q ≤ w q) → (n : ℕ) (x : Extents) → weigh_extents v n x ≤ weigh_extents w n x
extents_le v w le n (last r) = row_le v w le r (content_cells n)
extents_le v w le n (linked r x) = let a = row_le v w le r linked_cells in let b = extents_le v w le (n - 4080) x in omega arith

mutual
  weigh_le : (v w : ℕ → ℕ) → ((x : ℕ) → v x ≤ w x) → (t : Tree) → weigh_tree v t ≤ weigh_tree w t
  weigh_le v w le (leaf e x) = extents_le v w le (length e.item) x
  weigh_le v w le (branch o r below) = weigh_in_le v w le r below

  weigh_in_le : (v w : ℕ → ℕ) → ((x : ℕ) → v x ≤ w x) → (r : ℕ) (ts : Twigs) → weigh v r ts ≤ weigh w r ts
  weigh_in_le v w le r none = omega arith
  weigh_in_le v w le r (twig p t rest) = let a = le r in let b = weigh_le v w le t in let c = weigh_in_le v w le (suc r) rest in omega arith

pub here_in : (q : ℕ) → ◌≡◌ {A = ℕ} (in_chunk (q / 1024) q) 1
here_in q = grind (arith, nat_tests)

place_in : (q x : ℕ) → at_place q x ≤ in_chunk (q / 1024) x
place_in q x = elim (cases_eq x q) [
  | inl e ↦ (let a = ap (at_place q) e ∙ at_itself q in let b = ap (in_chunk (q / 1024)) e ∙ here_in q in omega arith)
  | inr ne ↦ (let a = at_another q x ne in omega arith)
]

-- the cell passes the test, and its chunk has a cell that counts
abbrev pub counted : (ℕ → Bool) → (ℕ → ℕ) → ℕ → Bool
counted used live q = used q && nat_lt 0 (live (q / 1024))

pub counts_some : (used : ℕ → Bool) (live : ℕ → ℕ) (q : ℕ) → counted used live q ≡ true → 0 < live (q / 1024)
counts_some used live q h = let b = second_true (used q) (nat_lt 0 (live (q / 1024))) h in grind (arith, nat_tests)

pub counts_used : (used : ℕ → Bool) (live : ℕ → ℕ) (q : ℕ) → counted used live q ≡ true → used q ≡ true
counts_used used live q h = first_true (used q) (nat_lt 0 (live (q / 1024))) h

counted_of : (used : ℕ → Bool) (live : ℕ → ℕ) (q : ℕ) → used q ≡ true → 0 < live (q / 1024) → counted used live q ≡ true
counted_of used live q u some = both_true (used q) (nat_lt 0 (live (q / 1024))) u (grind (arith, nat_tests))

met_used : (used : ℕ → Bool) (t : Tree) → WithinTree used t → (q : ℕ) → 1 ≤ weigh_tree (at_place q) t → used q ≡ true
met_used used t within q m = elim (cases_Bool (used q)) [ inl u ↦ u | inr n ↦ absurd (let z = met_within used t within q n in omega arith) ]

pub counted_stands : {has : ℕ → Cell → Type 0} {used : ℕ → Bool} {live : ℕ → ℕ} {r : ℕ} {t : Tree} {version : List Entry} → StandsIn has used live r t version → StandsIn has (counted used live) live r t version
counted_stands {has} {used} {live} {r} {t} s = record {
  trie = s.trie;
  top_in_use = counted_of used live r s.top_in_use (let a = s.counted (r / 1024) in let b = live_is (r / 1024) r t in let c = here_in r in omega arith);
  in_use = within_met (counted used live) t (λ q m. counted_of used live q (met_used used t s.in_use q m)
      (let a = s.counted (q / 1024) in let b = live_is (q / 1024) r t in let c = weigh_le (at_place q) (in_chunk (q / 1024)) (place_in q) t in omega arith));
  counted = s.counted;
}

-- so it stands on where the cells of such chunks stay
pub standing_on : {has new : ℕ → Cell → Type 0} (used : ℕ → Bool) (live : ℕ → ℕ) {used_new : ℕ → Bool} {live_new : ℕ → ℕ} (version : List Entry) (root : Option ℕ) → Standing has used live root version → Keeps (counted used live) has new → ((q : ℕ) → counted used live q ≡ true → used_new q ≡ true) → ((k : ℕ) → live_new k ≡ live k) → Standing new used_new live_new root version
standing_on used live version None s keep stays same = (s.0, λ k. same k ∙ s.1 k)
standing_on used live version (Some r) s keep stays same = (s.0, stands_later (counted_stands s.1) keep stays same)
