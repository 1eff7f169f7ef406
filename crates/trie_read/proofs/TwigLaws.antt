-- The twigs of a branch whose cell was read.
use Rattle.std.proofs.Common.{◌≡◌, ℕ, zero, suc, ◌+◌, ◌<◌, ◌≤◌, count_ones, arith, refl, sym, ◌∙◌, ap, subst}
use Rattle.packed_node.specs.declared.Cell.{Cell}
use Rattle.packed_node.specs.declared.Branch.{Branch}
use Rattle.trie_model.specs.Trees.{Tree, Twigs, entries_of, count, beside, AllAt, IsTree, AreTwigs}
use Rattle.trie_model.specs.Trees.Tree.{leaf, branch}
use Rattle.trie_model.specs.Trees.Twigs.{none, twig}
use Rattle.trie_model.specs.Memory.{top_cell, Beneath, Lie}
use Rattle.trie_model.proofs.BitmapLaws.{ones_of}
use Rattle.trie_model.proofs.SplitLaws.{rising_of}
use Rattle.trie_read.specs.Reads.{IsTop}
use Rattle.trie_read.specs.Finds.{IsBranchOf}
use Rattle.trie_read.proofs.NodeLaws.{BranchTold}

pub loosen : (low : ℕ) (t : Tree) → IsTree low t → IsTree 0 t
loosen low (leaf e w) h = h
loosen low (branch o w below) h = (omega arith, h.1, h.2, h.3, h.4, h.5)

pub branch_of : (has : ℕ → Cell → Type 0) (low : ℕ) (c : Cell) (t : Tree) (b : Branch) → IsTop has low c t → (x : BranchTold t b) → IsBranchOf has b x.below
branch_of has low c t b top x = record { tree = loosen low (branch b.offset b.twigs x.below) (subst (IsTree low) x.is top.tree); lies = subst (Beneath has) x.is top.beneath; bitmap = x.bitmap }

pub twigs_counted : (has : ℕ → Cell → Type 0) (b : Branch) (below : Twigs) → IsBranchOf has b below → count_ones b.bitmap ≡ count below
twigs_counted has b below h = ap count_ones h.bitmap ∙ ones_of 0 47 below (rising_of b.offset 0 below (let z : 0 ≤ 47 = omega arith in z) h.tree.5)

-- the i-th twig
pub record Ith (has : ℕ → Cell → Type 0) (o r i : ℕ) (ts : Twigs) : Type 0 where
  pub left : Twigs
  pub position : ℕ
  pub tree : Tree
  pub right : Twigs
  pub is : ts ≡ beside left (twig position tree right)
  pub place : count left ≡ i
  pub deeper : IsTree (o + 1) tree
  pub all : AllAt o position (entries_of tree)
  pub there : has (r + i) (top_cell tree)
  pub beneath : Beneath has tree

pub ith : (has : ℕ → Cell → Type 0) (o lo r i : ℕ) (ts : Twigs) → AreTwigs o lo ts → Lie has r ts → i < count ts → Ith has o r i ts
ith has o lo r i none a lies l = absurd (omega arith)
ith has o lo r zero (twig p t rest) a lies l =
    let e : r ≡ r + 0 = omega arith in let d : suc o ≡ o + 1 = omega arith in
    record { left = none; position = p; tree = t; right = rest; is = refl; place = refl; deeper = subst (λ (n : ℕ). IsTree n t) d a.3; all = a.2; there = subst (λ (n : ℕ). has n (top_cell t)) e lies.0; beneath = lies.1 }
ith has o lo r (suc i) (twig p t rest) a lies l =
    let x = ith has o (suc p) (suc r) i rest a.4 lies.2 (omega arith) in
    let e : suc r + i ≡ r + suc i = omega arith in
    record { left = twig p t x.left; position = x.position; tree = x.tree; right = x.right; is = ap (twig p t) x.is; place = ap suc x.place; deeper = x.deeper; all = x.all; there = subst (λ (n : ℕ). has n (top_cell x.tree)) e x.there; beneath = x.beneath }

pub ith_of : (has : ℕ → Cell → Type 0) (b : Branch) (below : Twigs) (i : ℕ) → IsBranchOf has b below → i < count below → Ith has b.offset b.twigs i below
ith_of has b below i h l = ith has b.offset 0 b.twigs i below h.tree.5 h.lies l

-- a cell that was read is the top of its tree, in the memory as it was before other reads
pub read_top : {S : Type 0} (H : S → ℕ → Cell → Type 0) (s0 s1 s2 : S) (r low : ℕ) (cell : Cell) (t : Tree) → IsTree low t → H s0 r (top_cell t) → Beneath (H s0) t → s1 ≡ s0 → s2 ≡ s1 → ((d : Cell) → H s1 r d → cell ≡ d) → IsTop (H s2) low cell t
read_top H s0 s1 s2 r low cell t tree there beneath e f read = record {
  tree = tree;
  is = read (top_cell t) (subst (λ s. H s r (top_cell t)) (sym e) there);
  beneath = subst (λ s. Beneath (H s) t) (sym (f ∙ e)) beneath;
}
