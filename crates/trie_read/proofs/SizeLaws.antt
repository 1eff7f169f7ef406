-- A walk along the twigs of a branch.
use Rattle.std.proofs.Common.{◌≡◌, ℕ, zero, suc, ◌+◌, ◌<◌, ◌≤◌, length, length-append, count_ones, arith, refl, sym, ap, ◌∙◌, subst}
use Rattle.packed_node.specs.declared.Cell.{Cell}
use Rattle.packed_node.specs.declared.Branch.{Branch}
use Rattle.trie_model.specs.Trees.{Tree, Twigs, entries_of, entries, count, IsTree, AreTwigs}
use Rattle.trie_model.specs.Trees.Tree.{leaf, branch}
use Rattle.trie_model.specs.Trees.Twigs.{none, twig}
use Rattle.trie_model.specs.Memory.{top_cell, Beneath, Lie}
use Rattle.trie_model.specs.Shape.{nodes_of, nodes_in}
use Rattle.trie_model.proofs.BitmapLaws.{ones_of}
use Rattle.trie_model.proofs.SplitLaws.{rising_of}
use Rattle.trie_read.specs.Reads.{IsTop}
use Rattle.trie_read.proofs.NodeLaws.{BranchTold}

-- the twigs from the i-th on
abbrev pub from : ℕ → Twigs → Twigs
from zero ts = ts
from (suc i) none = none
from (suc i) (twig p t rest) = from i rest

-- the i-th twig, and what it has of all from there on
pub record TwigHere (has : ℕ → Cell → Type 0) (o r i : ℕ) (ts : Twigs) : Type 0 where
  pub t : Tree
  pub tree : IsTree (suc o) t
  pub there : has (r + i) (top_cell t)
  pub beneath : Beneath has t
  pub names : length (entries (from i ts)) ≡ length (entries_of t) + length (entries (from (suc i) ts))
  pub nodes : nodes_in (from i ts) ≡ nodes_of t + nodes_in (from (suc i) ts)

pub twig_here : (has : ℕ → Cell → Type 0) (o lo r i : ℕ) (ts : Twigs) → AreTwigs o lo ts → Lie has r ts → i < count ts → TwigHere has o r i ts
twig_here has o lo r i none a lies l = absurd (omega arith)
twig_here has o lo r zero (twig p t rest) a lies l =
    let e : r ≡ r + 0 = omega arith in
    record { t = t; tree = a.3; there = subst (λ (n : ℕ). has n (top_cell t)) e lies.0; beneath = lies.1; names = length-append (entries_of t) (entries rest); nodes = refl }
twig_here has o lo r (suc i) (twig p t rest) a lies l =
    let x = twig_here has o (suc p) (suc r) i rest a.4 lies.2 (omega arith) in
    let e : suc r + i ≡ r + suc i = omega arith in
    record { t = x.t; tree = x.tree; there = subst (λ (n : ℕ). has n (top_cell x.t)) e x.there; beneath = x.beneath; names = x.names; nodes = x.nodes }

pub names_past : (i : ℕ) (ts : Twigs) → count ts ≤ i → length (entries (from i ts)) ≡ 0
names_past zero none l = refl
names_past zero (twig p t rest) l = absurd (omega arith)
names_past (suc i) none l = refl
names_past (suc i) (twig p t rest) l = names_past i rest (omega arith)

pub nodes_past : (i : ℕ) (ts : Twigs) → count ts ≤ i → nodes_in (from i ts) ≡ 0
nodes_past zero none l = refl
nodes_past zero (twig p t rest) l = absurd (omega arith)
nodes_past (suc i) none l = refl
nodes_past (suc i) (twig p t rest) l = nodes_past i rest (omega arith)

mutual
  pub names_le : (t : Tree) → length (entries_of t) ≤ nodes_of t
  names_le (leaf e w) = omega arith
  names_le (branch o w below) = let a = names_le_in below in omega arith

  pub names_le_in : (ts : Twigs) → length (entries ts) ≤ nodes_in ts
  names_le_in none = omega arith
  names_le_in (twig p t rest) = let a = names_le t in let b = names_le_in rest in let c = length-append (entries_of t) (entries rest) in omega arith

pub twigs_counted : (has : ℕ → Cell → Type 0) (low : ℕ) (c : Cell) (t : Tree) (b : Branch) → IsTop has low c t → (x : BranchTold t b) → count_ones b.bitmap ≡ count x.below
twigs_counted has low c t b top x =
    let tree = subst (IsTree low) x.is top.tree in
    ap count_ones x.bitmap ∙ ones_of 0 47 x.below (rising_of b.offset 0 x.below (let z : 0 ≤ 47 = omega arith in z) tree.5)

pub here_of : (has : ℕ → Cell → Type 0) (low : ℕ) (c : Cell) (t : Tree) (b : Branch) (i : ℕ) → IsTop has low c t → (x : BranchTold t b) → i < count_ones b.bitmap → TwigHere has b.offset b.twigs i x.below
here_of has low c t b i top x l =
    let tree = subst (IsTree low) x.is top.tree in
    let n = twigs_counted has low c t b top x in
    twig_here has b.offset 0 b.twigs i x.below tree.5 (subst (Beneath has) x.is top.beneath) (omega arith)

pub names_of_branch : (t : Tree) (b : Branch) (x : BranchTold t b) → length (entries_of t) ≡ length (entries x.below)
names_of_branch t b x = ap (λ (y : Tree). length (entries_of y)) x.is

pub nodes_of_branch : (t : Tree) (b : Branch) (x : BranchTold t b) → nodes_of t ≡ suc (nodes_in x.below)
nodes_of_branch t b x = ap nodes_of x.is

-- what a turn of the walk knows of the i-th twig, whose cell it has read
pub record Part (has : ℕ → Cell → Type 0) (o i : ℕ) (cell : Cell) (ts : Twigs) : Type 0 where
  pub t : Tree
  pub top : IsTop has (o + 1) cell t
  pub names : length (entries (from i ts)) ≡ length (entries_of t) + length (entries (from (i + 1) ts))
  pub nodes : nodes_in (from i ts) ≡ nodes_of t + nodes_in (from (i + 1) ts)

-- the memory as the walk began, before the cell was read, and after
pub part_of : {S : Type 0} (H : S → ℕ → Cell → Type 0) (s0 s1 s2 : S) (low i : ℕ) (c cell : Cell) (t : Tree) (b : Branch) → IsTop (H s0) low c t → (x : BranchTold t b) → i < count_ones b.bitmap →
    s1 ≡ s0 → s2 ≡ s1 → ((d : Cell) → H s1 (b.twigs + i) d → cell ≡ d) → Part (H s2) b.offset i cell x.below
part_of H s0 s1 s2 low i c cell t b top x l e f read =
    let n = here_of (H s0) low c t b i top x l in
    let is : cell ≡ top_cell n.t = read (top_cell n.t) (subst (λ s. H s (b.twigs + i) (top_cell n.t)) (sym e) n.there) in
    let deeper : suc b.offset ≡ b.offset + 1 = omega arith in
    let next : suc i ≡ i + 1 = omega arith in
    record {
      t = n.t;
      top = record { tree = subst (λ (k : ℕ). IsTree k n.t) deeper n.tree; is = is; beneath = subst (λ s. Beneath (H s) n.t) (sym (f ∙ e)) n.beneath };
      names = subst (λ (k : ℕ). length (entries (from i x.below)) ≡ length (entries_of n.t) + length (entries (from k x.below))) next n.names;
      nodes = subst (λ (k : ℕ). nodes_in (from i x.below) ≡ nodes_of n.t + nodes_in (from k x.below)) next n.nodes;
    }
