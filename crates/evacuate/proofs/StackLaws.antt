-- The walk to what lies in sparse chunks.
use Rattle.std.proofs.Common.{◌≡◌, ◌≢◌, ℕ, zero, suc, ◌+◌, ◌-◌, ◌/◌, ◌<◌, ◌≤◌, true, false, List, length, [], ◌∷◌, slice_index, count_ones, arith, refl, sym, ◌∙◌, ap, subst}
use Rattle.std.proofs.lemmas.Bool.{true≢false}
use Rattle.packed_node.specs.declared.Cell.{Cell}
use Rattle.packed_node.specs.declared.Branch.{Branch}
use Rattle.packed_node.specs.declared.Leaf.{Leaf}
use Rattle.packed_node.specs.declared.Node.{Node}
use Rattle.packed_node.specs.declared.Node.TheVariants as node
use Rattle.packed_node.specs.Nodes.{IsNode, packed}
use Rattle.trie_model.specs.Extents.{Extents, AreExtents, HasItem, IsRow, ItemLies, LiesAt, row}
use Rattle.trie_model.specs.Memory.{top_cell, node_of, Beneath, Lie}
use Rattle.trie_model.specs.Reach.{in_chunk, weigh_tree}
use Rattle.trie_model.specs.Trees.{Tree, Twigs, count, beside, IsTree, AreTwigs}
use Rattle.trie_model.specs.Trees.Tree.{leaf, branch}
use Rattle.trie_model.specs.Trees.Twigs.{none, twig}
use Rattle.trie_model.proofs.BitmapLaws.{ones_of}
use Rattle.trie_model.proofs.CountLaws.{weigh_is, under}
use Rattle.trie_model.proofs.NodeLaws.{BranchTold, LeafSaid, branch_told, leaf_said, node_read, says_node}
use Rattle.trie_model.proofs.SplitLaws.{rising_of}
use Rattle.chunk_usage.specs.Counting.{is_sparse}
use Rattle.chunk_usage.specs.Ledger.{Ledger}
use Rattle.chunk_usage.proofs.RowLemmas.{row_there}
use Rattle.trie_read.specs.Reads.{IsTop}
use Rattle.trie_space.specs.Ways.{NotBefore}
use Rattle.evacuate.specs.declared.stack.Stack.{Stack}
use Rattle.evacuate.specs.Sparse.{SparseExtents, LiesSparse}
use Rattle.evacuate.specs.Stacks.{Found, StackKept}
use Rattle.evacuate.proofs.SparseLaws.{clear_extents}

-- the twigs from the i-th on
abbrev pub past : ℕ → Twigs → Twigs
past zero ts = ts
past (suc i) none = none
past (suc i) (twig p t rest) = past i rest

pub past_all : (w : ℕ → ℕ) (i : ℕ) (ts : Twigs) → count ts ≤ i → under w (past i ts) ≡ 0
past_all w zero none l = refl
past_all w zero (twig p t rest) l = absurd (omega arith)
past_all w (suc i) none l = refl
past_all w (suc i) (twig p t rest) l = past_all w i rest (omega arith)

-- the i-th twig
pub record TwigAt (has : ℕ → Cell → Type 0) (o r i : ℕ) (ts : Twigs) : Type 0 where
  pub left : Twigs
  pub position : ℕ
  pub t : Tree
  pub right : Twigs
  pub is : ts ≡ beside left (twig position t right)
  pub place : count left ≡ i
  pub tree : IsTree (suc o) t
  pub there : has (r + i) (top_cell t)
  pub beneath : Beneath has t
  pub weighs : (w : ℕ → ℕ) → under w (past i ts) ≡ weigh_tree w t + under w (past (suc i) ts)

pub twig_at : (has : ℕ → Cell → Type 0) (o lo r i : ℕ) (ts : Twigs) → AreTwigs o lo ts → Lie has r ts → i < count ts → TwigAt has o r i ts
twig_at has o lo r i none a lies l = absurd (omega arith)
twig_at has o lo r zero (twig p t rest) a lies l =
    let e : r ≡ r + 0 = omega arith in
    record { left = none; position = p; t = t; right = rest; is = refl; place = refl; tree = a.3; there = subst (λ (n : ℕ). has n (top_cell t)) e lies.0; beneath = lies.1; weighs = λ w. refl }
twig_at has o lo r (suc i) (twig p t rest) a lies l =
    let x = twig_at has o (suc p) (suc r) i rest a.4 lies.2 (omega arith) in
    let e : suc r + i ≡ r + suc i = omega arith in
    record { left = twig p t x.left; position = x.position; t = x.t; right = x.right; is = ap (twig p t) x.is; place = ap suc x.place; tree = x.tree; there = subst (λ (n : ℕ). has n (top_cell x.t)) e x.there; beneath = x.beneath; weighs = x.weighs }

-- ---- a node that was read

module _ {has : ℕ → Cell → Type 0} {low : ℕ} {c : Cell} {t : Tree} (top : IsTop has low c t) where
  pub says : (n : Node) × IsNode n × (packed n ≡ c)
  says = says_node low t c top.tree top.is

  pub read_is : {n : Node} → ((m : Node) → IsNode m → packed m ≡ c → n ≡ m) → n ≡ node_of t
  read_is {n} back = node_read low t c n top.tree top.is back

  pub told_of : {n : Node} {b : Branch} → ((m : Node) → IsNode m → packed m ≡ c → n ≡ m) → n ≡ node.Branch b → BranchTold t b
  told_of {b = b} back is = branch_told t b (sym (read_is back) ∙ is)

  pub item_of : {n : Node} {x : Leaf} → ((m : Node) → IsNode m → packed m ≡ c → n ≡ m) → n ≡ node.Leaf x → LeafSaid t x
  item_of {x = x} back is = leaf_said t x (sym (read_is back) ∙ is)

  module _ {b : Branch} (x : BranchTold t b) where
    branch_tree : IsTree low (branch b.offset b.twigs x.below)
    branch_tree = subst (IsTree low) x.is top.tree

    pub early : b.offset ≤ 503
    early = branch_tree.1

    pub late : low ≤ b.offset
    late = branch_tree.0

    pub row_inside : IsRow b.twigs (count x.below)
    row_inside = branch_tree.2

    pub counted : count_ones b.bitmap ≡ count x.below
    counted = ap count_ones x.bitmap ∙ ones_of 0 47 x.below (rising_of b.offset 0 x.below (let z : 0 ≤ 47 = omega arith in z) branch_tree.5)

    pub twig_here : (i : ℕ) → i < count_ones b.bitmap → TwigAt has b.offset b.twigs i x.below
    twig_here i l = twig_at has b.offset 0 b.twigs i x.below branch_tree.5 (subst (Beneath has) x.is top.beneath) (let n = counted in omega arith)

-- the twig's cell was read, in the memory as the walk has left it
pub twig_top : {S : Type 0} (H : S → ℕ → Cell → Type 0) {s0 s1 s2 : S} {o r i : ℕ} {ts : Twigs} {cell : Cell} (x : TwigAt (H s0) o r i ts) → s1 ≡ s0 → s2 ≡ s1 → ((d : Cell) → H s1 (r + i) d → cell ≡ d) → IsTop (H s2) (o + 1) cell x.t
twig_top H {o = o} {r} {i} x e f read =
    let deeper : suc o ≡ o + 1 = omega arith in
    record {
      tree = subst (λ (n : ℕ). IsTree n x.t) deeper x.tree;
      is = read (top_cell x.t) (subst (λ s. H s (r + i) (top_cell x.t)) (sym e) x.there);
      beneath = subst (λ s. Beneath (H s) x.t) (sym (f ∙ e)) x.beneath;
    }

-- at a turn of the walk: its cell is there, and below it there are fewer places
module _ {S : Type 0} (H : S → ℕ → Cell → Type 0) {s0 s1 : S} (same : s1 ≡ s0) {low : ℕ} {c : Cell} {t : Tree} (top : IsTop (H s0) low c t) {b : Branch} (x : BranchTold t b) where
  pub cell_there : (i : ℕ) → i < count_ones b.bitmap → (d : Cell) × H s1 (b.twigs + i) d
  cell_there i l = let n = twig_here top x i l in (top_cell n.t, subst (λ s. H s (b.twigs + i) (top_cell n.t)) (sym same) n.there)

  pub turn : (i : ℕ) (l : i < count_ones b.bitmap) {s2 : S} {cell : Cell} → s2 ≡ s1 → ((d : Cell) → H s1 (b.twigs + i) d → cell ≡ d) → (u : Tree) × IsTop (H s2) (b.offset + 1) cell u
  turn i l f read = let n = twig_here top x i l in (n.t, twig_top H n same f read)

pub falls : {has : ℕ → Cell → Type 0} {low : ℕ} {c : Cell} {t : Tree} {b : Branch} → IsTop has low c t → BranchTold t b → 504 - (b.offset + 1) < 504 - low
falls top x = let a = late top x in let d = early top x in omega arith

-- the stack takes a twig, and is kept below it
pub kept_on : {S : Type 0} {s0 s1 s2 s3 : S} {low o : ℕ} {a b d e : Stack} → low ≤ o → StackKept s0 s1 low a b → ((i : ℕ) → i ≢ o → slice_index d.indices i ≡ slice_index b.indices i) → s2 ≡ s1 → StackKept s2 s3 (o + 1) d e → StackKept s0 s3 low a e
kept_on late k others read below = record { same = below.same ∙ read ∙ k.same; above = λ i l. below.above i (omega arith) ∙ others i (λ z. omega arith) ∙ k.above i l }

-- ---- what lies in no sparse chunk

pub clear_row : (l : Ledger) (k r n : ℕ) → IsRow r n → is_sparse l (r / 1024) ≡ false → is_sparse l k ≡ true → row (in_chunk k) r n ≡ 0
clear_row l k r n is clear sparse = row_there r n is.together k (λ e. true≢false (sym sparse ∙ ap (is_sparse l) e ∙ clear))

-- an item that was read there
pub leaf_there : {has : ℕ → Cell → Type 0} {low : ℕ} {c : Cell} {t : Tree} {x : Leaf} → IsTop has low c t → (said : LeafSaid t x) → LiesAt has x.at x.len said.entry.item said.extents
leaf_there {has} {low} {x = x} top said =
    let shape : IsTree low (leaf said.entry said.extents) = subst (IsTree low) said.is top.tree in
    let lies : ItemLies has said.extents said.entry.item = subst (Beneath has) said.is top.beneath in
    record { from = sym said.at; size = sym said.len; are = subst (λ (n : ℕ). AreExtents n said.extents) (sym said.len) shape.1; lies = lies }

pub leaf_item : {has : ℕ → Cell → Type 0} {low : ℕ} {c : Cell} {t : Tree} {x : Leaf} → IsTop has low c t → (said : LeafSaid t x) → (item : List ℕ) × HasItem has x.at x.len item
leaf_item top said = (said.entry.item, record { extents = said.extents; there = leaf_there top said })

pub clear_leaf : {has : ℕ → Cell → Type 0} (l : Ledger) (low : ℕ) (c : Cell) (t : Tree) (x : Leaf) → IsTop has low c t → LeafSaid t x → ((item : List ℕ) (y : Extents) → LiesAt has x.at x.len item y → SparseExtents l y → ⊥) → (k : ℕ) → is_sparse l k ≡ true → weigh_tree (in_chunk k) t ≡ 0
clear_leaf l low c t x top said clear k sparse =
    let shape : IsTree low (leaf said.entry said.extents) = subst (IsTree low) said.is top.tree in
    ap (weigh_tree (in_chunk k)) said.is ∙ clear_extents l (length said.entry.item) said.extents shape.1 (clear said.entry.item said.extents (leaf_there top said)) k sparse

pub clear_branch : (l : Ledger) (low : ℕ) (t : Tree) (b : Branch) (x : BranchTold t b) → IsTree low t → is_sparse l (b.twigs / 1024) ≡ false → (k : ℕ) → is_sparse l k ≡ true → under (in_chunk k) x.below ≡ 0 → weigh_tree (in_chunk k) t ≡ 0
clear_branch l low t b x tree clear k sparse empty =
    let shape : IsTree low (branch b.offset b.twigs x.below) = subst (IsTree low) x.is tree in
    let a = ap (weigh_tree (in_chunk k)) x.is in
    let w = weigh_is (in_chunk k) b.twigs x.below in
    let c = clear_row l k b.twigs (count x.below) shape.2 clear sparse in omega arith

-- ---- what was found

pub found_leaf : {has : ℕ → Cell → Type 0} {l : Ledger} {stack : Stack} {low : ℕ} {c : Cell} (t : Tree) (x : Leaf) → IsTop has low c t → LeafSaid t x → ((item : List ℕ) (y : Extents) → LiesAt has x.at x.len item y → SparseExtents l y) → Found l stack t
found_leaf {l = l} {stack} t x top said sparse = record {
  way = [];
  end = t;
  is = refl;
  leads = record { steps = tt; ends = subst (NotBefore stack.end) (sym said.is) tt };
  sparse = subst (LiesSparse l) (sym said.is) (sparse said.entry.item said.extents (leaf_there top said));
}

pub found_branch : {l : Ledger} {stack : Stack} (t : Tree) (b : Branch) → BranchTold t b → stack.end ≡ b.offset → is_sparse l (b.twigs / 1024) ≡ true → Found l stack t
found_branch {l} {stack} t b x end sparse = record {
  way = [];
  end = t;
  is = refl;
  leads = record { steps = tt; ends = subst (NotBefore stack.end) (sym x.is) (let z : stack.end ≤ b.offset = omega arith in z) };
  sparse = subst (LiesSparse l) (sym x.is) sparse;
}

pub found_below : {S : Type 0} {has : ℕ → Cell → Type 0} {l : Ledger} {s s1 : S} {taken stack : Stack} (t : Tree) (b : Branch) (x : BranchTold t b) (i : ℕ) (n : TwigAt has b.offset b.twigs i x.below) →
    Found l stack n.t → b.offset + 1 ≤ stack.end → StackKept s s1 (b.offset + 1) taken stack → slice_index taken.indices b.offset ≡ i → Found l stack t
found_below t b x i n f late kept index = record {
  way = record { offset = b.offset; first = b.twigs; left = n.left; position = n.position; right = n.right } ∷ f.way;
  end = f.end;
  is = x.is ∙ ap (branch b.offset b.twigs) n.is ∙ ap (λ (u : Tree). branch b.offset b.twigs (beside n.left (twig n.position u n.right))) f.is;
  leads = record { steps = (omega arith, kept.above b.offset (omega arith) ∙ index ∙ sym n.place, f.leads.steps); ends = f.leads.ends };
  sparse = f.sparse;
}
