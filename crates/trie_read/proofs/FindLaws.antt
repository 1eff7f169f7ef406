-- Where a key leads, and what that says of the whole trie.
use Rattle.std.proofs.Common.{◌≡◌, ℕ, suc, length, ◌+◌, ◌/◌, ◌%◌, ◌^◌, ◌<◌, ◌≤◌, List, count_ones, Some, None, arith, inl, inr, refl, sym, ◌∙◌, ap, subst}
use Rattle.packed_node.specs.declared.Cell.{Cell}
use Rattle.packed_node.specs.declared.Leaf.{Leaf}
use Rattle.packed_node.specs.declared.Branch.{Branch}
use Rattle.packed_node.specs.declared.Node.{Node}
use Rattle.packed_node.specs.declared.Node.TheVariants as node
use Rattle.packed_node.specs.Nodes.{IsNode, SaysNode, packed}
use Rattle.trie_model.specs.Keys.{at, IsKey, Entry, InList}
use Rattle.trie_model.specs.Trees.{Tree, Twigs, IsTree, AreTwigs, entries_of, entries, count, bitmap_of}
use Rattle.trie_model.specs.Trees.Tree.{branch}
use Rattle.trie_model.specs.Trees.Twigs.{twig}
use Rattle.trie_model.specs.Memory.{node_of, top_cell, Beneath, Lie, IsTrieAt, Stands}
use Rattle.trie_model.proofs.KeyLaws.{in_left, in_right, past_end}
use Rattle.trie_model.proofs.GrowthLaws.{each_of}
use Rattle.trie_model.proofs.ShapeLaws.{two_of}
use Rattle.trie_model.proofs.BitmapLaws.{Rising, count-beside}
use Rattle.trie_model.proofs.SplitLaws.{Found, found_of, missing_of, rising_of, lie_right, twigs_right, in_found, not_missing, entries-beside}
use Rattle.trie_read.specs.Reads.{IsTop, LeadsKey}
use Rattle.trie_model.proofs.NodeLaws.{says_node, node_read, places_left, fewer_left}
use Rattle.trie_read.proofs.NodeLaws.{BranchTold, branch_told, leaf_told}

-- the tree that a key leads to, at this reference: it has the key's entry where the tree has
pub record Next (has : ℕ → Cell → Type 0) (k : List ℕ) (low r : ℕ) (t : Tree) : Type 0 where
  pub here : Tree
  pub deeper : IsTree low here
  pub inside : r < 2 ^ 22
  pub there : has r (top_cell here)
  pub beneath : Beneath has here
  pub keeps : (e : Entry) → InList e (entries_of t) → e.key ≡ k → InList e (entries_of here)
  pub holds : (e : Entry) → InList e (entries_of here) → InList e (entries_of t)

next_in : (has : ℕ → Cell → Type 0) (k : List ℕ) (low o w i : ℕ) (below : Twigs) → IsKey k → IsTree low (branch o w below) → Lie has w below →
    i ≡ count_ones (bitmap_of below % 2 ^ at k o) → (bitmap_of below / 2 ^ at k o) % 2 ≡ 1 → Next has k (o + 1) (w + i) (branch o w below)
next_in has k low o w i below is tree lies index bit =
    go (found_of 0 47 (at k o) below (let z : 0 ≤ at k o = omega arith in z) (is.positions o) (rising_of o 0 below (let z : 0 ≤ 47 = omega arith in z) tree.5) bit)
  where
    go : Found 0 47 (at k o) below → Next has k (o + 1) (w + i) (branch o w below)
    go f =
        let whole = subst (AreTwigs o 0) f.is tree.5 in
        let rising : Rising (at k o) 47 (twig (at k o) f.here f.rest) = (let z : at k o ≤ at k o = omega arith in z, f.inside, f.upper) in
        let right = twigs_right o 0 (at k o) 47 f.left (twig (at k o) f.here f.rest) whole rising in
        let cells = lie_right has w f.left (twig (at k o) f.here f.rest) (subst (Lie has w) f.is lies) in
        let place : w + count f.left ≡ w + i = ap (λ (n : ℕ). w + n) (sym (index ∙ f.index)) in
        let n : suc o ≡ o + 1 = omega arith in
        record {
          here = f.here;
          deeper = subst (λ (x : ℕ). IsTree x f.here) n right.3;
          inside = (let all = ap count f.is ∙ count-beside f.left (twig (at k o) f.here f.rest) in let row = tree.2.inside in omega arith);
          there = subst (λ (n : ℕ). has n (top_cell f.here)) place cells.0;
          beneath = cells.1;
          keeps = λ e h same. in_found o (at k o) below tree.5 f e h (ap (λ (x : List ℕ). at x o) same);
          holds = λ e h. subst (InList e) (sym (ap entries f.is ∙ entries-beside f.left (twig (at k o) f.here f.rest))) (in_right e (entries f.left) (entries (twig (at k o) f.here f.rest)) (in_left e (entries_of f.here) (entries f.rest) h));
        }

-- by what the code knows: the branch, the key's position at its offset, and the twig's index
pub next_of : (has : ℕ → Cell → Type 0) (k : List ℕ) (low : ℕ) (c : Cell) (t : Tree) (b : Branch) (p i : ℕ) → IsTop has low c t → BranchTold t b → IsKey k → p ≡ at k b.offset → i ≡ count_ones (b.bitmap % 2 ^ p) → (b.bitmap / 2 ^ p) % 2 ≡ 1 →
    Next has k (b.offset + 1) (b.twigs + i) t
next_of has k low c t b p i top x is ep ei bit =
    let index : i ≡ count_ones (bitmap_of x.below % 2 ^ at k b.offset) = ei ∙ ap (λ (y : ℕ). count_ones (y % 2 ^ p)) x.bitmap ∙ ap (λ (y : ℕ). count_ones (bitmap_of x.below % 2 ^ y)) ep in
    let same : (b.bitmap / 2 ^ p) % 2 ≡ (bitmap_of x.below / 2 ^ at k b.offset) % 2 = ap (λ (y : ℕ). (y / 2 ^ p) % 2) x.bitmap ∙ ap (λ (y : ℕ). (bitmap_of x.below / 2 ^ y) % 2) ep in
    subst (Next has k (b.offset + 1) (b.twigs + i)) (sym x.is)
    (next_in has k low b.offset b.twigs i x.below is (subst (IsTree low) x.is top.tree) (subst (Beneath has) x.is top.beneath) index (sym same ∙ bit))

absent_in : (has : ℕ → Cell → Type 0) (k : List ℕ) (low : ℕ) (c : Cell) (t : Tree) (b : Branch) (p : ℕ) → IsTop has low c t → BranchTold t b → IsKey k → p ≡ at k b.offset → ((b.bitmap / 2 ^ p) % 2 ≡ 1 → ⊥) → LeadsKey has k (entries_of t) None
absent_in has k low c t b p top x is ep bit =
    let same : (b.bitmap / 2 ^ p) % 2 ≡ (bitmap_of x.below / 2 ^ at k b.offset) % 2 = ap (λ (y : ℕ). (y / 2 ^ p) % 2) x.bitmap ∙ ap (λ (y : ℕ). (bitmap_of x.below / 2 ^ y) % 2) ep in
    let tree = subst (IsTree low) x.is top.tree in
    subst (λ (y : Tree). LeadsKey has k (entries_of y) None) (sym x.is)
    (λ e i alike. not_missing b.offset (at k b.offset) x.below tree.5
    (missing_of 0 47 (at k b.offset) x.below (let z : 0 ≤ at k b.offset = omega arith in z) (is.positions b.offset) (rising_of b.offset 0 x.below (let z : 0 ≤ 47 = omega arith in z) tree.5) (λ z. bit (same ∙ z)))
    e i (ap (λ (y : List ℕ). at y b.offset) alike))

past_in : (has : ℕ → Cell → Type 0) (k : List ℕ) (low : ℕ) (c : Cell) (t : Tree) (b : Branch) → IsTop has low c t → BranchTold t b → length k < b.offset → LeadsKey has k (entries_of t) None
past_in has k low c t b top x l e i alike =
    let tree = subst (IsTree low) x.is top.tree in
    let here : InList e (entries x.below) = subst (λ (y : Tree). InList e (entries_of y)) x.is i in
    let two = two_of b.offset 0 x.below tree.5 tree.3 in
    let mine = each_of b.offset 0 x.below tree.5 e here in
    let short : length e.key < b.offset = let n = ap (λ (ps : List ℕ). length ps) alike in omega arith in
    let first = past_end b.offset e.key two.x.key mine.key (each_of b.offset 0 x.below tree.5 two.x two.x_in).key (tree.4 two.x e two.x_in here) short in
    let second = past_end b.offset e.key two.y.key mine.key (each_of b.offset 0 x.below tree.5 two.y two.y_in).key (tree.4 two.y e two.y_in here) short in
    let apart = two.apart in omega arith

-- the node that a walk by the key has come to: what is below it has the key's entry where the whole has
pub record Along (has : ℕ → Cell → Type 0) (k : List ℕ) (whole : List Entry) (n : Node) : Type 0 where
  pub low : ℕ
  pub tree : Tree
  pub shape : IsTree low tree
  pub is : n ≡ node_of tree
  pub beneath : Beneath has tree
  pub keeps : (e : Entry) → InList e whole → e.key ≡ k → InList e (entries_of tree)
  pub holds : (e : Entry) → InList e (entries_of tree) → InList e whole

along_root : (has : ℕ → Cell → Type 0) (k : List ℕ) (r : ℕ) (t : Tree) (whole : List Entry) (n : Node) → IsTrieAt has r t whole → n ≡ node_of t → Along has k whole n
along_root has k r t whole n h is = record { low = 0; tree = t; shape = h.shape; is = is; beneath = h.beneath; keeps = λ e i same. subst (InList e) (sym h.holds) i; holds = λ e i. subst (InList e) h.holds i }

-- the root's cell, as it was read
pub along_first : (has : ℕ → Cell → Type 0) (k : List ℕ) (r : ℕ) (whole : List Entry) (c : Cell) (n : Node) → Stands has (Some r) whole → ((d : Cell) → has r d → c ≡ d) → ((m : Node) → IsNode m → packed m ≡ c → n ≡ m) → Along has k whole n
along_first has k r whole c n h read back = along_root has k r h.0 whole n h.1 (node_read 0 h.0 c n h.1.shape (read (top_cell h.0) h.1.top) back)

pub first_says : (has : ℕ → Cell → Type 0) (r : ℕ) (whole : List Entry) (c : Cell) → Stands has (Some r) whole → ((d : Cell) → has r d → c ≡ d) → SaysNode c
first_says has r whole c h read = says_node 0 h.0 c h.1.shape (read (top_cell h.0) h.1.top)

-- at a branch
pub along_told : (has : ℕ → Cell → Type 0) (k : List ℕ) (whole : List Entry) (n : Node) (b : Branch) (a : Along has k whole n) → n ≡ node.Branch b → BranchTold a.tree b
along_told has k whole n b a is = branch_told a.tree b (sym a.is ∙ is)

pub along_next : (has : ℕ → Cell → Type 0) (k : List ℕ) (whole : List Entry) (n : Node) (b : Branch) (p i : ℕ) (a : Along has k whole n) → n ≡ node.Branch b → IsKey k → p ≡ at k b.offset → i ≡ count_ones (b.bitmap % 2 ^ p) → (b.bitmap / 2 ^ p) % 2 ≡ 1 →
    Next has k (b.offset + 1) (b.twigs + i) a.tree
along_next has k whole n b p i a is = next_of has k a.low (top_cell a.tree) a.tree b p i (record { tree = a.shape; is = refl; beneath = a.beneath }) (along_told has k whole n b a is)

pub along_more : (has : ℕ → Cell → Type 0) (k : List ℕ) (whole : List Entry) (n : Node) (b : Branch) (p i : ℕ) (c : Cell) (m : Node) (a : Along has k whole n) (is : n ≡ node.Branch b) (kk : IsKey k) (ep : p ≡ at k b.offset) (ei : i ≡ count_ones (b.bitmap % 2 ^ p)) (bit : (b.bitmap / 2 ^ p) % 2 ≡ 1) →
    ((d : Cell) → has (b.twigs + i) d → c ≡ d) → ((x : Node) → IsNode x → packed x ≡ c → m ≡ x) → Along has k whole m
along_more has k whole n b p i c m a is kk ep ei bit read back =
    let d = along_next has k whole n b p i a is kk ep ei bit in
    record {
      low = b.offset + 1;
      tree = d.here;
      shape = d.deeper;
      is = node_read (b.offset + 1) d.here c m d.deeper (read (top_cell d.here) d.there) back;
      beneath = d.beneath;
      keeps = λ e i same. d.keeps e (a.keeps e i same) same;
      holds = λ e i. a.holds e (d.holds e i);
    }

pub next_says : (has : ℕ → Cell → Type 0) (k : List ℕ) (low r : ℕ) (t : Tree) (c : Cell) (d : Next has k low r t) → ((x : Cell) → has r x → c ≡ x) → SaysNode c
next_says has k low r t c d read = says_node low d.here c d.deeper (read (top_cell d.here) d.there)

pub along_falls : (has : ℕ → Cell → Type 0) (k : List ℕ) (whole : List Entry) (n m : Node) (b : Branch) (r : ℕ) (c : Cell) (a : Along has k whole n) → n ≡ node.Branch b → (d : Next has k (b.offset + 1) r a.tree) → ((x : Cell) → has r x → c ≡ x) → ((x : Node) → IsNode x → packed x ≡ c → m ≡ x) →
    places_left m < places_left n
along_falls has k whole n m b r c a is d read back =
    let x = along_told has k whole n b a is in
    let tree = subst (IsTree a.low) x.is a.shape in
    let l : b.offset + 1 ≡ suc b.offset = omega arith in
    let f = fewer_left b.offset d.here b (subst (λ (i : ℕ). IsTree i d.here) l d.deeper) refl (let e = tree.1 in omega arith) in
    subst (λ (w : Node). places_left m < places_left w) (sym is) (subst (λ (w : Node). places_left w < places_left (node.Branch b)) (sym (node_read (b.offset + 1) d.here c m d.deeper (read (top_cell d.here) d.there) back)) f)

-- where no branch leads on
pub along_absent : (has : ℕ → Cell → Type 0) (k : List ℕ) (whole : List Entry) (n : Node) (b : Branch) (p : ℕ) (a : Along has k whole n) → n ≡ node.Branch b → IsKey k → p ≡ at k b.offset → ((b.bitmap / 2 ^ p) % 2 ≡ 1 → ⊥) → LeadsKey has k whole None
along_absent has k whole n b p a is kk ep bit e i same =
    absent_in has k a.low (top_cell a.tree) a.tree b p (record { tree = a.shape; is = refl; beneath = a.beneath }) (along_told has k whole n b a is) kk ep bit e (a.keeps e i same) same

pub along_past : (has : ℕ → Cell → Type 0) (k : List ℕ) (whole : List Entry) (n : Node) (b : Branch) (a : Along has k whole n) → n ≡ node.Branch b → length k < b.offset → LeadsKey has k whole None
along_past has k whole n b a is l e i same =
    past_in has k a.low (top_cell a.tree) a.tree b (record { tree = a.shape; is = refl; beneath = a.beneath }) (along_told has k whole n b a is) l e (a.keeps e i same) same

pub along_leaf : (has : ℕ → Cell → Type 0) (k : List ℕ) (whole : List Entry) (n : Node) (l : Leaf) (a : Along has k whole n) → n ≡ node.Leaf l → LeadsKey has k whole (Some l)
along_leaf has k whole n l a is =
    let x = leaf_told has a.low a.tree l a.shape a.beneath (sym a.is ∙ is) in
    (x.entry, a.holds x.entry (subst (InList x.entry) (sym x.is) (inl refl)), x.leaf_of, λ y i same. elim (subst (InList y) x.is (a.keeps y i same)) [ inl e ↦ e | inr z ↦ absurd z ])
