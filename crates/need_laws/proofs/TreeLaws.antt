-- A tree with one entry put in has no fewer cells, and at most those of a leaf, of a branch and of the item more.
use Rattle.std.proofs.Common.{◌≡◌, ℕ, zero, suc, ◌+◌, ◌<◌, ◌≤◌, ◌⊎◌, length, arith, inl, inr, sym, ◌∙◌, ap, subst}
use Rattle.std.proofs.lemmas.Bool.{cases_lt}
use Rattle.trie_model.specs.Keys.{at, Entry, IsEntry}
use Rattle.trie_model.specs.Changes.{Nearest, Grown, Deep}
use Rattle.trie_model.specs.Extents.{cells_in, weigh_extents}
use Rattle.trie_model.specs.Trees.{Tree, Twigs, entries_of, entries, count, IsTree, AreTwigs, beside}
use Rattle.trie_model.specs.Trees.Tree.{leaf, branch}
use Rattle.trie_model.specs.Trees.Twigs.{twig}
use Rattle.trie_model.proofs.SplitLaws.{Found, Missing, rising_of}
use Rattle.trie_model.proofs.BitmapLaws.{few, count-beside}
use Rattle.trie_model.proofs.CountLaws.{weigh_add, weigh_replace}
use Rattle.trie_model.proofs.GrowthLaws.{Alone, alone_of, split_low, split_high}
use Rattle.trie_model.proofs.AddLaws.{absent_of, present_of, nearest_here, add_twig, grow_twig, found_twigs}
use Rattle.trie_model.proofs.ExtentLaws.{Laid, laid, short_row, weigh_ones}
use Rattle.trie_model.proofs.SizeLaws.{one, size, row_ones}

-- the tree with the entry, and how much it has grown
pub record Larger (e : Entry) (low : ℕ) (t : Tree) : Type 0 where
  pub new : Tree
  pub grown : Grown e low t new
  pub least : size t ≤ size new
  pub most : size new ≤ size t + (2 + cells_in e.item)

module _ (low d p : ℕ) (e : Entry) (deep : low ≤ d) (short : d ≤ 503) (lp : p < 47) (is : IsEntry e) where
  -- where the item lies doesn't matter here
  there : Laid (length e.item)
  there = laid (length e.item)

  item_cells : weigh_extents one (length e.item) there.extents ≡ cells_in e.item
  item_cells = weigh_ones one row_ones (length e.item) there.extents there.are

  above : (t : Tree) → IsTree low t → Nearest d e.key p (entries_of t) → Deep d t → Larger e low t
  above t h x deeper = elim (cases_lt (at e.key d) p) [
    | inl l ↦ record { new = _; grown = split_low low d 0 p there.extents e t deep short (short_row 2 (omega arith)) lp is there.are l alone; least = omega arith; most = (let c = item_cells in omega arith) }
    | inr g ↦ record { new = _; grown = split_high low d 0 p there.extents e t deep short (short_row 2 (omega arith)) (is.key.positions d) lp is there.are (apart g) alone; least = omega arith; most = (let c = item_cells in omega arith) }
  ]
    where
      alone : Alone d e.key p t
      alone = alone_of low d e.key p t h x deeper

      apart : p ≤ at e.key d → p < at e.key d
      apart g = elim (cases_lt p (at e.key d)) [ inl l ↦ l | inr m ↦ absurd (x.other (omega arith)) ]

  fits : (o : ℕ) (ts : Twigs) → AreTwigs o 0 ts → count ts ≤ 47
  fits o ts a = let f = few 0 47 ts (rising_of o 0 ts (omega arith) a) in omega arith

  next_to : (w : ℕ) (below : Twigs) → IsTree low (branch d w below) → Nearest d e.key p (entries below) → Larger e low (branch d w below)
  next_to w below tree near =
      let m = absent_of low d w p e.key below tree near (is.key.positions d) in
      let sizes = weigh_add one w 0 (at e.key d) there.extents e below m in
      let a = row_ones w (count below) in
      let b = row_ones 0 (count (beside m.left (twig (at e.key d) (leaf e there.extents) m.right))) in
      let c = sizes_of m in
      let i = item_cells in
      record {
        new = _;
        grown = add_twig low d w 0 p there.extents e below m tree near is there.are (short_row (suc (count below)) (let f = fits d below tree.5 in omega arith));
        least = omega arith;
        most = omega arith;
      }
    where
      sizes_of : (m : Missing 0 47 (at e.key d) below) → count (beside m.left (twig (at e.key d) (leaf e there.extents) m.right)) ≡ suc (count below)
      sizes_of m = let a = count-beside m.left (twig (at e.key d) (leaf e there.extents) m.right) in let b = ap count m.is ∙ count-beside m.left m.right in omega arith

  below_one : (o w : ℕ) (below : Twigs) → IsTree low (branch o w below) → Nearest d e.key p (entries below) → o < d → ((t : Tree) → IsTree (suc o) t → Nearest d e.key p (entries_of t) → Larger e (suc o) t) → Larger e low (branch o w below)
  below_one o w below tree near l next =
      let f = present_of low d o w p e.key below tree near l (is.key.positions o) in
      let twigs = found_twigs o (at e.key o) below tree.5 f in
      let more = next f.here twigs.3 (nearest_here low d o w p e.key below tree near l f) in
      let sizes = weigh_replace one w 0 (at e.key o) below f more.new in
      let least = more.least in
      let most = more.most in
      let a = row_ones w (count below) in
      let b = row_ones 0 (count (beside f.left (twig (at e.key o) more.new f.rest))) in
      let c = sizes_of f more.new in
      record {
        new = _;
        grown = grow_twig low d o w 0 p e below f tree near l (short_row (count below) (let g = fits o below tree.5 in omega arith)) more.new more.grown;
        least = omega arith;
        most = omega arith;
      }
    where
      sizes_of : (f : Found 0 47 (at e.key o) below) (new : Tree) → count (beside f.left (twig (at e.key o) new f.rest)) ≡ count below
      sizes_of f new = count-beside f.left (twig (at e.key o) new f.rest) ∙ sym (ap count f.is ∙ count-beside f.left (twig (at e.key o) f.here f.rest))

pub larger : (n low d p : ℕ) (e : Entry) (t : Tree) → 504 ≤ n + low → low ≤ d → d ≤ 503 → p < 47 → IsEntry e → IsTree low t → Nearest d e.key p (entries_of t) → Larger e low t
larger n low d p e (leaf x w) many deep short lp is tree near = above low d p e deep short lp is (leaf x w) tree near tt
larger zero low d p e (branch o w below) many deep short lp is tree near = absurd (omega arith)
larger (suc n) low d p e (branch o w below) many deep short lp is tree near = go (cases_lt d o) (λ t. larger n (suc o) d p e t (let a = tree.0 in omega arith))
  where
    go : (d < o) ⊎ (o ≤ d) → ((t : Tree) → suc o ≤ d → d ≤ 503 → p < 47 → IsEntry e → IsTree (suc o) t → Nearest d e.key p (entries_of t) → Larger e (suc o) t) → Larger e low (branch o w below)
    go (inl l) next = above low d p e deep short lp is (branch o w below) tree near l
    go (inr g) next = elim (cases_lt o d) [
      | inl l ↦ below_one low d p e deep short lp is o w below tree near l (λ t h x. next t l short lp is h x)
      | inr h ↦ (
          let same : d ≡ o = omega arith in
          let here : IsTree low (branch d w below) = subst (λ (x : ℕ). IsTree low (branch x w below)) (sym same) tree in
          subst (λ (x : ℕ). Larger e low (branch x w below)) same (next_to low d p e deep short lp is w below here near)
          )
    ]
