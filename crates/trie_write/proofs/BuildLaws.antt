-- The trie that grows as items are built.
use Rattle.std.specs.Int.{bit_at}
use Rattle.std.proofs.lemmas.Nat.{shr_high}
use Rattle.std.proofs.Common.{pow_mono, ◌≡◌, ℕ, suc, ◌+◌, ◌*◌, ◌/◌, ◌%◌, ◌^◌, ◌<◌, ◌≤◌, true, List, [], ◌∷◌, ◌++◌, length, slice_get, Option, Some, arith, sym, ◌∙◌, ap, subst}
use Rattle.packed_node.specs.declared.Cell.{Cell}
use Rattle.packed_node.specs.declared.Leaf.{Leaf}
use Rattle.packed_node.specs.declared.Node.TheVariants as node
use Rattle.packed_node.specs.Nodes.{IsNode, packed}
use Rattle.trie_model.specs.Extents.{Extents, first_of as place_of, AreExtents, IsRow, ItemLies, cells_in, row}
use Rattle.trie_model.specs.Keys.{at, Entry, IsEntry, Rises}
use Rattle.trie_model.specs.Reach.{in_chunk}
use Rattle.trie_model.specs.Shape.{cells}
use Rattle.trie_model.specs.Trees.{Twigs, entries_of, entries, count, bitmap_of, IsTree, beside}
use Rattle.trie_model.specs.Trees.Tree.{leaf, branch}
use Rattle.trie_model.specs.Trees.Twigs.{none, twig}
use Rattle.trie_model.proofs.BitmapLaws.{below_all, few, count-beside, bitmap_of-beside}
use Rattle.trie_model.proofs.CountLaws.{under, weigh_is, under-beside}
use Rattle.trie_model.proofs.MoveLaws.{Keeps, beneath_kept}
use Rattle.trie_model.proofs.OutlineLaws.{EachIsEntry, fewer_cells}
use Rattle.trie_model.proofs.ReachLaws.{met, live_is}
use Rattle.trie_model.proofs.SizeLaws.{twig_sizes, twig_sizes-beside, size_is, size_branch, entry_cells}
use Rattle.trie_model.proofs.ExtentLaws.{laid, short_row}
use Rattle.trie_model.proofs.TopLaws.{is_node}
use Rattle.chunk_usage.specs.Rooms.{Account, Handed}
use Rattle.trie_write.specs.declared.branch_points.BranchPoint.{BranchPoint}
use Rattle.trie_space.specs.Weights.{at_place, mark}
use Rattle.trie_write.specs.Points.{Before, Front}
use Rattle.trie_write.specs.Builds.{Built, BuiltFront, Stopped}
use Rattle.trie_write.specs.Laid.{HandedItem}
use Rattle.trie_space.specs.Standing.{Standing}
use Rattle.trie_write.proofs.OpenLaws.{Opened, Joined, open_first, open_join, open_more, open_close, later, parts, twigs_few, tree_lower, front_lower, front_point, nothing_left}
use Rattle.trie_space.proofs.WeightLaws.{handed_fresh, mark_tells, mark_le, within_met}
use Rattle.trie_write.proofs.LaidLaws.{item_fresh}
use Rattle.trie_write.proofs.TwigLaws.{tops_of, AllBeneath, lie_of, tops-beside, length-tops, beneath_join, all_kept, all_within_met}

clear_above : (b p : ℕ) → b < 2 ^ p → bit_at b p ≡ 0
clear_above b p l = let e : b ≡ 0 * 2 ^ p + b = omega arith in ap (λ (n : ℕ). n / 2 ^ p % 2) e ∙ ap (λ (n : ℕ). n % 2) (shr_high 0 p b l)

-- a leaf
pub leaf_built : {has : ℕ → Cell → Type 0} {old new : Account} {l : Leaf} {x : Extents} {cell : Cell} (e : Entry) → IsEntry e → l.len ≡ length e.item → l.at ≡ place_of x → HandedItem old new (length e.item) x → ((q : ℕ) → old.used q ≡ true → new.used q ≡ true) →
    new.consumed ≤ old.consumed + cells_in e.item → ItemLies has x e.item → cell ≡ packed (node.Leaf l) → Built has old new (leaf e x) cell
leaf_built {l = l} {x} e is len at_first handed stays consumes lies made = record {
  is = made ∙ ap (λ (n : ℕ). packed (node.Leaf (record { len = n; at = l.at }))) len ∙ ap (λ (n : ℕ). packed (node.Leaf (record { len = length e.item; at = n }))) at_first;
  beneath = lies;
  counts = handed.counts;
  fresh = item_fresh handed stays;
  cost = (let n = entry_cells e is in omega arith);
}

pub leaf_node : {l : Leaf} (x : Extents) (e : Entry) → IsEntry e → l.len ≡ length e.item → l.at ≡ place_of x → AreExtents (length e.item) x → IsNode (node.Leaf l)
leaf_node {l = l} x e is len at_first room =
    subst (λ (n : ℕ). IsNode (node.Leaf (record { len = n; at = l.at }))) (sym len)
    (subst (λ (n : ℕ). IsNode (node.Leaf (record { len = length e.item; at = n }))) (sym at_first) (is_node 0 (leaf e x) (is, room)))

pub stopped_lower : {old new : Account} {low far : ℕ} {es : List Entry} → Stopped old new far es → low ≤ far → Stopped old new low es
stopped_lower {low = low} {far = far} s l = record { t = s.t; rest = s.rest; shape = tree_lower low far s.t l s.shape; whole = s.whole; cost = s.cost }

pub leaf_stopped : {old new : Account} {low : ℕ} {es : List Entry} (e : Entry) (rest : List Entry) → IsEntry e → es ≡ e ∷ rest → new.consumed < old.consumed + cells (e ∷ []) → Stopped old new low es
leaf_stopped e rest is whole l = let there = laid (length e.item) in record { t = leaf e there.extents; rest = rest; shape = (is, there.are); whole = whole; cost = l }

pub built_lower : {has : ℕ → Cell → Type 0} {old new : Account} {low far : ℕ} {es rest : List Entry} {next : Option BranchPoint} {cell : Cell} → BuiltFront has old new far es rest next cell → low ≤ far → Before low next → BuiltFront has old new low es rest next cell
built_lower (t, f, b) l s = (t, front_lower f l s, b)

pub built_point : {has : ℕ → Cell → Type 0} {old new : Account} {far : ℕ} {es rest : List Entry} {next : Option BranchPoint} {cell : Cell} (point : BranchPoint) → next ≡ Some point → BuiltFront has old new far es rest next cell → BuiltFront has old new (suc point.offset) es rest (Some point) cell
built_point point e (t, f, b) = (t, front_point point e f, b)

-- The twigs of an open branch, in new cells.
pub record Making (has : ℕ → Cell → Type 0) (base now : Account) (o : ℕ) (es rest : List Entry) (next : Option BranchPoint) (bits : ℕ) (cs : List Cell) : Type 0 where
  pub made : Twigs
  pub so_far : Opened o es rest next made
  pub bits_are : bits ≡ bitmap_of made
  pub tops : cs ≡ tops_of made
  pub beneath : AllBeneath has made
  pub counts : (k : ℕ) → now.live k ≡ base.live k + under (in_chunk k) made
  pub fresh : (q : ℕ) → under (at_place q) made + mark base.used q ≤ mark now.used q
  -- each twig's own cell is still to come
  pub cost : now.consumed + count made ≤ base.consumed + twig_sizes made

pub making_as : {has : ℕ → Cell → Type 0} {base now : Account} {o : ℕ} {es rest : List Entry} {next next_new : Option BranchPoint} {bits bits_new : ℕ} {cs cs_new : List Cell} → next_new ≡ next → bits_new ≡ bits → cs_new ≡ cs → Making has base now o es rest next bits cs → Making has base now o es rest next_new bits_new cs_new
making_as {has} {base} {now} {o} {es} {rest} {next} {next_new} {bits} {bits_new} {cs} {cs_new} n b c m =
    subst (λ (x : Option BranchPoint). Making has base now o es rest x bits_new cs_new) (sym n)
    (subst (λ (x : ℕ). Making has base now o es rest next x cs_new) (sym b) (subst (λ (x : List Cell). Making has base now o es rest next bits x) (sym c) m))

pub making_first : {has : ℕ → Cell → Type 0} {base now : Account} {point : BranchPoint} {es rest : List Entry} {cell : Cell} → BuiltFront has base now (suc point.offset) es rest (Some point) cell → Making has base now point.offset es rest (Some point) (2 ^ point.before) (cell ∷ [])
making_first {point = point} (t, f, b) = record {
  made = twig point.before t none;
  so_far = open_first f;
  bits_are = omega arith;
  tops = ap (λ (c : Cell). c ∷ []) b.is;
  beneath = (b.beneath, tt);
  counts = λ k. let a = b.counts k in omega arith;
  fresh = λ q. let a = b.fresh q in omega arith;
  cost = (let a = b.cost in let s = size_is (suc point.offset) t f.shape in omega arith);
}

-- a twig more
module _ {has : ℕ → Cell → Type 0} {base now : Account} {o : ℕ} {es rest : List Entry} {point : BranchPoint} {bits : ℕ} {cs : List Cell} (m : Making has base now o es rest (Some point) bits cs) (from : o ≤ point.offset) where
  pub push_few : length cs < 47
  push_few =
      let a = ap (λ (xs : List Cell). length xs) m.tops in let b = length-tops m.made in
      let c = few 0 (suc (at m.so_far.last.key o)) m.made m.so_far.rising in let d = later m.so_far from in let e = (parts m.so_far from).inside in omega arith

  bits_before : bits < 2 ^ point.after
  bits_before =
      let a = below_all 0 (suc (at m.so_far.last.key o)) m.made m.so_far.rising in let b = m.bits_are in
      let c = pow_mono {i = suc (at m.so_far.last.key o)} {j = point.after} (later m.so_far from) in omega arith

  pub position_absent : bit_at bits point.after ≡ 0
  position_absent = clear_above bits point.after bits_before

  pub bits_fit : bits < 2 ^ 47
  bits_fit = let a = bits_before in let b = pow_mono {i = point.after} {j = 47} (let c = (parts m.so_far from).inside in omega arith) in omega arith

  pub making_more : {has_new : ℕ → Cell → Type 0} {new : Account} {cell : Cell} {rest_new : List Entry} {next : Option BranchPoint} → BuiltFront has_new now new (suc o) rest rest_new next cell → Keeps now.used has has_new → ((q : ℕ) → now.used q ≡ true → new.used q ≡ true) →
      Making has_new base new o es rest_new next (bits + 2 ^ point.after) (cs ++ (cell ∷ []))
  making_more {has_new} {new} {cell} (u, f, b) keep stays = record {
    made = beside m.made (twig point.after u none);
    so_far = open_more m.so_far from f;
    bits_are = (let a = m.bits_are in let d = bitmap_of-beside m.made (twig point.after u none) in omega arith);
    tops = ap (λ (xs : List Cell). xs ++ (cell ∷ [])) m.tops ∙ ap (λ (c : Cell). tops_of m.made ++ (c ∷ [])) b.is ∙ sym (tops-beside m.made (twig point.after u none));
    beneath = beneath_join has_new m.made (twig point.after u none) (all_kept now.used has has_new keep m.made (all_within_met now.used m.made (λ q l. mark_tells now.used q (let g = m.fresh q in omega arith))) m.beneath) (b.beneath, tt);
    counts = λ k. let a = m.counts k in let d = b.counts k in let e = under-beside (in_chunk k) m.made (twig point.after u none) in omega arith;
    fresh = λ q. let a = m.fresh q in let d = b.fresh q in let e = under-beside (at_place q) m.made (twig point.after u none) in omega arith;
    cost = (let a = m.cost in let d = b.cost in let s = size_is (suc o) u f.shape in let e = twig_sizes-beside m.made (twig point.after u none) in let g = count-beside m.made (twig point.after u none) in omega arith);
  }

  pub stopped_more : {new : Account} → Stopped now new (suc o) rest → Stopped base new o es
  stopped_more {new} s = record { t = branch o 0 more; rest = s.rest; shape = shape; whole = j.whole; cost = cost }
    where
      more : Twigs
      more = beside m.made (twig point.after s.t none)

      j : Joined o es s.rest point.after s.t m.made
      j = open_join m.so_far from s.t s.rest s.shape s.whole

      shape : IsTree o (branch o 0 more)
      shape = (omega arith, m.so_far.early, short_row (count more) (let n = twigs_few o more j.twigs in omega arith), j.two, j.agree, j.twigs)

      cost : new.consumed < base.consumed + cells (entries more)
      cost =
          let a = m.cost in let b = s.cost in let c = size_is (suc o) s.t s.shape in let d = size_is o (branch o 0 more) shape in
          let e = size_branch o 0 more in let f = twig_sizes-beside m.made (twig point.after s.t none) in omega arith

-- no twig is left: the branch
module _ {has : ℕ → Cell → Type 0} {base now : Account} {o : ℕ} {es rest : List Entry} {next : Option BranchPoint} {bits : ℕ} {cs : List Cell} (m : Making has base now o es rest next bits cs) (short : Before o next) where
  row_length : length cs ≡ count m.made
  row_length = ap (λ (xs : List Cell). length xs) m.tops ∙ length-tops m.made

  pub row_some : 2 ≤ length cs
  row_some = let a = row_length in let b = m.so_far.two short in omega arith

  closed : (w : ℕ) → IsRow w (length cs) → Front o es rest next (branch o w m.made)
  closed w is = open_close m.so_far short w (subst (IsRow w) row_length is)

  cost_of : (w : ℕ) → IsRow w (length cs) → (consumed : ℕ) → consumed ≤ now.consumed + length cs → consumed < base.consumed + cells (entries m.made)
  cost_of w is consumed l = let a = m.cost in let b = row_length in let c = size_is o (branch o w m.made) (closed w is).shape in let d = size_branch o w m.made in omega arith

  pub stopped_here : {new : Account} → new.consumed ≤ now.consumed + length cs → Stopped base new o es
  stopped_here {new} l =
      let is = short_row (length cs) (let n = twigs_few o m.made m.so_far.twigs in let a = row_length in omega arith) in
      record { t = branch o 0 m.made; rest = rest; shape = (closed 0 is).shape; whole = m.so_far.whole; cost = cost_of 0 is new.consumed l }

  module _ {new : Account} {w : ℕ} (handed : Handed now new w (length cs)) where
    pub branch_node : IsNode (node.Branch (record { offset = o; bitmap = bits; twigs = w }))
    branch_node = subst (λ (b : ℕ). IsNode (node.Branch (record { offset = o; bitmap = b; twigs = w }))) (sym m.bits_are) (is_node o (branch o w m.made) (closed w handed.twigs).shape)

    pub branch_built : {has_new : ℕ → Cell → Type 0} {cell : Cell} → Keeps now.used has has_new → ((q : ℕ) → now.used q ≡ true → new.used q ≡ true) → ((i : ℕ) (c : Cell) → slice_get cs i ≡ Some c → has_new (w + i) c) →
        new.consumed ≤ now.consumed + length cs → cell ≡ packed (node.Branch (record { offset = o; bitmap = bits; twigs = w })) → BuiltFront has_new base new o es rest next cell
    branch_built {has_new} {cell} keep stays written consumes is = (
      branch o w m.made,
      closed w handed.twigs,
      record {
        is = is ∙ ap (λ (b : ℕ). packed (node.Branch (record { offset = o; bitmap = b; twigs = w }))) m.bits_are;
        beneath = lie_of has_new w m.made (λ i c e. written i c (subst (λ (xs : List Cell). slice_get xs i ≡ Some c) (sym m.tops) e))
            (all_kept now.used has has_new keep m.made (all_within_met now.used m.made (λ q l. mark_tells now.used q (let f = m.fresh q in omega arith))) m.beneath);
        counts = λ k. let a = m.counts k in let b = handed.counts k in let c = weigh_is (in_chunk k) w m.made in let d = ap (row (in_chunk k) w) row_length in omega arith;
        fresh = λ q. let a = m.fresh q in let b = handed_fresh handed stays q in let c = weigh_is (at_place q) w m.made in let d = ap (row (at_place q) w) row_length in omega arith;
        cost = cost_of w handed.twigs new.consumed consumes;
      },
    )

-- a root of its own
pub root_stands : {has has_new : ℕ → Cell → Type 0} {old now new : Account} {es rest : List Entry} {next : Option BranchPoint} {cell : Cell} {r : ℕ} → ((k : ℕ) → old.live k ≡ 0) → BuiltFront has old now 0 es rest next cell → Handed now new r 1 → Keeps now.used has has_new →
    ((q : ℕ) → now.used q ≡ true → new.used q ≡ true) → has_new (r + 0) cell → Standing has_new new.used new.live (Some r) es
root_stands {has} {has_new} {old} {now} {new} {cell = cell} {r = r} uncounted (t, f, b) handed keep stays written = (
  t,
  record {
    trie = record {
      shape = f.shape;
      inside = (let i = handed.twigs.inside in omega arith);
      top = subst (has_new r) b.is (let e : r + 0 ≡ r = omega arith in subst (λ (q : ℕ). has_new q cell) e written);
      beneath = beneath_kept now.used has has_new keep t (within_met now.used t (λ q l. mark_tells now.used q (let g = b.fresh q in omega arith))) b.beneath;
      once = λ q. let a = met q r t in let g = b.fresh q in let h = handed_fresh handed stays q in let m = mark_le new.used q in omega arith;
      holds = nothing_left f;
    };
    top_in_use = (let e : r + 0 ≡ r = omega arith in subst (λ (q : ℕ). new.used q ≡ true) e (handed.taken 0 (omega arith)));
    in_use = within_met new.used t (λ q l. stays q (mark_tells now.used q (let g = b.fresh q in omega arith)));
    counted = λ k. let a = live_is k r t in let z = uncounted k in let g = b.counts k in let d = handed.counts k in omega arith;
  },
)

-- what was asked for is no more than all need
pub root_cost : {has : ℕ → Cell → Type 0} {old new : Account} {es rest : List Entry} {next : Option BranchPoint} {cell : Cell} → BuiltFront has old new 0 es rest next cell → new.consumed < old.consumed + cells es
root_cost (t, f, b) = let a = b.cost in let c = ap cells (nothing_left f) in omega arith

later_entries : (xs ys : List Entry) → EachIsEntry (xs ++ ys) → EachIsEntry ys
later_entries [] ys each = each
later_entries (x ∷ xs) ys each = later_entries xs ys each.1

pub stopped_cost : {old new : Account} {es : List Entry} → EachIsEntry es → Rises es → Stopped old new 0 es → new.consumed < old.consumed + cells es
stopped_cost {es = es} each rises s = let a = s.cost in let b = fewer_cells 0 s.t s.rest es s.shape s.whole (later_entries (entries_of s.t) s.rest (subst EachIsEntry s.whole each)) rises in omega arith
