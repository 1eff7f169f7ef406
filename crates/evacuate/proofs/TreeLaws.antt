-- A tree of which the cells that hang on one node are moved.
use Rattle.std.proofs.Common.{◌≡◌, ℕ, zero, suc, ◌+◌, ◌-◌, ◌/◌, ◌<◌, ◌≤◌, ◌++◌, Bool, true, List, [], ◌∷◌, length, drop, inl, inr, slice_index, slice_set, count_ones, arith, refl, sym, ◌∙◌, ap, subst}
use Rattle.packed_node.specs.declared.Cell.{Cell}
use Rattle.packed_node.specs.Nodes.{IsNode, packed}
use Rattle.packed_node.specs.declared.Node.TheVariants as node
use Rattle.trie_model.specs.Extents.{Extents, first_of as first_cell_of, linked_cells, content_cells, AreExtents, IsRow, ItemLies, item_cell, link_cell, row, weigh_extents, WithinExtents}
use Rattle.trie_model.specs.Extents.Extents.{last, linked}
use Rattle.trie_model.proofs.ExtentLaws.{linked_is, item_kept}
use Rattle.std.proofs.lemmas.Bool.{cases_eq, cases_lt}
use Rattle.std.proofs.lemmas.Bool.Decides.{nat_tests}
use Rattle.std.proofs.lemmas.List.{get_or-set_other, length-drop}
use Rattle.trie_model.specs.Keys.{Entry}
use Rattle.trie_model.specs.Memory.{top_cell, node_of, Beneath}
use Rattle.trie_model.specs.Reach.{in_chunk, weigh_tree, WithinTree}
use Rattle.trie_model.specs.Trees.{Tree, Twigs, entries_of, count, bitmap_of, IsTree}
use Rattle.trie_model.specs.Trees.Tree.{leaf, branch}
use Rattle.trie_model.proofs.BitmapLaws.{ones_of, few}
use Rattle.trie_model.proofs.CountLaws.{weigh_is}
use Rattle.trie_model.proofs.DropLaws.{higher}
use Rattle.trie_model.proofs.MoveLaws.{Keeps, beneath_kept, lie_moved, lie_cell, within_cell}
use Rattle.trie_model.proofs.SplitLaws.{rising_of}
use Rattle.trie_model.proofs.TopLaws.{is_node}
use Rattle.chunk_usage.specs.Ledger.{Ledger, IsLedger, is_mutable, is_used}
use Rattle.chunk_usage.specs.Handing.{released}
use Rattle.chunk_usage.specs.Rooms.{Handed, reserve_account_of}
use Rattle.chunk_sets.proofs.FlagLemmas.{get_set}
use Rattle.chunk_usage.proofs.RowLemmas.{row_here, counts_fewer}
use Rattle.chunk_usage.proofs.SpaceLaws.{used_given}
use Rattle.trie_space.specs.Rooted.{Hangs}
use Rattle.trie_space.specs.Spaces.{Frame, IsWritable, Ready}
use Rattle.chunk_cells.specs.Chunks.{IsGiven}
use Rattle.trie_space.specs.Ways.{Fork}
use Rattle.trie_space.specs.Weights.{at_place, mark}
use Rattle.trie_space.proofs.RootedLaws.{met_used, rooted_within, end_hangs, put_rooted}
use Rattle.trie_space.proofs.WayLaws.{low_at, end_tree, plug_tree, follows_same, before, after, entries_plug}
use Rattle.trie_space.proofs.WeightLaws.{at_itself, handed_fresh}
use Rattle.evacuate.specs.Places.{first_of, first_width, width_of, put_at, put_first, moved, Stood, Hung}

-- ---- one tree

abbrev pub first : Tree → ℕ
first t = first_of (node_of t)

abbrev pub width : Tree → ℕ
width t = width_of (node_of t)

width_branch : (low o w : ℕ) (below : Twigs) → IsTree low (branch o w below) → count_ones (bitmap_of below) ≡ count below
width_branch low o w below h = ones_of 0 47 below (rising_of o 0 below (let z : 0 ≤ 47 = omega arith in z) h.5)

-- an item's first extent
pub width_last : (n : ℕ) → n ≤ 4096 → first_width n ≡ content_cells n
width_last n l = grind (arith, nat_tests)

pub width_linked : (n : ℕ) → 4096 < n → first_width n ≡ linked_cells
width_linked n l = grind (arith, nat_tests)

pub put_there : (x : Extents) (to : ℕ) → first_cell_of (put_first x to) ≡ to
put_there (last r) to = refl
put_there (linked r x) to = refl

pub put_are : (n : ℕ) (x : Extents) (to : ℕ) → AreExtents n x → IsRow to (first_width n) → AreExtents n (put_first x to)
put_are n (last r) to h row = (h.0, subst (IsRow to) (width_last n h.0) row)
put_are n (linked r x) to h row = (h.0, subst (IsRow to) (width_linked n h.0) row, h.2)

pub put_weigh : (w : ℕ → ℕ) (n : ℕ) (x : Extents) (to : ℕ) → AreExtents n x → weigh_extents w n (put_first x to) + row w (first_cell_of x) (first_width n) ≡ weigh_extents w n x + row w to (first_width n)
put_weigh w n (last r) to h = let e = ap (row w r) (width_last n h.0) in let f = ap (row w to) (width_last n h.0) in omega arith
put_weigh w n (linked r x) to h = let e = ap (row w r) (width_linked n h.0) in let f = ap (row w to) (width_linked n h.0) in omega arith

pub first_met : (w : ℕ → ℕ) (n : ℕ) (x : Extents) → AreExtents n x → row w (first_cell_of x) (first_width n) ≤ weigh_extents w n x
first_met w n (last r) h = let e = ap (row w r) (width_last n h.0) in omega arith
first_met w n (linked r x) h = let e = ap (row w r) (width_linked n h.0) in omega arith

pub first_cells : (has : ℕ → Cell → Type 0) (item : List ℕ) (x : Extents) → AreExtents (length item) x → ItemLies has x item → (i : ℕ) → i < first_width (length item) → (c : Cell) × has (first_cell_of x + i) c
first_cells has item (last r) a h i l = (item_cell item i, h i (let e = width_last (length item) a.0 in omega arith))
first_cells has item (linked r x) a h i l = elim (cases_lt i 255) [
  | inl content ↦ (item_cell item i, h.0 i content)
  | inr link ↦ (let e = width_linked (length item) a.0 in let k = linked_is in let p : 255 ≡ i = omega arith in (link_cell (first_cell_of x), subst (λ (j : ℕ). has (r + j) (link_cell (first_cell_of x))) p h.1))
]

pub first_within : (P : ℕ → Bool) (n : ℕ) (x : Extents) → AreExtents n x → WithinExtents P n x → (i : ℕ) → i < first_width n → P (first_cell_of x + i) ≡ true
first_within P n (last r) a h i l = h i (let e = width_last n a.0 in omega arith)
first_within P n (linked r x) a h i l = h.0 i (let e = width_linked n a.0 in omega arith)

pub first_row : (n : ℕ) (x : Extents) → AreExtents n x → IsRow (first_cell_of x) (first_width n)
first_row n (last r) a = subst (IsRow r) (sym (width_last n a.0)) a.1
first_row n (linked r x) a = subst (IsRow r) (sym (width_linked n a.0)) a.1

pub first_few : (n : ℕ) (x : Extents) → 0 < n → AreExtents n x → (0 < first_width n) × (first_width n ≤ 256)
first_few n (last r) some a = let e = width_last n a.0 in let s = a.0 in (omega arith, omega arith)
first_few n (linked r x) some a = let e = width_linked n a.0 in let k = linked_is in (omega arith, omega arith)

pub put_lies : (P : ℕ → Bool) (has new : ℕ → Cell → Type 0) → Keeps P has new → (item : List ℕ) (x : Extents) (to : ℕ) → AreExtents (length item) x → ((i : ℕ) (c : Cell) → i < first_width (length item) → has (first_cell_of x + i) c → new (to + i) c) → WithinExtents P (length item) x → ItemLies has x item → ItemLies new (put_first x to) item
put_lies P has new keep item (last r) to a copies within h = λ k l. copies k (item_cell item k) (let e = width_last (length item) a.0 in omega arith) (h k l)
put_lies P has new keep item (linked r x) to a copies within h = (
  λ k l. copies k (item_cell item k) (let e = width_linked (length item) a.0 in let f = linked_is in omega arith) (h.0 k l),
  copies 255 (link_cell (first_cell_of x)) (let e = width_linked (length item) a.0 in let f = linked_is in omega arith) h.1,
  item_kept (λ q. P q ≡ true) has new keep x (drop 4080 item) (subst (λ (n : ℕ). WithinExtents P n x) (sym (length-drop 4080 item)) within.1) h.2,
)

pub put_itself : (x : Extents) → put_first x (first_cell_of x) ≡ x
put_itself (last r) = refl
put_itself (linked r x) = refl

pub moved_node : (t : Tree) (to : ℕ) → node_of (moved t to) ≡ put_at (node_of t) to
moved_node (leaf e x) to = ap (λ (p : ℕ). node.Leaf (record { len = length e.item; at = p })) (put_there x to)
moved_node (branch o w below) to = refl

pub moved_entries : (t : Tree) (to : ℕ) → entries_of (moved t to) ≡ entries_of t
moved_entries (leaf e w) to = refl
moved_entries (branch o w below) to = refl

pub moved_tree : (low : ℕ) (t : Tree) (to : ℕ) → IsTree low t → IsRow to (width t) → IsTree low (moved t to)
moved_tree low (leaf e x) to h r = (h.0, put_are (length e.item) x to h.1 r)
moved_tree low (branch o w below) to h r = (h.0, h.1, subst (IsRow to) (width_branch low o w below h) r, h.3, h.4, h.5)

pub moved_weigh : (w : ℕ → ℕ) (low : ℕ) (t : Tree) (to : ℕ) → IsTree low t → weigh_tree w (moved t to) + row w (first t) (width t) ≡ weigh_tree w t + row w to (width t)
moved_weigh w low (leaf e x) to h = put_weigh w (length e.item) x to h.1
moved_weigh w low (branch o v below) to h =
    let n = width_branch low o v below h in
    let a = weigh_is w to below in let b = weigh_is w v below in
    let c = ap (row w to) n in let d = ap (row w v) n in omega arith

pub row_met : (w : ℕ → ℕ) (low : ℕ) (t : Tree) → IsTree low t → row w (first t) (width t) ≤ weigh_tree w t
row_met w low (leaf e x) h = first_met w (length e.item) x h.1
row_met w low (branch o v below) h = let b = weigh_is w v below in let d = ap (row w v) (width_branch low o v below h) in omega arith

pub cell_there : (has : ℕ → Cell → Type 0) (low : ℕ) (t : Tree) → IsTree low t → Beneath has t → (i : ℕ) → i < width t → (c : Cell) × has (first t + i) c
cell_there has low (leaf e x) h b i l = first_cells has e.item x h.1 b i l
cell_there has low (branch o w below) h b i l = lie_cell has w below b i (let n = width_branch low o w below h in omega arith)

pub cell_within : (P : ℕ → Bool) (low : ℕ) (t : Tree) → IsTree low t → WithinTree P t → (i : ℕ) → i < width t → P (first t + i) ≡ true
cell_within P low (leaf e x) h b i l = first_within P (length e.item) x h.1 b i l
cell_within P low (branch o w below) h b i l = within_cell P w below b i (let n = width_branch low o w below h in omega arith)

pub moved_lies : (P : ℕ → Bool) (has new : ℕ → Cell → Type 0) → Keeps P has new → (low : ℕ) (t : Tree) (to : ℕ) → IsTree low t → ((i : ℕ) (c : Cell) → i < width t → has (first t + i) c → new (to + i) c) → WithinTree P t → Beneath has t → Beneath new (moved t to)
moved_lies P has new keep low (leaf e x) to h copies within b = put_lies P has new keep e.item x to h.1 copies within b
moved_lies P has new keep low (branch o w below) to h copies within b = lie_moved P has new keep w to below (λ i c l. copies i c (let n = width_branch low o w below h in omega arith)) within b

pub record Row (first n : ℕ) : Type 0 where
  pub some : 0 < n
  pub few : n ≤ 256
  pub row : IsRow first n

pub row_of : (low : ℕ) (t : Tree) → IsTree low t → Row (first t) (width t)
row_of low (leaf e x) h = let few = first_few (length e.item) x h.0.item.some h.1 in record { some = few.0; few = few.1; row = first_row (length e.item) x h.1 }
row_of low (branch o w below) h =
    let n = width_branch low o w below h in
    let most = few 0 47 below (rising_of o 0 below (let z : 0 ≤ 47 = omega arith in z) h.5) in
    record { some = (let two = h.3 in omega arith); few = omega arith; row = subst (IsRow w) (sym n) h.2 }

-- ---- a tree that hangs in a trie

module _ {S : Type 0} {has : S → ℕ → Cell → Type 0} {s : S} {l : Ledger} {r at : ℕ} {es : List Entry} {way : List Fork} {t : Tree} (h : Hung has s l r at es way t) where
  pub hung_low : IsTree (low_at 0 way) t
  hung_low = end_tree 0 way t h.stood.tree

  pub hung_tree : IsTree 0 t
  hung_tree = higher (low_at 0 way) 0 t hung_low (omega arith)

  pub hung_hangs : Hangs has reserve_account_of s l 0 (top_cell t) t
  hung_hangs = end_hangs way t h.stood.rooted hung_tree

  pub hung_counted : width t ≤ slice_index l.live (first t / 1024)
  hung_counted = let c = hung_hangs.counted (first t / 1024) in let m = row_met (in_chunk (first t / 1024)) 0 t hung_tree in let n = row_here (first t) (width t) (row_of 0 t hung_tree).row.together in omega arith

  pub moved_is_node : {to : ℕ} → IsRow to (width t) → IsNode (put_at (node_of t) to)
  moved_is_node {to} row = subst IsNode (moved_node t to) (is_node 0 (moved t to) (moved_tree 0 t to hung_tree row))

  -- its cells are copied, the cell above says where they are, and the old ones count no more
  moved_here : {kept : S → List ℕ} {given : S → List Bool} {s1 s2 : S} {l1 l2 : Ledger} {to : ℕ} {cell : Cell} → Handed (reserve_account_of l) (reserve_account_of l1) to (width t) → Frame has kept given reserve_account_of s l s1 l1 →
      ((i : ℕ) (c : Cell) → i < width t → has s (first t + i) c → has s1 (to + i) c) → cell ≡ packed (put_at (node_of t) to) → has s2 at cell → ((q : ℕ) (c : Cell) → (q ≡ at → ⊥) → has s1 q c → has s2 q c) → l2 ≡ released l1 (first t) (width t) → Hung has s2 l2 r at es way (moved t to)
  moved_here {s1 = s1} {s2} {l1} {l2} {to} {cell} handed f copies is put others e = record {
    stood = record {
      tree = plug_tree 0 way t (moved t to) h.stood.tree (moved_tree (low_at 0 way) t to hung_low handed.twigs) (follows_same (low_at 0 way) (entries_of t) (entries_of (moved t to)) (moved_entries t to));
      rooted = put_rooted way t (moved t to) h.stood.rooted f.stays (moved_lies (is_used l) (has s) (has s1) f.stays 0 t to hung_tree copies hung_hangs.within hung_hangs.top.beneath)
          (λ k. let m = moved_weigh (in_chunk k) 0 t to hung_tree in let x = handed.counts k in let y = fewer k in omega arith)
          (λ q. let m = moved_weigh (at_place q) 0 t to hung_tree in let x = handed_fresh handed f.grows.stays q in let y = same_used q in omega arith)
          (is ∙ ap packed (sym (moved_node t to))) (subst (λ q. has s2 q cell) h.at_is put) (λ q c ne. others q c (λ same. ne (same ∙ h.at_is)));
      holds = entries_plug way (moved t to) ∙ ap (λ xs. before way ++ (xs ++ after way)) (moved_entries t to) ∙ sym (entries_plug way t) ∙ h.stood.holds;
    };
    at_is = h.at_is;
  }
    where
      enough : width t ≤ slice_index l1.live (first t / 1024)
      enough = let x = handed.counts (first t / 1024) in let y = hung_counted in omega arith

      fewer : (k : ℕ) → slice_index l2.live k + row (in_chunk k) (first t) (width t) ≡ slice_index l1.live k
      fewer k = ap (λ (m : Ledger). slice_index m.live k + row (in_chunk k) (first t) (width t)) e ∙ counts_fewer (first t) (width t) (row_of 0 t hung_tree).row.together l1.live k enough

      same_used : (q : ℕ) → mark (is_used l2) q ≡ mark (is_used l1) q
      same_used q = ap (λ (m : Ledger). mark (is_used m) q) e

  pub hung_moved : {kept : S → List ℕ} {given : S → List Bool} {s1 s2 : S} {l1 l2 : Ledger} {from n to : ℕ} {cell : Cell} → from ≡ first t → n ≡ width t → Handed (reserve_account_of l) (reserve_account_of l1) to n → Frame has kept given reserve_account_of s l s1 l1 →
      ((i : ℕ) (c : Cell) → i < n → has s (from + i) c → has s1 (to + i) c) → cell ≡ packed (put_at (node_of t) to) → has s2 at cell → ((q : ℕ) (c : Cell) → (q ≡ at → ⊥) → has s1 q c → has s2 q c) → l2 ≡ released l1 from n → Hung has s2 l2 r at es way (moved t to)
  hung_moved {l1 = l1} {from = from} {n} {to} e m handed f copies is put others released_is =
      moved_here (subst (Handed (reserve_account_of l) (reserve_account_of l1) to) m handed) f (λ i c lt h. copies i c (omega arith) (subst (λ x. has s (x + i) c) (sym e) h)) is put others (released_is ∙ ap (λ x. released l1 x n) e ∙ ap (released l1 (first t)) m)

  -- cells that are known as its own
  pub record Cells (from n : ℕ) : Type 0 where
    pub row : Row from n
    pub there : (i : ℕ) → i < n → (c : Cell) × has s (from + i) c
    pub in_use : (i : ℕ) → i < n → is_used l (from + i) ≡ true
    pub counted : n ≤ slice_index l.live (from / 1024)

  pub hung_cells : {from n : ℕ} → from ≡ first t → n ≡ width t → Cells from n
  hung_cells {from} {n} e f = subst (λ x. Cells x n) (sym e) (subst (Cells (first t)) (sym f) (record {
    row = row_of 0 t hung_tree;
    there = cell_there (has s) 0 t hung_tree hung_hangs.top.beneath;
    in_use = cell_within (is_used l) 0 t hung_tree hung_hangs.within;
    counted = hung_counted;
  }))

-- what counts still does once cells are handed out
pub later_counted : (l l1 : Ledger) {to n m : ℕ} (k : ℕ) → Handed (reserve_account_of l) (reserve_account_of l1) to n → m ≤ slice_index l.live k → m ≤ slice_index l1.live k
later_counted l l1 k h e = let c = h.counts k in omega arith

-- where the old cells are released the new ones may be written
pub handed_writable : {S : Type 0} {given : S → List Bool} {s : S} (l l1 : Ledger) {l2 : Ledger} {to n : ℕ} (at m : ℕ) → Handed (reserve_account_of l) (reserve_account_of l1) to n → given s ≡ l1.given → l2 ≡ released l1 at m → (i : ℕ) → i < n → IsWritable given reserve_account_of s l2 (to + i)
handed_writable {given = given} {s} l l1 {to = to} at m handed same e i lt = subst (λ z. IsWritable given reserve_account_of s z (to + i)) (sym e) (record {
  in_use = handed.taken i lt;
  mutable = handed.writable i lt;
  in_given = subst (λ (x : List Bool). IsGiven x ((to + i) / 1024)) (sym same) (subst (IsGiven l1.given) (let t = handed.twigs.together in omega arith) handed.in_given);
})

-- a cell in use may be written if it is mutable
pub used_writable : {S : Type 0} {kept : S → List ℕ} {given : S → List Bool} {s : S} {l : Ledger} {q : ℕ} → IsLedger l → Ready kept given reserve_account_of s l → is_used l q ≡ true → is_mutable l q ≡ true → IsWritable given reserve_account_of s l q
used_writable {l = l} {q} is ready used mutable = record { in_use = used; mutable = mutable; in_given = subst (λ (flags : List Bool). IsGiven flags (q / 1024)) (sym ready.same) (get_set l.given (q / 1024) (used_given l is q used)) }

pub released_rest : (l1 : Ledger) {l2 : Ledger} (at m : ℕ) → l2 ≡ released l1 at m → reserve_account_of l2 ≡ record (reserve_account_of l1) { live = slice_index l2.live }
released_rest l1 at m e = subst (λ z. reserve_account_of z ≡ record (reserve_account_of l1) { live = slice_index z.live }) (sym e) refl

-- none counts more
pub released_fewer : (l1 : Ledger) {l2 : Ledger} (at m : ℕ) → l2 ≡ released l1 at m → (k : ℕ) → slice_index l2.live k ≤ slice_index l1.live k
released_fewer l1 at m e k = subst (λ z. slice_index z.live k ≤ slice_index l1.live k) (sym e) (fewer_at l1.live (at / 1024) (slice_index l1.live (at / 1024) - m) (omega arith))
  where
    fewer_at : (live : List ℕ) (c x : ℕ) → x ≤ slice_index live c → slice_index (slice_set live c x) k ≤ slice_index live k
    fewer_at live c x few = elim (cases_eq c k) [
      | inl e ↦ subst (λ (i : ℕ). slice_index (slice_set live c x) i ≤ slice_index live i) e (at_place live c x few)
      | inr apart ↦ (let e = get_or-set_other live c k x 0 (λ e. apart (sym e)) in omega arith)
    ]
      where
        at_place : (live : List ℕ) (c x : ℕ) → x ≤ slice_index live c → slice_index (slice_set live c x) c ≤ slice_index live c
        at_place [] c x few = omega arith
        at_place (y ∷ live) zero x few = few
        at_place (y ∷ live) (suc c) x few = at_place live c x few

-- a row at which a tree's cells lie now
pub moved_row : (t : Tree) (to : ℕ) → IsTree 0 (moved t to) → IsRow to (width t)
moved_row (leaf e x) to h = subst (λ (p : ℕ). IsRow p (first_width (length e.item))) (put_there x to) (row_of 0 (leaf e (put_first x to)) h).row
moved_row (branch o w below) to h = (row_of 0 (branch o to below) h).row

pub moved_itself : (t : Tree) → moved t (first t) ≡ t
moved_itself (leaf e x) = ap (leaf e) (put_itself x)
moved_itself (branch o w below) = refl

-- ---- the root's cell is moved

module _ {S : Type 0} {has : S → ℕ → Cell → Type 0} {s : S} {l : Ledger} {r : ℕ} {es : List Entry} {t : Tree} (h : Stood has s l r es t) where
  pub root_used : is_used l r ≡ true
  root_used = met_used h.rooted r (let i = at_itself r in omega arith)

  pub root_row : IsRow r 1
  root_row = record { inside = (let i = h.rooted.inside in omega arith); together = omega arith }

  pub root_counted : 1 ≤ slice_index l.live (r / 1024)
  root_counted = let c = h.rooted.counted (r / 1024) in let n = row_here r 1 root_row.together in omega arith

  pub root_moved : {kept : S → List ℕ} {given : S → List Bool} {s1 : S} {l1 l2 : Ledger} {to : ℕ} → Handed (reserve_account_of l) (reserve_account_of l1) to 1 → Frame has kept given reserve_account_of s l s1 l1 →
      ((i : ℕ) (c : Cell) → i < 1 → has s (r + i) c → has s1 (to + i) c) → l2 ≡ released l1 r 1 → Stood has s1 l2 to es t
  root_moved {s1 = s1} {l1} {l2} {to} handed f copies e = record {
    tree = h.tree;
    rooted = record {
      inside = (let i = handed.twigs.inside in omega arith);
      top = (
          let from : r ≡ r + 0 = omega arith in let there : to + 0 ≡ to = omega arith in
          subst (λ (q : ℕ). has s1 q (top_cell t)) there (copies 0 (top_cell t) (omega arith) (subst (λ (q : ℕ). has s q (top_cell t)) from h.rooted.top))
          );
      beneath = beneath_kept (is_used l) (has s) (has s1) f.stays t (rooted_within h.rooted) h.rooted.beneath;
      counted = λ k. let c = h.rooted.counted k in let x = handed.counts k in let y = fewer k in omega arith;
      once = λ q. let o = h.rooted.once q in let x = handed_fresh handed f.grows.stays q in let y = same_used q in omega arith;
    };
    holds = h.holds;
  }
    where
      enough : 1 ≤ slice_index l1.live (r / 1024)
      enough = let x = handed.counts (r / 1024) in let y = root_counted in omega arith

      fewer : (k : ℕ) → slice_index l2.live k + row (in_chunk k) r 1 ≡ slice_index l1.live k
      fewer k = ap (λ (m : Ledger). slice_index m.live k + row (in_chunk k) r 1) e ∙ counts_fewer r 1 root_row.together l1.live k enough

      same_used : (q : ℕ) → mark (is_used l2) q ≡ mark (is_used l1) q
      same_used q = ap (λ (m : Ledger). mark (is_used m) q) e
