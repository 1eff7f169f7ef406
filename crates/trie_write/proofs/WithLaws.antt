-- A leaf more, among the twigs of a branch or beside a node.
use Rattle.std.proofs.Common.{◌≡◌, ℕ, suc, ◌+◌, ◌-◌, ◌%◌, ◌^◌, ◌<◌, ◌≤◌, Bool, true, List, ◌∷◌, length, map, Contains, count_ones, arith, inl, inr, refl, sym, ◌∙◌, ap, subst}
use Rattle.std.specs.Int.{bit_at}
use Rattle.std.proofs.lemmas.Bool.{cases_lt}
use Rattle.packed_node.specs.declared.Cell.{Cell}
use Rattle.packed_node.specs.declared.Leaf.{Leaf}
use Rattle.packed_node.specs.declared.Branch.{Branch}
use Rattle.packed_node.specs.Nodes.{IsLeaf, IsBranch, leaf_cell, branch_cell}
use Rattle.trie_model.specs.Extents.{first_of as place_of, IsRow, AreExtents, ItemLies, row, weigh_extents}
use Rattle.chunk_cells.specs.Laying.{extents_in}
use Rattle.chunk_cells.specs.declared.extents.Extents.{Extents as Laid}
use Rattle.trie_write.specs.Laid.{IsNoItem}
use Rattle.trie_write.proofs.LaidLaws.{item_span_is, item_are, none_are, item_stays, laid_leaf, laid_top}
use Rattle.trie_model.specs.Changes.{Nearest, Grown, Deep}
use Rattle.trie_model.specs.Keys.{at}
use Rattle.trie_model.specs.Memory.{top_cell, Beneath, Lie}
use Rattle.trie_model.specs.Reach.{weigh_tree, WithinTree, Within}
use Rattle.trie_model.specs.Trees.{Tree, Twigs, entries_of, entries, count, bitmap_of, IsTree, beside}
use Rattle.trie_model.specs.Trees.Tree.{leaf, branch}
use Rattle.trie_model.specs.Trees.Twigs.{none, twig}
use Rattle.trie_model.proofs.AddLaws.{absent_of, add_twig}
use Rattle.trie_model.proofs.BitmapLaws.{Rising, ones_of, few, count-beside, bitmap_of-beside}
use Rattle.trie_model.proofs.CountLaws.{under, weigh_is, under-beside}
use Rattle.trie_model.proofs.GrowthLaws.{Alone, alone_of, split_low, split_high}
use Rattle.trie_model.proofs.MoveLaws.{beneath_kept, lie_moved, lie_cell, within_cell}
use Rattle.trie_model.proofs.SplitLaws.{Missing, rising_of, lie_join, lie_left, lie_right, within_left, within_right}
use Rattle.trie_model.proofs.TopLaws.{is_node}
use Rattle.chunk_usage.specs.Rooms.{Account}
use Rattle.trie_write.specs.declared.change.CellChange.{CellChange}
use Rattle.trie_write.specs.declared.change.Span.{Span}
use Rattle.shift_key.specs.declared.difference.Difference.{Difference}
use Rattle.trie_write.specs.Inserts.{WithAsks, IsWith}
use Rattle.trie_write.specs.Paths.{twigs_on_path, branches_on_path, branches_past}
use Rattle.trie_write.specs.Puts.{span, item_span, Makes}
use Rattle.trie_space.specs.Spaces.{Frame}
use Rattle.trie_write.specs.Tops.{IsBranchTop}
use Rattle.trie_write.proofs.AskLaws.{first_of, later_of, made_of}

pub span_is : {y : Span} {at n : ℕ} → y.at ≡ at → y.n ≡ n → y ≡ record { at = at; n = n }
span_is {y} {at} {n} a b = ap (λ (z : ℕ). record { at = z; n = y.n }) a ∙ ap (λ (z : ℕ). record { at = at; n = z }) b

module _ {S A : Type 0} {has : S → ℕ → Cell → Type 0} {account : A → Account} {s : S} {a : A} {key item : List ℕ} {first : Difference} {node : Cell} {l : Laid} {end : Tree} (x : WithAsks has account s a key item first node l end) where
  pub leaf_node : {y : Leaf} → y.len ≡ l.len → y.at ≡ place_of (extents_in l) → IsLeaf y
  leaf_node n p = laid_leaf (extents_in l) item (n ∙ x.laid.len) p x.entry.item.some x.entry.item.short x.laid.are

  pub leaf_is : {y : Leaf} → y.len ≡ l.len → y.at ≡ place_of (extents_in l) → leaf_cell y ≡ top_cell (leaf (record { key = key; item = item }) (extents_in l))
  leaf_is n p = laid_top (extents_in l) key item (n ∙ x.laid.len) p

  -- its cell
  abbrev pub cell_of_leaf : Cell
  cell_of_leaf = top_cell (leaf (record { key = key; item = item }) (extents_in l))

  pub key_inside : at key first.place < 47
  key_inside = x.entry.key.positions first.place

  pub key_apart : at key first.place ≡ first.position → ⊥
  key_apart = x.differs.nearest.other

  -- the new cells' count and those of the item are what is taken
  module _ {s2 : S} {c : CellChange} (u : Tree) {to m : ℕ} (new_twigs : c.new_twigs ≡ record { at = to; n = m }) (new_item : c.new_item ≡ l) (no_item : IsNoItem c.old_item) where
    new_makes : {old : Span} → c.old_twigs ≡ old → old.at % 1024 + old.n ≤ 1024 → to % 1024 + m ≤ 1024 → c.cell ≡ top_cell u → Beneath (has s2) u →
        ((w : ℕ → ℕ) → weigh_tree w u + span old w ≡ weigh_tree w end + (row w to m + weigh_extents w (length item) (extents_in l))) → Makes has s2 c end u
    new_makes {old} old_twigs old_together together is beneath weigh = record {
      is = is;
      beneath = beneath;
      weigh = λ w. let y = weigh w in
          let p = ap (λ z. span z w) new_twigs in let q = ap (λ z. item_span z w) new_item ∙ item_span_is (record { len = x.laid.len; there = refl }) w in let r = ap (λ z. span z w) old_twigs in let v = item_span_is no_item w in omega arith;
      spans = record {
        new_twigs = subst (λ (y : Span). y.at % 1024 + y.n ≤ 1024) (sym new_twigs) together;
        new_item = subst (λ (y : Laid). AreExtents y.len (extents_in y)) (sym new_item) (item_are (record { len = x.laid.len; there = refl }) x.laid.are);
        old_twigs = subst (λ (y : Span). y.at % 1024 + y.n ≤ 1024) (sym old_twigs) old_together;
        old_item = item_are no_item none_are;
      };
    }

  -- ---- beside the node

  module _ (deep : Deep first.place end) {to : ℕ} (together : IsRow to 2) where
    alone : Alone first.place key first.position end
    alone = alone_of 0 first.place key first.position end x.top.tree x.differs.nearest deep

    abbrev low_pair : Tree
    low_pair = branch first.place to (twig (at key first.place) (leaf (record { key = key; item = item }) (extents_in l)) (twig first.position end none))

    abbrev high_pair : Tree
    high_pair = branch first.place to (twig first.position end (twig (at key first.place) (leaf (record { key = key; item = item }) (extents_in l)) none))

    low_grown : (low : ℕ) → low ≤ first.place → at key first.place < first.position → Grown (record { key = key; item = item }) low end low_pair
    low_grown low late m = split_low low first.place to first.position (extents_in l) (record { key = key; item = item }) end late x.differs.short together x.differs.inside x.entry x.laid.are m alone

    high_grown : (low : ℕ) → low ≤ first.place → first.position < at key first.place → Grown (record { key = key; item = item }) low end high_pair
    high_grown low late m = split_high low first.place to first.position (extents_in l) (record { key = key; item = item }) end late x.differs.short together key_inside x.differs.inside x.entry x.laid.are m alone

    behind : first.position ≤ at key first.place → first.position < at key first.place
    behind m = elim (cases_lt first.position (at key first.place)) [ inl y ↦ y | inr y ↦ absurd (key_apart (omega arith)) ]

    low_cell : branch_cell (record { offset = first.place; bitmap = 2 ^ at key first.place + 2 ^ first.position; twigs = to }) ≡ top_cell low_pair
    low_cell = let e : 2 ^ at key first.place + 2 ^ first.position ≡ 2 ^ at key first.place + (2 ^ first.position + 0) = omega arith in ap (λ (b : ℕ). branch_cell (record { offset = first.place; bitmap = b; twigs = to })) e

    high_cell : branch_cell (record { offset = first.place; bitmap = 2 ^ at key first.place + 2 ^ first.position; twigs = to }) ≡ top_cell high_pair
    high_cell = let e : 2 ^ at key first.place + 2 ^ first.position ≡ 2 ^ first.position + (2 ^ at key first.place + 0) = omega arith in ap (λ (b : ℕ). branch_cell (record { offset = first.place; bitmap = b; twigs = to })) e

    pub pair_branch : IsBranch (record { offset = first.place; bitmap = 2 ^ at key first.place + 2 ^ first.position; twigs = to })
    pair_branch = elim (cases_lt (at key first.place) first.position) [
      | inl m ↦ (let e : 2 ^ at key first.place + (2 ^ first.position + 0) ≡ 2 ^ at key first.place + 2 ^ first.position = omega arith in subst (λ (b : ℕ). IsBranch (record { offset = first.place; bitmap = b; twigs = to })) e (is_node 0 low_pair (low_grown 0 (omega arith) m).tree))
      | inr m ↦ (let e : 2 ^ first.position + (2 ^ at key first.place + 0) ≡ 2 ^ at key first.place + 2 ^ first.position = omega arith in subst (λ (b : ℕ). IsBranch (record { offset = first.place; bitmap = b; twigs = to })) e (is_node 0 high_pair (high_grown 0 (omega arith) (behind m)).tree))
    ]

    module _ {kept : S → List ℕ} {given : S → List Bool} {s2 : S} {a2 : A} {index : ℕ} (f : Frame has kept given account s a s2 a2) (before_is : at key first.place < first.position → index ≡ 0) (behind_is : first.position ≤ at key first.place → index ≡ 1) (here : has s2 (to + index) cell_of_leaf) (other : has s2 (to + (1 - index)) node) where
      node_stays : Beneath (has s2) end
      node_stays = beneath_kept (account a).used (has s) (has s2) f.stays end x.within x.top.beneath

      stays_there : ItemLies (has s2) (extents_in l) item
      stays_there = item_stays x.laid f

      low_beneath : at key first.place < first.position → Beneath (has s2) low_pair
      low_beneath m = let i = before_is m in
          let e : to + index ≡ to = omega arith in let g : to + (1 - index) ≡ suc to = omega arith in
          (subst (λ (q : ℕ). has s2 q cell_of_leaf) e here, stays_there, (subst (λ (c : Cell). has s2 (suc to) c) x.top.is (subst (λ (q : ℕ). has s2 q node) g other), node_stays, tt))

      high_beneath : first.position ≤ at key first.place → Beneath (has s2) high_pair
      high_beneath m = let i = behind_is m in
          let e : to + index ≡ suc to = omega arith in let g : to + (1 - index) ≡ to = omega arith in
          (subst (λ (c : Cell). has s2 to c) x.top.is (subst (λ (q : ℕ). has s2 q node) g other), node_stays, (subst (λ (q : ℕ). has s2 q cell_of_leaf) e here, stays_there, tt))

      pub paired : {c : CellChange} → c.cell ≡ branch_cell (record { offset = first.place; bitmap = 2 ^ at key first.place + 2 ^ first.position; twigs = to }) → c.new_twigs ≡ record { at = to; n = 2 } → c.new_item ≡ l → c.old_twigs ≡ record { at = 0; n = 0 } → IsNoItem c.old_item →
          IsWith has s2 c first.place (record { key = key; item = item }) end
      paired cell new_twigs new_item old_twigs old_item = elim (cases_lt (at key first.place) first.position) [
        | inl m ↦ record { new = low_pair; makes = new_makes low_pair new_twigs new_item old_item old_twigs (omega arith) together.together (cell ∙ low_cell) (low_beneath m) (λ w. omega arith); grown = λ low late tree. low_grown low late m }
        | inr m ↦ record { new = high_pair; makes = new_makes high_pair new_twigs new_item old_item old_twigs (omega arith) together.together (cell ∙ high_cell) (high_beneath m) (λ w. omega arith); grown = λ low late tree. high_grown low late (behind m) }
      ]

  -- ---- among the twigs of a branch

  module _ {b : Branch} (t : IsBranchTop end b) (here : b.offset ≡ first.place) where
    pub is_branch : end ≡ branch first.place b.twigs t.below
    is_branch = t.is ∙ ap (λ (o : ℕ). branch o b.twigs t.below) here

    pub among_tree : IsTree 0 (branch first.place b.twigs t.below)
    among_tree = subst (IsTree 0) is_branch x.top.tree

    pub among_nearest : Nearest first.place key first.position (entries t.below)
    among_nearest = subst (λ (z : Tree). Nearest first.place key first.position (entries_of z)) is_branch x.differs.nearest

    rising : Rising 0 47 t.below
    rising = rising_of first.place 0 t.below (let z : 0 ≤ 47 = omega arith in z) among_tree.5

    abbrev missing : Missing 0 47 (at key first.place) t.below
    missing = absent_of 0 first.place b.twigs first.position key t.below among_tree among_nearest key_inside

    pub among_n : count_ones b.bitmap ≡ count t.below
    among_n = ap count_ones t.bits ∙ ones_of 0 47 t.below rising

    pub among_path : count_ones b.bitmap ≤ twigs_on_path key end
    among_path = let n = among_n in let e = ap (twigs_on_path key) is_branch in omega arith

    among_branches : Contains (branches_on_path key end) (count_ones b.bitmap)
    among_branches = subst (λ (z : Tree). Contains (branches_on_path key z) (count_ones b.bitmap)) (sym is_branch) (first_of (count t.below) (count_ones b.bitmap) (branches_past key (at key first.place) t.below) (sym among_n))

    -- one cell more was asked for than it has twigs
    pub among_asked : (n : ℕ) → n ≡ count_ones b.bitmap + 1 → Contains (2 ∷ map suc (branches_on_path key end)) n
    among_asked n e = later_of 2 n (map suc (branches_on_path key end)) (let m : suc (count_ones b.bitmap) ≡ n = omega arith in
        subst (λ (k : ℕ). Contains (map suc (branches_on_path key end)) k) m (made_of suc (count_ones b.bitmap) (branches_on_path key end) among_branches))

    pub among_index : count_ones (b.bitmap % 2 ^ at key first.place) ≡ count missing.left
    among_index = ap (λ (z : ℕ). count_ones (z % 2 ^ at key first.place)) t.bits ∙ missing.index

    pub among_absent : bit_at b.bitmap (at key first.place) ≡ 0
    among_absent = ap (λ (z : ℕ). bit_at z (at key first.place)) t.bits ∙ missing.bit

    pub among_small : b.bitmap < 2 ^ 47
    among_small = subst (λ (z : ℕ). z < 2 ^ 47) (sym t.bits) (is_node 0 (branch first.place b.twigs t.below) among_tree).positions

    pub among_lies : IsRow b.twigs (count t.below)
    among_lies = among_tree.2

    sizes : count t.below ≡ count missing.left + count missing.right
    sizes = ap count missing.is ∙ count-beside missing.left missing.right

    pub among_before : count_ones (b.bitmap % 2 ^ at key first.place) ≤ count_ones b.bitmap
    among_before = let n = among_n in let i = among_index in let z = sizes in omega arith

    old_lie : Lie (has s) b.twigs t.below
    old_lie = subst (Beneath (has s)) is_branch x.top.beneath

    old_within : Within (account a).used b.twigs t.below
    old_within = subst (WithinTree (account a).used) is_branch x.within

    pub among_there : (i : ℕ) → i < count_ones b.bitmap → (c : Cell) × has s (b.twigs + i) c
    among_there i m = lie_cell (has s) b.twigs t.below old_lie i (let n = among_n in omega arith)

    pub among_used : (i : ℕ) → i < count_ones b.bitmap → (account a).used (b.twigs + i) ≡ true
    among_used i m = within_cell (account a).used b.twigs t.below old_within i (let n = among_n in omega arith)

    abbrev more : Twigs
    more = beside missing.left (twig (at key first.place) (leaf (record { key = key; item = item }) (extents_in l)) missing.right)

    more_count : count more ≡ count_ones b.bitmap + 1
    more_count = let e = count-beside missing.left (twig (at key first.place) (leaf (record { key = key; item = item }) (extents_in l)) missing.right) in let n = among_n in let z = sizes in omega arith

    -- positions rise, so there are at most 47
    pub among_few : count_ones b.bitmap + 1 ≤ 47
    among_few = let e = more_count in let n = few 0 47 more (rising_join missing) in omega arith
      where
        rising_join : Missing 0 47 (at key first.place) t.below → Rising 0 47 more
        rising_join m = rising_of first.place 0 more (let z : 0 ≤ 47 = omega arith in z) (add_twig 0 first.place b.twigs 0 first.position (extents_in l) (record { key = key; item = item }) t.below missing among_tree among_nearest x.entry x.laid.are (record { inside = (let f = few 0 47 t.below rising in omega arith); together = (let f = few 0 47 t.below rising in omega arith) })).tree.5

    module _ {to : ℕ} (together : IsRow to (count_ones b.bitmap + 1)) where
      more_grown : (low : ℕ) → low ≤ first.place → Grown (record { key = key; item = item }) low end (branch first.place to more)
      more_grown low late = subst (λ (z : Tree). Grown (record { key = key; item = item }) low z (branch first.place to more)) (sym is_branch)
          (add_twig low first.place b.twigs to first.position (extents_in l) (record { key = key; item = item }) t.below missing (late, among_tree.1, among_tree.2, among_tree.3, among_tree.4, among_tree.5) among_nearest x.entry x.laid.are (let n = among_n in let m : count_ones b.bitmap + 1 ≡ suc (count t.below) = omega arith in subst (IsRow to) m together))

      more_bits : b.bitmap + 2 ^ at key first.place ≡ bitmap_of more
      more_bits =
          let y = bitmap_of-beside missing.left (twig (at key first.place) (leaf (record { key = key; item = item }) (extents_in l)) missing.right) in
          let z = ap bitmap_of missing.is ∙ bitmap_of-beside missing.left missing.right in
          let v = t.bits in omega arith

      pub more_branch : IsBranch (record { offset = first.place; bitmap = b.bitmap + 2 ^ at key first.place; twigs = to })
      more_branch = subst (λ (z : ℕ). IsBranch (record { offset = first.place; bitmap = z; twigs = to })) (sym more_bits) (is_node 0 (branch first.place to more) (more_grown 0 (omega arith)).tree)

      module _ {kept : S → List ℕ} {given : S → List Bool} {s2 : S} {a2 : A} (f : Frame has kept given account s a s2 a2) (lefts : (i : ℕ) (c : Cell) → i < count_ones (b.bitmap % 2 ^ at key first.place) → has s (b.twigs + i) c → has s2 (to + i) c)
          (rights : (i : ℕ) (c : Cell) → count_ones (b.bitmap % 2 ^ at key first.place) + 0 + i < count_ones b.bitmap → has s (b.twigs + (count_ones (b.bitmap % 2 ^ at key first.place) + 0 + i)) c → has s2 (to + (count_ones (b.bitmap % 2 ^ at key first.place) + 1 + i)) c)
          (put : has s2 (to + count_ones (b.bitmap % 2 ^ at key first.place)) cell_of_leaf) where
        sides_lie : Lie (has s) b.twigs (beside missing.left missing.right)
        sides_lie = subst (Lie (has s) b.twigs) missing.is old_lie

        sides_within : Within (account a).used b.twigs (beside missing.left missing.right)
        sides_within = subst (Within (account a).used b.twigs) missing.is old_within

        left_lie : Lie (has s2) to missing.left
        left_lie = lie_moved (account a).used (has s) (has s2) f.stays b.twigs to missing.left (λ i d m h. lefts i d (let n = among_index in omega arith) h) (within_left (account a).used b.twigs missing.left missing.right sides_within) (lie_left (has s) b.twigs missing.left missing.right sides_lie)

        right_lie : Lie (has s2) (suc (to + count missing.left)) missing.right
        right_lie = lie_moved (account a).used (has s) (has s2) f.stays (b.twigs + count missing.left) (suc (to + count missing.left)) missing.right
            (λ i d m h.
            let n = among_index in let z = sizes in let o = among_n in
            let y : b.twigs + count missing.left + i ≡ b.twigs + (count_ones (b.bitmap % 2 ^ at key first.place) + 0 + i) = omega arith in
            let v : to + (count_ones (b.bitmap % 2 ^ at key first.place) + 1 + i) ≡ suc (to + count missing.left) + i = omega arith in
            subst (λ q. has s2 q d) v (rights i d (omega arith) (subst (λ q. has s q d) y h)))
            (within_right (account a).used b.twigs missing.left missing.right sides_within) (lie_right (has s) b.twigs missing.left missing.right sides_lie)

        leaf_lies : has s2 (to + count missing.left) (top_cell (leaf (record { key = key; item = item }) (extents_in l)))
        leaf_lies = let n = among_index in subst (λ (i : ℕ). has s2 (to + i) cell_of_leaf) n put

        more_lie : Lie (has s2) to more
        more_lie = lie_join (has s2) to missing.left (twig (at key first.place) (leaf (record { key = key; item = item }) (extents_in l)) missing.right) left_lie (leaf_lies, item_stays x.laid f, right_lie)

        pub joined : {c : CellChange} → c.cell ≡ branch_cell (record { offset = first.place; bitmap = b.bitmap + 2 ^ at key first.place; twigs = to }) → c.new_twigs ≡ record { at = to; n = count_ones b.bitmap + 1 } → c.new_item ≡ l → c.old_twigs ≡ record { at = b.twigs; n = count_ones b.bitmap } → IsNoItem c.old_item →
            IsWith has s2 c first.place (record { key = key; item = item }) end
        joined cell new_twigs new_item old_twigs old_item = record {
          new = branch first.place to more;
          makes = new_makes (branch first.place to more) new_twigs new_item old_item old_twigs (let n = among_n in let r = among_lies.together in omega arith) together.together
              (cell ∙ ap (λ (z : ℕ). branch_cell (record { offset = first.place; bitmap = z; twigs = to })) more_bits) more_lie
              (λ w. let e = ap (weigh_tree w) is_branch in
              let y = weigh_is w b.twigs t.below in let z = weigh_is w to more in
              let u = ap (under w) missing.is ∙ under-beside w missing.left missing.right in
              let v = under-beside w missing.left (twig (at key first.place) (leaf (record { key = key; item = item }) (extents_in l)) missing.right) in
              let m = ap (row w to) more_count in let o = ap (row w b.twigs) among_n in omega arith);
          grown = λ low late _. more_grown low late;
        }
