-- A branch without one of its leaves.
use Rattle.std.proofs.Common.{◌≡◌, ℕ, suc, ◌+◌, ◌-◌, ◌%◌, ◌^◌, ◌<◌, ◌≤◌, Bool, true, List, ◌∷◌, length, count_ones, arith, refl, sym, ◌∙◌, ap, subst}
use Rattle.std.specs.Int.{bit_at}
use Rattle.packed_node.specs.declared.Cell.{Cell}
use Rattle.packed_node.specs.Nodes.{IsBranch, branch_cell}
use Rattle.trie_model.specs.Extents.{Extents, IsRow, row, weigh_extents}
use Rattle.trie_model.specs.Changes.{Shrunk}
use Rattle.trie_model.specs.Keys.{at, Entry}
use Rattle.trie_model.specs.Memory.{top_cell, Beneath, Lie}
use Rattle.trie_model.specs.Reach.{in_chunk, weigh_tree, WithinTree, Within}
use Rattle.trie_model.specs.Trees.{Tree, Twigs, count, bitmap_of, IsTree, beside}
use Rattle.trie_model.specs.Trees.Tree.{leaf, branch}
use Rattle.trie_model.specs.Trees.Twigs.{none, twig}
use Rattle.trie_model.proofs.BitmapLaws.{Cut, index_of, set_bit, count-beside, bitmap_of-beside}
use Rattle.trie_model.proofs.CountLaws.{weigh_is, under-beside}
use Rattle.trie_model.proofs.DropLaws.{drop_twig, collapse_low, collapse_high}
use Rattle.trie_model.proofs.MoveLaws.{lie_moved}
use Rattle.trie_model.proofs.SplitLaws.{Found, lie_join, within_left, within_right}
use Rattle.trie_model.proofs.TopLaws.{is_node}
use Rattle.chunk_cells.specs.Laying.{extents_in}
use Rattle.chunk_cells.specs.declared.extents.Extents.{Extents as Laid}
use Rattle.chunk_usage.specs.Rooms.{Account, Handed}
use Rattle.trie_read.specs.Reads.{IsTop}
use Rattle.trie_write.specs.declared.change.CellChange.{CellChange}
use Rattle.trie_write.specs.declared.change.Span.{Span}
use Rattle.trie_write.specs.declared.descend.Descent.{Descent}
use Rattle.trie_write.specs.Deletions.{LeafDescent, IsWithout}
use Rattle.trie_write.specs.Laid.{IsItemAt, IsNoItem}
use Rattle.trie_write.specs.Puts.{span, AreSpans, IsTaken}
use Rattle.trie_space.specs.Spaces.{Frame}
use Rattle.trie_space.specs.Ways.{Fork, fork, plug, twig_at, twigs_of, twigs_along}
use Rattle.trie_space.specs.Weights.{at_place}
use Rattle.trie_write.proofs.CopyLaws.{n_here}
use Rattle.trie_write.proofs.LaidLaws.{item_span_is, item_are, none_are}
use Rattle.trie_write.proofs.DescentLaws.{at_key}
use Rattle.trie_space.proofs.WayLaws.{IsFork, is_fork, fork_count, sides_of, twig_of}
use Rattle.trie_space.proofs.WeightLaws.{handed_fresh}

-- a twig among others is found at its position
abbrev found_here : (o low : ℕ) (f : Fork) (t : Tree) → IsFork low f t → Found 0 47 f.position (beside f.left (twig f.position t f.right))
found_here o low f t k =
    let c : Cut 0 47 f.position (beside f.left (twig f.position t f.right)) = record { left = f.left; right = twig f.position t f.right; is = refl; lower = k.lower; upper = (omega arith, k.inside, k.upper) } in
    record { left = f.left; here = t; rest = f.right; is = refl; inside = k.inside; lower = k.lower; upper = k.upper; index = index_of 0 47 f.position (beside f.left (twig f.position t f.right)) c; bit = set_bit 0 47 f.position (beside f.left (twig f.position t f.right)) c t f.right refl }

-- of two twigs the other one's cell takes the branch's place
one_left : {has : ℕ → Cell → Type 0} (f : Fork) (e : Entry) (first : Extents) (i : ℕ) (made : Cell) → IsFork 0 f (leaf e first) → Beneath has (fork f (leaf e first)) → twigs_of f ≡ 2 → i ≡ count f.left → ((c : Cell) → has (f.first + (1 - i)) c → made ≡ c) →
    (u : Tree) × (made ≡ top_cell u) × Beneath has u × ((w : ℕ → ℕ) → weigh_tree w u + (row w f.first 2 + weigh_extents w (length e.item) first) ≡ weigh_tree w (fork f (leaf e first))) × ((low : ℕ) → IsTree low (fork f (leaf e first)) → Shrunk e low (fork f (leaf e first)) u)
one_left {has} f e first i made k h two is read = go f.left f.right k h two is read
  where
    go : (l r : Twigs) → IsFork 0 (record f { left = l; right = r }) (leaf e first) → Beneath has (fork (record f { left = l; right = r }) (leaf e first)) → count l + suc (count r) ≡ 2 → i ≡ count l → ((c : Cell) → has (f.first + (1 - i)) c → made ≡ c) →
        (u : Tree) × (made ≡ top_cell u) × Beneath has u × ((w : ℕ → ℕ) → weigh_tree w u + (row w f.first 2 + weigh_extents w (length e.item) first) ≡ weigh_tree w (fork (record f { left = l; right = r }) (leaf e first))) × ((low : ℕ) → IsTree low (fork (record f { left = l; right = r }) (leaf e first)) → Shrunk e low (fork (record f { left = l; right = r }) (leaf e first)) u)
    go none none k h two is read = absurd (omega arith)
    go none (twig q u none) k h two is read = (
      u,
      read (top_cell u) (let place : suc f.first ≡ f.first + (1 - i) = omega arith in subst (λ (m : ℕ). has m (top_cell u)) place h.2.0),
      h.2.1,
      (λ w. omega arith),
      (λ low t. collapse_high low f.offset f.first f.position q first e u t),
    )
    go none (twig q u (twig r v more)) k h two is read = absurd (omega arith)
    go (twig q u none) none k h two is read = (
      u,
      read (top_cell u) (let place : f.first ≡ f.first + (1 - i) = omega arith in subst (λ (m : ℕ). has m (top_cell u)) place h.0),
      h.1,
      (λ w. omega arith),
      (λ low t. collapse_low low f.offset f.first q f.position first e u t),
    )
    go (twig q u none) (twig r v more) k h two is read = absurd (omega arith)
    go (twig q u (twig r v more)) rest k h two is read = absurd (omega arith)

module _ {S A : Type 0} {has : S → ℕ → Cell → Type 0} {account : A → Account} {s : S} {a : A} {key : List ℕ} {t : Descent} {lower : List Fork} {e : Entry} {first : Extents} (x : LeafDescent has account s a key t lower e first) where
  abbrev pub last_fork : Fork
  last_fork = record { offset = t.branch.offset; first = t.branch.twigs; left = x.descent.through.left; position = x.descent.through.position; right = x.descent.through.right }

  pub last_is : plug lower (leaf e first) ≡ fork last_fork (leaf e first)
  last_is = ap (λ w. plug w (leaf e first)) (x.descent.through.is ∙ ap (λ r. last_fork ∷ r) x.alone)

  pub last_tree : IsTree 0 (fork last_fork (leaf e first))
  last_tree = subst (IsTree 0) last_is x.asks.hangs.top.tree

  pub last_known : IsFork 0 last_fork (leaf e first)
  last_known = is_fork 0 last_fork (leaf e first) last_tree

  pub last_n : count_ones t.branch.bitmap ≡ twigs_of last_fork
  last_n = n_here x.asks x.descent.through

  pub last_along : twigs_along lower ≡ count_ones t.branch.bitmap
  last_along = let e = ap twigs_along (x.descent.through.is ∙ ap (λ r. last_fork ∷ r) x.alone) in let n = last_n in omega arith

  pub leaf_alone : IsTree 0 (leaf e first)
  leaf_alone = last_known.tree

  last_beneath : Beneath (has s) (fork last_fork (leaf e first))
  last_beneath = subst (Beneath (has s)) last_is x.asks.hangs.top.beneath

  last_within : Within (account a).used t.branch.twigs (beside x.descent.through.left (twig x.descent.through.position (leaf e first) x.descent.through.right))
  last_within = subst (λ z. WithinTree (account a).used z) last_is x.asks.hangs.within

  last_bits : t.branch.bitmap ≡ bitmap_of (beside x.descent.through.left (twig x.descent.through.position (leaf e first) x.descent.through.right))
  last_bits = x.descent.through.bits ∙ bitmap_of-beside x.descent.through.left (twig x.descent.through.position (plug x.descent.through.rest (leaf e first)) x.descent.through.right) ∙ sym (bitmap_of-beside x.descent.through.left (twig x.descent.through.position (leaf e first) x.descent.through.right))

  pub key_position : at key t.branch.offset ≡ x.descent.through.position
  key_position = at_key x.asks.hangs.top x.asks.is_way x.descent.through

  pub key_bit : bit_at t.branch.bitmap (at key t.branch.offset) ≡ 1
  key_bit = ap (λ (b : ℕ). bit_at b (at key t.branch.offset)) last_bits ∙ ap (λ (p : ℕ). bit_at (bitmap_of (beside x.descent.through.left (twig x.descent.through.position (leaf e first) x.descent.through.right))) p) key_position ∙ (found_here t.branch.offset 0 last_fork (leaf e first) last_known).bit

  pub next_leaf : t.next ≡ top_cell (leaf e first)
  next_leaf = x.descent.next_is ∙ ap (λ r. top_cell (plug r (leaf e first))) x.alone

  -- and the leaf's own top
  pub leaf_top : IsTop (has s) 0 t.next (leaf e first)
  leaf_top = record { tree = leaf_alone; is = next_leaf; beneath = (twig_of (has s) last_fork (leaf e first) last_beneath).1 }

  -- the item that was there
  pub gone_item : {l m : Laid} → ((e : Entry) (x : Extents) → IsTop (has s) 0 t.next (leaf e x) → l.len ≡ length e.item) → ((e : Entry) (x : Extents) → IsTop (has s) 0 t.next (leaf e x) → extents_in l ≡ x) → m ≡ l → IsItemAt m (length e.item) first
  gone_item {l} {m} len there same = subst (λ (z : Laid). IsItemAt z (length e.item) first) (sym same) (record { len = len e first leaf_top; there = there e first leaf_top })

  spans_of : {c : CellChange} {new : Span} → c.new_twigs ≡ new → new.at % 1024 + new.n ≤ 1024 → IsNoItem c.new_item → c.old_twigs ≡ record { at = t.branch.twigs; n = count_ones t.branch.bitmap } → IsItemAt c.old_item (length e.item) first → AreSpans c
  spans_of {c} new together new_item old_twigs old_item = record {
    new_twigs = subst (λ (y : Span). y.at % 1024 + y.n ≤ 1024) (sym new) together;
    new_item = item_are new_item none_are;
    old_twigs = subst (λ (y : Span). y.at % 1024 + y.n ≤ 1024) (sym old_twigs) (let n = last_n in let r = last_known.lies.together in omega arith);
    old_item = item_are old_item leaf_alone.1;
  }

  pub collapsed : {c : CellChange} → count_ones t.branch.bitmap ≡ 2 → ((d : Cell) → has s (t.branch.twigs + (1 - t.index)) d → c.cell ≡ d) → c.new_twigs ≡ record { at = 0; n = 0 } → IsNoItem c.new_item → c.old_twigs ≡ record { at = t.branch.twigs; n = count_ones t.branch.bitmap } → IsItemAt c.old_item (length e.item) first →
      IsWithout has s c e (plug lower (leaf e first))
  collapsed {c} two read new_twigs new_item old_twigs old_item = subst (IsWithout has s c e) (sym last_is) (
      let u = one_left {has = has s} last_fork e first t.index c.cell last_known last_beneath (sym last_n ∙ two) x.descent.index_is read in
      record {
        new = u.0;
        makes = record {
          is = u.1;
          beneath = u.2;
          weigh = λ w. let z = u.3 w in let p = ap (λ y. span y w) new_twigs in let q = item_span_is new_item w in let r = ap (λ y. span y w) old_twigs in let v = item_span_is old_item w in let o = ap (row w t.branch.twigs) two in omega arith;
          spans = spans_of new_twigs (omega arith) new_item old_twigs old_item;
        };
        shrunk = u.4;
      }
      )

  -- ---- of three and more twigs the others are copied side by side

  module _ {kept : S → List ℕ} {given : S → List Bool} {s1 : S} {a1 : A} {to : ℕ} (bits : ℕ) (f : Frame has kept given account s a s1 a1) (handed : Handed (account a) (account a1) to (count_ones t.branch.bitmap - 1)) (three : 3 ≤ count_ones t.branch.bitmap) (bits_is : bits + 2 ^ at key t.branch.offset ≡ t.branch.bitmap) where
    abbrev others : Twigs
    others = beside x.descent.through.left x.descent.through.right

    others_count : count others ≡ count_ones t.branch.bitmap - 1
    others_count = let c = count-beside x.descent.through.left x.descent.through.right in let n = last_n in omega arith

    others_bits : bits ≡ bitmap_of others
    others_bits =
        let y = last_bits ∙ bitmap_of-beside x.descent.through.left (twig x.descent.through.position (leaf e first) x.descent.through.right) in
        let z = bitmap_of-beside x.descent.through.left x.descent.through.right in
        let p = ap (λ (q : ℕ). 2 ^ q) key_position in omega arith

    others_lie : IsRow to (count others)
    others_lie = subst (IsRow to) (sym others_count) handed.twigs

    others_shrunk : (low : ℕ) → IsTree low (fork last_fork (leaf e first)) → Shrunk e low (fork last_fork (leaf e first)) (branch t.branch.offset to others)
    others_shrunk low tree = drop_twig low t.branch.offset t.branch.twigs to x.descent.through.position first e (beside x.descent.through.left (twig x.descent.through.position (leaf e first) x.descent.through.right)) (found_here t.branch.offset 0 last_fork (leaf e first) last_known) tree refl
        (let n = last_n in let c = fork_count last_fork (leaf e first) in omega arith) others_lie

    pub fewer_branch : IsBranch (record { offset = t.branch.offset; bitmap = bits; twigs = to })
    fewer_branch = subst (λ (b : ℕ). IsBranch (record { offset = t.branch.offset; bitmap = b; twigs = to })) (sym others_bits) (is_node 0 (branch t.branch.offset to others) (others_shrunk 0 last_tree).tree)

    pub dropped : {c : CellChange} → ((i : ℕ) (d : Cell) → i < t.index → has s (t.branch.twigs + i) d → has s1 (to + i) d) → ((i : ℕ) (d : Cell) → t.index + 1 + i < count_ones t.branch.bitmap → has s (t.branch.twigs + (t.index + 1 + i)) d → has s1 (to + (t.index + 0 + i)) d) →
        c.cell ≡ branch_cell (record { offset = t.branch.offset; bitmap = bits; twigs = to }) → c.new_twigs ≡ record { at = to; n = count_ones t.branch.bitmap - 1 } → IsNoItem c.new_item → c.old_twigs ≡ record { at = t.branch.twigs; n = count_ones t.branch.bitmap } → IsItemAt c.old_item (length e.item) first →
        IsWithout has s1 c e (plug lower (leaf e first))
    dropped {c} before after cell new_twigs new_item old_twigs old_item = subst (IsWithout has s1 c e) (sym last_is) (record {
      new = branch t.branch.offset to others;
      makes = record {
        is = cell ∙ ap (λ (b : ℕ). branch_cell (record { offset = t.branch.offset; bitmap = b; twigs = to })) others_bits;
        beneath = lie_join (has s1) to x.descent.through.left x.descent.through.right lefts rights;
        weigh = λ w.
            let z = weigh_is w to others in let y = under-beside w x.descent.through.left x.descent.through.right in
            let o = weigh_is w t.branch.twigs (beside x.descent.through.left (twig x.descent.through.position (leaf e first) x.descent.through.right)) in let n = under-beside w x.descent.through.left (twig x.descent.through.position (leaf e first) x.descent.through.right) in
            let m = ap (row w t.branch.twigs) (fork_count last_fork (leaf e first) ∙ sym last_n) in let l = ap (row w to) others_count in
            let p = ap (λ y. span y w) new_twigs in let q = item_span_is new_item w in let r = ap (λ y. span y w) old_twigs in let v = item_span_is old_item w in omega arith;
        spans = spans_of new_twigs handed.twigs.together new_item old_twigs old_item;
      };
      shrunk = others_shrunk;
    })
      where
        lefts : Lie (has s1) to x.descent.through.left
        lefts = lie_moved (account a).used (has s) (has s1) f.stays t.branch.twigs to x.descent.through.left (λ i d l h. before i d (let n = x.descent.index_is in omega arith) h) (within_left (account a).used t.branch.twigs x.descent.through.left (twig x.descent.through.position (leaf e first) x.descent.through.right) last_within) (sides_of (has s) last_fork (leaf e first) last_beneath).lefts

        rights : Lie (has s1) (to + count x.descent.through.left) x.descent.through.right
        rights = lie_moved (account a).used (has s) (has s1) f.stays (suc (twig_at last_fork)) (to + count x.descent.through.left) x.descent.through.right
            (λ i d l h. let y : suc (twig_at last_fork) + i ≡ t.branch.twigs + (t.index + 1 + i) = let n = x.descent.index_is in omega arith in let z : to + (t.index + 0 + i) ≡ to + count x.descent.through.left + i = let n = x.descent.index_is in omega arith in
            subst (λ q. has s1 q d) z (after i d (let n = x.descent.index_is in let m = last_n in omega arith) (subst (λ q. has s q d) y h)))
            (within_right (account a).used t.branch.twigs x.descent.through.left (twig x.descent.through.position (leaf e first) x.descent.through.right) last_within).2 (sides_of (has s) last_fork (leaf e first) last_beneath).rights

pub same_without : {S : Type 0} {has : S → ℕ → Cell → Type 0} {s s1 : S} {c : CellChange} {e : Entry} {old : Tree} → s1 ≡ s → IsWithout has s c e old → IsWithout has s1 c e old
same_without {has = has} {c = c} {e} {old} same = subst (λ s. IsWithout has s c e old) (sym same)

-- twigs alone were taken
pub taken_twigs : {old new : Account} {c : CellChange} (to m : ℕ) → Handed old new to m → ((q : ℕ) → old.used q ≡ true → new.used q ≡ true) → c.new_twigs ≡ record { at = to; n = m } → IsNoItem c.new_item → IsTaken old new c
taken_twigs {old} {new} {c} to m h stays new_twigs no_item =
    let w = λ (w : ℕ → ℕ). ap (λ x. span x w) new_twigs in let v = λ (w : ℕ → ℕ). item_span_is no_item w in
    record { counts = λ k. let x = h.counts k in let y = w (in_chunk k) in let z = v (in_chunk k) in omega arith; fresh = λ q. let x = handed_fresh h stays q in let y = w (at_place q) in let z = v (at_place q) in omega arith }

pub none_taken : {a : Account} {c : CellChange} → c.new_twigs ≡ record { at = 0; n = 0 } → IsNoItem c.new_item → IsTaken a a c
none_taken {a} {c} no_twigs no_item =
    let w = λ (w : ℕ → ℕ). ap (λ x. span x w) no_twigs in let v = λ (w : ℕ → ℕ). item_span_is no_item w in
    record { counts = λ k. let y = w (in_chunk k) in let z = v (in_chunk k) in omega arith; fresh = λ q. let y = w (at_place q) in let z = v (at_place q) in omega arith }

abbrev pub the_span : ℕ → ℕ → Span
the_span at n = record { at = at; n = n }
