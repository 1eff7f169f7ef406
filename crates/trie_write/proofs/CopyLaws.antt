-- One branch on the way, whose twigs are copied.
use Rattle.std.proofs.Common.{◌≡◌, ℕ, suc, ◌+◌, ◌/◌, ◌^◌, ◌<◌, ◌≤◌, ◌++◌, Bool, true, false, List, [], ◌∷◌, map, Contains, count_ones, arith, refl, sym, ◌∙◌, ap, subst}
use Rattle.packed_node.specs.declared.Cell.{Cell}
use Rattle.packed_node.specs.declared.Branch.{Branch}
use Rattle.packed_node.specs.Nodes.{IsBranch, branch_cell}
use Rattle.trie_model.specs.Extents.{IsRow, row}
use Rattle.trie_model.specs.Memory.{top_cell, Beneath}
use Rattle.trie_model.specs.Reach.{in_chunk, weigh_tree, Within}
use Rattle.trie_model.specs.Trees.{Tree, entries_of, entries, count, IsTree, beside}
use Rattle.trie_model.specs.Trees.Twigs.{twig}
use Rattle.trie_model.proofs.CountLaws.{under, weigh_is, under-beside}
use Rattle.trie_model.proofs.MoveLaws.{Keeps, beneath_kept, tree_weaker, lie_moved, lie_cell, within_cell}
use Rattle.trie_model.proofs.SplitLaws.{lie_join, within_left, within_right}
use Rattle.trie_model.proofs.TopLaws.{is_node}
use Rattle.chunk_cells.specs.Chunks.{IsGiven}
use Rattle.chunk_usage.specs.Rooms.{Account, Handed}
use Rattle.trie_read.specs.Reads.{IsTop}
use Rattle.trie_space.specs.Spaces.{Frame, MayWrite, Wrote}
use Rattle.trie_space.specs.Ways.{Fork, fork, plug, end_at, Along, twigs_of, twigs_along}
use Rattle.trie_write.specs.Descents.{Through}
use Rattle.trie_space.specs.Rooted.{Hangs}
use Rattle.trie_write.specs.Mutable.{WayAsks, IsCopied}
use Rattle.trie_space.specs.Weights.{at_place}
use Rattle.trie_write.proofs.AskLaws.{first_of, later_of}
use Rattle.trie_space.proofs.SpaceLaws.{apart_from}
use Rattle.trie_write.proofs.DescentLaws.{whole, known, way_on, n_is}
use Rattle.trie_space.proofs.WayLaws.{beneath_met, fork_tree, fork_count, fork_bits, entries_fork, twig_of, follows_same, sides_of}
use Rattle.trie_space.proofs.WeightLaws.{marked, mark_le, mark_grows, met_within, handed_fresh}

module _ {S A : Type 0} {has : S → ℕ → Cell → Type 0} {account : A → Account} {s : S} {a : A} {place low : ℕ} {key : List ℕ} {cell : Cell} {way : List Fork} {end : Tree} (asks : WayAsks has account s a place low key cell way end) {b : Branch} (t : Through b way end) where
  abbrev branch_here : Fork
  branch_here = record { offset = b.offset; first = b.twigs; left = t.left; position = t.position; right = t.right }

  abbrev tree_below : Tree
  tree_below = plug t.rest end

  hangs_here : Hangs has account s a low cell (fork branch_here tree_below)
  hangs_here = subst (Hangs has account s a low cell) (whole asks.hangs.top asks.is_way t) asks.hangs

  pub n_here : count_ones b.bitmap ≡ count t.left + suc (count t.right)
  n_here = n_is asks.hangs.top asks.is_way t

  pub cell_there : (i : ℕ) → i < count_ones b.bitmap → (c : Cell) × has s (b.twigs + i) c
  cell_there i l = lie_cell (has s) b.twigs (beside t.left (twig t.position tree_below t.right)) hangs_here.top.beneath i (let n = fork_count branch_here tree_below in let m = n_here in omega arith)

  pub cell_used : (i : ℕ) → i < count_ones b.bitmap → (account a).used (b.twigs + i) ≡ true
  cell_used i l = within_cell (account a).used b.twigs (beside t.left (twig t.position tree_below t.right)) hangs_here.within i (let n = fork_count branch_here tree_below in let m = n_here in omega arith)

  right_within : Within (account a).used (b.twigs + count t.left) (twig t.position tree_below t.right)
  right_within = within_right (account a).used b.twigs t.left (twig t.position tree_below t.right) hangs_here.within

  pub part_counted : (k : ℕ) → row (in_chunk k) b.twigs (count_ones b.bitmap) + weigh_tree (in_chunk k) tree_below ≤ (account a).live k
  part_counted k =
      let c = hangs_here.counted k in
      let h = weigh_is (in_chunk k) b.twigs (beside t.left (twig t.position tree_below t.right)) in
      let u = under-beside (in_chunk k) t.left (twig t.position tree_below t.right) in
      let r = ap (row (in_chunk k) b.twigs) (fork_count branch_here tree_below ∙ sym n_here) in omega arith

  pub old_lies : IsRow b.twigs (count_ones b.bitmap)
  old_lies = subst (IsRow b.twigs) (sym n_here) (known asks.hangs.top asks.is_way t).lies

  pub moved_branch : {to : ℕ} → IsRow to (count_ones b.bitmap) → IsBranch (record b { twigs = to })
  moved_branch {to} r =
      let y = is_node low (fork branch_here tree_below) hangs_here.top.tree in
      record { positions = subst (λ (z : ℕ). z < 2 ^ 47) (sym t.bits) y.positions; two = subst (λ (z : ℕ). 2 ≤ count_ones z) (sym t.bits) y.two; early = y.early; inside = (let m = (known asks.hangs.top asks.is_way t).two in let e = n_here in let i = r.inside in omega arith) }

  -- the twig's tree, in a later state
  pub asks_on : {s1 : S} {a1 : A} {next : Cell} → ((k : ℕ) → (account a).live k ≤ (account a1).live k) → Keeps (account a).used (has s) (has s1) → ((q : ℕ) → (account a).used q ≡ true → (account a1).used q ≡ true) → next ≡ top_cell tree_below →
      WayAsks has account s1 a1 place (b.offset + 1) key next t.rest end
  asks_on {s1} {a1} more keep stays is = record {
    hangs = record {
      top = record {
        tree = (let m : suc b.offset ≡ b.offset + 1 = omega arith in subst (λ (x : ℕ). IsTree x tree_below) m (known asks.hangs.top asks.is_way t).tree);
        is = is;
        beneath = beneath_kept (account a).used (has s) (has s1) keep tree_below right_within.1 (twig_of (has s) branch_here tree_below hangs_here.top.beneath).1;
      };
      within = tree_weaker (account a).used (account a1).used stays tree_below right_within.1;
      counted = λ k. let m = more k in let p = part_counted k in omega arith;
    };
    is_way = way_on asks.hangs.top asks.is_way t;
  }

  -- once there is room
  pub asks_after : {kept : S → List ℕ} {given : S → List Bool} {s1 : S} {a1 : A} {first n : ℕ} {next : Cell} → Handed (account a) (account a1) first n → Frame has kept given account s a s1 a1 → next ≡ top_cell tree_below → WayAsks has account s1 a1 place (b.offset + 1) key next t.rest end
  asks_after h f is = asks_on (λ k. let x = h.counts k in omega arith) f.stays f.grows.stays is

  -- how many twigs there are
  pub along_here : twigs_along way ≡ count_ones b.bitmap + twigs_along t.rest
  along_here = ap twigs_along t.is ∙ (let n = n_here in omega arith)

  each_here : map twigs_of way ≡ count_ones b.bitmap ∷ map twigs_of t.rest
  each_here = ap (map twigs_of) t.is ∙ ap (λ (n : ℕ). n ∷ map twigs_of t.rest) (sym n_here)

  -- room for its twigs was asked for, or for those of a branch below
  pub here_asked : (n : ℕ) → n ≡ count_ones b.bitmap → Contains (map twigs_of way) n
  here_asked n e = subst (λ (ns : List ℕ). Contains ns n) (sym each_here) (first_of (count_ones b.bitmap) n (map twigs_of t.rest) (sym e))

  pub below_asked : (n : ℕ) → Contains (map twigs_of t.rest) n → Contains (map twigs_of way) n
  below_asked n h = subst (λ (ns : List ℕ). Contains ns n) (sym each_here) (later_of (count_ones b.bitmap) n (map twigs_of t.rest) h)

-- what was asked, where nothing has changed
pub same_asks : {S A : Type 0} {has : S → ℕ → Cell → Type 0} {account : A → Account} {s s1 : S} {a : A} {place low : ℕ} {key : List ℕ} {cell : Cell} {way : List Fork} {end : Tree} → s1 ≡ s → WayAsks has account s a place low key cell way end → WayAsks has account s1 a place low key cell way end
same_asks {has = has} {account} {a = a} {place} {low} {key} {cell} {way} {end} same = subst (λ s. WayAsks has account s a place low key cell way end) (sym same)

-- ---- its twigs are copied

module _ {S A : Type 0} {has : S → ℕ → Cell → Type 0} {kept : S → List ℕ} {given : S → List Bool} {account : A → Account} {s s1 s2 s3 : S} {a a1 a2 a3 : A} {place low to index slot : ℕ} {key : List ℕ} {cell next : Cell} {way : List Fork} {end : Tree} {b : Branch}
    (asks : WayAsks has account s a place low key cell way end) (t : Through b way end) (i_is : index ≡ count t.left)
    (handed : Handed (account a) (account a1) to (count_ones b.bitmap)) (may : MayWrite kept given s1 to (count_ones b.bitmap)) (f : Frame has kept given account s a s1 a1) (g : Frame has kept given account s1 a1 s2 a2)
    (deep : IsCopied has given account a1 s2 a2 place (b.offset + 1) key (to + index) t.rest end next slot)
    (copies : (i : ℕ) (c : Cell) → i < count_ones b.bitmap → (i ≡ index → ⊥) → has s2 (b.twigs + i) c → has s3 (to + i) c) (put : has s3 (to + index) next) (wrote : Wrote has kept given s2 s3 to (count_ones b.bitmap))
    (released : (k : ℕ) → (account a3).live k + row (in_chunk k) b.twigs (count_ones b.bitmap) ≡ (account a2).live k) (rest : account a3 ≡ record (account a2) { live = (account a3).live }) where
  abbrev new_below : Tree
  new_below = plug deep.copy end

  abbrev new_fork : Fork
  new_fork = record { offset = b.offset; first = to; left = t.left; position = t.position; right = t.right }

  lies_here : IsRow to (twigs_of new_fork)
  lies_here = subst (IsRow to) (n_here asks t) handed.twigs

  keep : Keeps (account a).used (has s) (has s3)
  keep q c u h = wrote.others q c (λ i l e. apart_from handed q u i l e) (g.stays q c (f.grows.stays q u) (f.stays q c u h))

  -- what the new twig reaches isn't among the new twigs
  apart : (q : ℕ) → 1 ≤ weigh_tree (at_place q) new_below → (i : ℕ) → i < count_ones b.bitmap → q ≡ to + i → ⊥
  apart q m i l e =
      let unused : (account a).used q ≡ false = ap (account a).used e ∙ handed.unused i l in
      let x = deep.met q in
      let y = marked (account a1).used q (ap (account a1).used e ∙ handed.taken i l) in
      let z = mark_le (account a2).used q in
      let v = met_within (account a).used (plug t.rest end) (right_within asks t).1 q unused in omega arith

  copied_here : (i : ℕ) (c : Cell) → i < count_ones b.bitmap → (i ≡ index → ⊥) → has s (b.twigs + i) c → has s3 (to + i) c
  copied_here i c l ne h = let u = cell_used asks t i l in copies i c l ne (g.stays (b.twigs + i) c (f.grows.stays (b.twigs + i) u) (f.stays (b.twigs + i) c u h))

  lies_new : Beneath (has s3) (fork new_fork new_below)
  lies_new = lie_join (has s3) to t.left (twig t.position new_below t.right)
      (lie_moved (account a).used (has s) (has s3) keep b.twigs to t.left (λ i c l h. copied_here i c (let e = n_here asks t in omega arith) (omega arith) h) (within_left (account a).used b.twigs t.left (twig t.position (plug t.rest end) t.right) (hangs_here asks t).within) (sides_of (has s) (branch_here asks t) (plug t.rest end) (hangs_here asks t).top.beneath).lefts) (
        subst (λ (i : ℕ). has s3 (to + i) (top_cell new_below)) i_is (subst (has s3 (to + index)) deep.is put),
        beneath_met (has s2) (has s3) new_below (λ q c m h. wrote.others q c (apart q m) h) deep.beneath,
        lie_moved (account a).used (has s) (has s3) keep (suc (b.twigs + count t.left)) (suc (to + count t.left)) t.right
            (λ i c l h. let x : suc (b.twigs + count t.left) + i ≡ b.twigs + (count t.left + suc i) = omega arith in let y : to + (count t.left + suc i) ≡ suc (to + count t.left) + i = omega arith in
            subst (λ (q : ℕ). has s3 q c) y (copied_here (count t.left + suc i) c (let e = n_here asks t in omega arith) (omega arith) (subst (λ (q : ℕ). has s q c) x h)))
            (right_within asks t).2 (sides_of (has s) (branch_here asks t) (plug t.rest end) (hangs_here asks t).top.beneath).rights,
      )

  weighs_old : (w : ℕ → ℕ) → weigh_tree w (plug way end) ≡ row w b.twigs (count_ones b.bitmap) + (under w t.left + (weigh_tree w (plug t.rest end) + under w t.right))
  weighs_old w =
      let e = ap (weigh_tree w) (whole asks.hangs.top asks.is_way t) in
      let h = weigh_is w b.twigs (beside t.left (twig t.position (plug t.rest end) t.right)) in
      let u = under-beside w t.left (twig t.position (plug t.rest end) t.right) in
      let r = ap (row w b.twigs) (fork_count (branch_here asks t) (plug t.rest end) ∙ sym (n_here asks t)) in omega arith

  weighs_new : (w : ℕ → ℕ) → weigh_tree w (fork new_fork new_below) ≡ row w to (count_ones b.bitmap) + (under w t.left + (weigh_tree w new_below + under w t.right))
  weighs_new w =
      let h = weigh_is w to (beside t.left (twig t.position new_below t.right)) in
      let u = under-beside w t.left (twig t.position new_below t.right) in
      let r = ap (row w to) (fork_count new_fork new_below ∙ sym (n_here asks t)) in omega arith

  pub copied_step : (at_new : ℕ) → IsCopied has given account a s3 a3 place low key at_new way end (branch_cell (record b { twigs = to })) slot
  copied_step at_new = record {
    copy = new_fork ∷ deep.copy;
    shape = fork_tree low to (branch_here asks t) (plug t.rest end) new_below (known asks.hangs.top asks.is_way t) lies_here (let m : b.offset + 1 ≡ suc b.offset = omega arith in subst (λ (x : ℕ). IsTree x new_below) m deep.shape)
        (follows_same (suc b.offset) (entries_of (plug t.rest end)) (entries_of new_below) deep.entries);
    entries = entries_fork new_fork new_below ∙ ap (λ es. entries t.left ++ (es ++ entries t.right)) deep.entries ∙ sym (ap entries_of (whole asks.hangs.top asks.is_way t) ∙ entries_fork (branch_here asks t) (plug t.rest end));
    along = (let l = (subst (Along place key) t.is asks.is_way.along) in (l.0, l.1, deep.along));
    is = ap (λ (x : ℕ). branch_cell (record { offset = b.offset; bitmap = x; twigs = to })) (t.bits ∙ fork_bits (branch_here asks t) (plug t.rest end) new_below);
    beneath = lies_new;
    slot_is = deep.slot_is ∙ ap (λ (i : ℕ). end_at (to + i) deep.copy) i_is;
    writable = λ w. let l : index < count_ones b.bitmap = let e = n_here asks t in omega arith in
        let v = deep.writable (record {
          in_use = g.grows.stays (to + index) (handed.taken index l);
          mutable = g.grows.fresher (to + index) (handed.writable index l);
          in_given = g.given_stays ((to + index) / 1024) (may.in_given index l);
        }) in record {
          in_use = ap (λ (z : Account). z.used slot) rest ∙ v.in_use;
          mutable = ap (λ (z : Account). z.mutable slot) rest ∙ v.mutable;
          in_given = subst (λ (x : List Bool). IsGiven x (slot / 1024)) (sym wrote.same_given) v.in_given;
        };
    counts = λ k. let x = handed.counts k in let y = deep.counts k in let z = released k in let u = weighs_old (in_chunk k) in let v = weighs_new (in_chunk k) in omega arith;
    met = λ q. let x = handed_fresh handed f.grows.stays q in let y = deep.met q in let u = weighs_old (at_place q) in let v = weighs_new (at_place q) in
        let z = mark_grows (account a2).used (account a3).used q (λ h. ap (λ (z : Account). z.used q) rest ∙ h) in omega arith;
  }

-- nothing is copied where the way ends
pub copied_none : {S A : Type 0} {has : S → ℕ → Cell → Type 0} {given : S → List Bool} {account : A → Account} {s : S} {a : A} {place low at_new : ℕ} {key : List ℕ} {cell : Cell} {way : List Fork} {end : Tree} → WayAsks has account s a place low key cell way end → way ≡ [] → IsCopied has given account a s a place low key at_new way end cell at_new
copied_none {has = has} {given} {account} {s} {a} {place} {low} {at_new} {key} {cell} {end = end} asks is =
    subst (λ (w : List Fork). IsCopied has given account a s a place low key at_new w end cell at_new) (sym is) (
    let h : IsTop (has s) low cell end = subst (λ (w : List Fork). IsTop (has s) low cell (plug w end)) is asks.hangs.top in
    record { copy = []; shape = h.tree; entries = refl; along = tt; is = h.is; beneath = h.beneath; slot_is = refl; writable = λ w. w; counts = λ k. refl; met = λ q. omega arith }
    )
