-- The extents of an item, one behind the other, of which one is moved.
use Rattle.std.proofs.Common.{◌≡◌, ℕ, ◌+◌, ◌-◌, ◌/◌, ◌<◌, ◌≤◌, ◌^◌, true, Bool, List, [], ◌∷◌, length, drop, slice_index, arith, refl, sym, ◌∙◌, ap, subst}
use Rattle.std.proofs.lemmas.List.{length-drop}
use Rattle.packed_node.specs.declared.Cell.{Cell}
use Rattle.packed_node.specs.declared.Node.TheVariants as node
use Rattle.packed_node.specs.Nodes.{packed}
use Rattle.trie_model.specs.Extents.{Extents, first_of, linked_cells, AreExtents, IsRow, ItemLies, LiesAt, item_cell, link_cell, EachCell, row, weigh_extents}
use Rattle.trie_model.specs.Extents.Extents.{linked}
use Rattle.trie_model.specs.Keys.{Entry}
use Rattle.trie_model.specs.Memory.{top_cell, Beneath}
use Rattle.trie_model.specs.Reach.{in_chunk, weigh_tree}
use Rattle.trie_model.specs.Trees.{Tree, entries_of, IsTree}
use Rattle.trie_model.specs.Trees.Tree.{leaf}
use Rattle.trie_model.proofs.DropLaws.{higher}
use Rattle.trie_model.proofs.ExtentLaws.{linked_is, item_kept, first_inside}
use Rattle.trie_model.proofs.MoveLaws.{beneath_kept}
use Rattle.chunk_usage.specs.Ledger.{Ledger, is_used}
use Rattle.chunk_usage.specs.Handing.{released}
use Rattle.chunk_usage.specs.Rooms.{Handed, reserve_account_of}
use Rattle.chunk_usage.proofs.RowLemmas.{row_here, counts_fewer}
use Rattle.trie_space.specs.Rooted.{Rooted, Hangs, no_spare}
use Rattle.trie_space.specs.Spaces.{Frame}
use Rattle.trie_space.specs.Ways.{Fork, plug, end_at}
use Rattle.trie_space.specs.Weights.{at_place, mark}
use Rattle.trie_space.proofs.RootedLaws.{met_used, end_hangs, end_used}
use Rattle.trie_space.proofs.WayLaws.{around, weigh_plug, plug_lies, end_lies, low_at, end_tree, plug_tree, follows_same, entries_plug}
use Rattle.trie_space.proofs.WeightLaws.{at_itself, each_met, mark_le, row_meets, handed_fresh}
use Rattle.evacuate.specs.Chains.{chain, octets_behind, Goes}
use Rattle.evacuate.specs.Places.{first_width, put_first}
use Rattle.evacuate.proofs.TreeLaws.{put_are, put_weigh, put_lies, put_there, first_met, first_cells, first_within, first_row, first_few, Row}

-- ---- extents that come before others

behind_are : (front : List ℕ) (n : ℕ) (x : Extents) → AreExtents n (chain front x) → AreExtents (octets_behind front n) x
behind_are [] n x h = h
behind_are (r ∷ front) n x h = behind_are front (n - 4080) x h.2

chain_are : (front : List ℕ) (n : ℕ) (x y : Extents) → AreExtents n (chain front x) → AreExtents (octets_behind front n) y → AreExtents n (chain front y)
chain_are [] n x y h k = k
chain_are (r ∷ front) n x y h k = (h.0, h.1, chain_are front (n - 4080) x y h.2 k)

chain_weigh : (w : ℕ → ℕ) (front : List ℕ) (n : ℕ) (x y : Extents) → weigh_extents w n (chain front y) + weigh_extents w (octets_behind front n) x ≡ weigh_extents w n (chain front x) + weigh_extents w (octets_behind front n) y
chain_weigh w [] n x y = omega arith
chain_weigh w (r ∷ front) n x y = let e = chain_weigh w front (n - 4080) x y in omega arith

chain_met : (w : ℕ → ℕ) (front : List ℕ) (n : ℕ) (x : Extents) → weigh_extents w (octets_behind front n) x ≤ weigh_extents w n (chain front x)
chain_met w [] n x = omega arith
chain_met w (r ∷ front) n x = let e = chain_met w front (n - 4080) x in omega arith

chain_first : (front : List ℕ) (at : ℕ) (x y : Extents) → first_of (chain front (linked at x)) ≡ first_of (chain front (linked at y))
chain_first [] at x y = refl
chain_first (r ∷ front) at x y = refl

behind_each : (P : ℕ → Type 0) (front : List ℕ) (n : ℕ) (x : Extents) → EachCell P n (chain front x) → EachCell P (octets_behind front n) x
behind_each P [] n x h = h
behind_each P (r ∷ front) n x h = behind_each P front (n - 4080) x h.1

-- the octets behind them
abbrev item_behind : List ℕ → List ℕ → List ℕ
item_behind [] item = item
item_behind (r ∷ front) item = item_behind front (drop 4080 item)

length-behind : (front item : List ℕ) → length (item_behind front item) ≡ octets_behind front (length item)
length-behind [] item = refl
length-behind (r ∷ front) item = length-behind front (drop 4080 item) ∙ ap (octets_behind front) (length-drop 4080 item)

behind_lies : (has : ℕ → Cell → Type 0) (front : List ℕ) (x : Extents) (item : List ℕ) → ItemLies has (chain front x) item → ItemLies has x (item_behind front item)
behind_lies has [] x item h = h
behind_lies has (r ∷ front) x item h = behind_lies has front x (drop 4080 item) h.2

-- ---- another extent is linked

row_apart : (p r n k : ℕ) → k < n → row (at_place p) r n ≡ 0 → r + k ≡ p → ⊥
row_apart p r n k l none e = let m = row_meets p r n k l (sym e) in omega arith

link_met : (front : List ℕ) (at n : ℕ) (x : Extents) → 1 ≤ weigh_extents (at_place (at + 255)) n (chain front (linked at x))
link_met front at n x =
    let c = chain_met (at_place (at + 255)) front n (linked at x) in
    let k = linked_is in
    let m = row_meets (at + 255) at linked_cells 255 (omega arith) refl in omega arith

relinked : (has new : ℕ → Cell → Type 0) (at : ℕ) → ((q : ℕ) (c : Cell) → (q ≡ at + 255 → ⊥) → has q c → new q c) → (front : List ℕ) (x y : Extents) (item : List ℕ) →
    weigh_extents (at_place (at + 255)) (length item) (chain front (linked at y)) ≤ 1 → ItemLies has (chain front (linked at x)) item → ItemLies has y (drop 4080 (item_behind front item)) →
    new (at + 255) (link_cell (first_of y)) → ItemLies new (chain front (linked at y)) item
relinked has new at keep [] x y item once h behind link = (
  λ k l. keep (at + k) (item_cell item k) (λ e. omega arith) (h.0 k l),
  link,
  item_kept (λ q. q ≡ at + 255 → ⊥) has new keep y (drop 4080 item) (subst (λ (n : ℕ). EachCell (λ q. q ≡ at + 255 → ⊥) n y) (sym (length-drop 4080 item)) (each_met (λ q. q ≡ at + 255 → ⊥) (length item - 4080) y apart)) behind,
)
  where
    apart : (q : ℕ) → 1 ≤ weigh_extents (at_place q) (length item - 4080) y → q ≡ at + 255 → ⊥
    apart q m e =
        let k = linked_is in
        let w = row_meets (at + 255) at linked_cells 255 (omega arith) refl in
        let z = ap (λ (p : ℕ). weigh_extents (at_place p) (length item - 4080) y) e in omega arith
relinked has new at keep (r ∷ front) x y item once h behind link = (
  λ k l. keep (r + k) (item_cell item k) (row_apart (at + 255) r linked_cells k (let z = linked_is in omega arith) none) (h.0 k l),
  subst (λ (q : ℕ). new (r + 255) (link_cell q)) (chain_first front at x y) (keep (r + 255) (link_cell (first_of (chain front (linked at x)))) (row_apart (at + 255) r linked_cells 255 (let z = linked_is in omega arith) none) h.1),
  relinked has new at keep front x y (drop 4080 item) (let e = ap (λ (n : ℕ). weigh_extents (at_place (at + 255)) n (chain front (linked at y))) (length-drop 4080 item) in omega arith) h.2 behind link,
)
  where
    none : row (at_place (at + 255)) r linked_cells ≡ 0
    none = let m = link_met front at (length item - 4080) y in omega arith

-- ---- in a trie that stands

-- the extent behind one
pub record Behind {S : Type 0} (has : S → ℕ → Cell → Type 0) (s : S) (l : Ledger) (at n : ℕ) (rest : Extents) (from m : ℕ) : Type 0 where
  pub long : 4096 < n
  pub here : IsRow at linked_cells
  pub link : has s (at + 255) (link_cell (first_of rest))
  pub inside : first_of rest < 2 ^ 22
  pub row : Row from m
  pub there : (i : ℕ) → i < m → (c : Cell) × has s (from + i) c
  pub in_use : (i : ℕ) → i < m → is_used l (from + i) ≡ true
  pub link_used : is_used l (at + 255) ≡ true
  pub counted : m ≤ slice_index l.live (from / 1024)

module _ {S : Type 0} {has : S → ℕ → Cell → Type 0} {s : S} {l : Ledger} {r at n : ℕ} {es : List Entry} {way : List Fork} {e : Entry} {front : List ℕ} {rest : Extents} (g : Goes has s l r at n es way e front rest) where
  abbrev whole : Tree
  whole = leaf e (chain front (linked at rest))

  -- how many octets are left, and behind
  abbrev left : ℕ
  left = octets_behind front (length e.item)

  abbrev item_left : List ℕ
  item_left = drop 4080 (item_behind front e.item)

  goes_tree : IsTree 0 whole
  goes_tree = higher (low_at 0 way) 0 whole (end_tree 0 way whole g.stood.tree) (omega arith)

  goes_hangs : Hangs has reserve_account_of s l 0 (top_cell whole) whole
  goes_hangs = end_hangs way whole g.stood.rooted goes_tree

  pub goes_are : AreExtents left (linked at rest)
  goes_are = behind_are front (length e.item) (linked at rest) goes_tree.1

  length-left : length item_left ≡ left - 4080
  length-left = length-drop 4080 (item_behind front e.item) ∙ ap (λ (m : ℕ). m - 4080) (length-behind front e.item)

  left_lies : ItemLies (has s) (linked at rest) (item_behind front e.item)
  left_lies = behind_lies (has s) front (linked at rest) e.item goes_hangs.top.beneath

  left_within : EachCell (λ q. is_used l q ≡ true) left (linked at rest)
  left_within = behind_each (λ q. is_used l q ≡ true) front (length e.item) (linked at rest) goes_hangs.within

  left_are : AreExtents (length item_left) rest
  left_are = subst (λ (m : ℕ). AreExtents m rest) (sym length-left) goes_are.2

  -- the item's octets from there on lie there
  pub left_there : LiesAt (has s) (first_of rest) (n - 4080) item_left rest
  left_there = record { from = refl; size = length-left ∙ ap (λ (m : ℕ). m - 4080) g.size; are = subst (λ (m : ℕ). AreExtents (m - 4080) rest) g.size goes_are.2; lies = left_lies.2 }

  -- as it is read where the link says
  pub left_read : {s1 : S} {p : ℕ} → s1 ≡ s → p ≡ first_of rest → LiesAt (has s1) p (n - 4080) item_left rest
  left_read {s1} {p} same is = subst (λ z. LiesAt (has z) p (n - 4080) item_left rest) (sym same) (subst (λ (q : ℕ). LiesAt (has s) q (n - 4080) item_left rest) (sym is) left_there)

  behind_left : Behind has s l at left rest (first_of rest) (first_width (left - 4080))
  behind_left = record {
    long = goes_are.0;
    here = goes_are.1;
    link = left_lies.1;
    inside = first_inside (left - 4080) rest (let z = goes_are.0 in omega arith) goes_are.2;
    row = record { some = few.0; few = few.1; row = first_row (left - 4080) rest goes_are.2 };
    there = subst (λ (m : ℕ). (i : ℕ) → i < first_width m → (c : Cell) × has s (first_of rest + i) c) length-left (first_cells (has s) item_left rest left_are left_lies.2);
    in_use = first_within (is_used l) (left - 4080) rest goes_are.2 left_within.1;
    link_used = left_within.0 255 (let k = linked_is in omega arith);
    counted = (
        let c = goes_hangs.counted (first_of rest / 1024) in
        let a = chain_met (in_chunk (first_of rest / 1024)) front (length e.item) (linked at rest) in
        let b = first_met (in_chunk (first_of rest / 1024)) (left - 4080) rest goes_are.2 in
        let d = row_here (first_of rest) (first_width (left - 4080)) (first_row (left - 4080) rest goes_are.2).together in omega arith
        );
  }
    where
      few : (0 < first_width (left - 4080)) × (first_width (left - 4080) ≤ 256)
      few = first_few (left - 4080) rest (let z = goes_are.0 in omega arith) goes_are.2

  pub goes_behind : {from m : ℕ} → from ≡ first_of rest → m ≡ first_width (n - 4080) → Behind has s l at n rest from m
  goes_behind {from} {m} a b =
      subst (λ (x : ℕ). Behind has s l at n rest x m) (sym a) (subst (Behind has s l at n rest (first_of rest)) (sym b)
      (subst (λ (x : ℕ). Behind has s l at x rest (first_of rest) (first_width (x - 4080))) g.size behind_left))

  -- it is copied, the link says where it is, and the old cells count no more
  module _ {kept : S → List ℕ} {given : S → List Bool} {s1 s2 : S} {l1 l2 : Ledger} {to : ℕ} (handed : Handed (reserve_account_of l) (reserve_account_of l1) to (first_width (left - 4080))) (f : Frame has kept given reserve_account_of s l s1 l1)
      (copies : (i : ℕ) (c : Cell) → i < first_width (left - 4080) → has s (first_of rest + i) c → has s1 (to + i) c) (put : has s2 (at + 255) (link_cell to)) (others : (q : ℕ) (c : Cell) → (q ≡ at + 255 → ⊥) → has s1 q c → has s2 q c)
      (released_is : l2 ≡ released l1 (first_of rest) (first_width (left - 4080))) where
    abbrev new : Tree
    new = leaf e (chain front (linked at (put_first rest to)))

    new_are : AreExtents (length e.item) (chain front (linked at (put_first rest to)))
    new_are = chain_are front (length e.item) (linked at rest) (linked at (put_first rest to)) goes_tree.1 (goes_are.0, goes_are.1, put_are (left - 4080) rest to goes_are.2 handed.twigs)

    new_weigh : (w : ℕ → ℕ) → weigh_tree w new + row w (first_of rest) (first_width (left - 4080)) ≡ weigh_tree w whole + row w to (first_width (left - 4080))
    new_weigh w =
        let c = chain_weigh w front (length e.item) (linked at rest) (linked at (put_first rest to)) in
        let p = put_weigh w (left - 4080) rest to goes_are.2 in omega arith

    fewer : (k : ℕ) → slice_index l2.live k + row (in_chunk k) (first_of rest) (first_width (left - 4080)) ≡ slice_index l1.live k
    fewer k =
        ap (λ (m : Ledger). slice_index m.live k + row (in_chunk k) (first_of rest) (first_width (left - 4080))) released_is
        ∙ counts_fewer (first_of rest) (first_width (left - 4080)) (first_row (left - 4080) rest goes_are.2).together l1.live k (let x = handed.counts (first_of rest / 1024) in let y = behind_left.counted in omega arith)

    same_used : (q : ℕ) → mark (is_used l2) q ≡ mark (is_used l1) q
    same_used q = ap (λ (m : Ledger). mark (is_used m) q) released_is

    new_once : (q : ℕ) → at_place q r + weigh_tree (at_place q) (plug way new) ≤ mark (is_used l2) q
    new_once q =
        let o = g.stood.rooted.once q in let m = new_weigh (at_place q) in let x = handed_fresh handed f.grows.stays q in let y = same_used q in
        let a = weigh_plug (at_place q) r way whole in let b = weigh_plug (at_place q) r way new in omega arith

    -- no other cell of it is the link's
    apart : around (at_place (at + 255)) r way + at_place (at + 255) (end_at r way) ≡ 0
    apart =
        let o = new_once (at + 255) in let b = weigh_plug (at_place (at + 255)) r way new in let k = mark_le (is_used l2) (at + 255) in
        let m = link_met front at (length e.item) (put_first rest to) in omega arith

    around_apart : (q : ℕ) → 1 ≤ around (at_place q) r way → q ≡ at + 255 → ⊥
    around_apart q m same = let z = ap (λ (p : ℕ). around (at_place p) r way) same in let a = apart in omega arith

    around_used : (q : ℕ) → 1 ≤ around (at_place q) r way → is_used l q ≡ true
    around_used q m = met_used g.stood.rooted q (let p = weigh_plug (at_place q) r way whole in omega arith)

    end_apart : end_at r way ≡ at + 255 → ⊥
    end_apart same = let i : ◌≡◌ {A = ℕ} (at_place (at + 255) (end_at r way)) 1 = ap (at_place (at + 255)) same ∙ at_itself (at + 255) in let a = apart in omega arith

    top_same : top_cell whole ≡ top_cell new
    top_same = ap (λ (p : ℕ). packed (node.Leaf (record { len = length e.item; at = p }))) (chain_first front at rest (put_first rest to))

    top_there : has s2 (end_at r way) (top_cell new)
    top_there =
        subst (has s2 (end_at r way)) top_same
        (others (end_at r way) (top_cell whole) end_apart (f.stays (end_at r way) (top_cell whole) (end_used way whole g.stood.rooted) (end_lies (has s) r way whole g.stood.rooted.top g.stood.rooted.beneath).0))

    item_there : ItemLies (has s2) (chain front (linked at (put_first rest to))) e.item
    item_there = relinked (has s1) (has s2) at others front rest (put_first rest to) e.item
        (let o = new_once (at + 255) in let b = weigh_plug (at_place (at + 255)) r way new in let k = mark_le (is_used l2) (at + 255) in omega arith)
        (beneath_kept (is_used l) (has s) (has s1) f.stays whole goes_hangs.within goes_hangs.top.beneath)
        (put_lies (is_used l) (has s) (has s1) f.stays item_left rest to left_are
        (subst (λ (m : ℕ). (i : ℕ) (c : Cell) → i < first_width m → has s (first_of rest + i) c → has s1 (to + i) c) (sym length-left) copies)
        (subst (λ (m : ℕ). EachCell (λ q. is_used l q ≡ true) m rest) (sym length-left) left_within.1) left_lies.2)
        (subst (λ (q : ℕ). has s2 (at + 255) (link_cell q)) (sym (put_there rest to)) put)

    all_lies : has s2 r (top_cell (plug way new)) × Beneath (has s2) (plug way new)
    all_lies = plug_lies (has s) (has s2) r way whole new g.stood.rooted.top g.stood.rooted.beneath (λ q c m x. others q c (around_apart q m) (f.stays q c (around_used q m) x)) top_there item_there

    new_rooted : Rooted has reserve_account_of s2 l2 no_spare r (plug way new)
    new_rooted = record {
      inside = g.stood.rooted.inside;
      top = all_lies.0;
      beneath = all_lies.1;
      counted = λ k.
          let c = g.stood.rooted.counted k in let m = new_weigh (in_chunk k) in let x = handed.counts k in let y = fewer k in
          let a = weigh_plug (in_chunk k) r way whole in let b = weigh_plug (in_chunk k) r way new in omega arith;
      once = λ q. let o = new_once q in omega arith;
    }

    relinked_there : Goes has s2 l2 r at n es way e front (put_first rest to)
    relinked_there = record {
      stood = record {
        tree = plug_tree 0 way whole new g.stood.tree (goes_tree.0, new_are) (follows_same (low_at 0 way) (entries_of whole) (entries_of new) refl);
        rooted = new_rooted;
        holds = entries_plug way new ∙ sym (entries_plug way whole) ∙ g.stood.holds;
      };
      size = g.size;
    }

  pub goes_moved : {kept : S → List ℕ} {given : S → List Bool} {s1 s2 : S} {l1 l2 : Ledger} {from m to place : ℕ} {cell : Cell} → from ≡ first_of rest → m ≡ first_width (n - 4080) → Handed (reserve_account_of l) (reserve_account_of l1) to m → Frame has kept given reserve_account_of s l s1 l1 →
      ((i : ℕ) (c : Cell) → i < m → has s (from + i) c → has s1 (to + i) c) → cell ≡ link_cell to → place ≡ at + 255 → has s2 place cell → ((q : ℕ) (c : Cell) → (q ≡ place → ⊥) → has s1 q c → has s2 q c) → l2 ≡ released l1 from m → Goes has s2 l2 r at n es way e front (put_first rest to)
  goes_moved {s1 = s1} {s2} {l1} {l2} {from} {m} {to} {place} {cell} a b handed f copies is at_link put others released_is =
      let w : m ≡ first_width (left - 4080) = b ∙ ap (λ (x : ℕ). first_width (x - 4080)) (sym g.size) in
      relinked_there (subst (Handed (reserve_account_of l) (reserve_account_of l1) to) w handed) f
      (λ i c lt h. copies i c (subst (λ (x : ℕ). i < x) (sym w) lt) (subst (λ (x : ℕ). has s (x + i) c) (sym a) h))
      (subst (λ (q : ℕ). has s2 q (link_cell to)) at_link (subst (has s2 place) is put)) (λ q c ne h. others q c (λ same. ne (same ∙ at_link)) h)
      (released_is ∙ ap (λ (x : ℕ). released l1 x m) a ∙ ap (released l1 (first_of rest)) w)
