-- A change at the end of a way: what stands before it, and after.
use Rattle.std.proofs.Common.{◌≡◌, ℕ, ◌+◌, ◌≤◌, ◌++◌, Bool, true, List, length, arith, inl, inr, sym, ◌∙◌, ap, subst}
use Rattle.packed_node.specs.declared.Cell.{Cell}
use Rattle.trie_model.specs.Extents.{Extents, first_of, AreExtents, LiesAt}
use Rattle.trie_model.specs.Keys.{Entry}
use Rattle.trie_model.specs.Memory.{top_cell, Beneath}
use Rattle.trie_model.specs.Reach.{in_chunk, weigh_tree}
use Rattle.packed_node.specs.declared.Leaf.{Leaf}
use Rattle.packed_node.specs.declared.Branch.{Branch}
use Rattle.trie_model.specs.Trees.{Tree, entries_of, IsTree}
use Rattle.trie_model.specs.Trees.Tree.{leaf, branch}
use Rattle.trie_read.specs.Reads.{IsTop}
use Rattle.trie_write.specs.Tops.{IsLeafTop, IsBranchTop}
use Rattle.trie_model.proofs.MoveLaws.{beneath_kept}
use Rattle.chunk_usage.specs.Rooms.{Account}
use Rattle.std.proofs.lemmas.Bool.{cases_lt}
use Rattle.trie_write.specs.declared.change.CellChange.{CellChange}
use Rattle.trie_space.specs.Rooted.{Rooted, no_spare}
use Rattle.trie_write.specs.Mutable.{IsSlot}
use Rattle.trie_write.specs.Puts.{taken, left, Makes, IsTaken, PutAsks, IsPut, GivenBack}
use Rattle.trie_space.proofs.WayLaws.{beneath_met, Follows, low_at, plug_tree, weigh_plug, before, after, entries_plug}
use Rattle.chunk_usage.specs.declared.space.Shortage.{Shortage}
use Rattle.trie_space.specs.Spaces.{Frame, Refused}
use Rattle.trie_space.specs.Standing.{StandsIn}
use Rattle.trie_space.specs.Ways.{Fork, plug, IsWay}
use Rattle.trie_space.specs.Weights.{at_place}
use Rattle.trie_space.proofs.RootedLaws.{met_used, rooted_within, put_rooted, stands_rooted, rooted_stands}
use Rattle.trie_space.proofs.WeightLaws.{at_itself, mark_le, mark_grows, mark_tells}

module _ {S A : Type 0} {has : S → ℕ → Cell → Type 0} {account : A → Account} where
  -- cells are taken for a change beside it
  pub rooted_taken : {kept : S → List ℕ} {given : S → List Bool} {s s1 : S} {a a1 : A} {r : ℕ} {t : Tree} {c : CellChange} → Rooted has account s a no_spare r t → Frame has kept given account s a s1 a1 → IsTaken (account a) (account a1) c → Rooted has account s1 a1 (taken c) r t
  rooted_taken {s = s} {s1} {a} {r = r} {t} h f taken_is = record {
    inside = h.inside;
    top = f.stays r (top_cell t) (met_used h r (let i = at_itself r in omega arith)) h.top;
    beneath = beneath_kept (account a).used (has s) (has s1) f.stays t (rooted_within h) h.beneath;
    counted = λ k. let c = h.counted k in let m = taken_is.counts k in omega arith;
    once = λ q. let o = h.once q in let m = taken_is.fresh q in omega arith;
  }

-- ---- at the slot

module _ {S A : Type 0} {has : S → ℕ → Cell → Type 0} {given : S → List Bool} {account : A → Account} {s s1 : S} {a a1 : A} {place r root slot : ℕ} {key : List ℕ} {c : CellChange} {way : List Fork} {end u : Tree} (asks : PutAsks has account s a place key r c way end u) (opened : IsSlot has given account s a s1 a1 place key (taken c) r way end root slot) where
  -- what the new tree meets is spare, or met by the old one below its top; so it stays while the way is opened
  beneath_opened : Beneath (has s1) u
  beneath_opened = beneath_met (has s) (has s1) u (λ q x m h. elim (cases_lt 0 (weigh_tree (at_place q) end)) [
    | inl l ↦ opened.below q x l h
    | inr l ↦ (let w = asks.makes.weigh (at_place q) in let o = asks.slot.rooted.once q in
        opened.outside q x (mark_tells (account a).used q (omega arith)) (let k = mark_le (account a).used q in omega arith) h)
  ]) asks.makes.beneath

  -- the cells that are left count
  pub left_counted : (k : ℕ) → left c (in_chunk k) ≤ (account a1).live k
  left_counted k = let x = opened.rooted.counted k in let w = asks.makes.weigh (in_chunk k) in let p = weigh_plug (in_chunk k) root opened.copy end in omega arith

  pub put_is : {s2 : S} {a2 : A} → has s2 slot c.cell → ((q : ℕ) (x : Cell) → (q ≡ slot → ⊥) → has s1 q x → has s2 q x) → ((k : ℕ) → (account a2).live k + left c (in_chunk k) ≡ (account a1).live k) → account a2 ≡ record (account a1) { live = (account a2).live } →
      IsPut has account s2 a2 place key way end u root
  put_is {s2} {a2} put others released rest = record {
    copy = opened.copy;
    along = opened.along;
    tree = opened.tree;
    entries = opened.entries;
    rooted = put_rooted opened.copy end u opened.rooted (λ q x used h. h) beneath_opened
        (λ k. let x = asks.makes.weigh (in_chunk k) in let y = released k in omega arith)
        (λ q. let x = asks.makes.weigh (at_place q) in let y = mark_grows (account a1).used (account a2).used q (λ h. ap (λ (v : Account). v.used q) rest ∙ h) in omega arith)
        asks.makes.is (subst (λ q. has s2 q c.cell) opened.slot_is put) (λ q x ne. others q x (λ e. ne (e ∙ opened.slot_is)));
  }

  pub outside_opened : {s2 : S} → ((q : ℕ) (x : Cell) → (q ≡ slot → ⊥) → has s1 q x → has s2 q x) → (q : ℕ) (x : Cell) → (account a).used q ≡ true → at_place q r + weigh_tree (at_place q) (plug way end) ≡ 0 → has s q x → has s2 q x
  outside_opened others q x used out h = others q x (opened.apart q used out) (opened.outside q x used out h)

-- the cells that were taken count
pub taken_counted : {S A : Type 0} {has : S → ℕ → Cell → Type 0} {account : A → Account} {s : S} {a : A} {place r : ℕ} {key : List ℕ} {c : CellChange} {way : List Fork} {end u : Tree} (a1 : A) → PutAsks has account s a place key r c way end u → ((k : ℕ) → (account a1).live k ≡ (account a).live k) → (k : ℕ) → taken c (in_chunk k) ≤ (account a1).live k
taken_counted a1 asks same k = let x = asks.slot.rooted.counted k in let y = same k in omega arith

-- ---- a change that is prepared below a root that stands

module _ {S A : Type 0} {has : S → ℕ → Cell → Type 0} {account : A → Account} {s : S} {a : A} {r : ℕ} {t : Tree} {version : List Entry} (stands : StandsIn (has s) (account a).used (account a).live r t version) (way : List Fork) (end : Tree) (is : t ≡ plug way end) where
  pub put_asks : {kept : S → List ℕ} {given : S → List Bool} {s1 : S} {a1 : A} {place : ℕ} {key : List ℕ} {c : CellChange} {u : Tree} → IsWay place key way end → Frame has kept given account s a s1 a1 → IsTaken (account a) (account a1) c → Makes has s1 c end u → PutAsks has account s1 a1 place key r c way end u
  put_asks {s1 = s1} {a1} {c = c} w f taken_is makes = record {
    slot = record {
      tree = subst (IsTree 0) is stands.trie.shape;
      rooted = subst (Rooted has account s1 a1 (taken c) r) is (rooted_taken (stands_rooted has account s a stands) f taken_is);
      is_way = w;
    };
    makes = makes;
  }

module _ {S A : Type 0} {has : S → ℕ → Cell → Type 0} {kept : S → List ℕ} {given : S → List Bool} {account : A → Account} {s s1 s2 : S} {a a1 a2 : A} {c : CellChange} (f : Frame has kept given account s a s1 a1) (taken_is : IsTaken (account a) (account a1) c) where
  pub refused_back : {lacks : A → Shortage → Type 0} {asks : ℕ → Type 0} {full : Shortage} → GivenBack has account lacks s1 a1 s2 a2 (taken c) asks full → Refused has account lacks s a s2 a2 full
  refused_back b = record {
    untouched = λ q x u h. b.untouched q x (f.grows.stays q u) (f.stays q x u h);
    counts = λ k. let x = b.counts k in let y = taken_is.counts k in omega arith;
    lack = b.lack;
  }

pub outside_put : {S A : Type 0} {has : S → ℕ → Cell → Type 0} {kept : S → List ℕ} {given : S → List Bool} {account : A → Account} {s s1 s2 : S} {a a1 : A} (r : ℕ) {t : Tree} (way : List Fork) (end : Tree) → Frame has kept given account s a s1 a1 →
    ((q : ℕ) (x : Cell) → (account a1).used q ≡ true → at_place q r + weigh_tree (at_place q) (plug way end) ≡ 0 → has s1 q x → has s2 q x) → t ≡ plug way end → (q : ℕ) (x : Cell) → (account a).used q ≡ true → at_place q r + weigh_tree (at_place q) t ≡ 0 → has s q x → has s2 q x
outside_put r way end f keep is q x used out h = keep q x (f.grows.stays q used) (subst (λ (z : Tree). at_place q r + weigh_tree (at_place q) z ≡ 0) is out) (f.stays q x used h)

-- ---- the whole trie after it

module _ {S A : Type 0} {has : S → ℕ → Cell → Type 0} {account : A → Account} {s1 : S} {a1 : A} {place root : ℕ} {key : List ℕ} {way : List Fork} {end u : Tree} (p : IsPut has account s1 a1 place key way end u root) where
  pub put_stands : IsTree (low_at 0 p.copy) u → Follows (low_at 0 p.copy) (entries_of end) (entries_of u) → StandsIn (has s1) (account a1).used (account a1).live root (plug p.copy u) (entries_of (plug p.copy u))
  put_stands tree follows = rooted_stands p.rooted (plug_tree 0 p.copy end u p.tree tree follows)

  -- the entries around the way are those of before
  pub entries_before : entries_of (plug way end) ≡ before p.copy ++ (entries_of end ++ after p.copy)
  entries_before = sym p.entries ∙ entries_plug p.copy end

-- ---- leaves

pub same_leaf : (e x : Entry) (w v : Extents) → leaf e w ≡ leaf x v → (e ≡ x) × (w ≡ v)
same_leaf e x w v h = (cc, cc)

-- where the item of a leaf's top lies
pub top_item : {has : ℕ → Cell → Type 0} {node : Cell} {e : Entry} {x : Extents} {l : Leaf} → IsTop has 0 node (leaf e x) → IsLeafTop (leaf e x) l → LiesAt has l.at l.len e.item x
top_item {e = e} {x} {l} top t =
    let same = same_leaf e t.e x t.extents t.is in
    let size : l.len ≡ length e.item = t.len ∙ ap (λ (y : Entry). length y.item) (sym same.0) in
    record { from = ap first_of same.1 ∙ sym t.at; size = sym size; are = subst (λ (n : ℕ). AreExtents n x) (sym size) top.tree.1; lies = top.beneath }

pub leaf_never : {A : Type 0} {e : Entry} {x : Extents} {b : Branch} → IsBranchTop (leaf e x) b → A
leaf_never {e = e} {x} {b} t = absurd (let h : leaf e x ≡ branch b.offset b.twigs t.below = t.is in cc)
