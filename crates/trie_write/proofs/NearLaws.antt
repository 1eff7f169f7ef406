-- The leaf that a walk comes to, and the first place where its key differs.
use Rattle.std.proofs.Common.{◌≡◌, ℕ, suc, ◌+◌, ◌-◌, ◌/◌, ◌%◌, ◌^◌, ◌<◌, ◌≤◌, ◌⊎◌, List, count_ones, Option, Some, None, arith, refl, sym, ◌∙◌, ap, subst, inl, inr}
use Rattle.std.proofs.lemmas.Bool.{cases_lt, cases_eq}
use Rattle.std.proofs.lemmas.List.{get_or_past}
use Rattle.packed_node.specs.declared.Cell.{Cell}
use Rattle.packed_node.specs.declared.Leaf.{Leaf}
use Rattle.packed_node.specs.declared.Branch.{Branch}
use Rattle.zone_model.specs.Keys.{IsFirstDifference}
use Rattle.shift_key.specs.declared.difference.Difference.{Difference}
use Rattle.shift_key.specs.Differences.{IsDifference}
use Rattle.trie_model.specs.Extents.{AreExtents}
use Rattle.trie_model.specs.Keys.{at, IsKey, Entry, InList}
use Rattle.trie_model.specs.Memory.{top_cell, Beneath, Lie}
use Rattle.trie_model.specs.Trees.{Tree, Twigs, IsTree, Agree, entries_of, entries, bitmap_of}
use Rattle.trie_model.specs.Trees.Tree.{branch}
use Rattle.trie_model.specs.Trees.Twigs.{none, twig}
use Rattle.trie_model.proofs.KeyLaws.{in_left}
use Rattle.trie_model.proofs.SplitLaws.{Found, Missing, look, rising_of, lie_right, in_found, not_missing}
use Rattle.trie_model.proofs.AddLaws.{found_twigs, from_here}
use Rattle.trie_model.proofs.GrowthLaws.{each_entry}
use Rattle.trie_read.specs.Reads.{IsTop}
use Rattle.trie_write.specs.Tops.{IsBranchTop, IsLeafTop}
use Rattle.trie_write.specs.Nearness.{Apart, Closest, Differs}

widen : (o d : ℕ) (k : List ℕ) (near x : Entry) (es : List Entry) → Agree o es → InList near es → InList x es → (at k d ≡ at near.key d → ⊥) → (at x.key o ≡ at k o → ⊥) → (d < o) ⊎ (o ≤ d) → (i : ℕ) × (i ≤ d) × (at k i ≡ at x.key i → ⊥)
widen o d k near x es agree n i other ne (inl lt) = (d, omega arith, λ e. other (e ∙ agree x near i n d lt))
widen o d k near x es agree n i other ne (inr ge) = (o, ge, λ e. ne (sym e))

pub record Way (has : ℕ → Cell → Type 0) (k : List ℕ) (low r : ℕ) (t : Tree) : Type 0 where
  pub here : Tree
  pub deeper : IsTree low here
  pub there : has r (top_cell here)
  pub beneath : Beneath has here
  pub holds : (e : Entry) → InList e (entries_of here) → InList e (entries_of t)
  pub apart : (near : Entry) → InList near (entries_of here) → Apart k near (entries_of here) → Apart k near (entries_of t)

way_in : (has : ℕ → Cell → Type 0) (k : List ℕ) (low o w i : ℕ) (below : Twigs) → IsTree low (branch o w below) → Lie has w below →
    ((bitmap_of below / 2 ^ at k o) % 2 ≡ 1 → i ≡ count_ones (bitmap_of below % 2 ^ at k o)) → (((bitmap_of below / 2 ^ at k o) % 2 ≡ 1 → ⊥) → i ≡ 0) → Found 0 47 (at k o) below ⊎ Missing 0 47 (at k o) below → Way has k (o + 1) (w + i) (branch o w below)
way_in has k low o w i below tree lies present absent (inl f) =
    let twigs = found_twigs o (at k o) below tree.5 f in
    let cells = lie_right has w f.left (twig (at k o) f.here f.rest) (subst (Lie has w) f.is lies) in
    let n : suc o ≡ o + 1 = omega arith in
    record {
      here = f.here;
      deeper = subst (λ (x : ℕ). IsTree x f.here) n twigs.3;
      there = subst (λ (x : ℕ). has (w + x) (top_cell f.here)) (sym (present f.bit ∙ f.index)) cells.0;
      beneath = cells.1;
      holds = from_here (at k o) below f;
      apart = λ near h a d same other x i. elim (cases_eq (at x.key o) (at k o)) [
        | inl e ↦ a d same other x (in_found o (at k o) below tree.5 f x i e)
        | inr ne ↦ widen o d k near x (entries below) tree.4 (from_here (at k o) below f near h) i other ne (cases_lt d o)
      ];
    }
way_in has k low o w i none tree lies present absent (inr m) = absurd (let c = tree.3 in omega arith)
way_in has k low o w i (twig p t rest) tree lies present absent (inr m) =
    let zero_i : i ≡ 0 = absent (λ e. let b = m.bit in omega arith) in
    let n : suc o ≡ o + 1 = omega arith in
    let s : w ≡ w + i = omega arith in
    record {
      here = t;
      deeper = subst (λ (x : ℕ). IsTree x t) n tree.5.3;
      there = subst (λ (x : ℕ). has x (top_cell t)) s lies.0;
      beneath = lies.1;
      holds = λ e h. in_left e (entries_of t) (entries rest) h;
      apart = λ near h a d same other x i. widen o d k near x (entries (twig p t rest)) tree.4 (in_left near (entries_of t) (entries rest) h) i other (λ e. not_missing o (at k o) (twig p t rest) tree.5 m x i e) (cases_lt d o);
    }

pub way_of : (has : ℕ → Cell → Type 0) (k : List ℕ) (low : ℕ) (c : Cell) (t : Tree) (b : Branch) (i : ℕ) → IsTop has low c t → IsBranchTop t b → IsKey k →
    ((b.bitmap / 2 ^ at k b.offset) % 2 ≡ 1 → i ≡ count_ones (b.bitmap % 2 ^ at k b.offset)) → (((b.bitmap / 2 ^ at k b.offset) % 2 ≡ 1 → ⊥) → i ≡ 0) → Way has k (b.offset + 1) (b.twigs + i) t
way_of has k low c t b i top x is present absent =
    let bit : (b.bitmap / 2 ^ at k b.offset) % 2 ≡ (bitmap_of x.below / 2 ^ at k b.offset) % 2 = ap (λ (y : ℕ). (y / 2 ^ at k b.offset) % 2) x.bits in
    let ones : count_ones (b.bitmap % 2 ^ at k b.offset) ≡ count_ones (bitmap_of x.below % 2 ^ at k b.offset) = ap (λ (y : ℕ). count_ones (y % 2 ^ at k b.offset)) x.bits in
    let tree = subst (IsTree low) x.is top.tree in
    subst (Way has k (b.offset + 1) (b.twigs + i)) (sym x.is) (way_in has k low b.offset b.twigs i x.below tree (subst (Beneath has) x.is top.beneath) (λ z. present (bit ∙ z) ∙ ones) (λ z. absent (λ y. z (sym bit ∙ y)))
    (look 0 47 (at k b.offset) x.below (let z : 0 ≤ at k b.offset = omega arith in z) (is.positions b.offset) (rising_of b.offset 0 x.below (let z : 0 ≤ 47 = omega arith in z) tree.5)))

pub closest_way : (has : ℕ → Cell → Type 0) (k : List ℕ) (low r : ℕ) (t : Tree) (y : Way has k low r t) (l : Leaf) → Closest has k (entries_of y.here) l → Closest has k (entries_of t) l
closest_way has k low r t y l c = record { near = c.near; there = y.holds c.near c.there; leaf_of = c.leaf_of; apart = y.apart c.near c.there c.apart }

pub closest_here : (has : ℕ → Cell → Type 0) (k : List ℕ) (low : ℕ) (c : Cell) (t : Tree) (l : Leaf) → IsTop has low c t → IsLeafTop t l → Closest has k (entries_of t) l
closest_here has k low c t l top x =
    let tree = subst (IsTree low) x.is top.tree in
    subst (λ (z : Tree). Closest has k (entries_of z) l) (sym x.is) (record {
      near = x.e;
      there = inl refl;
      leaf_of = record { entry = tree.0; item = record { extents = x.extents; there = record { from = sym x.at; size = sym x.len; are = subst (λ (n : ℕ). AreExtents n x.extents) (sym x.len) tree.1; lies = subst (Beneath has) x.is top.beneath } } };
      apart = λ d sm other y i. elim i [ inl f ↦ (d, omega arith, λ z. other (z ∙ ap (λ (u : Entry). at u.key d) f)) | inr z ↦ absurd z ];
    })

-- the offset lies in range, so offsets come to an end
pub falls_in : (has : ℕ → Cell → Type 0) (low : ℕ) (c : Cell) (t : Tree) (b : Branch) → IsTop has low c t → IsBranchTop t b → 504 - (b.offset + 1) < 504 - low
falls_in has low c t b top x = let tree = subst (IsTree low) x.is top.tree in let a = tree.0 in let d = tree.1 in omega arith

-- ---- the first difference

place_inside : (a b : List ℕ) (d : ℕ) → IsKey a → IsKey b → IsFirstDifference a b d → d ≤ 503
place_inside a b d ka kb first = elim (cases_lt d 504) [
  | inl l ↦ omega arith
  | inr g ↦ absurd (first.differ (get_or_past a d 0 (let s = ka.short in omega arith) ∙ sym (get_or_past b d 0 (let s = kb.short in omega arith))))
]

pub differs_of : {has : ℕ → Cell → Type 0} {k : List ℕ} {l : Leaf} (low : ℕ) (t : Tree) (c : Closest has k (entries_of t) l) → IsTree low t → IsKey k → (r : Option Difference) → IsDifference k c.near.key r → Differs k (entries_of t) r
differs_of low t c tree is None same = (c.near, c.there, sym same)
differs_of {k = k} low t c tree is (Some d) (first, e) =
    let other : (at k d.place ≡ at c.near.key d.place) → ⊥ = first.differ in
    let near_is = each_entry low t tree c.near c.there in
    record {
      nearest = record { near = c.near; there = c.there; same = first.before; position = sym e; other = λ f. other (f ∙ e); apart = c.apart d.place first.before other };
      short = place_inside k c.near.key d.place is near_is.key first;
      inside = (let p = near_is.key.positions d.place in omega arith);
    }
