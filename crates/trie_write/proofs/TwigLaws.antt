-- The twigs of a branch: their cells as a list, and what hangs on them.
use Rattle.std.proofs.Common.{◌≡◌, ℕ, suc, ◌+◌, ◌<◌, ◌≤◌, Bool, true, List, [], ◌∷◌, ◌++◌, length, slice_get, Some, arith, inl, inr, refl, sym, ◌∙◌, ap, subst}
use Rattle.std.proofs.lemmas.Bool.{cases_lt}
use Rattle.packed_node.specs.declared.Cell.{Cell}
use Rattle.trie_model.specs.Keys.{at, Entry, InList}
use Rattle.trie_model.specs.Memory.{top_cell, Beneath, Lie}
use Rattle.trie_model.specs.Reach.{WithinTree}
use Rattle.trie_model.specs.Trees.{Tree, Twigs, entries_of, count, Agree, IsTree, beside}
use Rattle.trie_model.specs.Trees.Tree.{leaf, branch}
use Rattle.trie_model.specs.Trees.Twigs.{none, twig}
use Rattle.trie_model.proofs.BitmapLaws.{Rising}
use Rattle.trie_model.proofs.CountLaws.{under}
use Rattle.trie_model.proofs.MoveLaws.{Keeps, beneath_kept}
use Rattle.trie_model.proofs.ShapeLaws.{two_of}
use Rattle.trie_space.specs.Weights.{at_place}
use Rattle.trie_space.proofs.WeightLaws.{within_met}

-- the cells of the twigs
abbrev pub tops_of : Twigs → List Cell
tops_of none = []
tops_of (twig p t rest) = top_cell t ∷ tops_of rest

abbrev pub AllBeneath : (ℕ → Cell → Type 0) → Twigs → Type 0
AllBeneath has none = Unit {0}
AllBeneath has (twig p t rest) = Beneath has t × AllBeneath has rest

abbrev pub AllWithin : (ℕ → Bool) → Twigs → Type 0
AllWithin P none = Unit {0}
AllWithin P (twig p t rest) = WithinTree P t × AllWithin P rest

pub lie_of : (has : ℕ → Cell → Type 0) (r : ℕ) (ts : Twigs) → ((i : ℕ) (c : Cell) → slice_get (tops_of ts) i ≡ Some c → has (r + i) c) → AllBeneath has ts → Lie has r ts
lie_of has r none written b = tt
lie_of has r (twig p t rest) written b = (
  let e : r + 0 ≡ r = omega arith in subst (λ (n : ℕ). has n (top_cell t)) e (written 0 (top_cell t) refl),
  b.0,
  lie_of has (suc r) rest (λ i c e. let f : r + suc i ≡ suc r + i = omega arith in subst (λ (n : ℕ). has n c) f (written (suc i) c e)) b.1,
)

pub tops-beside : (a b : Twigs) → tops_of (beside a b) ≡ tops_of a ++ tops_of b
tops-beside none b = refl
tops-beside (twig p t rest) b = ap (λ (cs : List Cell). top_cell t ∷ cs) (tops-beside rest b)

pub length-tops : (ts : Twigs) → length (tops_of ts) ≡ count ts
length-tops none = refl
length-tops (twig p t rest) = ap suc (length-tops rest)

pub beneath_join : (has : ℕ → Cell → Type 0) (a b : Twigs) → AllBeneath has a → AllBeneath has b → AllBeneath has (beside a b)
beneath_join has none b x y = y
beneath_join has (twig p t rest) b x y = (x.0, beneath_join has rest b x.1 y)

pub all_kept : (P : ℕ → Bool) (has new : ℕ → Cell → Type 0) → Keeps P has new → (ts : Twigs) → AllWithin P ts → AllBeneath has ts → AllBeneath new ts
all_kept P has new keep none w b = tt
all_kept P has new keep (twig p t rest) w b = (beneath_kept P has new keep t w.0 b.0, all_kept P has new keep rest w.1 b.1)

pub all_within_met : (P : ℕ → Bool) (ts : Twigs) → ((q : ℕ) → 1 ≤ under (at_place q) ts → P q ≡ true) → AllWithin P ts
all_within_met P none h = tt
all_within_met P (twig p t rest) h = (within_met P t (λ q l. h q (omega arith)), all_within_met P rest (λ q l. h q (omega arith)))

pub rising_push : (lo low hi p : ℕ) (a : Twigs) (t : Tree) → Rising lo low a → lo ≤ low → low ≤ p → p < hi → Rising lo (suc p) (beside a (twig p t none))
rising_push lo low hi p none t r z l h = (omega arith, omega arith, omega arith)
rising_push lo low hi p (twig q u rest) t r z l h = (r.0, (let b = r.1 in omega arith), rising_push (suc q) low hi p rest t r.2 (let b = r.1 in omega arith) l h)

-- the keys of a tree agree before its offsets, and where they agree further, its offsets lie further on
pub agree_tree : (low : ℕ) (t : Tree) → IsTree low t → Agree low (entries_of t)
agree_tree low (leaf e w) h x y i j k l = ap (λ (z : Entry). at z.key k) (only x i ∙ sym (only y j))
  where
    only : (z : Entry) → InList z (e ∷ []) → z ≡ e
    only z m = elim m [ inl s ↦ s | inr v ↦ absurd v ]
agree_tree low (branch o w below) h x y i j k l = h.4 x y i j k (let a = h.0 in omega arith)

pub deepen : (low : ℕ) (t : Tree) → IsTree 0 t → Agree low (entries_of t) → IsTree low t
deepen low (leaf e w) h a = h
deepen low (branch o w below) h a = (far, h.1, h.2, h.3, h.4, h.5)
  where
    far : low ≤ o
    far = elim (cases_lt o low) [ inl l ↦ absurd (let two = two_of o 0 below h.5 h.3 in let s = a two.x two.y two.x_in two.y_in o l in let d = two.apart in omega arith) | inr g ↦ g ]
