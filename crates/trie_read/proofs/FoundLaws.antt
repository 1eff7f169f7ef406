-- What a look-up tells of a key that is there, and of one that isn't.
use Rattle.std.proofs.Common.{◌≡◌, ℕ, ◌⊎◌, Bool, true, false, true≢false, eqb, List, [], ◌∷◌, ◌++◌, length, Option, Some, None, is_some, cond, append_assoc, arith, inl, inr, refl, sym, ◌∙◌, ap, subst}
use Rattle.std.proofs.lemmas.Bool.Decides.{nat_tests}
use Rattle.packed_node.specs.declared.Cell.{Cell}
use Rattle.packed_node.specs.declared.Leaf.{Leaf}
use Rattle.zone_model.specs.Keys.{Leads}
use Rattle.trie_model.specs.Keys.{Entry, InList, Less, Rises}
use Rattle.trie_model.specs.Order.{IsPredecessor, begins, chain}
use Rattle.trie_model.specs.Memory.{Stands}
use Rattle.trie_model.proofs.KeyLaws.{in_right, in_both}
use Rattle.trie_model.proofs.OrderLaws.{rises_tree}
use Rattle.trie_read.specs.declared.ancestors.Ancestor.{Ancestor}
use Rattle.trie_read.specs.declared.iter.Iter.{Iter}
use Rattle.trie_read.specs.declared.iter.Cursor.{Cursor}
use Rattle.trie_read.specs.Reads.{EachTells, FindsLeaf}
use Rattle.trie_read.specs.Readings.{AtSplit}
use Rattle.trie_read.specs.Finds.{IsKind, kind_of}
use Rattle.trie_read.specs.Above.{AreAncestors}
use Rattle.trie_read.specs.Walks.{IsAt, IsStart, StandsBetween}
use Rattle.trie_read.proofs.GuideLaws.{rises_parts}
use Rattle.trie_read.proofs.AboveLaws.{ancestors_many}
use Rattle.trie_read.proofs.IterLaws.{WithLast, with_last}

pub stands_at_start : (has : ℕ → Cell → Type 0) (root : Option ℕ) (iter : Iter) (version : List Entry) → IsStart root iter → Stands has root version → EachTells Leads version → StandsBetween has root iter [] version
stands_at_start has root iter version s stands told = record { root_is = s.root_is; stands = stands; told = told; place = subst (λ (p : Cursor). IsAt has root iter.path p [] version) (sym s.place) (s.depth, refl) }

pub stands_rises : (has : ℕ → Cell → Type 0) (root : Option ℕ) (version : List Entry) → Stands has root version → Rises version
stands_rises has None version s = subst Rises (sym s) tt
stands_rises has (Some r) version s = subst Rises s.1.holds (rises_tree 0 s.0 s.1.shape)

-- ---- whether it is there
some_list : (e : Entry) (es : List Entry) → e ∷ es ≡ [] → ⊥
some_list e es h = cc

none_above : (k : List ℕ) (all : List Entry) → chain k all ≡ [] → (x : Entry) → InList x all → begins x.key k ≡ false
none_above k [] e x i = absurd i
none_above k (y ∷ ys) e x i = go (begins y.key k) refl (none_above k ys)
  where
    head : (b : Bool) → begins y.key k ≡ b → chain k (y ∷ ys) ≡ cond b (y ∷ chain k ys) (chain k ys)
    head b is = ap (λ (c : Bool). cond c (y ∷ chain k ys) (chain k ys)) is

    go : (b : Bool) → begins y.key k ≡ b → (chain k ys ≡ [] → (z : Entry) → InList z ys → begins z.key k ≡ false) → begins x.key k ≡ false
    go true is rest = absurd (some_list y (chain k ys) (sym (head true is) ∙ e))
    go false is rest = elim i [ inl h ↦ ap (λ (z : Entry). begins z.key k) h ∙ is | inr h ↦ rest (sym (head false is) ∙ e) x h ]

some_above : (k : List ℕ) (all : List Entry) → (chain k all ≡ [] → ⊥) → (e : Entry) × InList e all × (begins e.key k ≡ true)
some_above k [] never = absurd (never refl)
some_above k (y ∷ ys) never = go (begins y.key k) refl (some_above k ys)
  where
    go : (b : Bool) → begins y.key k ≡ b → ((chain k ys ≡ [] → ⊥) → (e : Entry) × InList e ys × (begins e.key k ≡ true)) → (e : Entry) × InList e (y ∷ ys) × (begins e.key k ≡ true)
    go true is rest = (y, inl refl, is)
    go false is rest = let x = rest (λ e. never (ap (λ (c : Bool). cond c (y ∷ chain k ys) (chain k ys)) is ∙ e)) in (x.0, inr x.1, x.2)

empty_list : (es : List Entry) (n : ℕ) → n ≡ length es → eqb n 0 ≡ true → es ≡ []
empty_list [] n e z = refl
empty_list (x ∷ es) n e z = absurd (let m : n ≡ 0 = grind (arith, nat_tests) in omega arith)

no_list : (es : List Entry) (n : ℕ) → n ≡ length es → eqb n 0 ≡ false → es ≡ [] → ⊥
no_list es n e z empty = let l = ap (λ (xs : List Entry). length xs) empty in let m : n ≡ 0 = omega arith in true≢false (sym (let t : eqb n 0 ≡ true = grind (arith, nat_tests) in t) ∙ z)

pub kind_told : (lies : Leaf → Entry → Type 0) (k : List ℕ) (all : List Entry) (r : Option Leaf) (names : List Ancestor) → FindsLeaf lies k all r → AreAncestors lies (chain k all) names → IsKind k all (kind_of (is_some r) (eqb (length names) 0))
kind_told lies k all (Some l) names finds above = (finds.0, finds.1, finds.2)
kind_told lies k all None names finds above = go (eqb (length names) 0) refl
  where
    go : (b : Bool) → eqb (length names) 0 ≡ b → IsKind k all (kind_of false b)
    go true is = none_above k all (empty_list (chain k all) (length names) (ancestors_many lies (chain k all) names above) is)
    go false is = (λ t. finds t.0 t.1 t.2, some_above k all (no_list (chain k all) (length names) (ancestors_many lies (chain k all) names above) is))

-- ---- the last name up to it
pub record SplitAt (e : Entry) (all : List Entry) : Type 0 where
  pub before : List Entry
  pub after : List Entry
  pub is : all ≡ before ++ (e ∷ after)

split_in : (e : Entry) (all : List Entry) → InList e all → SplitAt e all
split_in e [] i = absurd i
split_in e (x ∷ xs) (inl h) = record { before = []; after = xs; is = ap (λ (y : Entry). y ∷ xs) (sym h) }
split_in e (x ∷ xs) (inr h) = let s = split_in e xs h in record { before = x ∷ s.before; after = s.after; is = ap (λ (ys : List Entry). x ∷ ys) s.is }

pub last_there : (lies : Leaf → Entry → Type 0) (k : List ℕ) (all : List Entry) (l : Leaf) (key : List ℕ) → Rises all → FindsLeaf lies k all (Some l) → key ≡ k → IsPredecessor k all (Some key)
last_there lies k all l key rises finds same =
    let e = finds.0 in
    let s = split_in e all finds.1 in
    let p = rises_parts s.before (e ∷ s.after) (subst Rises s.is rises) in
    (e, record { before = s.before; after = s.after; whole = s.is; up_to = inl finds.2; beyond = λ x i. subst (λ (z : List ℕ). Less z x.key) finds.2 (p.1.0 x i) }, same ∙ sym finds.2)

ends_or_empty : (es : List Entry) → (es ≡ []) ⊎ WithLast es
ends_or_empty [] = inl refl
ends_or_empty (e ∷ es) = inr (with_last (e ∷ es) (some_list e es))

pub last_before : (stands : List Entry → List Entry → Type 0) (k : List ℕ) (all : List Entry) (r : Option (List ℕ)) → AtSplit stands k all → ((e : Entry) → InList e all → e.key ≡ k → ⊥) →
    ((before after : List Entry) (e : Entry) → stands (before ++ (e ∷ [])) after → r ≡ Some e.key) → ((after : List Entry) → stands [] after → r ≡ None) → IsPredecessor k all r
last_before stands k all r at never prev beginning = elim (ends_or_empty at.before) [
  | inl none ↦ subst (IsPredecessor k all) (sym (beginning at.after (subst (λ (es : List Entry). stands es at.after) none at.standing)))
      (λ x i. elim (in_both x at.before at.after (subst (InList x) at.split.whole i)) [ inl a ↦ absurd (subst (InList x) none a) | inr b ↦ beyond x b ])
  | inr l ↦ subst (IsPredecessor k all) (sym (prev l.rest at.after l.entry (subst (λ (es : List Entry). stands es at.after) l.is at.standing))) (
    l.entry,
    record {
      before = l.rest;
      after = at.after;
      whole = at.split.whole ∙ ap (λ (es : List Entry). es ++ at.after) l.is ∙ append_assoc l.rest (l.entry ∷ []) at.after;
      up_to = inr (at.split.lower l.entry (subst (InList l.entry) (sym l.is) (in_right l.entry l.rest (l.entry ∷ []) (inl refl))));
      beyond = beyond;
    },
    refl,
  )
]
  where
    beyond : (x : Entry) → InList x at.after → Less k x.key
    beyond x i = elim (at.split.upper x i) [ inl e ↦ absurd (never x (subst (InList x) (sym at.split.whole) (in_right x at.before at.after i)) (sym e)) | inr l ↦ l ]
