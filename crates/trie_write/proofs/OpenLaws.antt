-- A branch that is open: more of its twigs may come.
use Rattle.std.proofs.Common.{◌≡◌, ℕ, suc, ◌+◌, ◌<◌, ◌≤◌, List, [], ◌∷◌, ◌++◌, length, min, Option, Some, None, append_assoc, append-nil, arith, inl, inr, refl, sym, ◌∙◌, ap, subst}
use Rattle.trie_model.specs.Extents.{IsRow, Extents}
use Rattle.trie_model.specs.Keys.{at, Same, Entry, InList, Rises}
use Rattle.trie_model.specs.Shape.{cells}
use Rattle.trie_model.specs.Trees.{Tree, Twigs, entries_of, entries, count, AllAt, Agree, IsTree, AreTwigs, Rising, beside}
use Rattle.trie_model.specs.Trees.Tree.{leaf, branch}
use Rattle.trie_model.specs.Trees.Twigs.{none, twig}
use Rattle.trie_model.proofs.KeyLaws.{in_left, in_right, in_both}
use Rattle.trie_model.proofs.BitmapLaws.{few, count-beside}
use Rattle.trie_model.proofs.SplitLaws.{entries-beside, twigs_join, rising_of}
use Rattle.trie_model.proofs.GrowthLaws.{some_entry}
use Rattle.trie_model.proofs.SizeLaws.{twig_sizes, size_is, size_branch, twig_sizes-beside}
use Rattle.trie_model.proofs.ExtentLaws.{short_row}
use Rattle.trie_write.specs.declared.branch_points.BranchPoint.{BranchPoint}
use Rattle.trie_write.specs.declared.item.Item.{Item}
use Rattle.trie_write.specs.Entries.{entries_of_items}
use Rattle.trie_write.specs.Points.{IsPoint, Ahead, Before, Front}
use Rattle.trie_write.proofs.TwigLaws.{agree_tree, rising_push}

-- offsets from a lower one on
pub tree_lower : (low far : ℕ) (t : Tree) → low ≤ far → IsTree far t → IsTree low t
tree_lower low far (leaf e w) l h = h
tree_lower low far (branch o w below) l h = ((let a = h.0 in omega arith), h.1, h.2, h.3, h.4, h.5)

pub front_lower : {low far : ℕ} {es rest : List Entry} {next : Option BranchPoint} {t : Tree} → Front far es rest next t → low ≤ far → Before low next → Front low es rest next t
front_lower {low} {far} {t = t} f l b = record { shape = tree_lower low far t l f.shape; whole = f.whole; last = f.last; there = f.there; ahead = f.ahead; short = b; rises = f.rises }

-- a branch can be made at the next point
pub front_point : {far : ℕ} {es rest : List Entry} {next : Option BranchPoint} {t : Tree} (point : BranchPoint) → next ≡ Some point → Front far es rest next t → Front (suc point.offset) es rest (Some point) t
front_point {far} {es} {rest} {t = t} point e f = let g = subst (λ (n : Option BranchPoint). Front far es rest n t) e f in front_lower g (let s = g.short in omega arith) (omega arith)

-- nothing is left behind a whole tree
pub nothing_left : {es rest : List Entry} {next : Option BranchPoint} {t : Tree} → Front 0 es rest next t → entries_of t ≡ es
nothing_left {es} {rest} {next} {t} f = sym (f.whole ∙ ap (λ (xs : List Entry). entries_of t ++ xs) (go next f.short f.ahead) ∙ append-nil (entries_of t))
  where
    go : (n : Option BranchPoint) → Before 0 n → Ahead f.last rest n → rest ≡ []
    go None b a = a
    go (Some p) b a = absurd (omega arith)

-- a leaf
before_all : (e : Entry) (rest : List Entry) (next : Option BranchPoint) → Ahead e rest next → Before 504 next
before_all e rest None a = tt
before_all e rest (Some p) a = let l = a.3.early in omega arith

pub leaf_front : {e : Entry} {rest : List Entry} {next : Option BranchPoint} {w : Extents} → IsTree 0 (leaf e w) → Rises (e ∷ rest) → Ahead e rest next → Front 504 (e ∷ rest) rest next (leaf e w)
leaf_front {e} {rest} {next} is rises ahead = record { shape = is; whole = refl; last = e; there = inl refl; ahead = ahead; short = before_all e rest next ahead; rises = rises.1 }

in_nil : (x : Entry) (es : List Entry) → InList x (es ++ []) → InList x es
in_nil x es i = subst (InList x) (append-nil es) i

rising_wider : (lo low p : ℕ) (ts : Twigs) → Rising lo low ts → low ≤ p → Rising lo p ts
rising_wider lo low p none r l = omega arith
rising_wider lo low p (twig q t rest) r l = (r.0, (let b = r.1 in omega arith), rising_wider (suc q) low p rest r.2 l)

some_twig : (x : Entry) (ts : Twigs) → InList x (entries ts) → 1 ≤ count ts
some_twig x none i = absurd i
some_twig x (twig p t rest) i = omega arith

-- two lists that agree, and an entry of each that agree
agree_join : (o : ℕ) (xs ys : List Entry) (e x : Entry) → Agree o xs → Agree o ys → InList e xs → InList x ys → Same o e.key x.key → Agree o (xs ++ ys)
agree_join o xs ys e x a b ie ix same u v i j k l = sym (to_e u i) ∙ to_e v j
  where
    to_e : (u : Entry) → InList u (xs ++ ys) → at e.key k ≡ at u.key k
    to_e u i = elim (in_both u xs ys i) [ inl m ↦ a e u ie m k l | inr m ↦ same k l ∙ b x u ix m k l ]

-- the first of a list that begins with a tree's entries
begins_in : (es rest later : List Entry) (x : Entry) → x ∷ later ≡ es ++ rest → ((y : Entry) × InList y es) → InList x es
begins_in [] rest later x e some = absurd some.1
begins_in (y ∷ es) rest later x e some = let f : x ≡ y = cc in inl f

-- Twigs of a branch at o, the last of which holds the last entry so far.
pub record Opened (o : ℕ) (es rest : List Entry) (next : Option BranchPoint) (made : Twigs) : Type 0 where
  pub early : o ≤ 503
  pub twigs : AreTwigs o 0 made
  pub last : Entry
  pub there : InList last (entries made)
  pub rising : Rising 0 (suc (at last.key o)) made
  pub agree : Agree o (entries made)
  pub whole : es ≡ entries made ++ rest
  pub ahead : Ahead last rest next
  pub short : Before (suc o) next
  pub rises : Rises rest
  -- as long as there is one alone, another comes
  pub two : Before o next → 2 ≤ count made

pub open_first : {point : BranchPoint} {es rest : List Entry} {t : Tree} → Front (suc point.offset) es rest (Some point) t → Opened point.offset es rest (Some point) (twig point.before t none)
open_first {point} {es} {rest} {t} f = record {
  early = p.early;
  twigs = (omega arith, (let a = p.rises in let b = p.inside in omega arith), all, f.shape, tt);
  last = f.last;
  there = in_left f.last (entries_of t) [] f.there;
  rising = (omega arith, (let a = here in omega arith), (let a = here in omega arith));
  agree = λ x y i j k l. agree_tree (suc point.offset) t f.shape x y (in_nil x (entries_of t) i) (in_nil y (entries_of t) j) k (omega arith);
  whole = f.whole ∙ ap (λ (xs : List Entry). xs ++ rest) (sym (append-nil (entries_of t)));
  ahead = f.ahead;
  short = f.short;
  rises = f.rises;
  two = λ b. absurd (omega arith);
}
  where
    p : IsPoint f.last.key f.ahead.0.key point
    p = f.ahead.3

    here : at f.last.key point.offset ≡ point.before
    here = p.before

    all : AllAt point.offset point.before (entries_of t)
    all x i = agree_tree (suc point.offset) t f.shape x f.last i f.there point.offset (omega arith) ∙ here

-- a twig more
pub record Joined (o : ℕ) (es rest : List Entry) (q : ℕ) (u : Tree) (made : Twigs) : Type 0 where
  pub twigs : AreTwigs o 0 (beside made (twig q u none))
  pub all : AllAt o q (entries_of u)
  pub rising : Rising 0 (suc q) (beside made (twig q u none))
  pub agree : Agree o (entries (beside made (twig q u none)))
  pub whole : es ≡ entries (beside made (twig q u none)) ++ rest
  pub two : 2 ≤ count (beside made (twig q u none))

module _ {o : ℕ} {es rest : List Entry} {point : BranchPoint} {made : Twigs} (so_far : Opened o es rest (Some point) made) (from : o ≤ point.offset) where
  pub offset_is : point.offset ≡ o
  offset_is = let s = so_far.short in omega arith

  abbrev first : Entry
  first = so_far.ahead.0

  pub parts : IsPoint so_far.last.key first.key (record { offset = o; before = point.before; after = point.after })
  parts = subst (λ (n : ℕ). IsPoint so_far.last.key first.key (record { offset = n; before = point.before; after = point.after })) offset_is so_far.ahead.3

  pub later : suc (at so_far.last.key o) ≤ point.after
  later = let a = parts.before in let b = parts.rises in omega arith

  pub open_join : (u : Tree) (rest_new : List Entry) → IsTree (suc o) u → rest ≡ entries_of u ++ rest_new → Joined o es rest_new point.after u made
  open_join u rest_new shape front = record {
    twigs = twigs_join o 0 point.after made (twig point.after u none) so_far.twigs (rising_wider 0 (suc (at so_far.last.key o)) point.after made so_far.rising later) (omega arith, parts.inside, all, shape, tt);
    all = all;
    rising = rising_push 0 (suc (at so_far.last.key o)) 47 point.after made u so_far.rising (omega arith) later parts.inside;
    agree = subst (Agree o) (sym (entries-beside made (twig point.after u none))) (agree_join o (entries made) (entries_of u ++ []) so_far.last first so_far.agree below so_far.there (in_left first (entries_of u) [] there) parts.same);
    whole = whole;
    two = (let a = count-beside made (twig point.after u none) in let b = some_twig so_far.last made so_far.there in omega arith);
  }
    where
      there : InList first (entries_of u)
      there = begins_in (entries_of u) rest_new so_far.ahead.1 first (sym so_far.ahead.2 ∙ front) (some_entry (suc o) u shape)

      all : AllAt o point.after (entries_of u)
      all x i = agree_tree (suc o) u shape x first i there o (omega arith) ∙ parts.after

      below : Agree o (entries_of u ++ [])
      below x y i j k l = agree_tree (suc o) u shape x y (in_nil x (entries_of u) i) (in_nil y (entries_of u) j) k (omega arith)

      whole : es ≡ entries (beside made (twig point.after u none)) ++ rest_new
      whole =
          so_far.whole ∙ ap (λ (xs : List Entry). entries made ++ xs) (front ∙ ap (λ (xs : List Entry). xs ++ rest_new) (sym (append-nil (entries_of u))))
          ∙ sym (append_assoc (entries made) (entries_of u ++ []) rest_new) ∙ ap (λ (xs : List Entry). xs ++ rest_new) (sym (entries-beside made (twig point.after u none)))

  pub open_more : {u : Tree} {rest_new : List Entry} {next : Option BranchPoint} → Front (suc o) rest rest_new next u → Opened o es rest_new next (beside made (twig point.after u none))
  open_more {u} {rest_new} {next} f = let j = open_join u rest_new f.shape f.whole in record {
    early = so_far.early;
    twigs = j.twigs;
    last = f.last;
    there = subst (InList f.last) (sym (entries-beside made (twig point.after u none))) (in_right f.last (entries made) (entries_of u ++ []) (in_left f.last (entries_of u) [] f.there));
    rising = subst (λ (n : ℕ). Rising 0 (suc n) (beside made (twig point.after u none))) (sym (j.all f.last f.there)) j.rising;
    agree = j.agree;
    whole = j.whole;
    ahead = f.ahead;
    short = f.short;
    rises = f.rises;
    two = λ b. j.two;
  }

-- what comes next is there
pub some_left : {o : ℕ} {es : List Entry} {next : Option BranchPoint} {made : Twigs} (rest : List Item) (point : BranchPoint) → next ≡ Some point → Opened o es (entries_of_items rest) next made → 0 < length rest
some_left {next = next} [] point e so_far = absurd (let a = subst (Ahead so_far.last []) e so_far.ahead in let f = a.2 in cc)
some_left (x ∷ rest) point e so_far = omega arith

-- a branch of the twigs
pub twigs_few : (o : ℕ) (made : Twigs) → AreTwigs o 0 made → count made ≤ 47
twigs_few o made h = let n = few 0 47 made (rising_of o 0 made (omega arith) h) in omega arith

pub open_close : {o : ℕ} {es rest : List Entry} {next : Option BranchPoint} {made : Twigs} → Opened o es rest next made → Before o next → (w : ℕ) → IsRow w (count made) → Front o es rest next (branch o w made)
open_close so_far b w row = record {
  shape = (omega arith, so_far.early, row, so_far.two b, so_far.agree, so_far.twigs);
  whole = so_far.whole;
  last = so_far.last;
  there = so_far.there;
  ahead = so_far.ahead;
  short = b;
  rises = so_far.rises;
}

-- the cells of an open branch, as far as 64 bits hold them
abbrev pub Capped : ℕ → ℕ → Type 0
Capped n m = n ≡ min m 18446744073709551615

pub count_first : {point : BranchPoint} {es rest : List Entry} {t : Tree} {n : ℕ} → Front (suc point.offset) es rest (Some point) t → Capped n (cells (entries_of t)) → Capped (min (n + 1) 18446744073709551615) (suc (twig_sizes (twig point.before t none)))
count_first {point} {t = t} f c = let s = size_is (suc point.offset) t f.shape in omega arith

pub count_more : {o : ℕ} {rest rest_new : List Entry} {next : Option BranchPoint} {u : Tree} {n m : ℕ} (made : Twigs) (q : ℕ) → Capped n (suc (twig_sizes made)) → Front (suc o) rest rest_new next u → Capped m (cells (entries_of u)) → Capped (min (n + m) 18446744073709551615) (suc (twig_sizes (beside made (twig q u none))))
count_more {o} {u = u} made q a f b = let s = size_is (suc o) u f.shape in let e = twig_sizes-beside made (twig q u none) in omega arith

-- the branch that they make, wherever it lies
pub count_close : {o n : ℕ} {es rest : List Entry} {next : Option BranchPoint} {made : Twigs} → Opened o es rest next made → Before o next → Capped n (suc (twig_sizes made)) → (t : Tree) × Front o es rest next t × Capped n (cells (entries_of t))
count_close {o} {n} {made = made} so_far short c =
    let f = open_close so_far short 0 (short_row (count made) (let k = twigs_few o made so_far.twigs in omega arith)) in
    (branch o 0 made, f, (let s = size_is o (branch o 0 made) f.shape in let d = size_branch o 0 made in omega arith))
