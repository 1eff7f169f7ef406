-- The way along a key: where a key stands beside it, and that there is one.
use Rattle.std.proofs.Common.{◌≡◌, ℕ, suc, ◌≤◌, inl, inr, List, [], ◌∷◌, ◌++◌, arith, refl, sym, ◌∙◌, ap, subst}
use Rattle.std.proofs.lemmas.Bool.{cases_lt}
use Rattle.trie_model.specs.Keys.{at, Same, Entry, Less, InList}
use Rattle.trie_model.specs.Trees.{Tree, Twigs, entries_of, entries, IsTree, AreTwigs, beside}
use Rattle.trie_model.specs.Trees.Tree.{leaf, branch}
use Rattle.trie_model.specs.Trees.Twigs.{none, twig}
use Rattle.trie_model.proofs.KeyLaws.{in_left, in_right, in_both}
use Rattle.trie_model.proofs.SplitLaws.{keys_lower, keys_upper}
use Rattle.trie_space.specs.Ways.{Fork, fork, plug, IsWay}
use Rattle.trie_space.proofs.WayLaws.{entries_fork, IsFork, is_fork, low_at, low_rises, before, after, entries_plug}

-- a key that agrees with one at the end stands between what is before the way and what is after it
abbrev pub Between : List Fork → List ℕ → Entry → Type 0
Between way k x = (InList x (before way) → Less x.key k) × (InList x (after way) → Less k x.key)

module _ (low : ℕ) (f : Fork) (way : List Fork) (t : Tree) (b : IsFork low f (plug way t)) (y : Entry) (i : InList y (entries_of t)) (k : List ℕ) (s : Same (suc f.offset) k y.key) (x : Entry) where
  y_here : InList y (entries_of (plug way t))
  y_here = subst (InList y) (sym (entries_plug way t)) (in_right y (before way) (entries_of t ++ after way) (in_left y (entries_of t) (after way) i))

  y_there : InList y (entries_of (fork f (plug way t)))
  y_there = subst (InList y) (sym (entries_fork f (plug way t))) (in_right y (entries f.left) (entries_of (plug way t) ++ entries f.right) (in_left y (entries_of (plug way t)) (entries f.right) y_here))

  same_place : at k f.offset ≡ f.position
  same_place = s f.offset (omega arith) ∙ b.here y y_here

  lefts_less : InList x (entries f.left) → Less x.key k
  lefts_less u =
      let there = subst (InList x) (sym (entries_fork f (plug way t))) (in_left x (entries f.left) (entries_of (plug way t) ++ entries f.right) u) in
      record { place = f.offset; same = λ j l. b.agree x y there y_there j l ∙ sym (s j (omega arith)); lower = (let m = keys_lower f.offset 0 f.position f.left b.lefts b.lower x u in let n = same_place in omega arith) }

  rights_less : InList x (entries f.right) → Less k x.key
  rights_less u =
      let there = subst (InList x) (sym (entries_fork f (plug way t))) (in_right x (entries f.left) (entries_of (plug way t) ++ entries f.right) (in_right x (entries_of (plug way t)) (entries f.right) u)) in
      record { place = f.offset; same = λ j l. s j (omega arith) ∙ b.agree y x y_there there j l; lower = (let m : suc f.position ≤ at x.key f.offset = keys_upper f.offset (suc f.position) (suc f.position) 47 f.right b.rights b.upper x u in let n = same_place in omega arith) }

pub key_between : (low : ℕ) (way : List Fork) (t : Tree) → IsTree low (plug way t) → (y : Entry) → InList y (entries_of t) → (k : List ℕ) → Same (low_at low way) k y.key → (x : Entry) → Between way k x
key_between low [] t h y i k s x = (λ a. absurd a, λ a. absurd a)
key_between low (f ∷ way) t h y i k s x =
    let b = is_fork low f (plug way t) h in
    let deep = low_rises (suc f.offset) way t b.tree in
    let next = key_between (suc f.offset) way t b.tree y i k s x in
    let less : Same (suc f.offset) k y.key = λ j l. s j (omega arith) in (
      λ a. elim (in_both x (entries f.left) (before way) a) [ inl u ↦ lefts_less low f way t b y i k less x u | inr u ↦ next.0 u ],
      λ a. elim (in_both x (after way) (entries f.right) a) [ inl u ↦ next.1 u | inr u ↦ rights_less low f way t b y i k less x u ],
    )

-- ---- there is one

-- the way to the tree that has an entry
pub record WayTo (place : ℕ) (key : List ℕ) (t : Tree) (y : Entry) : Type 0 where
  pub way : List Fork
  pub end : Tree
  pub is : t ≡ plug way end
  pub is_way : IsWay place key way end
  pub there : InList y (entries_of end)

record TwigTo (place : ℕ) (key : List ℕ) (o : ℕ) (ts : Twigs) (y : Entry) : Type 0 where
  pub left : Twigs
  pub position : ℕ
  pub here : Tree
  pub right : Twigs
  pub is : ts ≡ beside left (twig position here right)
  pub position_is : at y.key o ≡ position
  pub to : WayTo place key here y

abbrev mutual
  pub way_to : (place low : ℕ) (key : List ℕ) (t : Tree) → IsTree low t → (y : Entry) → InList y (entries_of t) → Same place key y.key → WayTo place key t y
  way_to place low key (leaf e w) h y i s = record { way = []; end = leaf e w; is = refl; is_way = record { along = tt; ends = tt }; there = i }
  way_to place low key (branch o w below) h y i s = elim (cases_lt o place) [
    | inl l ↦ (
        let f = twig_to place o 0 key below h.5 y i s in
        record {
          way = record { offset = o; first = w; left = f.left; position = f.position; right = f.right } ∷ f.to.way;
          end = f.to.end;
          is = ap (branch o w) (f.is ∙ ap (λ (t : Tree). beside f.left (twig f.position t f.right)) f.to.is);
          is_way = record { along = (l, sym f.position_is ∙ sym (s o l), f.to.is_way.along); ends = f.to.is_way.ends };
          there = f.to.there;
        }
        )
    | inr g ↦ record { way = []; end = branch o w below; is = refl; is_way = record { along = tt; ends = g }; there = i }
  ]

  twig_to : (place o low : ℕ) (key : List ℕ) (ts : Twigs) → AreTwigs o low ts → (y : Entry) → InList y (entries ts) → Same place key y.key → TwigTo place key o ts y
  twig_to place o low key none h y i s = absurd i
  twig_to place o low key (twig p t rest) h y i s = elim (in_both y (entries_of t) (entries rest) i) [
    | inl u ↦ record { left = none; position = p; here = t; right = rest; is = refl; position_is = h.2 y u; to = way_to place (suc o) key t h.3 y u s }
    | inr u ↦ (let f = twig_to place o (suc p) key rest h.4 y u s in record { left = twig p t f.left; position = f.position; here = f.here; right = f.right; is = ap (twig p t) f.is; position_is = f.position_is; to = f.to })
  ]
