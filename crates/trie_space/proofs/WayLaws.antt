-- The way to a tree that hangs in another: what stands beside it, and what the whole is when the tree at its end changes.
use Rattle.std.proofs.Common.{◌≡◌, ℕ, suc, ◌+◌, ◌<◌, ◌≤◌, inl, inr, true, ltb, List, [], ◌∷◌, ◌++◌, append_assoc, append-nil, arith, refl, sym, ◌∙◌, ap, subst}
use Rattle.std.proofs.lemmas.Bool.Decides.{nat_tests}
use Rattle.packed_node.specs.declared.Cell.{Cell}
use Rattle.packed_node.specs.Nodes.{branch_cell}
use Rattle.trie_model.specs.Extents.{IsRow}
use Rattle.trie_model.specs.Keys.{Same, Entry, InList}
use Rattle.trie_model.specs.Memory.{top_cell, Beneath, Lie}
use Rattle.trie_model.specs.Reach.{weigh_tree, weigh}
use Rattle.trie_model.specs.Trees.{Tree, Twigs, entries_of, entries, count, bitmap_of, AllAt, Agree, IsTree, AreTwigs, beside}
use Rattle.trie_model.specs.Trees.Twigs.{none, twig}
use Rattle.trie_model.proofs.BitmapLaws.{Rising, count-beside, bitmap_of-beside, few}
use Rattle.trie_model.proofs.KeyLaws.{in_left, in_right, in_both}
use Rattle.trie_model.proofs.MoveLaws.{beneath_kept}
use Rattle.trie_model.proofs.SplitLaws.{rising_of, entries-beside, lie_left, lie_right, lie_join, twigs_left, twigs_right, twigs_join}
use Rattle.trie_space.specs.Ways.{Fork, fork, plug, twig_at, end_at, twigs_of}
use Rattle.trie_space.specs.Weights.{at_place}
use Rattle.trie_space.proofs.WeightLaws.{at_itself, within_met}

-- ---- weights

pub weigh-beside : (w : ℕ → ℕ) (r : ℕ) (a b : Twigs) → weigh w r (beside a b) ≡ weigh w r a + weigh w (r + count a) b
weigh-beside w r none b = let e : r ≡ r + 0 = omega arith in let f = ap (λ (n : ℕ). weigh w n b) e in omega arith
weigh-beside w r (twig p t rest) b =
    let h = weigh-beside w (suc r) rest b in
    let e : suc r + count rest ≡ r + suc (count rest) = omega arith in
    let f = ap (λ (n : ℕ). weigh w n b) e in omega arith

-- what the twigs on both sides of the way weigh, and the cells that lead there
abbrev pub sides : (ℕ → ℕ) → Fork → ℕ
sides w f = weigh w f.first f.left + weigh w (suc (twig_at f)) f.right

abbrev pub around : (ℕ → ℕ) → ℕ → List Fork → ℕ
around w r [] = 0
around w r (f ∷ way) = w r + sides w f + around w (twig_at f) way

pub weigh_fork : (w : ℕ → ℕ) (f : Fork) (t : Tree) → weigh_tree w (fork f t) ≡ sides w f + (w (twig_at f) + weigh_tree w t)
weigh_fork w f t = let e = weigh-beside w f.first f.left (twig f.position t f.right) in omega arith

pub weigh_plug : (w : ℕ → ℕ) (r : ℕ) (way : List Fork) (t : Tree) → w r + weigh_tree w (plug way t) ≡ around w r way + (w (end_at r way) + weigh_tree w t)
weigh_plug w r [] t = omega arith
weigh_plug w r (f ∷ way) t = let e = weigh_fork w f (plug way t) in let h = weigh_plug w (twig_at f) way t in omega arith

-- ---- the memory

pub fork_bits : (f : Fork) (t u : Tree) → bitmap_of (beside f.left (twig f.position t f.right)) ≡ bitmap_of (beside f.left (twig f.position u f.right))
fork_bits f t u = bitmap_of-beside f.left (twig f.position t f.right) ∙ sym (bitmap_of-beside f.left (twig f.position u f.right))

-- a branch's cell doesn't say what hangs on the way's twig
pub same_top : (f : Fork) (t u : Tree) → top_cell (fork f t) ≡ top_cell (fork f u)
same_top f t u = ap (λ (b : ℕ). branch_cell (record { offset = f.offset; bitmap = b; twigs = f.first })) (fork_bits f t u)

-- what lies beside the way
pub record Sides (has : ℕ → Cell → Type 0) (f : Fork) : Type 0 where
  pub lefts : Lie has f.first f.left
  pub rights : Lie has (suc (twig_at f)) f.right

pub sides_of : (has : ℕ → Cell → Type 0) (f : Fork) (t : Tree) → Beneath has (fork f t) → Sides has f
sides_of has f t h = record { lefts = lie_left has f.first f.left (twig f.position t f.right) h; rights = (lie_right has f.first f.left (twig f.position t f.right) h).2 }

pub twig_of : (has : ℕ → Cell → Type 0) (f : Fork) (t : Tree) → Beneath has (fork f t) → has (twig_at f) (top_cell t) × Beneath has t
twig_of has f t h = let r = lie_right has f.first f.left (twig f.position t f.right) h in (r.0, r.1)

pub fork_lies : (has : ℕ → Cell → Type 0) (f : Fork) (t : Tree) → Sides has f → has (twig_at f) (top_cell t) → Beneath has t → Beneath has (fork f t)
fork_lies has f t s top beneath = lie_join has f.first f.left (twig f.position t f.right) s.lefts (top, beneath, s.rights)

-- a tree stays where its own cells do
pub beneath_met : (has new : ℕ → Cell → Type 0) (t : Tree) → ((q : ℕ) (c : Cell) → 1 ≤ weigh_tree (at_place q) t → has q c → new q c) → Beneath has t → Beneath new t
beneath_met has new t keep b =
    beneath_kept (λ q. ltb 0 (weigh_tree (at_place q) t)) has new (λ q c m h. keep q c (met_tells q m) h) t (within_met (λ q. ltb 0 (weigh_tree (at_place q) t)) t (λ q l. met_true q l)) b
  where
    met_tells : (q : ℕ) → ltb 0 (weigh_tree (at_place q) t) ≡ true → 1 ≤ weigh_tree (at_place q) t
    met_tells q e = grind (arith, nat_tests)

    met_true : (q : ℕ) → 1 ≤ weigh_tree (at_place q) t → ltb 0 (weigh_tree (at_place q) t) ≡ true
    met_true q l = grind (arith, nat_tests)

-- twigs stay where their own cells do
pub lie_met : (has new : ℕ → Cell → Type 0) (r : ℕ) (ts : Twigs) → ((q : ℕ) (c : Cell) → 1 ≤ weigh (at_place q) r ts → has q c → new q c) → Lie has r ts → Lie new r ts
lie_met has new r none keep h = tt
lie_met has new r (twig p t rest) keep h = (
  keep r (top_cell t) (let a = at_itself r in omega arith) h.0,
  beneath_met has new t (λ q c m. keep q c (omega arith)) h.1,
  lie_met has new (suc r) rest (λ q c m. keep q c (omega arith)) h.2,
)

-- the end of the way lies there
pub end_lies : (has : ℕ → Cell → Type 0) (r : ℕ) (way : List Fork) (t : Tree) → has r (top_cell (plug way t)) → Beneath has (plug way t) → has (end_at r way) (top_cell t) × Beneath has t
end_lies has r [] t top h = (top, h)
end_lies has r (f ∷ way) t top h = let e = twig_of has f (plug way t) h in end_lies has (twig_at f) way t e.0 e.1

-- another tree is put there, and what is around the way stays
pub plug_lies : (has new : ℕ → Cell → Type 0) (r : ℕ) (way : List Fork) (t u : Tree) → has r (top_cell (plug way t)) → Beneath has (plug way t) →
    ((q : ℕ) (c : Cell) → 1 ≤ around (at_place q) r way → has q c → new q c) → new (end_at r way) (top_cell u) → Beneath new u → new r (top_cell (plug way u)) × Beneath new (plug way u)
plug_lies has new r [] t u top h keep put b = (put, b)
plug_lies has new r (f ∷ way) t u top h keep put b =
    let e = twig_of has f (plug way t) h in
    let s = sides_of has f (plug way t) h in
    let next = plug_lies has new (twig_at f) way t u e.0 e.1 (λ q c m. keep q c (omega arith)) put b in (
      subst (new r) (same_top f (plug way t) (plug way u)) (keep r (top_cell (fork f (plug way t))) (let a = at_itself r in omega arith) top),
      fork_lies new f (plug way u) (record {
        lefts = lie_met has new f.first f.left (λ q c m. keep q c (omega arith)) s.lefts;
        rights = lie_met has new (suc (twig_at f)) f.right (λ q c m. keep q c (omega arith)) s.rights;
      }) next.0 next.1,
    )

-- ---- the shape

-- each key of a list agrees with one of another before n
abbrev pub Follows : ℕ → List Entry → List Entry → Type 0
Follows n es fs = (x : Entry) → InList x fs → (y : Entry) × InList y es × Same n x.key y.key

pub follows_less : (n m : ℕ) (es fs : List Entry) → m ≤ n → Follows n es fs → Follows m es fs
follows_less n m es fs l f x i = let y = f x i in (y.0, y.1, λ j k. y.2 j (omega arith))

pub follows_within : (n : ℕ) (a es fs b : List Entry) → Follows n es fs → Follows n (a ++ (es ++ b)) (a ++ (fs ++ b))
follows_within n a es fs b f x i = elim (in_both x a (fs ++ b) i) [
  | inl u ↦ (x, in_left x a (es ++ b) u, λ j k. refl)
  | inr v ↦ elim (in_both x fs b v) [
    | inl w ↦ (let y = f x w in (y.0, in_right y.0 a (es ++ b) (in_left y.0 es b y.1), y.2))
    | inr w ↦ (x, in_right x a (es ++ b) (in_right x es b w), λ j k. refl)
  ]
]

pub entries_fork : (f : Fork) (t : Tree) → entries_of (fork f t) ≡ entries f.left ++ (entries_of t ++ entries f.right)
entries_fork f t = entries-beside f.left (twig f.position t f.right)

follows_fork : (n : ℕ) (f : Fork) (t u : Tree) → Follows n (entries_of t) (entries_of u) → Follows n (entries_of (fork f t)) (entries_of (fork f u))
follows_fork n f t u g = subst (λ (es : List Entry). Follows n es (entries_of (fork f u))) (sym (entries_fork f t)) (subst (Follows n (entries f.left ++ (entries_of t ++ entries f.right))) (sym (entries_fork f u)) (follows_within n (entries f.left) (entries_of t) (entries_of u) (entries f.right) g))

pub follows_plug : (n : ℕ) (way : List Fork) (t u : Tree) → Follows n (entries_of t) (entries_of u) → Follows n (entries_of (plug way t)) (entries_of (plug way u))
follows_plug n [] t u g = g
follows_plug n (f ∷ way) t u g = follows_fork n f (plug way t) (plug way u) (follows_plug n way t u g)

pub follows_same : (n : ℕ) (es fs : List Entry) → fs ≡ es → Follows n es fs
follows_same n es fs e x i = (x, subst (InList x) e i, λ j k. refl)

agree_by : (o n : ℕ) (es fs : List Entry) → o ≤ n → Follows n es fs → Agree o es → Agree o fs
agree_by o n es fs l g a x y i j k m = let u = g x i in let v = g y j in u.2 k (omega arith) ∙ a u.0 v.0 u.1 v.1 k m ∙ sym (v.2 k (omega arith))

all_by : (o n p : ℕ) (es fs : List Entry) → o < n → Follows n es fs → AllAt o p es → AllAt o p fs
all_by o n p es fs l g a x i = let u = g x i in u.2 o l ∙ a u.0 u.1

-- what is known of a branch on the way
pub fork_count : (f : Fork) (t : Tree) → count (beside f.left (twig f.position t f.right)) ≡ twigs_of f
fork_count f t = count-beside f.left (twig f.position t f.right)

pub record IsFork (low : ℕ) (f : Fork) (t : Tree) : Type 0 where
  pub late : low ≤ f.offset
  pub early : f.offset ≤ 503
  pub lies : IsRow f.first (twigs_of f)
  pub two : 2 ≤ twigs_of f
  pub few : twigs_of f ≤ 47
  pub inside : f.position < 47
  pub lower : Rising 0 f.position f.left
  pub upper : Rising (suc f.position) 47 f.right
  pub agree : Agree f.offset (entries_of (fork f t))
  pub lefts : AreTwigs f.offset 0 f.left
  pub here : AllAt f.offset f.position (entries_of t)
  pub tree : IsTree (suc f.offset) t
  pub rights : AreTwigs f.offset (suc f.position) f.right

rising_sides : (lo p : ℕ) (l : Twigs) (t : Tree) (r : Twigs) → Rising lo 47 (beside l (twig p t r)) → Rising lo p l × (p < 47) × Rising (suc p) 47 r
rising_sides lo p none t r h = (h.0, h.1, h.2)
rising_sides lo p (twig q u m) t r h = let next = rising_sides (suc q) p m t r h.2 in ((h.0, (let f = few (suc q) p m next.0 in omega arith), next.0), next.1, next.2)

pub is_fork : (low : ℕ) (f : Fork) (t : Tree) → IsTree low (fork f t) → IsFork low f t
is_fork low f t h =
    let whole = rising_of f.offset 0 (beside f.left (twig f.position t f.right)) (let z : 0 ≤ 47 = omega arith in z) h.5 in
    let n = fork_count f t in
    let r = rising_sides 0 f.position f.left t f.right whole in
    let here = twigs_right f.offset 0 f.position 47 f.left (twig f.position t f.right) h.5 (let z : f.position ≤ f.position = omega arith in z, r.1, r.2) in
    record {
      late = h.0;
      early = h.1;
      lies = subst (IsRow f.first) n h.2;
      two = (let a = h.3 in omega arith);
      few = (let a = few 0 47 (beside f.left (twig f.position t f.right)) whole in omega arith);
      inside = r.1;
      lower = r.0;
      upper = r.2;
      agree = h.4;
      lefts = twigs_left f.offset 0 f.left (twig f.position t f.right) h.5;
      here = here.2;
      tree = here.3;
      rights = here.4;
    }

-- another tree hangs on its twig, whose keys follow those that were there; the twigs may lie elsewhere
pub fork_tree : (low first : ℕ) (f : Fork) (t u : Tree) → IsFork low f t → IsRow first (twigs_of f) → IsTree (suc f.offset) u → Follows (suc f.offset) (entries_of t) (entries_of u) → IsTree low (fork (record f { first = first }) u)
fork_tree low first f t u k lies tree g = (
  k.late,
  k.early,
  subst (IsRow first) (sym (fork_count f u)) lies,
  (let n = fork_count f u in let a = k.two in omega arith),
  agree_by f.offset (suc f.offset) (entries_of (fork f t)) (entries_of (fork f u)) (omega arith) (follows_fork (suc f.offset) f t u g) k.agree,
  twigs_join f.offset 0 f.position f.left (twig f.position u f.right) k.lefts k.lower (let z : f.position ≤ f.position = omega arith in z, k.inside, all_by f.offset (suc f.offset) f.position (entries_of t) (entries_of u) (omega arith) g k.here, tree, k.rights),
)

-- the least offset that may come at the end of the way
abbrev pub low_at : ℕ → List Fork → ℕ
low_at low [] = low
low_at low (f ∷ way) = low_at (suc f.offset) way

pub end_tree : (low : ℕ) (way : List Fork) (t : Tree) → IsTree low (plug way t) → IsTree (low_at low way) t
end_tree low [] t h = h
end_tree low (f ∷ way) t h = end_tree (suc f.offset) way t (is_fork low f (plug way t) h).tree

pub low_rises : (low : ℕ) (way : List Fork) (t : Tree) → IsTree low (plug way t) → low ≤ low_at low way
low_rises low [] t h = omega arith
low_rises low (f ∷ way) t h = let k = is_fork low f (plug way t) h in let a = k.late in let b = low_rises (suc f.offset) way t k.tree in omega arith

pub plug_tree : (low : ℕ) (way : List Fork) (t u : Tree) → IsTree low (plug way t) → IsTree (low_at low way) u → Follows (low_at low way) (entries_of t) (entries_of u) → IsTree low (plug way u)
plug_tree low [] t u h tree g = tree
plug_tree low (f ∷ way) t u h tree g =
    let k = is_fork low f (plug way t) h in
    fork_tree low f.first f (plug way t) (plug way u) k k.lies (plug_tree (suc f.offset) way t u k.tree tree g)
    (follows_plug (suc f.offset) way t u (follows_less (low_at (suc f.offset) way) (suc f.offset) (entries_of t) (entries_of u) (low_rises (suc f.offset) way t k.tree) g))

-- ---- the entries

abbrev pub before : List Fork → List Entry
before [] = []
before (f ∷ way) = entries f.left ++ before way

abbrev pub after : List Fork → List Entry
after [] = []
after (f ∷ way) = after way ++ entries f.right

pub entries_plug : (way : List Fork) (t : Tree) → entries_of (plug way t) ≡ before way ++ (entries_of t ++ after way)
entries_plug [] t = sym (append-nil (entries_of t))
entries_plug (f ∷ way) t =
    entries_fork f (plug way t)
    ∙ ap (λ (es : List Entry). entries f.left ++ (es ++ entries f.right)) (entries_plug way t)
    ∙ ap (λ (es : List Entry). entries f.left ++ es) (append_assoc (before way) (entries_of t ++ after way) (entries f.right) ∙ ap (λ (es : List Entry). before way ++ es) (append_assoc (entries_of t) (after way) (entries f.right)))
    ∙ sym (append_assoc (entries f.left) (before way) (entries_of t ++ (after way ++ entries f.right)))

-- ---- ways in parts

pub plug-append : (a b : List Fork) (t : Tree) → plug (a ++ b) t ≡ plug a (plug b t)
plug-append [] b t = refl
plug-append (f ∷ a) b t = ap (fork f) (plug-append a b t)

pub end_at-append : (r : ℕ) (a b : List Fork) → end_at r (a ++ b) ≡ end_at (end_at r a) b
end_at-append r [] b = refl
end_at-append r (f ∷ a) b = end_at-append (twig_at f) a b
