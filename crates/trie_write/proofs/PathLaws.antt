-- How many twigs there are on a way, and how many of them are copied.
use Rattle.std.proofs.Common.{◌≡◌, ℕ, suc, ◌+◌, ◌<◌, ◌≤◌, Bool, true, false, cond, eqb, List, [], ◌∷◌, ◌++◌, map, arith, inl, inr, refl, sym, ◌∙◌, ap, ap₂, subst}
use Rattle.std.proofs.lemmas.Bool.{cases_Bool}
use Rattle.std.proofs.lemmas.Bool.Decides.{nat_tests}
use Rattle.trie_model.specs.Keys.{at}
use Rattle.trie_model.specs.Trees.{Tree, Twigs, count, IsTree, beside}
use Rattle.trie_model.specs.Trees.Tree.{leaf, branch}
use Rattle.trie_model.specs.Trees.Twigs.{none, twig}
use Rattle.trie_model.proofs.BitmapLaws.{Rising}
use Rattle.trie_write.specs.Paths.{twigs_on_path, twigs_past, branches_on_path, branches_past, copied_below, copied_past, to_copy}
use Rattle.trie_space.specs.Ways.{Fork, plug, twig_at, Along, twigs_of, twigs_along, copied_along}
use Rattle.trie_space.proofs.WayLaws.{is_fork, fork_count}

eqb_itself : (p : ℕ) → eqb p p ≡ true
eqb_itself p = grind (arith, nat_tests)

eqb_less : (q p : ℕ) → q < p → eqb q p ≡ false
eqb_less q p l = grind (arith, nat_tests)

past_left : (key : List ℕ) (p lo : ℕ) (left : Twigs) (here : Tree) (rest : Twigs) → Rising lo p left → twigs_past key p (beside left (twig p here rest)) ≡ twigs_on_path key here
past_left key p lo none here rest r = ap (λ c. cond c (twigs_on_path key here) (twigs_past key p rest)) (eqb_itself p)
past_left key p lo (twig q t more) here rest r = ap (λ c. cond c (twigs_on_path key t) (twigs_past key p (beside more (twig p here rest)))) (eqb_less q p r.1) ∙ past_left key p (suc q) more here rest r.2

copied_left : (mutable : ℕ → Bool) (key : List ℕ) (n p lo r : ℕ) (left : Twigs) (here : Tree) (rest : Twigs) → Rising lo p left → copied_past mutable key p n r (beside left (twig p here rest)) ≡ cond (mutable (r + count left)) (copied_below mutable key here) (n + twigs_on_path key here)
copied_left mutable key n p lo r none here rest h = let e : r ≡ r + 0 = omega arith in
    ap (λ c. cond c (cond (mutable r) (copied_below mutable key here) (n + twigs_on_path key here)) (copied_past mutable key p n (suc r) rest)) (eqb_itself p) ∙ ap (λ (q : ℕ). cond (mutable q) (copied_below mutable key here) (n + twigs_on_path key here)) e
copied_left mutable key n p lo r (twig q t more) here rest h = let e : suc r + count more ≡ r + suc (count more) = omega arith in
    ap (λ c. cond c (cond (mutable r) (copied_below mutable key t) (n + twigs_on_path key t)) (copied_past mutable key p n (suc r) (beside more (twig p here rest)))) (eqb_less q p h.1)
    ∙ copied_left mutable key n p (suc q) (suc r) more here rest h.2 ∙ ap (λ (x : ℕ). cond (mutable x) (copied_below mutable key here) (n + twigs_on_path key here)) e

-- the path goes on where the way ends
pub path_plug : (place low : ℕ) (key : List ℕ) (way : List Fork) (end : Tree) → IsTree low (plug way end) → Along place key way → twigs_on_path key (plug way end) ≡ twigs_along way + twigs_on_path key end
path_plug place low key [] end h a = omega arith
path_plug place low key (f ∷ way) end h a =
    let k = is_fork low f (plug way end) h in
    let n = fork_count f (plug way end) in
    let e = ap (λ (p : ℕ). twigs_past key p (beside f.left (twig f.position (plug way end) f.right))) (sym a.1) ∙ past_left key f.position 0 f.left (plug way end) f.right k.lower in
    let g = path_plug place (suc f.offset) key way end k.tree a.2 in omega arith

-- the same of each branch by itself
branches_left : (key : List ℕ) (p lo : ℕ) (left : Twigs) (here : Tree) (rest : Twigs) → Rising lo p left → branches_past key p (beside left (twig p here rest)) ≡ branches_on_path key here
branches_left key p lo none here rest r = ap (λ c. cond c (branches_on_path key here) (branches_past key p rest)) (eqb_itself p)
branches_left key p lo (twig q t more) here rest r = ap (λ c. cond c (branches_on_path key t) (branches_past key p (beside more (twig p here rest)))) (eqb_less q p r.1) ∙ branches_left key p (suc q) more here rest r.2

pub branches_plug : (place low : ℕ) (key : List ℕ) (way : List Fork) (end : Tree) → IsTree low (plug way end) → Along place key way → branches_on_path key (plug way end) ≡ map twigs_of way ++ branches_on_path key end
branches_plug place low key [] end h a = refl
branches_plug place low key (f ∷ way) end h a =
    let k = is_fork low f (plug way end) h in
    let e = ap (λ (p : ℕ). branches_past key p (beside f.left (twig f.position (plug way end) f.right))) (sym a.1) ∙ branches_left key f.position 0 f.left (plug way end) f.right k.lower in
    ap₂ (λ (n : ℕ) (ns : List ℕ). n ∷ ns) (fork_count f (plug way end)) (e ∙ branches_plug place (suc f.offset) key way end k.tree a.2)

-- no more is copied than there is to copy on the path
pub copied_plug : (mutable : ℕ → Bool) (place low n r : ℕ) (key : List ℕ) (way : List Fork) (end : Tree) → IsTree low (plug way end) → Along place key way → copied_along mutable n r way ≤ cond (mutable r) (copied_below mutable key (plug way end)) (n + twigs_on_path key (plug way end))
copied_plug mutable place low n r key [] end h a = elim (cases_Bool (mutable r)) [
  | inl e ↦ (let x = ap (λ b. cond b 0 n) e in omega arith)
  | inr e ↦ (let x = ap (λ b. cond b 0 n) e in let y = ap (λ b. cond b (copied_below mutable key end) (n + twigs_on_path key end)) e in omega arith)
]
copied_plug mutable place low n r key (f ∷ way) end h a =
    let k = is_fork low f (plug way end) h in
    let next = copied_plug mutable place (suc f.offset) (twigs_of f) (twig_at f) key way end k.tree a.2 in
    let p = path_plug place low key (f ∷ way) end h a in
    let c = ap (λ (p : ℕ). copied_past mutable key p (count (beside f.left (twig f.position (plug way end) f.right))) f.first (beside f.left (twig f.position (plug way end) f.right))) (sym a.1)
    ∙ copied_left mutable key (count (beside f.left (twig f.position (plug way end) f.right))) f.position 0 f.first f.left (plug way end) f.right k.lower
    ∙ ap (λ (m : ℕ). cond (mutable (twig_at f)) (copied_below mutable key (plug way end)) (m + twigs_on_path key (plug way end))) (fork_count f (plug way end)) in
    elim (cases_Bool (mutable r)) [
      | inl e ↦ (let x = ap (λ b. cond b (copied_along mutable (twigs_of f) (twig_at f) way) (n + twigs_along (f ∷ way))) e in let y = ap (λ b. cond b (copied_below mutable key (plug (f ∷ way) end)) (n + twigs_on_path key (plug (f ∷ way) end))) e in omega arith)
      | inr e ↦ (let x = ap (λ b. cond b (copied_along mutable (twigs_of f) (twig_at f) way) (n + twigs_along (f ∷ way))) e in let y = ap (λ b. cond b (copied_below mutable key (plug (f ∷ way) end)) (n + twigs_on_path key (plug (f ∷ way) end))) e in omega arith)
    ]

pub copied_most : (mutable : ℕ → Bool) (n r : ℕ) (way : List Fork) → copied_along mutable n r way ≤ n + twigs_along way
copied_most mutable n r [] = elim (cases_Bool (mutable r)) [ inl e ↦ (let x = ap (λ b. cond b 0 n) e in omega arith) | inr e ↦ (let x = ap (λ b. cond b 0 n) e in omega arith) ]
copied_most mutable n r (f ∷ way) = let next = copied_most mutable (twigs_of f) (twig_at f) way in elim (cases_Bool (mutable r)) [
  | inl e ↦ (let x = ap (λ b. cond b (copied_along mutable (twigs_of f) (twig_at f) way) (n + twigs_along (f ∷ way))) e in omega arith)
  | inr e ↦ (let x = ap (λ b. cond b (copied_along mutable (twigs_of f) (twig_at f) way) (n + twigs_along (f ∷ way))) e in omega arith)
]

-- where more is mutable, less is copied
pub copied_less : (m m2 : ℕ → Bool) (n r : ℕ) (way : List Fork) → ((q : ℕ) → m q ≡ true → m2 q ≡ true) → copied_along m2 n r way ≤ copied_along m n r way
copied_less m m2 n r [] grows = elim (cases_Bool (m r)) [
  | inl e ↦ (let x = ap (λ b. cond b 0 n) e in let y = ap (λ b. cond b 0 n) (grows r e) in omega arith)
  | inr e ↦ (let x = ap (λ b. cond b 0 n) e in let y = copied_most m2 n r [] in omega arith)
]
copied_less m m2 n r (f ∷ way) grows = let next = copied_less m m2 (twigs_of f) (twig_at f) way grows in elim (cases_Bool (m r)) [
  | inl e ↦ (
      let x = ap (λ b. cond b (copied_along m (twigs_of f) (twig_at f) way) (n + twigs_along (f ∷ way))) e in
      let y = ap (λ b. cond b (copied_along m2 (twigs_of f) (twig_at f) way) (n + twigs_along (f ∷ way))) (grows r e) in omega arith
      )
  | inr e ↦ (let x = ap (λ b. cond b (copied_along m (twigs_of f) (twig_at f) way) (n + twigs_along (f ∷ way))) e in let y = copied_most m2 n r (f ∷ way) in omega arith)
]

-- and never more than the path has
abbrev mutual
  pub copied_few : (mutable : ℕ → Bool) (key : List ℕ) (t : Tree) → copied_below mutable key t ≤ twigs_on_path key t
  copied_few mutable key (leaf e w) = omega arith
  copied_few mutable key (branch o w below) = copied_few_past mutable key (at key o) (count below) w below

  pub copied_few_past : (mutable : ℕ → Bool) (key : List ℕ) (position n r : ℕ) (ts : Twigs) → copied_past mutable key position n r ts ≤ n + twigs_past key position ts
  copied_few_past mutable key position n r none = omega arith
  copied_few_past mutable key position n r (twig p t rest) = elim (cases_Bool (eqb p position)) [
    | inl e ↦ (
        let x = ap (λ b. cond b (cond (mutable r) (copied_below mutable key t) (n + twigs_on_path key t)) (copied_past mutable key position n (suc r) rest)) e in
        let y = ap (λ b. cond b (twigs_on_path key t) (twigs_past key position rest)) e in
        let h = copied_few mutable key t in elim (cases_Bool (mutable r)) [
          | inl m ↦ (let z = ap (λ b. cond b (copied_below mutable key t) (n + twigs_on_path key t)) m in omega arith)
          | inr m ↦ (let z = ap (λ b. cond b (copied_below mutable key t) (n + twigs_on_path key t)) m in omega arith)
        ]
        )
    | inr e ↦ (
        let x = ap (λ b. cond b (cond (mutable r) (copied_below mutable key t) (n + twigs_on_path key t)) (copied_past mutable key position n (suc r) rest)) e in
        let y = ap (λ b. cond b (twigs_on_path key t) (twigs_past key position rest)) e in
        let h = copied_few_past mutable key position n (suc r) rest in omega arith
        )
  ]

pub to_copy_few : (mutable : ℕ → Bool) (key : List ℕ) (r : ℕ) (t : Tree) → to_copy mutable key r t ≤ 1 + twigs_on_path key t
to_copy_few mutable key r t = let h = copied_few mutable key t in elim (cases_Bool (mutable r)) [
  | inl m ↦ (let z = ap (λ b. cond b (copied_below mutable key t) (1 + twigs_on_path key t)) m in omega arith)
  | inr m ↦ (let z = ap (λ b. cond b (copied_below mutable key t) (1 + twigs_on_path key t)) m in omega arith)
]

-- the way of a tree
pub copied_way : (m m2 : ℕ → Bool) (place : ℕ) (key : List ℕ) (r : ℕ) (t : Tree) (way : List Fork) (end : Tree) → IsTree 0 t → t ≡ plug way end → Along place key way → ((q : ℕ) → m q ≡ true → m2 q ≡ true) → copied_along m2 1 r way ≤ to_copy m key r t
copied_way m m2 place key r t way end h is along grows =
    let a = copied_less m m2 1 r way grows in
    let b = copied_plug m place 0 1 r key way end (subst (IsTree 0) is h) along in
    let c = ap (to_copy m key r) is in omega arith
