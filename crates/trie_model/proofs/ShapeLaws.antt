-- A tree has as many nodes as its keys say, and reaches as many cells as its entries say.
use Rattle.std.proofs.Common.{◌≡◌, ℕ, zero, suc, ◌+◌, ◌<◌, ◌≤◌, ◌⊎◌, Bool, true, false, cond, eqb, ◌&&◌, List, [], ◌∷◌, ◌++◌, length, map, sum_by, arith, inl, inr, refl, sym, ◌∙◌, ap, subst, length-append, append-nil}
use Rattle.std.proofs.lemmas.Bool.{cases_lt, true≢false}
use Rattle.std.proofs.lemmas.Bool.Decides.{nat_tests}
use Rattle.std.proofs.lemmas.List.{map-append, length-map}
use Rattle.std.proofs.lemmas.List.Elements.{filter-append}
use Rattle.std.proofs.lemmas.List.Sums.{sum_by-cons, sum_by-append}
use Rattle.std.specs.List.{list_all, range_with_len}
use Rattle.trie_model.specs.Keys.{at, Entry, InList}
use Rattle.trie_model.specs.Trees.{Tree, Twigs, entries_of, entries, count, AllAt, Agree, IsTree, AreTwigs}
use Rattle.trie_model.specs.Trees.Tree.{leaf, branch}
use Rattle.trie_model.specs.Trees.Twigs.{none, twig}
use Rattle.trie_model.specs.Extents.{cells_in}
use Rattle.trie_model.specs.Reach.{reach, reach_below, reach_twigs}
use Rattle.trie_model.proofs.ExtentLaws.{length-spots}
use Rattle.trie_model.specs.Shape.{alike, difference_from, first_difference, part, parts, nodes_within, nodes, keys_of, cells, nodes_of, nodes_in}
use Rattle.trie_model.proofs.KeyLaws.{in_left, in_right}
use Rattle.trie_model.proofs.SplitLaws.{keys_upper, rising_of}
use Rattle.trie_model.proofs.GrowthLaws.{some_entry}

eqb_same : (a b : ℕ) → a ≡ b → eqb a b ≡ true
eqb_same a b e = grind (arith, nat_tests)

eqb_apart : (a b : ℕ) → (a ≡ b → ⊥) → eqb a b ≡ false
eqb_apart a b e = grind (arith, nat_tests)

eqb_tells : (a b : ℕ) → eqb a b ≡ true → a ≡ b
eqb_tells a b e = grind (arith, nat_tests)

-- ---- the first place at which keys differ
all_alike : (o p : ℕ) (es : List Entry) → AllAt o p es → list_all (λ k. eqb (at k o) p) (keys_of es) ≡ true
all_alike o p [] all = refl
all_alike o p (x ∷ xs) all = ap (λ b. b && list_all (λ k. eqb (at k o) p) (keys_of xs)) (eqb_same (at x.key o) p (all x (inl refl))) ∙ all_alike o p xs (λ e i. all e (inr i))

alike_where : (o : ℕ) (es : List Entry) → ((a b : Entry) → InList a es → InList b es → at a.key o ≡ at b.key o) → alike o (keys_of es) ≡ true
alike_where o [] same = refl
alike_where o (x ∷ xs) same = all_alike o (at x.key o) xs (λ e i. same e x (inr i) (inl refl))

cases_and : (a b : Bool) → (a && b) ≡ true → (a ≡ true) × (b ≡ true)
cases_and true b e = (refl, e)
cases_and false b e = absurd (true≢false (sym e))

all_tell : (o p : ℕ) (es : List Entry) → list_all (λ k. eqb (at k o) p) (keys_of es) ≡ true → AllAt o p es
all_tell o p [] h e i = absurd i
all_tell o p (x ∷ xs) h e i =
    let c = cases_and (eqb (at x.key o) p) (list_all (λ k. eqb (at k o) p) (keys_of xs)) h in
    elim i [ inl y ↦ ap (λ (z : Entry). at z.key o) y ∙ eqb_tells (at x.key o) p c.0 | inr z ↦ all_tell o p xs c.1 e z ]

alike_tells : (o : ℕ) (es : List Entry) → alike o (keys_of es) ≡ true → (a b : Entry) → InList a es → InList b es → at a.key o ≡ at b.key o
alike_tells o [] h a b i j = absurd i
alike_tells o (x ∷ xs) h a b i j = to_first a i ∙ sym (to_first b j)
  where
    to_first : (e : Entry) → InList e (x ∷ xs) → at e.key o ≡ at x.key o
    to_first e i = elim i [ inl y ↦ ap (λ (z : Entry). at z.key o) y | inr z ↦ all_tell o (at x.key o) xs h e z ]

-- two entries that differ at o
pub record Two (o : ℕ) (es : List Entry) : Type 0 where
  pub x : Entry
  pub y : Entry
  pub x_in : InList x es
  pub y_in : InList y es
  pub apart : at x.key o < at y.key o

pub two_of : (o lo : ℕ) (ts : Twigs) → AreTwigs o lo ts → 2 ≤ count ts → Two o (entries ts)
two_of o lo none h n = absurd (omega arith)
two_of o lo (twig p t none) h n = absurd (omega arith)
two_of o lo (twig p t (twig q u rest)) h n =
    let a = some_entry (suc o) t h.3 in let b = some_entry (suc o) u h.4.3 in
    record {
      x = a.0;
      y = b.0;
      x_in = in_left a.0 (entries_of t) (entries (twig q u rest)) a.1;
      y_in = in_right b.0 (entries_of t) (entries (twig q u rest)) (in_left b.0 (entries_of u) (entries rest) b.1);
      apart = (let c = h.2 a.0 a.1 in let d = h.4.2 b.0 b.1 in let e : suc p ≤ q = h.4.0 in omega arith);
    }

not_alike : (o : ℕ) (es : List Entry) → Two o es → (b : Bool) → alike o (keys_of es) ≡ b → b ≡ false
not_alike o es t false e = refl
not_alike o es t true e = absurd (let s = alike_tells o es e t.x t.y t.x_in t.y_in in let l = t.apart in omega arith)

difference_is : (n place o : ℕ) (keys : List (List ℕ)) → ((i : ℕ) → i < o → alike i keys ≡ true) → alike o keys ≡ false → place ≤ o → o < place + n → difference_from n place keys ≡ o
difference_is zero place o keys below here a b = absurd (omega arith)
difference_is (suc n) place o keys below here a b = elim (cases_lt place o) [
  | inl l ↦ ap (λ c. cond c (difference_from n (suc place) keys) place) (below place l) ∙ difference_is n (suc place) o keys below here l (omega arith)
  | inr g ↦ (let e : place ≡ o = omega arith in ap (λ c. cond c (difference_from n (suc place) keys) place) (ap (λ i. alike i keys) e ∙ here) ∙ e)
]

first_is : (o : ℕ) (es : List Entry) → Agree o es → Two o es → o ≤ 503 → first_difference (keys_of es) ≡ o
unfolding first_difference
first_is o es agree two l =
    difference_is 504 0 o (keys_of es) (λ i m. alike_where i es (λ a b j k. agree a b j k i m)) (not_alike o es two (alike o (keys_of es)) refl) (omega arith) (omega arith)

two_long : (o : ℕ) (es : List Entry) → Two o es → 2 ≤ length es
two_long o [] t = absurd t.x_in
two_long o (e ∷ []) t = absurd (go t.x_in t.y_in)
  where
    go : (t.x ≡ e) ⊎ ⊥ → (t.y ≡ e) ⊎ ⊥ → ⊥
    go (inl a) (inl b) = let c = ap (λ (z : Entry). at z.key o) (a ∙ sym b) in let d = t.apart in omega arith
    go (inl a) (inr b) = b
    go (inr a) z = a
two_long o (e ∷ (f ∷ es)) t = omega arith

-- ---- the parts
part_none : (o p : ℕ) (es : List Entry) → ((e : Entry) → InList e es → at e.key o ≡ p → ⊥) → part o p (keys_of es) ≡ []
part_none o p [] never = refl
part_none o p (x ∷ xs) never =
    ap (λ c. cond c (x.key ∷ part o p (keys_of xs)) (part o p (keys_of xs))) (eqb_apart (at x.key o) p (never x (inl refl))) ∙ part_none o p xs (λ e i. never e (inr i))

part_all : (o p : ℕ) (es : List Entry) → AllAt o p es → part o p (keys_of es) ≡ keys_of es
part_all o p [] all = refl
part_all o p (x ∷ xs) all =
    ap (λ c. cond c (x.key ∷ part o p (keys_of xs)) (part o p (keys_of xs))) (eqb_same (at x.key o) p (all x (inl refl))) ∙ ap (λ ks. x.key ∷ ks) (part_all o p xs (λ e i. all e (inr i)))

part-append : (o p : ℕ) (xs ys : List Entry) → part o p (keys_of (xs ++ ys)) ≡ part o p (keys_of xs) ++ part o p (keys_of ys)
part-append o p xs ys = ap (part o p) (map-append (λ (e : Entry). e.key) xs ys) ∙ filter-append (λ k. eqb (at k o) p) (keys_of xs) (keys_of ys)

no_nodes : (n : ℕ) → nodes_within n [] ≡ 0
unfolding nodes_within
no_nodes zero = refl
no_nodes (suc n) = refl

one_node : (n : ℕ) (key : List ℕ) → nodes_within (suc n) (key ∷ []) ≡ 1
unfolding nodes_within
one_node n key = refl

sum_by-map : (f : List (List ℕ) → ℕ) (g : ℕ → List (List ℕ)) (xs : List ℕ) → sum_by f (map g xs) ≡ sum_by (λ x. f (g x)) xs
sum_by-map f g [] = refl
sum_by-map f g (x ∷ xs) =
    let a = sum_by-map f g xs in let b = sum_by-cons f (g x) (map g xs) in let c = sum_by-cons (λ y. f (g y)) x xs in omega arith

many_nodes : (n : ℕ) (keys : List (List ℕ)) → 2 ≤ length keys → nodes_within (suc n) keys ≡ suc (sum_by (nodes_within n) (parts keys))
unfolding nodes_within
many_nodes n [] l = absurd (omega arith)
many_nodes n (key ∷ []) l = absurd (omega arith)
many_nodes n (key ∷ (other ∷ keys)) l = refl

lowest : (o lo : ℕ) (ts : Twigs) → AreTwigs o lo ts → lo ≤ 47 → (x : Entry) → InList x (entries ts) → lo ≤ at x.key o
lowest o lo ts h l x i = keys_upper o lo lo 47 ts h (rising_of o lo ts l h) x i

-- each twig's tree has as many nodes as its keys say, in n steps
abbrev Told : ℕ → Twigs → Type 0
Told n none = Unit {0}
Told n (twig p t rest) = (nodes_within n (keys_of (entries_of t)) ≡ nodes_of t) × Told n rest

sum_same : (f g : ℕ → ℕ) (k lo : ℕ) → ((q : ℕ) → lo ≤ q → f q ≡ g q) → sum_by f (range_with_len lo k) ≡ sum_by g (range_with_len lo k)
sum_same f g zero lo same = refl
sum_same f g (suc k) lo same =
    let a = same lo (omega arith) in let b = sum_same f g k (lo + 1) (λ q l. same q (omega arith)) in
    sum_by-cons f lo (range_with_len (lo + 1) k) ∙ (let c = sum_by-cons g lo (range_with_len (lo + 1) k) in omega arith)

abbrev part_nodes : ℕ → ℕ → List Entry → ℕ → ℕ
part_nodes n o es p = nodes_within n (part o p (keys_of es))

none_there : (n o p : ℕ) (es : List Entry) → ((e : Entry) → InList e es → at e.key o ≡ p → ⊥) → part_nodes n o es p ≡ 0
none_there n o p es never = ap (nodes_within n) (part_none o p es never) ∙ no_nodes n

parts_sum : (k n o lo : ℕ) (ts : Twigs) → lo + k ≡ 47 → AreTwigs o lo ts → Told n ts → sum_by (part_nodes n o (entries ts)) (range_with_len lo k) ≡ nodes_in ts
parts_sum zero n o lo none e a told = refl
parts_sum zero n o lo (twig p t rest) e a told = absurd (let x = a.0 in let y = a.1 in omega arith)
parts_sum (suc k) n o lo none e a told =
    let here = no_nodes n in
    let next = parts_sum k n o (lo + 1) none (omega arith) tt tt in
    sum_by-cons (part_nodes n o []) lo (range_with_len (lo + 1) k) ∙ omega arith
parts_sum (suc k) n o lo (twig p t rest) e a told = elim (cases_lt lo p) [
  | inl l ↦ later l (let above : lo + 1 ≤ p = omega arith in parts_sum k n o (lo + 1) (twig p t rest) (omega arith) (above, a.1, a.2, a.3, a.4) told)
  | inr g ↦ now g (let step : suc p ≡ lo + 1 = let x = a.0 in omega arith in parts_sum k n o (lo + 1) rest (omega arith) (subst (λ (i : ℕ). AreTwigs o i rest) step a.4) told.1)
]
  where
    later : lo < p → sum_by (part_nodes n o (entries_of t ++ entries rest)) (range_with_len (lo + 1) k) ≡ nodes_of t + nodes_in rest → sum_by (part_nodes n o (entries_of t ++ entries rest)) (range_with_len lo (suc k)) ≡ nodes_of t + nodes_in rest
    later l next =
        let least : p ≤ p = omega arith in
        let low : p ≤ 47 = let x = a.1 in omega arith in
        let here = none_there n o lo (entries_of t ++ entries rest) (λ x i same. let g = lowest o p (twig p t rest) (least, a.1, a.2, a.3, a.4) low x i in omega arith) in
        sum_by-cons (part_nodes n o (entries_of t ++ entries rest)) lo (range_with_len (lo + 1) k) ∙ omega arith

    now : p ≤ lo → sum_by (part_nodes n o (entries rest)) (range_with_len (lo + 1) k) ≡ nodes_in rest → sum_by (part_nodes n o (entries_of t ++ entries rest)) (range_with_len lo (suc k)) ≡ nodes_of t + nodes_in rest
    now g next =
        let same : p ≡ lo = let x = a.0 in omega arith in
        let high : suc p ≤ 47 = a.1 in
        let mine : part o lo (keys_of (entries_of t)) ≡ keys_of (entries_of t) = part_all o lo (entries_of t) (λ x i. a.2 x i ∙ same) in
        let others : part o lo (keys_of (entries rest)) ≡ [] = part_none o lo (entries rest) (λ x i f. let m = lowest o (suc p) rest a.4 high x i in omega arith) in
        let here : part_nodes n o (entries_of t ++ entries rest) lo ≡ nodes_of t =
        ap (nodes_within n) (part-append o lo (entries_of t) (entries rest) ∙ ap (λ ks. ks ++ part o lo (keys_of (entries rest))) mine ∙ ap (λ ks. keys_of (entries_of t) ++ ks) others ∙ append-nil (keys_of (entries_of t))) ∙ told.0 in
        let rests = sum_same (part_nodes n o (entries_of t ++ entries rest)) (part_nodes n o (entries rest)) k (lo + 1) (λ q m. ap (nodes_within n) (part-append o q (entries_of t) (entries rest)
        ∙ ap (λ ks. ks ++ part o q (keys_of (entries rest))) (part_none o q (entries_of t) (λ x i f. let w = a.2 x i in omega arith)))) in
        sum_by-cons (part_nodes n o (entries_of t ++ entries rest)) lo (range_with_len (lo + 1) k) ∙ omega arith

one_or_more : (low : ℕ) (t : Tree) → IsTree low t → 0 < length (entries_of t)
one_or_more low t h = some_in (entries_of t) (some_entry low t h)
  where
    some_in : (es : List Entry) → ((x : Entry) × InList x es) → 0 < length es
    some_in [] x = absurd x.1
    some_in (y ∷ es) x = omega arith

rest_some : (ts : Twigs) (o lo : ℕ) → AreTwigs o lo ts → 1 ≤ count ts → 0 < length (entries ts)
rest_some none o lo a l = absurd (omega arith)
rest_some (twig p t rest) o lo a l = let x = one_or_more (suc o) t a.3 in let y = length-append (entries_of t) (entries rest) in omega arith

mutual
  told_of : (t : Tree) (low n : ℕ) → IsTree low t → length (entries_of t) ≤ n → nodes_within n (keys_of (entries_of t)) ≡ nodes_of t
  told_of (leaf e w) low zero h l = absurd (omega arith)
  told_of (leaf e w) low (suc n) h l = one_node n e.key
  told_of (branch o w below) low zero h l = absurd (let x = one_or_more low (branch o w below) h in omega arith)
  told_of (branch o w below) low (suc n) h l =
      let two = two_of o 0 below h.5 h.3 in
      let long : 2 ≤ length (keys_of (entries below)) = let c = length-map (entries below) (λ (e : Entry). e.key) in let d = two_long o (entries below) two in omega arith in
      let at_o = first_is o (entries below) h.4 two h.1 in
      let sum = parts_sum 47 n o 0 below (omega arith) h.5 (told_in below o 0 n 0 h.5 (omega (arith, l)) (inr h.3)) in
      many_nodes n (keys_of (entries below)) long ∙ ap suc (sum_by-map (nodes_within n) (λ p. part (first_difference (keys_of (entries below))) p (keys_of (entries below))) (range_with_len 0 47) ∙ ap (λ i. sum_by (λ p. nodes_within n (part i p (keys_of (entries below)))) (range_with_len 0 47)) at_o ∙ sum)

  -- b entries lie in the twigs before these
  told_in : (ts : Twigs) (o lo n b : ℕ) → AreTwigs o lo ts → b + length (entries ts) ≤ suc n → (0 < b) ⊎ (2 ≤ count ts) → Told n ts
  told_in none o lo n b a l more = tt
  told_in (twig p t rest) o lo n b a l more =
      let whole = length-append (entries_of t) (entries rest) in
      let some = one_or_more (suc o) t a.3 in
      let fewer : length (entries_of t) ≤ n = elim more [ inl x ↦ omega arith | inr y ↦ (let z = rest_some rest o (suc p) a.4 (let c : 1 ≤ count rest = omega arith in c) in omega arith) ] in
      (told_of t (suc o) n a.3 fewer, told_in rest o (suc p) n (b + length (entries_of t)) a.4 (omega arith) (inl (omega arith)))

pub nodes-none : nodes [] ≡ 0
unfolding nodes
nodes-none = no_nodes 0

pub nodes_are : (low : ℕ) (t : Tree) → IsTree low t → nodes (keys_of (entries_of t)) ≡ nodes_of t
unfolding nodes
nodes_are low t h = told_of t low (length (keys_of (entries_of t))) h (let c = length-map (entries_of t) (λ (e : Entry). e.key) in omega arith)

-- ---- the cells
mutual
  pub reach_length : (low : ℕ) (t : Tree) → IsTree low t → suc (length (reach_below t)) ≡ nodes_of t + sum_by (λ (e : Entry). cells_in e.item) (entries_of t)
  reach_length low (leaf e x) h = let a = length-spots (length e.item) x h.1 in omega arith
  reach_length low (branch o w below) h = let a = reach_twigs_length o 0 below w h.5 in omega arith

  reach_twigs_length : (o low : ℕ) (ts : Twigs) (r : ℕ) → AreTwigs o low ts → length (reach_twigs r ts) ≡ nodes_in ts + sum_by (λ (e : Entry). cells_in e.item) (entries ts)
  reach_twigs_length o low none r h = refl
  reach_twigs_length o low (twig p t rest) r h =
      let a = reach_length (suc o) t h.3 in let b = reach_twigs_length o (suc p) rest (suc r) h.4 in
      let c = length-append (reach_below t) (reach_twigs (suc r) rest) in
      let d = sum_by-append (λ (e : Entry). cells_in e.item) (entries_of t) (entries rest) in omega arith

pub cells_are : (low r : ℕ) (t : Tree) → IsTree low t → length (reach r t) ≡ cells (entries_of t)
cells_are low r t h = let a = nodes_are low t h in let b = reach_length low t h in omega arith

pub nodes_le : (low : ℕ) (t : Tree) (r : ℕ) → IsTree low t → nodes_of t ≤ length (reach r t)
nodes_le low t r h = let a = reach_length low t h in omega arith
