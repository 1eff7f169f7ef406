-- Keys that begin a key: the names at or above its name.
use Rattle.std.proofs.Common.{◌≡◌, ℕ, zero, suc, ◌+◌, ◌-◌, ◌<◌, ◌≤◌, Bool, true, false, cond, eqb, ◌&&◌, List, [], ◌∷◌, ◌++◌, length, take, map, arith, inl, inr, refl, sym, ap, ◌∙◌, subst, length-append, true≢false}
use Rattle.std.proofs.lemmas.Bool.{cases_lt}
use Rattle.std.proofs.lemmas.Bool.Decides.{nat_tests}
use Rattle.std.proofs.lemmas.List.{get_or_past, get_or_append_left, length-map, take_at}
use Rattle.std.proofs.lemmas.List.Elements.{filter-append}
use Rattle.std.proofs.lemmas.List.Sums.{sum_by-cons, sum_by-append}
use Rattle.trie_model.specs.Extents.{Extents}
use Rattle.trie_model.specs.Keys.{at, Same, IsKey, Entry, InList, Less, Rises}
use Rattle.trie_model.specs.Order.{begins, EndsAt, chain, chain_labels, labels_in}
use Rattle.trie_model.specs.Trees.{Tree, Twigs, entries_of, entries, IsTree, AreTwigs}
use Rattle.trie_model.specs.Trees.Tree.{leaf, branch}
use Rattle.trie_model.specs.Trees.Twigs.{none, twig}
use Rattle.trie_model.proofs.KeyLaws.{in_left}
use Rattle.trie_model.proofs.GrowthLaws.{each_of}
use Rattle.trie_model.proofs.ShapeLaws.{two_of}
use Rattle.trie_model.proofs.BitmapLaws.{Rising}
use Rattle.trie_model.proofs.SplitLaws.{keys_lower, keys_upper}

eqb_same : (a b : ℕ) → a ≡ b → eqb a b ≡ true
eqb_same a b e = grind (arith, nat_tests)

eqb_tells : (a b : ℕ) → eqb a b ≡ true → a ≡ b
eqb_tells a b e = grind (arith, nat_tests)

both : (a b : Bool) → (a && b) ≡ true → (a ≡ true) × (b ≡ true)
both true b e = (refl, e)
both false b e = absurd (true≢false (sym e))

pub not_so : (b : Bool) → (b ≡ true → ⊥) → b ≡ false
not_so true never = absurd (never refl)
not_so false never = refl

-- ---- what a beginning is
pub begins_rest : (x k : List ℕ) → begins x k ≡ true → (rest : List ℕ) × (k ≡ x ++ rest)
begins_rest [] k e = (k, refl)
begins_rest (p ∷ ps) [] e = absurd (true≢false (sym e))
begins_rest (p ∷ ps) (q ∷ qs) e =
    let b = both (eqb p q) (begins ps qs) e in let r = begins_rest ps qs b.1 in
    (r.0, ap (λ (ys : List ℕ). q ∷ ys) r.1 ∙ ap (λ (n : ℕ). n ∷ (ps ++ r.0)) (sym (eqb_tells p q b.0)))

pub begins_same : (x k : List ℕ) → length x ≤ length k → ((i : ℕ) → i < length x → at x i ≡ at k i) → begins x k ≡ true
begins_same [] k l same = refl
begins_same (p ∷ ps) [] l same = absurd (omega arith)
begins_same (p ∷ ps) (q ∷ qs) l same =
    ap (λ (b : Bool). b && begins ps qs) (eqb_same p q (same 0 (omega arith))) ∙ begins_same ps qs (omega arith) (λ i m. same (suc i) (omega arith))

pub begins_short : (x k : List ℕ) → begins x k ≡ true → length x ≤ length k
begins_short x k e = let r = begins_rest x k e in let l = ap (λ (ys : List ℕ). length ys) r.1 in let n = length-append x r.0 in omega arith

pub begins_reads : (x k : List ℕ) → begins x k ≡ true → (i : ℕ) → i < length x → at x i ≡ at k i
begins_reads x k e i l = let r = begins_rest x k e in sym (ap (λ (ys : List ℕ). at ys i) r.1 ∙ get_or_append_left x r.0 0 i l)

pub begins_take : (x k : List ℕ) → begins x k ≡ true → (n : ℕ) → length x ≡ n → x ≡ take n k
begins_take x k e n l = let r = begins_rest x k e in sym (ap (take n) r.1 ∙ take_at x r.0 n l)

pub not_begins : (x k : List ℕ) (o : ℕ) → 0 < at x o → (at x o ≡ at k o → ⊥) → begins x k ≡ false
not_begins x k o some apart = not_so (begins x k) (λ e. elim (cases_lt o (length x)) [
  | inl l ↦ apart (begins_reads x k e o l)
  | inr g ↦ (let past = get_or_past x o 0 g in omega arith)
])

pub read_inside : (k : List ℕ) (o : ℕ) → 0 < at k o → o < length k
read_inside k o some = elim (cases_lt o (length k)) [ inl l ↦ l | inr g ↦ (let past = get_or_past k o 0 g in absurd (omega arith)) ]

-- a key that ends by o, and agrees so far with one that goes on there, has just o positions
whole_to : (o : ℕ) (k x : List ℕ) → IsKey k → IsKey x → Same o k x → 0 < at k o → length x ≤ o → length x ≡ o
whole_to o k x kk kx same some l = elim (cases_lt (length x) o) [
  | inl m ↦ (
      let inside = read_inside k o some in
      let end : at k (length x) ≡ 0 = same (length x) m ∙ get_or_past x (length x) 0 (omega arith) in
      let f = kk.full (length x) (omega arith) end in
      let s : suc f.0 ≡ length x = sym f.1 in
      let last = kx.ended f.0 s in
      let read = same f.0 (omega arith) in
      let there = f.2 in absurd (omega arith)
      )
  | inr g ↦ omega arith
]

ends_alike : (o : ℕ) (k x : List ℕ) → Same o k x → EndsAt o k → EndsAt o x
ends_alike o k x same (inl e) = inl e
ends_alike o k x same (inr e) = elim (cases_lt 0 o) [
  | inl l ↦ inr (sym (same (o - 1) (omega arith)) ∙ e)
  | inr g ↦ inl (omega arith)
]

ended_by : (o : ℕ) (x : List ℕ) → IsKey x → at x o ≡ 0 → EndsAt o x → length x ≤ o
ended_by o x kx e ends = elim (cases_lt o (length x)) [
  | inl l ↦ (
      let f = kx.full o l e in let there = f.2 in let is = f.1 in
      absurd (elim ends [ inl z ↦ omega arith | inr z ↦ (let p : o - 1 ≡ f.0 = omega arith in let r = subst (λ (i : ℕ). at x i ≡ 0) p z in omega arith) ])
      )
  | inr g ↦ g
]

-- the key that ends at o where another goes on begins it
pub ends_here : (o : ℕ) (k x : List ℕ) → IsKey k → IsKey x → Same o k x → 0 < at k o → at x o ≡ 0 → EndsAt o k → (begins x k ≡ true) × (length x ≡ o)
ends_here o k x kk kx same some e ends =
    let n = whole_to o k x kk kx same some (ended_by o x kx e (ends_alike o k x same ends)) in
    let inside = read_inside k o some in
    (begins_same x k (omega arith) (λ i l. sym (same i (omega arith))), n)

-- where no label of it ends, no key ends that begins it
pub ends_nowhere : (o : ℕ) (k x : List ℕ) → IsKey k → IsKey x → Same o k x → 0 < at k o → at x o ≡ 0 → (EndsAt o k → ⊥) → begins x k ≡ false
ends_nowhere o k x kk kx same some e never = not_so (begins x k) (λ b. elim (cases_lt o (length x)) [
  | inl l ↦ (let r = begins_reads x k b o l in omega arith)
  | inr g ↦ (
      let n = whole_to o k x kk kx same some g in
      elim (cases_lt 0 o) [
        | inl l ↦ (let s : suc (o - 1) ≡ length x = omega arith in never (inr (same (o - 1) (omega arith) ∙ kx.ended (o - 1) s)))
        | inr m ↦ never (inl (omega arith))
      ]
      )
])

-- ---- the chain of a list in parts
pub chain-append : (k : List ℕ) (a b : List Entry) → chain k (a ++ b) ≡ chain k a ++ chain k b
chain-append k a b = let test : Entry → Bool = λ e. begins e.key k in filter-append test a b

pub chain_skip : (k : List ℕ) (x : Entry) (es : List Entry) → begins x.key k ≡ false → chain_labels k (x ∷ es) ≡ chain_labels k es
chain_skip k x es e = ap (λ (b : Bool). map (λ (y : Entry). labels_in y.key) (cond b (x ∷ chain k es) (chain k es))) e

pub chain_take : (k : List ℕ) (x : Entry) (es : List Entry) → begins x.key k ≡ true → chain_labels k (x ∷ es) ≡ labels_in x.key ∷ chain_labels k es
chain_take k x es e = ap (λ (b : Bool). map (λ (y : Entry). labels_in y.key) (cond b (x ∷ chain k es) (chain k es))) e

pub chain_with : (k : List ℕ) (x : Entry) (es : List Entry) → begins x.key k ≡ true → chain k (x ∷ es) ≡ x ∷ chain k es
chain_with k x es e = ap (λ (b : Bool). cond b (x ∷ chain k es) (chain k es)) e

pub chain_none : (k : List ℕ) (es : List Entry) → ((x : Entry) → InList x es → begins x.key k ≡ false) → chain k es ≡ []
chain_none k [] never = refl
chain_none k (x ∷ es) never = ap (λ (b : Bool). cond b (x ∷ chain k es) (chain k es)) (never x (inl refl)) ∙ chain_none k es (λ y i. never y (inr i))

-- ---- the twigs before a key's own
-- a tree whose keys are one is a leaf
pub single : (low : ℕ) (t : Tree) → IsTree low t → ((x y : Entry) → InList x (entries_of t) → InList y (entries_of t) → x.key ≡ y.key) → (e : Entry) × ((w : Extents) × (t ≡ leaf e w))
single low (leaf e w) h same = (e, (w, refl))
single low (branch o w below) h same =
    let two = two_of o 0 below h.5 h.3 in
    let read = ap (λ (k : List ℕ). at k o) (same two.x two.y two.x_in two.y_in) in let apart = two.apart in absurd (omega arith)

between : (o lo : ℕ) (k : List ℕ) (ts : Twigs) → 0 < lo → AreTwigs o lo ts → Rising lo (at k o) ts → chain k (entries ts) ≡ []
between o lo k ts some a r = chain_none k (entries ts) (λ x i.
    let below = keys_lower o lo (at k o) ts a r x i in let above = keys_upper o lo lo (at k o) ts a r x i in
    not_begins x.key k o (omega arith) (λ e. omega arith))

-- all keys of a tree end where a label of another key does, and agree with it up to there: the tree is a leaf, of a name above the key's
pub record Above (o : ℕ) (k : List ℕ) (t : Tree) : Type 0 where
  pub entry : Entry
  pub extents : Extents
  pub is : t ≡ leaf entry extents
  pub begins : begins entry.key k ≡ true
  pub key : entry.key ≡ take o k

pub above_of : (low o : ℕ) (k : List ℕ) (t : Tree) → IsKey k → 0 < at k o → EndsAt o k → IsTree low t → ((x : Entry) → InList x (entries_of t) → IsKey x.key) → ((x : Entry) → InList x (entries_of t) → Same o k x.key) → ((x : Entry) → InList x (entries_of t) → at x.key o ≡ 0) → Above o k t
above_of low o k t kk some ends tree keys same ends_all =
    let here : (x : Entry) → InList x (entries_of t) → (begins x.key k ≡ true) × (length x.key ≡ o) = λ x i. ends_here o k x.key kk (keys x i) (same x i) some (ends_all x i) ends in
    let taken : (x : Entry) → InList x (entries_of t) → x.key ≡ take o k = λ x i. let h = here x i in begins_take x.key k h.0 o h.1 in
    let one = single low t tree (λ x y i j. taken x i ∙ sym (taken y j)) in
    let there : InList one.0 (entries_of t) = subst (λ (u : Tree). InList one.0 (entries_of u)) (sym one.1.1) (inl refl) in
    record { entry = one.0; extents = one.1.0; is = one.1.1; begins = (here one.0 there).0; key = taken one.0 there }

-- the names above among the twigs before the key's own: there is one where the first twig is for keys that end here, and a label of the key ends here too
pub chain_above : (o : ℕ) (k : List ℕ) (t : Tree) (rest : Twigs) → IsKey k → AreTwigs o 0 (twig 0 t rest) → Rising 0 (at k o) (twig 0 t rest) → ((x : Entry) → InList x (entries (twig 0 t rest)) → Same o k x.key) → EndsAt o k →
    (h : Above o k t) × (chain k (entries (twig 0 t rest)) ≡ h.entry ∷ [])
chain_above o k t rest kk a r same ends =
    let into : (x : Entry) → InList x (entries_of t) → InList x (entries (twig 0 t rest)) = λ x i. in_left x (entries_of t) (entries rest) i in
    let h = above_of (suc o) o k t kk (let l = r.1 in omega arith) ends a.3 (λ x i. (each_of o 0 (twig 0 t rest) a x (into x i)).key) (λ x i. same x (into x i)) a.2 in (
      h,
      ap (λ (u : Tree). chain k (entries_of u ++ entries rest)) h.is ∙ chain_with k h.entry (entries rest) h.begins ∙ ap (λ (es : List Entry). h.entry ∷ es) (between o 1 k rest (omega arith) a.4 r.2),
    )

-- else there is none
pub chain_beside : (o : ℕ) (k : List ℕ) (ts : Twigs) → IsKey k → AreTwigs o 0 ts → Rising 0 (at k o) ts → ((x : Entry) → InList x (entries ts) → Same o k x.key) → ((t : Tree) (rest : Twigs) → ts ≡ twig 0 t rest → EndsAt o k → ⊥) → chain k (entries ts) ≡ []
chain_beside o k none kk a r same never = refl
chain_beside o k (twig q t rest) kk a r same never = elim (cases_lt 0 q) [
  | inl l ↦ between o q k (twig q t rest) l (let z : q ≤ q = omega arith in z, a.1, a.2, a.3, a.4) (let z : q ≤ q = omega arith in z, r.1, r.2)
  | inr g ↦ (
      let zero : q ≡ 0 = omega arith in
      let some : 0 < at k o = let l = r.1 in omega arith in
      let here = chain_none k (entries_of t) (λ x i.
      ends_nowhere o k x.key kk (each_of o 0 (twig q t rest) a x (in_left x (entries_of t) (entries rest) i)).key (same x (in_left x (entries_of t) (entries rest) i)) some (a.2 x i ∙ zero) (never t rest (ap (λ (n : ℕ). twig n t rest) zero))) in
      chain-append k (entries_of t) (entries rest) ∙ ap (λ (ns : List Entry). ns ++ chain k (entries rest)) here ∙ between o (suc q) k rest (omega arith) a.4 r.2
      )
]

-- ---- how long a chain is
labels-cons : (p : ℕ) (ps : List ℕ) → labels_in (p ∷ ps) ≡ cond (eqb p 0) 1 0 + labels_in ps
labels-cons p ps = sum_by-cons (λ (q : ℕ). cond (eqb q 0) 1 0) p ps

pub labels-append : (a b : List ℕ) → labels_in (a ++ b) ≡ labels_in a + labels_in b
labels-append a b = sum_by-append (λ (q : ℕ). cond (eqb q 0) 1 0) a b

pub labels_end : (p : ℕ) (ps : List ℕ) → eqb p 0 ≡ true → labels_in (p ∷ ps) ≡ 1 + labels_in ps
labels_end p ps e = labels-cons p ps ∙ ap (λ (b : Bool). cond b 1 0 + labels_in ps) e

pub labels_within : (p : ℕ) (ps : List ℕ) → eqb p 0 ≡ false → labels_in (p ∷ ps) ≡ labels_in ps
labels_within p ps e = labels-cons p ps ∙ ap (λ (b : Bool). cond b 1 0 + labels_in ps) e ∙ (let z : 0 + labels_in ps ≡ labels_in ps = omega arith in z)

some_label : (z : List ℕ) (i : ℕ) → i < length z → at z i ≡ 0 → 0 < labels_in z
some_label [] i l e = absurd (omega arith)
some_label (p ∷ ps) zero l e = let n = labels_end p ps (eqb_same p 0 e) in omega arith
some_label (p ∷ ps) (suc i) l e = let n = labels-cons p ps in let m = some_label ps i (omega arith) e in omega arith

pub labels_le : (x k : List ℕ) → begins x k ≡ true → labels_in x ≤ labels_in k
labels_le x k e = let r = begins_rest x k e in let n = ap labels_in r.1 in let m = labels-append x r.0 in omega arith

reads_behind : (a b : List ℕ) (i : ℕ) → at (a ++ b) (length a + i) ≡ at b i
reads_behind [] b i = let z : 0 + i ≡ i = omega arith in ap (λ (n : ℕ). at b n) z
reads_behind (p ∷ ps) b i = let z : suc (length ps) + i ≡ suc (length ps + i) = omega arith in ap (λ (n : ℕ). at (p ∷ (ps ++ b)) n) z ∙ reads_behind ps b i

-- of two names at or above one, the longer has more labels
pub labels_longer : (x y k : List ℕ) → ((i : ℕ) → suc i ≡ length y → at y i ≡ 0) → begins x k ≡ true → begins y k ≡ true → length x < length y → labels_in x < labels_in y
labels_longer x y k ended bx by longer =
    let part = begins_rest x y (begins_same x y (omega arith) (λ i l. begins_reads x k bx i l ∙ sym (begins_reads y k by i (omega arith)))) in
    let n : length y ≡ length x + length part.0 = ap (λ (ys : List ℕ). length ys) part.1 ∙ length-append x part.0 in
    let s : suc (length y - 1) ≡ length y = omega arith in
    let m : length x + (length part.0 - 1) ≡ length y - 1 = omega arith in
    let last : at y (length x + (length part.0 - 1)) ≡ 0 = ap (λ (i : ℕ). at y i) m ∙ ended (length y - 1) s in
    let read : at y (length x + (length part.0 - 1)) ≡ at part.0 (length part.0 - 1) = ap (λ (ys : List ℕ). at ys (length x + (length part.0 - 1))) part.1 ∙ reads_behind x part.0 (length part.0 - 1) in
    let more = some_label part.0 (length part.0 - 1) (omega arith) (sym read ∙ last) in
    let sum = ap labels_in part.1 ∙ labels-append x part.0 in omega arith

labels_rise : (x y k : List ℕ) → IsKey y → begins x k ≡ true → begins y k ≡ true → Less x y → labels_in x < labels_in y
labels_rise x y k ky bx by less =
    let some : 0 < at y less.place = let l = less.lower in omega arith in
    let inside = read_inside y less.place some in
    let past : length x ≤ less.place = elim (cases_lt less.place (length x)) [
      | inl l ↦ (let a = begins_reads x k bx less.place l in let b = begins_reads y k by less.place inside in let c = less.lower in absurd (omega arith))
      | inr g ↦ g
    ] in
    labels_longer x y k ky.ended bx by (omega arith)

few_from : (k : List ℕ) (es : List Entry) (m : ℕ) → Rises es → ((x : Entry) → InList x es → IsKey x.key) → ((x : Entry) → InList x es → begins x.key k ≡ true → m ≤ labels_in x.key) → length (chain_labels k es) ≤ labels_in k + 1 - m
few_from k [] m rises keys least = omega arith
few_from k (x ∷ es) m rises keys least = go (begins x.key k) refl (λ m. few_from k es m rises.1 (λ y i. keys y (inr i)))
  where
    go : (b : Bool) → begins x.key k ≡ b → ((m : ℕ) → ((y : Entry) → InList y es → begins y.key k ≡ true → m ≤ labels_in y.key) → length (chain_labels k es) ≤ labels_in k + 1 - m) → length (chain_labels k (x ∷ es)) ≤ labels_in k + 1 - m
    go false e rest = let h = rest m (λ y i. least y (inr i)) in let n = ap (λ (ns : List ℕ). length ns) (chain_skip k x es e) in omega arith
    go true e rest =
        let h = rest (labels_in x.key + 1) (λ y i b. let r = labels_rise x.key y.key k (keys y (inr i)) e b (rises.0 y i) in omega arith) in
        let n = ap (λ (ns : List ℕ). length ns) (chain_take k x es e) in let a = least x (inl refl) e in let b = labels_le x.key k e in omega arith

pub chain_few : (k : List ℕ) (es : List Entry) → Rises es → ((x : Entry) → InList x es → IsKey x.key) → length (chain k es) ≤ labels_in k + 1
chain_few k es rises keys = let h = few_from k es 0 rises keys (λ x i e. omega arith) in let n = length-map (chain k es) (λ (e : Entry). labels_in e.key) in omega arith
