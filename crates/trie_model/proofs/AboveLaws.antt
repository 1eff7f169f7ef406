-- Keys and the names that they are of: what is above, and what comes first.
use Rattle.std.proofs.Common.{◌≡◌, ℕ, zero, suc, ◌-◌, ◌<◌, ◌≤◌, ◌⊎◌, true, List, [], ◌∷◌, ◌++◌, length, take, drop, length-append, length-drop, take-append-drop, append_assoc, arith, inl, inr, refl, sym, ap, ◌∙◌, subst}
use Rattle.std.proofs.lemmas.Bool.{cases_lt}
use Rattle.std.proofs.lemmas.Bool.Decides.{nat_tests}
use Rattle.std.specs.List.{AllByRecursion}
use Rattle.std.specs.declared.cmp.Ordering.{Ordering}
use Rattle.std.specs.declared.cmp.Ordering.TheVariants.{Less, Equal, Greater}
use Rattle.std.specs.Ordering.{nat_cmp, ordering_then}
use Rattle.zone_model.specs.Names.{Name, IsLabel, is_under}
use Rattle.zone_model.specs.Keys.{key_of, label_positions, key_cmp}
use Rattle.zone_model.proofs.KeyLaws.{key_of-cons, key_once}
use Rattle.zone_model.proofs.OrderLemmas.{under_ends, ends_under}
use Rattle.trie_model.specs.Keys.{at}
use Rattle.trie_model.specs.Keys.{Less as Before}
use Rattle.trie_model.specs.Order.{begins}
use Rattle.trie_model.proofs.ChainLaws.{begins_rest, begins_same, begins_take, labels_le, labels_longer}
use Rattle.trie_model.proofs.NameLaws.{labels_of, key_ended}

-- ---- what is above
begins_of : (x rest : List ℕ) → begins x (x ++ rest) ≡ true
begins_of x rest = begins_same x (x ++ rest) (let n = length-append x rest in omega arith) (reads x)
  where
    reads : (xs : List ℕ) (i : ℕ) → i < length xs → at xs i ≡ at (xs ++ rest) i
    reads [] i l = absurd (omega arith)
    reads (p ∷ ps) zero l = refl
    reads (p ∷ ps) (suc i) l = reads ps i (omega arith)

begins_more : (x y z : List ℕ) → begins x y ≡ true → begins x (y ++ z) ≡ true
begins_more x y z e = let r = begins_rest x y e in subst (λ (k : List ℕ). begins x k ≡ true) (sym (ap (λ (k : List ℕ). k ++ z) r.1 ∙ append_assoc x r.0 z)) (begins_of x (r.0 ++ z))

top_begins : (front top : Name) → begins (key_of top) (key_of (front ++ top)) ≡ true
top_begins [] top = subst (λ (k : List ℕ). begins (key_of top) k ≡ true) (nothing (key_of top)) (begins_of (key_of top) [])
  where
    nothing : (k : List ℕ) → k ++ [] ≡ k
    nothing [] = refl
    nothing (p ∷ ps) = ap (λ (k : List ℕ). p ∷ k) (nothing ps)
top_begins (label ∷ front) top =
    subst (λ (k : List ℕ). begins (key_of top) k ≡ true) (sym (key_of-cons label (front ++ top))) (begins_more (key_of top) (key_of (front ++ top)) (label_positions label) (top_begins front top))

pub under_begins : (top name : Name) → is_under name top ≡ true → begins (key_of top) (key_of name) ≡ true
under_begins top name e = let u = under_ends name top e in subst (λ (n : Name). begins (key_of top) (key_of n) ≡ true) (sym u.1) (top_begins u.0 top)

each_of_end : (front back : Name) → AllByRecursion IsLabel (front ++ back) → AllByRecursion IsLabel back
each_of_end [] back h = h
each_of_end (label ∷ front) back h = each_of_end front back h.1

-- keys of as many labels that begin one key are one
same_beginning : (a c : Name) (k : List ℕ) → AllByRecursion IsLabel a → AllByRecursion IsLabel c → length a ≡ length c → begins (key_of a) k ≡ true → begins (key_of c) k ≡ true → a ≡ c
same_beginning a c k ha hc n ba bc =
    let la = labels_of a ha in let lc = labels_of c hc in
    let size : length (key_of a) ≡ length (key_of c) = elim (cases_lt (length (key_of a)) (length (key_of c))) [
      | inl l ↦ (let m = labels_longer (key_of a) (key_of c) k (key_ended c hc) ba bc l in absurd (omega arith))
      | inr g ↦ elim (cases_lt (length (key_of c)) (length (key_of a))) [ inl l ↦ (let m = labels_longer (key_of c) (key_of a) k (key_ended a ha) bc ba l in absurd (omega arith)) | inr m ↦ omega arith ]
    ] in
    key_once a c ha hc (begins_take (key_of a) k ba (length (key_of a)) refl ∙ sym (begins_take (key_of c) k bc (length (key_of a)) (sym size)))

pub begins_under : (top name : Name) → AllByRecursion IsLabel top → AllByRecursion IsLabel name → begins (key_of top) (key_of name) ≡ true → is_under name top ≡ true
begins_under top name ht hn e =
    let fewer : length top ≤ length name = let l = labels_le (key_of top) (key_of name) e in let a = labels_of top ht in let b = labels_of name hn in omega arith in
    let n = length name - length top in
    let whole = take-append-drop n name in
    let end = drop n name in
    let each = each_of_end (take n name) end (subst (AllByRecursion IsLabel) (sym whole) hn) in
    let count : length top ≡ length end = let l = length-drop n name in omega arith in
    let above : begins (key_of end) (key_of name) ≡ true = subst (λ (x : Name). begins (key_of end) (key_of x) ≡ true) whole (top_begins (take n name) end) in
    let same = same_beginning top end (key_of name) ht each count e above in
    subst (λ (x : Name). is_under x top ≡ true) whole (subst (λ (x : Name). is_under (take n name ++ end) x ≡ true) (sym same) (ends_under (take n name) end))

-- ---- what comes first
then_less : (o p : Ordering) → ordering_then o p ≡ Less → (o ≡ Less) ⊎ ((o ≡ Equal) × (p ≡ Less))
then_less Less p e = inl refl
then_less Equal p e = inr (refl, e)
then_less Greater p e = absurd cc

nat_less : (x y : ℕ) → nat_cmp x y ≡ Less → x < y
nat_less x y e = grind (arith, nat_tests)

nat_same : (x y : ℕ) → nat_cmp x y ≡ Equal → x ≡ y
nat_same x y e = grind (arith, nat_tests)

-- by the first position, or by those behind it
first_lower : (a b : List ℕ) → at a 0 < at b 0 → Before a b
first_lower a b l = record { place = 0; same = λ i m. absurd (omega arith); lower = l }

later_lower : (a b u v : List ℕ) → at a 0 ≡ at b 0 → ((i : ℕ) → at a (suc i) ≡ at u i) → ((i : ℕ) → at b (suc i) ≡ at v i) → Before u v → Before a b
later_lower a b u v first ta tb l = record { place = suc l.place; same = same; lower = (let x = ta l.place in let y = tb l.place in let m = l.lower in omega arith) }
  where
    same : (i : ℕ) → i < suc l.place → at a i ≡ at b i
    same zero m = first
    same (suc i) m = ta i ∙ l.same i (omega arith) ∙ sym (tb i)

pub cmp_before : (a b : List ℕ) → key_cmp a b ≡ Less → Before a b
cmp_before [] [] e = absurd cc
cmp_before [] (y ∷ ys) e = elim (then_less (nat_cmp 0 y) (key_cmp [] ys) e) [
  | inl l ↦ first_lower [] (y ∷ ys) (nat_less 0 y l)
  | inr m ↦ later_lower [] (y ∷ ys) [] ys (nat_same 0 y m.0) (λ i. refl) (λ i. refl) (cmp_before [] ys m.1)
]
cmp_before (x ∷ xs) [] e = elim (then_less (nat_cmp x 0) (key_cmp xs []) e) [
  | inl l ↦ (let z = nat_less x 0 l in absurd (omega arith))
  | inr m ↦ later_lower (x ∷ xs) [] xs [] (nat_same x 0 m.0) (λ i. refl) (λ i. refl) (cmp_before xs [] m.1)
]
cmp_before (x ∷ xs) (y ∷ ys) e = elim (then_less (nat_cmp x y) (key_cmp xs ys) e) [
  | inl l ↦ first_lower (x ∷ xs) (y ∷ ys) (nat_less x y l)
  | inr m ↦ later_lower (x ∷ xs) (y ∷ ys) xs ys (nat_same x y m.0) (λ i. refl) (λ i. refl) (cmp_before xs ys m.1)
]

before_cmp_from : (a b : List ℕ) (n : ℕ) → ((i : ℕ) → i < n → at a i ≡ at b i) → at a n < at b n → key_cmp a b ≡ Less
before_cmp_from [] [] n same l = absurd (omega arith)
before_cmp_from [] (y ∷ ys) zero same l = let e : nat_cmp 0 y ≡ Less = grind (arith, nat_tests) in ap (λ (o : Ordering). ordering_then o (key_cmp [] ys)) e
before_cmp_from [] (y ∷ ys) (suc n) same l = let f = same 0 (omega arith) in let e : nat_cmp 0 y ≡ Equal = grind (arith, nat_tests) in ap (λ (o : Ordering). ordering_then o (key_cmp [] ys)) e ∙ before_cmp_from [] ys n (λ i m. same (suc i) (omega arith)) l
before_cmp_from (x ∷ xs) [] zero same l = absurd (omega arith)
before_cmp_from (x ∷ xs) [] (suc n) same l = let f = same 0 (omega arith) in let e : nat_cmp x 0 ≡ Equal = grind (arith, nat_tests) in ap (λ (o : Ordering). ordering_then o (key_cmp xs [])) e ∙ before_cmp_from xs [] n (λ i m. same (suc i) (omega arith)) l
before_cmp_from (x ∷ xs) (y ∷ ys) zero same l = let e : nat_cmp x y ≡ Less = grind (arith, nat_tests) in ap (λ (o : Ordering). ordering_then o (key_cmp xs ys)) e
before_cmp_from (x ∷ xs) (y ∷ ys) (suc n) same l = let f = same 0 (omega arith) in let e : nat_cmp x y ≡ Equal = grind (arith, nat_tests) in ap (λ (o : Ordering). ordering_then o (key_cmp xs ys)) e ∙ before_cmp_from xs ys n (λ i m. same (suc i) (omega arith)) l

pub before_cmp : (a b : List ℕ) → Before a b → key_cmp a b ≡ Less
before_cmp a b l = before_cmp_from a b l.place l.same l.lower
