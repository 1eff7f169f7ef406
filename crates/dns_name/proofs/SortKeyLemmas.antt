-- Sort keys compare as their names do.
use Rattle.std.proofs.Common.{◌≡◌, ◌∙◌, ℕ, zero, suc, ◌+◌, ◌*◌, ◌<◌, ◌≤◌, ◌^◌, ◌-◌, get_or, Bool, true, false, List, [], ◌∷◌, ◌++◌, length, drop, reverse, take, min, refl, sym, ap, subst, arith, add-one, append_assoc, append-nil, inl, inr, ltb, lit<}
use Rattle.std.proofs.lemmas.Bool.{cases_lt}
use Rattle.std.proofs.Math.Nat.{pow-succ'}
use Rattle.std.proofs.lemmas.Bool.Decides.{nat_tests}
use Rattle.std.proofs.lemmas.List.{reverse-append, take_all, drop_all, length-drop}
use Rattle.std.proofs.Math.Seq.{take-nil}
use Rattle.std.specs.List.{AllByRecursion, flat_map, slice_range}
use Rattle.std.specs.declared.cmp.Ordering.{Ordering}
use Rattle.std.specs.declared.cmp.Ordering.TheVariants.{Less, Equal, Greater}
use Rattle.std.specs.Ordering.{nat_cmp, ordering_then}
use Rattle.std.specs.Cmp.Lexicographic.{slice_cmp}
use Rattle.zone_model.specs.Names.{Label, Name, name_cmp, IsLabel, IsName}
use Rattle.dns_name.specs.SortKeys.{escaped, label_key, sort_key, weight, IsKeyOf, KeyBelow, key_cmp}
use Rattle.dns_name.specs.declared.sort_key.SortKey.{SortKey}

octets_cmp : List ℕ → List ℕ → Ordering
octets_cmp = slice_cmp nat_cmp

nat_cmp-less : (x y : ℕ) → x < y → nat_cmp x y ≡ Less
nat_cmp-less x y h = grind (arith, nat_tests)

nat_cmp-greater : (x y : ℕ) → y < x → nat_cmp x y ≡ Greater
nat_cmp-greater x y h = grind (arith, nat_tests)

nat_cmp-same : (x : ℕ) → nat_cmp x x ≡ Equal
nat_cmp-same x = grind (arith, nat_tests)

then_assoc : (o p q : Ordering) → ordering_then (ordering_then o p) q ≡ ordering_then o (ordering_then p q)
then_assoc Less p q = refl
then_assoc Equal p q = refl
then_assoc Greater p q = refl

decided : (o p : Ordering) → o ≡ Less → ordering_then o p ≡ Less
decided o p e = ap (λ (x : Ordering). ordering_then x p) e

decided_greater : (o p : Ordering) → o ≡ Greater → ordering_then o p ≡ Greater
decided_greater o p e = ap (λ (x : Ordering). ordering_then x p) e

passed : (o p : Ordering) → o ≡ Equal → ordering_then o p ≡ p
passed o p e = ap (λ (x : Ordering). ordering_then x p) e

-- ---- one octet

next_cmp : (c d : ℕ) → nat_cmp (c + 1) (d + 1) ≡ nat_cmp c d
next_cmp c d = elim (cases_lt c d) [
  | inl lt ↦ nat_cmp-less (c + 1) (d + 1) (omega arith) ∙ sym (nat_cmp-less c d lt)
  | inr ge ↦ elim (cases_lt d c) [
    | inl gt ↦ nat_cmp-greater (c + 1) (d + 1) (omega arith) ∙ sym (nat_cmp-greater c d gt)
    | inr le ↦ let same : c ≡ d = omega arith in ap (λ (n : ℕ). nat_cmp (n + 1) (d + 1)) same ∙ nat_cmp-same (d + 1) ∙ sym (nat_cmp-same d) ∙ ap (λ (n : ℕ). nat_cmp n d) (sym same)
  ]
]

octet_cmp : (c d : ℕ) (u v : List ℕ) → slice_cmp nat_cmp (escaped c ++ u) (escaped d ++ v) ≡ ordering_then (nat_cmp c d) (slice_cmp nat_cmp u v)
octet_cmp c d u v = by_tests (ltb c 2) (ltb d 2) refl refl
  where
    by_tests : (a b : Bool) → ltb c 2 ≡ a → ltb d 2 ≡ b → slice_cmp nat_cmp (escaped c ++ u) (escaped d ++ v) ≡ ordering_then (nat_cmp c d) (slice_cmp nat_cmp u v)
    by_tests true true e f = rw (e, f) (ap (λ (o : Ordering). ordering_then o (slice_cmp nat_cmp u v)) (next_cmp c d))
    by_tests true false e f = rw (e, f) (decided (nat_cmp 1 d) (slice_cmp nat_cmp ((c + 1) ∷ u) v) (nat_cmp-less 1 d (grind (arith, nat_tests))) ∙ sym (decided (nat_cmp c d) (slice_cmp nat_cmp u v) (nat_cmp-less c d (grind (arith, nat_tests)))))
    by_tests false true e f = rw (e, f) (decided_greater (nat_cmp c 1) (slice_cmp nat_cmp u ((d + 1) ∷ v)) (nat_cmp-greater c 1 (grind (arith, nat_tests))) ∙ sym (decided_greater (nat_cmp c d) (slice_cmp nat_cmp u v) (nat_cmp-greater c d (grind (arith, nat_tests)))))
    by_tests false false e f = rw (e, f) refl

-- an octet comes after the end of a label
end_less : (d : ℕ) (u v : List ℕ) → slice_cmp nat_cmp (0 ∷ u) (escaped d ++ v) ≡ Less
end_less d u v = by_test (ltb d 2) refl
  where
    by_test : (b : Bool) → ltb d 2 ≡ b → slice_cmp nat_cmp (0 ∷ u) (escaped d ++ v) ≡ Less
    by_test true f = rw f refl
    by_test false f = rw f (decided (nat_cmp 0 d) (slice_cmp nat_cmp u v) (nat_cmp-less 0 d (grind (arith, nat_tests))))

end_greater : (c : ℕ) (u v : List ℕ) → slice_cmp nat_cmp (escaped c ++ u) (0 ∷ v) ≡ Greater
end_greater c u v = by_test (ltb c 2) refl
  where
    by_test : (b : Bool) → ltb c 2 ≡ b → slice_cmp nat_cmp (escaped c ++ u) (0 ∷ v) ≡ Greater
    by_test true f = rw f refl
    by_test false f = rw f (decided_greater (nat_cmp c 0) (slice_cmp nat_cmp u v) (nat_cmp-greater c 0 (grind (arith, nat_tests))))

-- ---- labels and names

label_cmp : (l m : Label) (u v : List ℕ) → slice_cmp nat_cmp (label_key l ++ u) (label_key m ++ v) ≡ ordering_then (slice_cmp nat_cmp l m) (slice_cmp nat_cmp u v)
label_cmp [] [] u v = refl
label_cmp [] (d ∷ ds) u v = ap (slice_cmp nat_cmp (0 ∷ u)) (append_assoc (escaped d) (label_key ds) v) ∙ end_less d u (label_key ds ++ v)
label_cmp (c ∷ cs) [] u v = ap (λ (k : List ℕ). slice_cmp nat_cmp k (0 ∷ v)) (append_assoc (escaped c) (label_key cs) u) ∙ end_greater c (label_key cs ++ u) v
label_cmp (c ∷ cs) (d ∷ ds) u v =
    ap (λ (k : List ℕ). slice_cmp nat_cmp k ((escaped d ++ label_key ds) ++ v)) (append_assoc (escaped c) (label_key cs) u)
    ∙ ap (slice_cmp nat_cmp (escaped c ++ (label_key cs ++ u))) (append_assoc (escaped d) (label_key ds) v)
    ∙ octet_cmp c d (label_key cs ++ u) (label_key ds ++ v)
    ∙ ap (ordering_then (nat_cmp c d)) (label_cmp cs ds u v) ∙ sym (then_assoc (nat_cmp c d) (slice_cmp nat_cmp cs ds) (slice_cmp nat_cmp u v))

none_less : (m : Label) (v : List ℕ) → slice_cmp nat_cmp [] (label_key m ++ v) ≡ Less
none_less [] v = refl
none_less (d ∷ ds) v = by_test (ltb d 2) refl
  where
    by_test : (b : Bool) → ltb d 2 ≡ b → slice_cmp nat_cmp [] (label_key (d ∷ ds) ++ v) ≡ Less
    by_test true f = rw f refl
    by_test false f = rw f refl

none_greater : (m : Label) (v : List ℕ) → slice_cmp nat_cmp (label_key m ++ v) [] ≡ Greater
none_greater [] v = refl
none_greater (d ∷ ds) v = by_test (ltb d 2) refl
  where
    by_test : (b : Bool) → ltb d 2 ≡ b → slice_cmp nat_cmp (label_key (d ∷ ds) ++ v) [] ≡ Greater
    by_test true f = rw f refl
    by_test false f = rw f refl

labels_cmp : (x y : List Label) → slice_cmp nat_cmp (flat_map label_key x) (flat_map label_key y) ≡ slice_cmp (slice_cmp nat_cmp) x y
labels_cmp [] [] = refl
labels_cmp [] (m ∷ ms) = none_less m (flat_map label_key ms)
labels_cmp (l ∷ ls) [] = none_greater l (flat_map label_key ls)
labels_cmp (l ∷ ls) (m ∷ ms) = label_cmp l m (flat_map label_key ls) (flat_map label_key ms) ∙ ap (ordering_then (slice_cmp nat_cmp l m)) (labels_cmp ls ms)

flat_map-append : (x y : List Label) → flat_map label_key (x ++ y) ≡ flat_map label_key x ++ flat_map label_key y
flat_map-append [] y = refl
flat_map-append (l ∷ ls) y = ap (λ (k : List ℕ). label_key l ++ k) (flat_map-append ls y) ∙ sym (append_assoc (label_key l) (flat_map label_key ls) (flat_map label_key y))

from_root : (name : Name) → sort_key name ≡ flat_map label_key (reverse name)
from_root [] = refl
from_root (l ∷ ls) =
    ap (λ (k : List ℕ). k ++ label_key l) (from_root ls) ∙ ap (λ (k : List ℕ). flat_map label_key (reverse ls) ++ k) (sym (append-nil (label_key l)))
    ∙ sym (flat_map-append (reverse ls) (l ∷ [])) ∙ ap (flat_map label_key) (sym (reverse-append (l ∷ []) ls))

pub sort_key-cmp : (a b : Name) → slice_cmp nat_cmp (sort_key a) (sort_key b) ≡ name_cmp a b
sort_key-cmp a b = ap (λ (k : List ℕ). slice_cmp nat_cmp k (sort_key b)) (from_root a) ∙ ap (slice_cmp nat_cmp (flat_map label_key (reverse a))) (from_root b) ∙ labels_cmp (reverse a) (reverse b)

-- ---- names under one name

label_same : (l : Label) → slice_cmp nat_cmp l l ≡ Equal
label_same [] = refl
label_same (c ∷ cs) = passed (nat_cmp c c) (slice_cmp nat_cmp cs cs) (nat_cmp-same c) ∙ label_same cs

same_front : (x u v : List Label) → slice_cmp (slice_cmp nat_cmp) (x ++ u) (x ++ v) ≡ slice_cmp (slice_cmp nat_cmp) u v
same_front [] u v = refl
same_front (l ∷ ls) u v = passed (slice_cmp nat_cmp l l) (slice_cmp (slice_cmp nat_cmp) (ls ++ u) (ls ++ v)) (label_same l) ∙ same_front ls u v

-- what stands in front of a name decides
pub below-cmp : (f g top : Name) → name_cmp (f ++ top) (g ++ top) ≡ name_cmp f g
below-cmp f g top =
    ap (λ (n : List Label). slice_cmp (slice_cmp nat_cmp) n (reverse (g ++ top))) (reverse-append f top) ∙ ap (slice_cmp (slice_cmp nat_cmp) (reverse top ++ reverse f)) (reverse-append g top)
    ∙ same_front (reverse top) (reverse f) (reverse g)

-- ---- the first octets as a number

abbrev pub AreOctets : List ℕ → Type 0
AreOctets = AllByRecursion (λ c. c < 256)

weight-less : (n a b : ℕ) (x y : List ℕ) → AreOctets x → AreOctets y → a < b → weight n a x < weight n b y
unfolding weight
weight-less zero a b x y hx hy h = h
weight-less (suc n) a b [] [] hx hy h = weight-less n (512 * a) (512 * b) [] [] hx hy (omega arith)
weight-less (suc n) a b [] (d ∷ y) hx hy h = weight-less n (512 * a) (512 * b + d + 1) [] y hx hy.1 (omega arith)
weight-less (suc n) a b (c ∷ x) [] hx hy h = let s : c < 256 = hx.0 in weight-less n (512 * a + c + 1) (512 * b) x [] hx.1 hy (omega arith)
weight-less (suc n) a b (c ∷ x) (d ∷ y) hx hy h = let s : c < 256 = hx.0 in weight-less n (512 * a + c + 1) (512 * b + d + 1) x y hx.1 hy.1 (omega arith)

weight-none : (n a : ℕ) → nat_cmp (weight n a []) (weight n a []) ≡ Equal
weight-none n a = nat_cmp-same (weight n a [])

-- the weights decide, and then what stands behind the octets that they are of
pub weight-cmp : (n a : ℕ) (x y : List ℕ) → AreOctets x → AreOctets y → ordering_then (nat_cmp (weight n a x) (weight n a y)) (slice_cmp nat_cmp (drop n x) (drop n y)) ≡ slice_cmp nat_cmp x y
unfolding weight
weight-cmp zero a x y hx hy = passed (nat_cmp a a) (slice_cmp nat_cmp x y) (nat_cmp-same a)
weight-cmp (suc n) a [] [] hx hy = passed (nat_cmp (weight n (512 * a) []) (weight n (512 * a) [])) Equal (nat_cmp-same (weight n (512 * a) []))
weight-cmp (suc n) a [] (d ∷ y) hx hy =
    decided (nat_cmp (weight n (512 * a) []) (weight n (512 * a + d + 1) y)) (slice_cmp nat_cmp [] (drop n y)) (nat_cmp-less _ _ (weight-less n (512 * a) (512 * a + d + 1) [] y tt hy.1 (omega arith)))
weight-cmp (suc n) a (c ∷ x) [] hx hy =
    decided_greater (nat_cmp (weight n (512 * a + c + 1) x) (weight n (512 * a) [])) (slice_cmp nat_cmp (drop n x) []) (nat_cmp-greater _ _ (weight-less n (512 * a) (512 * a + c + 1) [] x tt hx.1 (omega arith)))
weight-cmp (suc n) a (c ∷ x) (d ∷ y) hx hy = elim (cases_lt c d) [
  | inl lt ↦
      decided (nat_cmp (weight n (512 * a + c + 1) x) (weight n (512 * a + d + 1) y)) (slice_cmp nat_cmp (drop n x) (drop n y)) (nat_cmp-less _ _ (weight-less n (512 * a + c + 1) (512 * a + d + 1) x y hx.1 hy.1 (omega arith)))
      ∙ sym (decided (nat_cmp c d) (slice_cmp nat_cmp x y) (nat_cmp-less c d lt))
  | inr ge ↦ elim (cases_lt d c) [
    | inl gt ↦
        decided_greater (nat_cmp (weight n (512 * a + c + 1) x) (weight n (512 * a + d + 1) y)) (slice_cmp nat_cmp (drop n x) (drop n y)) (nat_cmp-greater _ _ (weight-less n (512 * a + d + 1) (512 * a + c + 1) y x hy.1 hx.1 (omega arith)))
        ∙ sym (decided_greater (nat_cmp c d) (slice_cmp nat_cmp x y) (nat_cmp-greater c d gt))
    | inr le ↦
        let same : c ≡ d = omega arith in
        ap (λ (k : ℕ). ordering_then (nat_cmp (weight n (512 * a + k + 1) x) (weight n (512 * a + d + 1) y)) (slice_cmp nat_cmp (drop n x) (drop n y))) same
        ∙ weight-cmp n (512 * a + d + 1) x y hx.1 hy.1 ∙ sym (passed (nat_cmp c d) (slice_cmp nat_cmp x y) (ap (λ (k : ℕ). nat_cmp k d) same ∙ nat_cmp-same d))
  ]
]

-- there is room for one octet more
pub weight-room : (i n : ℕ) → i < 7 → n < 512 ^ i → 512 * n + 257 < 2 ^ 64
weight-room zero n h k = omega arith
weight-room (suc zero) n h k = omega arith
weight-room (suc (suc zero)) n h k = omega arith
weight-room (suc (suc (suc zero))) n h k = omega arith
weight-room (suc (suc (suc (suc zero)))) n h k = omega arith
weight-room (suc (suc (suc (suc (suc zero))))) n h k = omega arith
weight-room (suc (suc (suc (suc (suc (suc zero)))))) n h k = omega arith
weight-room (suc (suc (suc (suc (suc (suc (suc i))))))) n h k = absurd (omega arith)

pub weight-grows : (i n d : ℕ) → n < 512 ^ i → d < 257 → 512 * n + d < 512 ^ (i + 1)
weight-grows i n d h k = let e : 512 ^ suc i ≡ 512 * 512 ^ i = pow-succ' 512 i in
    let f : 512 ^ (i + 1) ≡ 512 ^ suc i = ap (λ (k : ℕ). 512 ^ k) (add-one i) in
    omega arith

-- one digit more
pub weight-more : (k n at d : ℕ) (x : List ℕ) → (at < length x → d ≡ get_or x at 0 + 1) → (length x ≤ at → d ≡ 0) → weight (suc k) n (drop at x) ≡ weight k (512 * n + d) (drop (suc at) x)
unfolding weight
weight-more k n zero d [] h p = let e : 512 * n ≡ 512 * n + d = omega (arith, p (omega arith)) in ap (λ (m : ℕ). weight k m []) e
weight-more k n (suc at) d [] h p = let e : 512 * n ≡ 512 * n + d = omega (arith, p (omega arith)) in ap (λ (m : ℕ). weight k m []) e
weight-more k n zero d (c ∷ x) h p = let e : 512 * n + c + 1 ≡ 512 * n + d = omega (arith, h (omega arith)) in ap (λ (m : ℕ). weight k m x) e
weight-more k n (suc at) d (c ∷ x) h p = weight-more k n at d x (λ i. h (omega arith)) (λ i. p (omega arith))

pub weight-step : (n at d : ℕ) (x : List ℕ) → at < 7 → (at < length x → d ≡ get_or x at 0 + 1) → (length x ≤ at → d ≡ 0) → weight (7 - at) n (drop at x) ≡ weight (7 - (at + 1)) (n * 512 + d) (drop (at + 1) x)
weight-step n at d x h f p =
    let left : 7 - at ≡ suc (7 - (at + 1)) = omega arith in
    let times : 512 * n + d ≡ n * 512 + d = omega arith in
    ap (λ (k : ℕ). weight k n (drop at x)) left ∙ weight-more (7 - (at + 1)) n at d x f p
    ∙ ap (λ (m : ℕ). weight (7 - (at + 1)) m (drop (suc at) x)) times ∙ ap (λ (k : ℕ). weight (7 - (at + 1)) (n * 512 + d) (drop k x)) (sym (add-one at))

pub weight-end : (n : ℕ) (x : List ℕ) → weight (7 - 7) n x ≡ n
unfolding weight
weight-end n x = refl

-- what stands behind the octets of the number
pub behind : (x rest : List ℕ) (split : ℕ) → split ≡ min (length x) 7 → rest ≡ slice_range x split (length x) → rest ≡ drop 7 x
behind x rest split s e = elim (cases_lt (length x) 7) [
  | inl lt ↦
      let none : drop split x ≡ [] = drop_all split x (omega arith) in
      let none_too : drop 7 x ≡ [] = drop_all 7 x (omega arith) in
      e ∙ ap (take (length x - split)) none ∙ take-nil (length x - split) ∙ sym none_too
  | inr ge ↦
      let seven : split ≡ 7 = omega arith in
      e ∙ take_all (length x - split) (drop split x) (omega (arith, length-drop split x)) ∙ ap (λ (k : ℕ). drop k x) seven
]

-- ---- keys

octets_escaped : (c : ℕ) → c < 256 → (rest : List ℕ) → AreOctets rest → AreOctets (escaped c ++ rest)
octets_escaped c h rest r = by_test (ltb c 2) refl
  where
    by_test : (b : Bool) → ltb c 2 ≡ b → AreOctets (escaped c ++ rest)
    by_test true e = rw e (lit< tt, (grind (arith, nat_tests), r))
    by_test false e = rw e (h, r)

octets_label : (l : Label) → AreOctets l → (rest : List ℕ) → AreOctets rest → AreOctets (label_key l ++ rest)
octets_label [] h rest r = (lit< tt, r)
octets_label (c ∷ l) h rest r = subst AreOctets (sym (append_assoc (escaped c) (label_key l) rest)) (octets_escaped c h.0 (label_key l ++ rest) (octets_label l h.1 rest r))

octets_key : (name : Name) → AllByRecursion IsLabel name → (rest : List ℕ) → AreOctets rest → AreOctets (sort_key name ++ rest)
octets_key [] h rest r = r
octets_key (l ∷ ls) h rest r = subst AreOctets (sym (append_assoc (sort_key ls) (label_key l) rest)) (octets_key ls h.1 (label_key l ++ rest) (octets_label l h.0.octets rest r))

are_octets : (name : Name) → AllByRecursion IsLabel name → AreOctets (sort_key name)
are_octets name h = subst AreOctets (append-nil (sort_key name)) (octets_key name h [] tt)

labels_front : (f top : Name) → AllByRecursion IsLabel (f ++ top) → AllByRecursion IsLabel f
labels_front [] top h = tt
labels_front (l ∷ f) top h = (h.0, labels_front f top h.1)

are_octets-drop : (n : ℕ) (x : List ℕ) → AreOctets x → AreOctets (drop n x)
are_octets-drop zero x h = h
are_octets-drop (suc n) [] h = tt
are_octets-drop (suc n) (c ∷ x) h = are_octets-drop n x h.1

-- keys compare as the octets that they are of
keys_cmp : (k l : SortKey) (x y : List ℕ) → IsKeyOf k x → IsKeyOf l y → AreOctets x → AreOctets y → key_cmp k l ≡ slice_cmp nat_cmp x y
keys_cmp k l x y p q hx hy =
    let rest : slice_cmp nat_cmp k.rest.items l.rest.items ≡ slice_cmp nat_cmp (drop 7 (drop 7 x)) (drop 7 (drop 7 y)) = ap (λ (r : List ℕ). slice_cmp nat_cmp r l.rest.items) p.rest ∙ ap (slice_cmp nat_cmp (drop 7 (drop 7 x))) q.rest in
    let middle : nat_cmp k.middle l.middle ≡ nat_cmp (weight 7 0 (drop 7 x)) (weight 7 0 (drop 7 y)) = ap (λ (n : ℕ). nat_cmp n l.middle) p.middle ∙ ap (nat_cmp (weight 7 0 (drop 7 x))) q.middle in
    let front : nat_cmp k.front l.front ≡ nat_cmp (weight 7 0 x) (weight 7 0 y) = ap (λ (n : ℕ). nat_cmp n l.front) p.front ∙ ap (nat_cmp (weight 7 0 x)) q.front in
    ap (λ (o : Ordering). ordering_then (nat_cmp k.front l.front) (ordering_then (nat_cmp k.middle l.middle) o)) rest
    ∙ ap (λ (o : Ordering). ordering_then (nat_cmp k.front l.front) (ordering_then o (slice_cmp nat_cmp (drop 7 (drop 7 x)) (drop 7 (drop 7 y))))) middle
    ∙ ap (ordering_then (nat_cmp k.front l.front)) (weight-cmp 7 0 (drop 7 x) (drop 7 y) (are_octets-drop 7 x hx) (are_octets-drop 7 y hy))
    ∙ ap (λ (o : Ordering). ordering_then o (slice_cmp nat_cmp (drop 7 x) (drop 7 y))) front
    ∙ weight-cmp 7 0 x y hx hy

-- keys of names under one apex compare as the names do
pub key_cmp-name : (k l : SortKey) (a b top : Name) → KeyBelow a top k → KeyBelow b top l → IsName a → IsName b → key_cmp k l ≡ name_cmp a b
key_cmp-name k l a b top p q ha hb =
    let f : Name = p.0 in
    let g : Name = q.0 in
    let lf : AllByRecursion IsLabel f = labels_front f top (subst (AllByRecursion IsLabel) p.1 ha.each) in
    let lg : AllByRecursion IsLabel g = labels_front g top (subst (AllByRecursion IsLabel) q.1 hb.each) in
    keys_cmp k l (sort_key f) (sort_key g) p.2 q.2 (are_octets f lf) (are_octets g lg)
    ∙ sort_key-cmp f g ∙ sym (below-cmp f g top)
    ∙ ap (λ (n : Name). name_cmp n (g ++ top)) (sym p.1) ∙ ap (name_cmp a) (sym q.1)
