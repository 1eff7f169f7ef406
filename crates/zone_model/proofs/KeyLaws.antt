-- Keys compare as their names do, and tell names apart.
use Rattle.std.proofs.Common.{◌≡◌, ℕ, ◌+◌, ◌*◌, ◌<◌, ◌≤◌, Bool, true, false, List, [], ◌∷◌, ◌++◌, length, reverse, sym, ap, ◌∙◌, subst, refl, arith, eqb, append_assoc, append-nil, length-append, inl, inr}
use Rattle.std.proofs.lemmas.Bool.{cases_lt}
use Rattle.std.proofs.lemmas.Bool.Decides.{nat_tests}
use Rattle.std.proofs.lemmas.List.{reverse-append}
use Rattle.std.specs.List.{AllByRecursion, flat_map}
use Rattle.std.specs.declared.cmp.Ordering.{Ordering}
use Rattle.std.specs.declared.cmp.Ordering.TheVariants.{Less, Equal, Greater}
use Rattle.std.specs.Ordering.{nat_cmp, ordering_then}
use Rattle.std.specs.Cmp.Lexicographic.{slice_cmp}
use Rattle.zone_model.specs.Names.{Label, Name, wire, IsName, IsLabel, IsFolded, name_cmp}
use Rattle.zone_model.specs.Keys.{first_position, second_position, is_shared, one_or_two, octet_positions, label_positions, key_of, key_cmp}
use Rattle.zone_model.proofs.NameLemmas.{name_cmp-IsAntisymmetric}
use Rattle.zone_model.proofs.OctetKeys.{code_rises, bounds, second_shared, shared_second}

nat_cmp-less : (x y : ℕ) → x < y → nat_cmp x y ≡ Less
nat_cmp-less x y h = grind (arith, nat_tests)

nat_cmp-greater : (x y : ℕ) → y < x → nat_cmp x y ≡ Greater
nat_cmp-greater x y h = grind (arith, nat_tests)

nat_cmp-same : (x : ℕ) → nat_cmp x x ≡ Equal
nat_cmp-same x = grind (arith, nat_tests)

then_assoc : (o p q : Ordering) → ordering_then (ordering_then o p) q ≡ ordering_then o (ordering_then p q)
then_assoc Less p q = refl
then_assoc Equal p q = refl
then_assoc Greater p q = refl

-- ---- one octet

-- two lists of positions whose first ones differ
first_decides : (f s g t : ℕ) (u v : List ℕ) (o : Ordering) → nat_cmp f g ≡ o → (o ≡ Equal → ⊥) → key_cmp (one_or_two f s ++ u) (one_or_two g t ++ v) ≡ o
first_decides f s g t u v o e n = go (eqb s 0) (eqb t 0) refl refl
  where
    decided : (r : Ordering) → ordering_then (nat_cmp f g) r ≡ o
    decided r = ap (λ (x : Ordering). ordering_then x r) e ∙ settled o r n
      where
        settled : (x r : Ordering) → (x ≡ Equal → ⊥) → ordering_then x r ≡ x
        settled Less r m = refl
        settled Equal r m = absurd (m refl)
        settled Greater r m = refl

    go : (a b : Bool) → eqb s 0 ≡ a → eqb t 0 ≡ b → key_cmp (one_or_two f s ++ u) (one_or_two g t ++ v) ≡ o
    go true true x y = rw (x, y) (decided _)
    go true false x y = rw (x, y) (decided _)
    go false true x y = rw (x, y) (decided _)
    go false false x y = rw (x, y) (decided _)

-- two lists of two positions whose second ones differ
second_decides : (f s t : ℕ) (u v : List ℕ) (o : Ordering) → (s ≡ 0 → ⊥) → (t ≡ 0 → ⊥) → nat_cmp s t ≡ o → (o ≡ Equal → ⊥) → key_cmp (one_or_two f s ++ u) (one_or_two f t ++ v) ≡ o
second_decides f s t u v o hs ht e n =
    let a : eqb s 0 ≡ false = grind arith in
    let b : eqb t 0 ≡ false = grind arith in
    rw (a, b) (ap (λ (x : Ordering). ordering_then x (ordering_then (nat_cmp s t) (key_cmp u v))) (nat_cmp-same f) ∙ ap (λ (x : Ordering). ordering_then x (key_cmp u v)) e ∙ settled o (key_cmp u v) n)
  where
    settled : (x r : Ordering) → (x ≡ Equal → ⊥) → ordering_then x r ≡ x
    settled Less r m = refl
    settled Equal r m = absurd (m refl)
    settled Greater r m = refl

-- a list of positions in front of both
same_front : (f s : ℕ) (u v : List ℕ) → key_cmp (one_or_two f s ++ u) (one_or_two f s ++ v) ≡ key_cmp u v
same_front f s u v = go (eqb s 0) refl
  where
    go : (a : Bool) → eqb s 0 ≡ a → key_cmp (one_or_two f s ++ u) (one_or_two f s ++ v) ≡ key_cmp u v
    go true x = rw x (ap (λ (o : Ordering). ordering_then o (key_cmp u v)) (nat_cmp-same f))
    go false x = rw x (ap (λ (o : Ordering). ordering_then o (ordering_then (nat_cmp s s) (key_cmp u v))) (nat_cmp-same f) ∙ ap (λ (o : Ordering). ordering_then o (key_cmp u v)) (nat_cmp-same s))

less_octet : (c d : ℕ) (u v : List ℕ) → IsFolded c → IsFolded d → c < 256 → d < 256 → c < d → key_cmp (octet_positions c ++ u) (octet_positions d ++ v) ≡ Less
less_octet c d u v hc hd lc ld lt =
    let rising = code_rises c d hc hd lt ld in
    let bc = bounds c lc in
    let bd = bounds d ld in
    elim (cases_lt (first_position c) (first_position d)) [
      | inl first ↦ first_decides _ (second_position c) _ (second_position d) u v Less (nat_cmp-less _ _ first) (λ e. cc)
      | inr not_first ↦
          let same : first_position c ≡ first_position d = omega (arith, bc.second, bd.second) in
          let second : second_position c < second_position d = omega arith in
          let some_d : second_position d ≡ 0 → ⊥ = λ e. omega arith in
          let shared : is_shared (first_position c) ≡ true = ap is_shared same ∙ second_shared d ld some_d in
          let some_c : second_position c ≡ 0 → ⊥ = shared_second c lc shared in
          ap (λ (f : ℕ). key_cmp (one_or_two f (second_position c) ++ u) (octet_positions d ++ v)) same
          ∙ second_decides (first_position d) (second_position c) (second_position d) u v Less some_c some_d (nat_cmp-less _ _ second) (λ e. cc)
    ]

greater_octet : (c d : ℕ) (u v : List ℕ) → IsFolded c → IsFolded d → c < 256 → d < 256 → d < c → key_cmp (octet_positions c ++ u) (octet_positions d ++ v) ≡ Greater
greater_octet c d u v hc hd lc ld lt =
    let rising = code_rises d c hd hc lt lc in
    let bc = bounds c lc in
    let bd = bounds d ld in
    elim (cases_lt (first_position d) (first_position c)) [
      | inl first ↦ first_decides _ (second_position c) _ (second_position d) u v Greater (nat_cmp-greater _ _ first) (λ e. cc)
      | inr not_first ↦
          let same : first_position c ≡ first_position d = omega (arith, bc.second, bd.second) in
          let second : second_position d < second_position c = omega arith in
          let some_c : second_position c ≡ 0 → ⊥ = λ e. omega arith in
          let shared : is_shared (first_position d) ≡ true = ap is_shared (sym same) ∙ second_shared c lc some_c in
          let some_d : second_position d ≡ 0 → ⊥ = shared_second d ld shared in
          ap (λ (f : ℕ). key_cmp (one_or_two f (second_position c) ++ u) (octet_positions d ++ v)) same
          ∙ second_decides (first_position d) (second_position c) (second_position d) u v Greater some_c some_d (nat_cmp-greater _ _ second) (λ e. cc)
    ]

octet_cmp : (c d : ℕ) (u v : List ℕ) → IsFolded c → IsFolded d → c < 256 → d < 256 → key_cmp (octet_positions c ++ u) (octet_positions d ++ v) ≡ ordering_then (nat_cmp c d) (key_cmp u v)
octet_cmp c d u v hc hd lc ld =
    elim (cases_lt c d) [
      | inl lt ↦ less_octet c d u v hc hd lc ld lt ∙ ap (λ (o : Ordering). ordering_then o (key_cmp u v)) (sym (nat_cmp-less c d lt))
      | inr not_less ↦ elim (cases_lt d c) [
        | inl gt ↦ greater_octet c d u v hc hd lc ld gt ∙ ap (λ (o : Ordering). ordering_then o (key_cmp u v)) (sym (nat_cmp-greater c d gt))
        | inr not_greater ↦
            let same : d ≡ c = omega arith in
            ap (λ (e : ℕ). key_cmp (octet_positions c ++ u) (octet_positions e ++ v)) same ∙ same_front (first_position c) (second_position c) u v
            ∙ ap (λ (o : Ordering). ordering_then o (key_cmp u v)) (sym (nat_cmp-same c)) ∙ ap (λ (e : ℕ). ordering_then (nat_cmp c e) (key_cmp u v)) (sym same)
      ]
    ]

-- ---- a label

-- position 0 comes before an octet's
end_less : (d : ℕ) (u v : List ℕ) → d < 256 → key_cmp (0 ∷ u) (octet_positions d ++ v) ≡ Less
end_less d u v h = first_decides 0 0 (first_position d) (second_position d) u v Less (nat_cmp-less 0 (first_position d) (bounds d h).some) (λ e. cc)

end_greater : (c : ℕ) (u v : List ℕ) → c < 256 → key_cmp (octet_positions c ++ u) (0 ∷ v) ≡ Greater
end_greater c u v h = first_decides (first_position c) (second_position c) 0 0 u v Greater (nat_cmp-greater (first_position c) 0 (bounds c h).some) (λ e. cc)

octets_cmp : (l m : Label) (u v : List ℕ) → AllByRecursion (λ c. c < 256) l → AllByRecursion (λ c. c < 256) m → AllByRecursion IsFolded l → AllByRecursion IsFolded m
    → key_cmp (flat_map octet_positions l ++ 0 ∷ u) (flat_map octet_positions m ++ 0 ∷ v) ≡ ordering_then (slice_cmp nat_cmp l m) (key_cmp u v)
octets_cmp [] [] u v sl sm fl fm = refl
octets_cmp [] (d ∷ ds) u v sl sm fl fm =
    ap (key_cmp (0 ∷ u)) (append_assoc (octet_positions d) (flat_map octet_positions ds) (0 ∷ v)) ∙ end_less d u (flat_map octet_positions ds ++ 0 ∷ v) sm.0
octets_cmp (c ∷ cs) [] u v sl sm fl fm =
    ap (λ (k : List ℕ). key_cmp k (0 ∷ v)) (append_assoc (octet_positions c) (flat_map octet_positions cs) (0 ∷ u)) ∙ end_greater c (flat_map octet_positions cs ++ 0 ∷ u) v sl.0
octets_cmp (c ∷ cs) (d ∷ ds) u v sl sm fl fm =
    ap (λ (k : List ℕ). key_cmp k ((octet_positions d ++ flat_map octet_positions ds) ++ 0 ∷ v)) (append_assoc (octet_positions c) (flat_map octet_positions cs) (0 ∷ u))
    ∙ ap (key_cmp (octet_positions c ++ (flat_map octet_positions cs ++ 0 ∷ u))) (append_assoc (octet_positions d) (flat_map octet_positions ds) (0 ∷ v))
    ∙ octet_cmp c d (flat_map octet_positions cs ++ 0 ∷ u) (flat_map octet_positions ds ++ 0 ∷ v) fl.0 fm.0 sl.0 sm.0
    ∙ ap (ordering_then (nat_cmp c d)) (octets_cmp cs ds u v sl.1 sm.1 fl.1 fm.1) ∙ sym (then_assoc (nat_cmp c d) (slice_cmp nat_cmp cs ds) (key_cmp u v))

label_cmp : (l m : Label) (u v : List ℕ) → IsLabel l → IsLabel m → key_cmp (label_positions l ++ u) (label_positions m ++ v) ≡ ordering_then (slice_cmp nat_cmp l m) (key_cmp u v)
label_cmp l m u v hl hm =
    ap (λ (k : List ℕ). key_cmp k (label_positions m ++ v)) (append_assoc (flat_map octet_positions l) (0 ∷ []) u)
    ∙ ap (key_cmp (flat_map octet_positions l ++ 0 ∷ u)) (append_assoc (flat_map octet_positions m) (0 ∷ []) v)
    ∙ octets_cmp l m u v hl.octets hm.octets hl.folded hm.folded

-- nothing comes before a label
none_less : (m : Label) (v : List ℕ) → IsLabel m → key_cmp [] (label_positions m ++ v) ≡ Less
none_less [] v h = absurd (omega (arith, h.some))
none_less (d ∷ ds) v h = go (eqb (second_position d) 0) refl
  where
    first : (r : Ordering) → ordering_then (nat_cmp 0 (first_position d)) r ≡ Less
    first r = ap (λ (o : Ordering). ordering_then o r) (nat_cmp-less 0 (first_position d) (bounds d h.octets.0).some)

    go : (a : Bool) → eqb (second_position d) 0 ≡ a → key_cmp [] (label_positions (d ∷ ds) ++ v) ≡ Less
    go true x = rw x (first _)
    go false x = rw x (first _)

none_greater : (m : Label) (v : List ℕ) → IsLabel m → key_cmp (label_positions m ++ v) [] ≡ Greater
none_greater [] v h = absurd (omega (arith, h.some))
none_greater (d ∷ ds) v h = go (eqb (second_position d) 0) refl
  where
    first : (r : Ordering) → ordering_then (nat_cmp (first_position d) 0) r ≡ Greater
    first r = ap (λ (o : Ordering). ordering_then o r) (nat_cmp-greater (first_position d) 0 (bounds d h.octets.0).some)

    go : (a : Bool) → eqb (second_position d) 0 ≡ a → key_cmp (label_positions (d ∷ ds) ++ v) [] ≡ Greater
    go true x = rw x (first _)
    go false x = rw x (first _)

-- ---- names

-- labels from the root downwards
labels_cmp : (x y : List Label) → AllByRecursion IsLabel x → AllByRecursion IsLabel y → key_cmp (flat_map label_positions x) (flat_map label_positions y) ≡ slice_cmp (slice_cmp nat_cmp) x y
labels_cmp [] [] hx hy = refl
labels_cmp [] (m ∷ ms) hx hy = none_less m (flat_map label_positions ms) hy.0
labels_cmp (l ∷ ls) [] hx hy = none_greater l (flat_map label_positions ls) hx.0
labels_cmp (l ∷ ls) (m ∷ ms) hx hy =
    label_cmp l m (flat_map label_positions ls) (flat_map label_positions ms) hx.0 hy.0 ∙ ap (ordering_then (slice_cmp nat_cmp l m)) (labels_cmp ls ms hx.1 hy.1)

all_append : {X : Type 0} (P : X → Type 0) (xs ys : List X) → AllByRecursion P xs → AllByRecursion P ys → AllByRecursion P (xs ++ ys)
all_append P [] ys h k = k
all_append P (x ∷ xs) ys h k = (h.0, all_append P xs ys h.1 k)

pub all_reverse : {X : Type 0} (P : X → Type 0) (xs : List X) → AllByRecursion P xs → AllByRecursion P (reverse xs)
all_reverse P [] h = tt
all_reverse P (x ∷ xs) h = subst (AllByRecursion P) (sym (reverse-append (x ∷ []) xs)) (all_append P (reverse xs) (x ∷ []) (all_reverse P xs h.1) (h.0, tt))

-- keys compare as their names do
pub key_cmp-key_of : (a b : Name) → AllByRecursion IsLabel a → AllByRecursion IsLabel b → key_cmp (key_of a) (key_of b) ≡ name_cmp a b
key_cmp-key_of a b ha hb = labels_cmp (reverse a) (reverse b) (all_reverse IsLabel a ha) (all_reverse IsLabel b hb)

key_cmp-same : (k : List ℕ) → key_cmp k k ≡ Equal
key_cmp-same [] = refl
key_cmp-same (x ∷ xs) = ap (λ (o : Ordering). ordering_then o (key_cmp xs xs)) (nat_cmp-same x) ∙ key_cmp-same xs

-- keys that compare equal are those of one name
pub key_cmp-Equal : (a b : Name) → AllByRecursion IsLabel a → AllByRecursion IsLabel b → key_cmp (key_of a) (key_of b) ≡ Equal → a ≡ b
key_cmp-Equal a b ha hb e = name_cmp-IsAntisymmetric a b (sym (key_cmp-key_of a b ha hb) ∙ e)

-- no key is that of two names
pub key_once : (a b : Name) → AllByRecursion IsLabel a → AllByRecursion IsLabel b → key_of a ≡ key_of b → a ≡ b
key_once a b ha hb e = key_cmp-Equal a b ha hb (ap (λ (k : List ℕ). key_cmp k (key_of b)) e ∙ key_cmp-same (key_of b))

-- ---- a label more

flat_map-append : (x y : List Label) → flat_map label_positions (x ++ y) ≡ flat_map label_positions x ++ flat_map label_positions y
flat_map-append [] y = refl
flat_map-append (l ∷ ls) y = ap (λ (k : List ℕ). label_positions l ++ k) (flat_map-append ls y) ∙ sym (append_assoc (label_positions l) (flat_map label_positions ls) (flat_map label_positions y))

-- the nearest label comes last
pub key_of-cons : (l : Label) (ls : Name) → key_of (l ∷ ls) ≡ key_of ls ++ label_positions l
key_of-cons l ls = ap (flat_map label_positions) (reverse-append (l ∷ []) ls) ∙ flat_map-append (reverse ls) (l ∷ []) ∙ ap (λ (k : List ℕ). key_of ls ++ k) (append-nil (label_positions l))

-- ---- lengths

octets_short : (l : Label) → length (flat_map octet_positions l) ≤ 2 * length l
octets_short [] = omega arith
octets_short (c ∷ cs) = omega (arith, octets_short cs, length-append (octet_positions c) (flat_map octet_positions cs), two (eqb (second_position c) 0) refl)
  where
    two : (a : Bool) → eqb (second_position c) 0 ≡ a → length (octet_positions c) ≤ 2
    two true x = rw x (omega arith)
    two false x = rw x (omega arith)

-- the octets of all labels
abbrev octets_in : Name → ℕ
octets_in [] = 0
octets_in (l ∷ ls) = length l + octets_in ls

key_short : (name : Name) → length (key_of name) ≤ 2 * octets_in name + length name
key_short [] = omega arith
key_short (l ∷ ls) = omega (arith, key_short ls, octets_short l, ap length (key_of-cons l ls), length-append (key_of ls) (label_positions l), length-append (flat_map octet_positions l) (0 ∷ []))

wire_long : (name : Name) → octets_in name + length name + 1 ≡ length (wire name)
wire_long [] = refl
wire_long (l ∷ ls) = omega (arith, wire_long ls, length-append l (wire ls))

labels_short : (name : Name) → AllByRecursion IsLabel name → octets_in name ≤ 63 * length name
labels_short [] h = omega arith
labels_short (l ∷ ls) h = omega (arith, labels_short ls h.1, h.0.short)

-- the longest key has 504 positions
pub length-key_of : (name : Name) → IsName name → length (key_of name) ≤ 504
length-key_of name h = omega (arith, key_short name, wire_long name, labels_short name h.each, h.short)
