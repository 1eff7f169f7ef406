-- Two keys that part at a place.
use Rattle.std.proofs.Common.{◌≡◌, ℕ, zero, suc, ◌+◌, ◌-◌, ◌<◌, ◌≤◌, List, [], ◌∷◌, ◌++◌, length, take, drop, get_or, sym, ap, ◌∙◌, refl, subst, arith, lit<, append_assoc, length-append, length-drop, inl, inr, Result, Ok, Err}
use Rattle.std.proofs.lemmas.Bool.{cases_lt, cases_eq}
use Rattle.std.proofs.lemmas.List.{take_all, drop-drop, get_or_append_left, get_or_past}
use Rattle.std.proofs.Math.Seq.{get_or-append_seam}
use Rattle.std.specs.List.{AllByRecursion, flat_map}
use Rattle.zone_model.specs.Names.{Label, Name, wire, IsName, IsLabel, IsFolded, BeginsWith}
use Rattle.zone_model.specs.Keys.{first_position, second_position, is_shared, octet_positions, label_positions, key_of}
use Rattle.zone_model.proofs.KeyLaws.{key_of-cons, length-key_of}
use Rattle.zone_model.proofs.OctetKeys.{bounds, code_rises, second_shared, shared_second}
use Rattle.shift_key.specs.declared.names.Parting.{Parting}
use Rattle.shift_key.specs.Partings.{PartAt, PartInside, HasName, SplitsOff, LabelsPart, NamesDiffer, NamesPart}
use Rattle.dns_name.proofs.WireLemmas.{name_rest}
use Rattle.shift_key.proofs.DifferenceLemmas.{never_empty, Apart, apart, octets-split}
use Rattle.shift_key.proofs.PositionLemmas.{one_position, two_positions}

-- names without labels
pub none_left : (x y : Name) → length x ≡ 0 → length y ≡ 0 → (x ≡ y) × (0 ≡ length (key_of x))
none_left [] [] e f = (refl, refl)
none_left [] (l ∷ ls) e f = absurd (omega arith)
none_left (l ∷ ls) y e f = absurd (omega arith)

-- ---- what comes behind

pub part_left : (a b more : List ℕ) (p : Parting) → PartAt a b p → p.place < length a → PartAt (a ++ more) b p
part_left a b more p h lt =
    let same : (k : ℕ) → k < length a → get_or (a ++ more) k 0 ≡ get_or a k 0 = λ k low. get_or_append_left a more 0 k low in
    record {
      first = record {
        differ = λ e. h.first.differ (sym (same p.place lt) ∙ e);
        before = λ k low. same k (omega arith) ∙ h.first.before k low;
      };
      before = h.before ∙ sym (same p.place lt);
      after = h.after;
    }

pub part_right : (a b more : List ℕ) (p : Parting) → PartAt a b p → p.place < length b → PartAt a (b ++ more) p
part_right a b more p h lt =
    let same : (k : ℕ) → k < length b → get_or (b ++ more) k 0 ≡ get_or b k 0 = λ k low. get_or_append_left b more 0 k low in
    record {
      first = record {
        differ = λ e. h.first.differ (e ∙ same p.place lt);
        before = λ k low. h.first.before k low ∙ sym (same k (omega arith));
      };
      before = h.before;
      after = h.after ∙ sym (same p.place lt);
    }

pub inside_more : (a b x y : List ℕ) (p : Parting) → PartInside a b p → PartInside (a ++ x) (b ++ y) p
inside_more a b x y p h = record {
  part = part_right (a ++ x) b y p (part_left a b x p h.part h.first) h.second;
  first = omega (arith, length-append a x, h.first);
  second = omega (arith, length-append b y, h.second);
}

-- ---- behind the same front

seam : (front rest : List ℕ) (x place : ℕ) → place ≡ length front → get_or (front ++ x ∷ rest) place 0 ≡ x
seam front rest x place e = ap (λ (j : ℕ). get_or (front ++ x ∷ rest) j 0) e ∙ get_or-append_seam front x rest 0

pub part_here : (front a b : List ℕ) (x y place : ℕ) → place ≡ length front → (x ≡ y → ⊥) → PartInside (front ++ x ∷ a) (front ++ y ∷ b) (record { place = place; before = x; after = y })
part_here front a b x y place e n = record {
  part = record {
    first = record {
      differ = λ same. n (sym (seam front a x place e) ∙ same ∙ seam front b y place e);
      before = λ k lt. get_or_append_left front (x ∷ a) 0 k (omega arith) ∙ sym (get_or_append_left front (y ∷ b) 0 k (omega arith));
    };
    before = sym (seam front a x place e);
    after = sym (seam front b y place e);
  };
  first = omega (arith, length-append front (x ∷ a));
  second = omega (arith, length-append front (y ∷ b));
}

-- where one of them ends, it reads 0
pub first_longer : (front a : List ℕ) (x place : ℕ) → place ≡ length front → (x ≡ 0 → ⊥) → PartAt (front ++ x ∷ a) front (record { place = place; before = x; after = 0 })
first_longer front a x place e n =
    let past : get_or front place 0 ≡ 0 = get_or_past front place 0 (omega arith) in
    record {
      first = record {
        differ = λ same. n (sym (seam front a x place e) ∙ same ∙ past);
        before = λ k lt. get_or_append_left front (x ∷ a) 0 k (omega arith);
      };
      before = sym (seam front a x place e);
      after = sym past;
    }

pub second_longer : (front b : List ℕ) (y place : ℕ) → place ≡ length front → (y ≡ 0 → ⊥) → PartAt front (front ++ y ∷ b) (record { place = place; before = 0; after = y })
second_longer front b y place e n =
    let past : get_or front place 0 ≡ 0 = get_or_past front place 0 (omega arith) in
    record {
      first = record {
        differ = λ same. n (sym (seam front b y place e) ∙ sym same ∙ past);
        before = λ k lt. sym (get_or_append_left front (y ∷ b) 0 k (omega arith));
      };
      before = sym past;
      after = sym (seam front b y place e);
    }

-- ---- octets

some_front : (c : ℕ) → (rest : List ℕ) × (octet_positions c ≡ first_position c ∷ rest)
some_front c = elim (cases_eq (second_position c) 0) [ inl z ↦ ([], one_position c z) | inr n ↦ (second_position c ∷ [], two_positions c n) ]

pub first_parts : (front : List ℕ) (c d place : ℕ) → place ≡ length front → (first_position c ≡ first_position d → ⊥) → PartInside (front ++ octet_positions c) (front ++ octet_positions d) (record { place = place; before = first_position c; after = first_position d })
first_parts front c d place e n =
    let f = some_front c in let g = some_front d in
    let p : Parting = record { place = place; before = first_position c; after = first_position d } in
    subst (λ (l : List ℕ). PartInside (front ++ l) (front ++ octet_positions d) p) (sym f.1)
    (subst (λ (l : List ℕ). PartInside (front ++ first_position c ∷ f.0) (front ++ l) p) (sym g.1) (part_here front f.0 g.0 (first_position c) (first_position d) place e n))

-- octets that differ have other second positions where their first one is the same
seconds_differ : (c d : ℕ) → IsFolded c → IsFolded d → c < 256 → d < 256 → (c ≡ d → ⊥) → first_position c ≡ first_position d → second_position c ≡ second_position d → ⊥
seconds_differ c d fc fd lc ld n e same =
    elim (cases_lt c d) [
      | inl lt ↦ (let r = code_rises c d fc fd lt ld in omega arith)
      | inr ge ↦ (let lt : d < c = omega arith in let r = code_rises d c fd fc lt lc in omega arith)
    ]

-- and then both have a second one
second_there : (c d : ℕ) → c < 256 → d < 256 → first_position c ≡ first_position d → (second_position c ≡ second_position d → ⊥) → second_position c ≡ 0 → ⊥
second_there c d lc ld e n z =
    let some : second_position d ≡ 0 → ⊥ = λ w. n (z ∙ sym w) in
    shared_second c lc (ap is_shared e ∙ second_shared d ld some) z

pub second_parts : (front : List ℕ) (c d place : ℕ) → IsFolded c → IsFolded d → c < 256 → d < 256 → (c ≡ d → ⊥) → place ≡ length front → first_position c ≡ first_position d
    → PartInside (front ++ octet_positions c) (front ++ octet_positions d) (record { place = place + 1; before = second_position c; after = second_position d })
second_parts front c d place fc fd lc ld n e same =
    let differ = seconds_differ c d fc fd lc ld n same in
    let p : Parting = record { place = place + 1; before = second_position c; after = second_position d } in
    let cs : octet_positions c ≡ first_position c ∷ second_position c ∷ [] = two_positions c (second_there c d lc ld same differ) in
    let ds : octet_positions d ≡ first_position c ∷ second_position d ∷ [] = two_positions d (second_there d c ld lc (sym same) (λ w. differ (sym w))) ∙ ap (λ (f : ℕ). f ∷ second_position d ∷ []) (sym same) in
    let wide : place + 1 ≡ length (front ++ first_position c ∷ []) = omega (arith, length-append front (first_position c ∷ [])) in
    let here = part_here (front ++ first_position c ∷ []) [] [] (second_position c) (second_position d) (place + 1) wide differ in
    let left : (front ++ first_position c ∷ []) ++ second_position c ∷ [] ≡ front ++ octet_positions c = append_assoc front (first_position c ∷ []) (second_position c ∷ []) ∙ ap (λ (l : List ℕ). front ++ l) (sym cs) in
    let right : (front ++ first_position c ∷ []) ++ second_position d ∷ [] ≡ front ++ octet_positions d = append_assoc front (first_position c ∷ []) (second_position d ∷ []) ∙ ap (λ (l : List ℕ). front ++ l) (sym ds) in
    subst (λ (l : List ℕ). PartInside l (front ++ octet_positions d) p) left (subst (λ (l : List ℕ). PartInside ((front ++ first_position c ∷ []) ++ second_position c ∷ []) l p) right here)

-- ---- labels

pub small_at : (label : Label) (i : ℕ) → AllByRecursion (λ c. c < 256) label → get_or label i 0 < 256
small_at [] i h = lit< tt
small_at (c ∷ cs) zero h = h.0
small_at (c ∷ cs) (suc i) h = small_at cs i h.1

-- a label's positions behind those of its first octets
at_octet : (front label : List ℕ) (i : ℕ) → i < length label → (rest : List ℕ) × (front ++ label_positions label ≡ ((front ++ flat_map octet_positions (take i label)) ++ octet_positions (get_or label i 0)) ++ rest)
at_octet front label i lt =
    let s = octets-split label i lt in
    let done : List ℕ = flat_map octet_positions (take i label) in
    (s.0, ap (λ (l : List ℕ). front ++ l) s.1 ∙ sym (append_assoc front done (octet_positions (get_or label i 0) ++ s.0)) ∙ sym (append_assoc (front ++ done) (octet_positions (get_or label i 0)) s.0))

at_end : (front label : List ℕ) (i : ℕ) → length label ≤ i → front ++ label_positions label ≡ (front ++ flat_map octet_positions (take i label)) ++ 0 ∷ []
at_end front label i past =
    let all : take i label ≡ label = take_all i label past in
    sym (append_assoc front (flat_map octet_positions label) (0 ∷ [])) ∙ ap (λ (l : List ℕ). (front ++ flat_map octet_positions l) ++ 0 ∷ []) (sym all)

-- labels whose first octets are the same
pub record Alike (front l m : List ℕ) (at i : ℕ) : Type 0 where
  pub same : take i l ≡ take i m
  pub at_is : at ≡ length (front ++ flat_map octet_positions (take i l))

alike_done : (front l m : List ℕ) (at i : ℕ) → Alike front l m at i → front ++ flat_map octet_positions (take i m) ≡ front ++ flat_map octet_positions (take i l)
alike_done front l m at i h = ap (λ (k : List ℕ). front ++ flat_map octet_positions k) (sym h.same)

pub labels_differ : (front l m : List ℕ) (at i : ℕ) (p : Parting) → Alike front l m at i → i < length l → i < length m
    → ((f : List ℕ) → at ≡ length f → PartInside (f ++ octet_positions (get_or l i 0)) (f ++ octet_positions (get_or m i 0)) p) → PartInside (front ++ label_positions l) (front ++ label_positions m) p
labels_differ front l m at i p h ll lm parts =
    let done : List ℕ = front ++ flat_map octet_positions (take i l) in
    let x = at_octet front l i ll in
    let y = at_octet front m i lm in
    let there : front ++ label_positions m ≡ (done ++ octet_positions (get_or m i 0)) ++ y.0 = y.1 ∙ ap (λ (f : List ℕ). (f ++ octet_positions (get_or m i 0)) ++ y.0) (alike_done front l m at i h) in
    subst (λ (k : List ℕ). PartInside k (front ++ label_positions m) p) (sym x.1)
    (subst (λ (k : List ℕ). PartInside ((done ++ octet_positions (get_or l i 0)) ++ x.0) k p) (sym there) (inside_more (done ++ octet_positions (get_or l i 0)) (done ++ octet_positions (get_or m i 0)) x.0 y.0 p (parts done h.at_is)))

-- the octet where the other label has its end
octet_at : (front label : List ℕ) (i : ℕ) → i < length label → (rest : List ℕ) × (front ++ label_positions label ≡ (front ++ flat_map octet_positions (take i label)) ++ first_position (get_or label i 0) ∷ rest)
octet_at front label i lt =
    let x = at_octet front label i lt in
    let f = some_front (get_or label i 0) in
    let done : List ℕ = front ++ flat_map octet_positions (take i label) in
    (f.0 ++ x.0, x.1 ∙ append_assoc done (octet_positions (get_or label i 0)) x.0 ∙ ap (λ (k : List ℕ). done ++ (k ++ x.0)) f.1)

pub first_goes_on : (front l m : List ℕ) (at i : ℕ) → Alike front l m at i → i < length l → length m ≤ i → get_or l i 0 < 256
    → PartInside (front ++ label_positions l) (front ++ label_positions m) (record { place = at; before = first_position (get_or l i 0); after = 0 })
first_goes_on front l m at i h lt past small =
    let done : List ℕ = front ++ flat_map octet_positions (take i l) in
    let p : Parting = record { place = at; before = first_position (get_or l i 0); after = 0 } in
    let x = octet_at front l i lt in
    let there : front ++ label_positions m ≡ done ++ 0 ∷ [] = at_end front m i past ∙ ap (λ (f : List ℕ). f ++ 0 ∷ []) (alike_done front l m at i h) in
    let some = (bounds (get_or l i 0) small).some in
    subst (λ (k : List ℕ). PartInside k (front ++ label_positions m) p) (sym x.1)
    (subst (λ (k : List ℕ). PartInside (done ++ first_position (get_or l i 0) ∷ x.0) k p) (sym there) (part_here done x.0 [] (first_position (get_or l i 0)) 0 at h.at_is (λ e. omega arith)))

pub second_goes_on : (front l m : List ℕ) (at i : ℕ) → Alike front l m at i → i < length m → length l ≤ i → get_or m i 0 < 256
    → PartInside (front ++ label_positions l) (front ++ label_positions m) (record { place = at; before = 0; after = first_position (get_or m i 0) })
second_goes_on front l m at i h lt past small =
    let done : List ℕ = front ++ flat_map octet_positions (take i l) in
    let p : Parting = record { place = at; before = 0; after = first_position (get_or m i 0) } in
    let y = octet_at front m i lt in
    let there : front ++ label_positions m ≡ done ++ first_position (get_or m i 0) ∷ y.0 = y.1 ∙ ap (λ (f : List ℕ). f ++ first_position (get_or m i 0) ∷ y.0) (alike_done front l m at i h) in
    let some = (bounds (get_or m i 0) small).some in
    subst (λ (k : List ℕ). PartInside k (front ++ label_positions m) p) (sym (at_end front l i past))
    (subst (λ (k : List ℕ). PartInside (done ++ 0 ∷ []) k p) (sym there) (part_here done [] y.0 0 (first_position (get_or m i 0)) at h.at_is (λ e. omega arith)))

pub labels_same : (front l m : List ℕ) (at i : ℕ) → Alike front l m at i → length l ≤ i → length m ≤ i → (l ≡ m) × (at + 1 ≡ length (front ++ label_positions l))
labels_same front l m at i h pl pm = (
  sym (take_all i l pl) ∙ h.same ∙ take_all i m pm,
  omega (arith, h.at_is, ap length (at_end front l i pl), length-append (front ++ flat_map octet_positions (take i l)) (0 ∷ [])),
)

-- ---- names

longer : (n : ℕ) (a b more : List ℕ) → n < length a → b ≡ a ++ more → n < length b
longer n a b more lt e = omega (arith, ap length e, length-append a more)

pub first_grows : (a b c : Name) (l : Label) (p : Parting) → a ≡ l ∷ c → length b < length a → NamesDiffer c b p → NamesDiffer a b p
first_grows a b c l p e more h =
    let key : key_of a ≡ key_of c ++ label_positions l = ap key_of e ∙ key_of-cons l c in
    let few : length b ≤ length c = omega (arith, ap length e) in
    record {
      part = subst (λ (k : List ℕ). PartAt k (key_of b) p) (sym key) (part_left (key_of c) (key_of b) (label_positions l) p h.part (h.first few));
      first = λ le. longer p.place (key_of c) (key_of a) (label_positions l) (h.first few) key;
      second = λ le. absurd (omega arith);
    }

pub second_grows : (a b c : Name) (l : Label) (p : Parting) → b ≡ l ∷ c → length a < length b → NamesDiffer a c p → NamesDiffer a b p
second_grows a b c l p e more h =
    let key : key_of b ≡ key_of c ++ label_positions l = ap key_of e ∙ key_of-cons l c in
    let few : length a ≤ length c = omega (arith, ap length e) in
    record {
      part = subst (λ (k : List ℕ). PartAt (key_of a) k p) (sym key) (part_right (key_of a) (key_of c) (label_positions l) p h.part (h.second few));
      first = λ le. absurd (omega arith);
      second = λ le. longer p.place (key_of c) (key_of b) (label_positions l) (h.second few) key;
    }

pub both_grow : (a b c d : Name) (l m : Label) (p : Parting) → a ≡ l ∷ c → b ≡ m ∷ d → length a ≡ length b → NamesDiffer c d p → NamesDiffer a b p
both_grow a b c d l m p ea eb same h =
    let ka : key_of a ≡ key_of c ++ label_positions l = ap key_of ea ∙ key_of-cons l c in
    let kb : key_of b ≡ key_of d ++ label_positions m = ap key_of eb ∙ key_of-cons m d in
    let inside = inside_more (key_of c) (key_of d) (label_positions l) (label_positions m) p (record { part = h.part; first = h.first (omega (arith, ap length ea, ap length eb)); second = h.second (omega (arith, ap length ea, ap length eb)) }) in
    record {
      part = subst (λ (k : List ℕ). PartAt k (key_of b) p) (sym ka) (subst (λ (k : List ℕ). PartAt (key_of c ++ label_positions l) k p) (sym kb) inside.part);
      first = λ le. omega (arith, inside.first, ap length ka);
      second = λ le. omega (arith, inside.second, ap length kb);
    }

-- the octet that a label begins with
front_of : (label : Label) → IsLabel label → (rest : List ℕ) × (label_positions label ≡ first_position (get_or label 0 0) ∷ rest)
front_of label is =
    let s = octets-split label 0 is.some in
    let f = some_front (get_or label 0 0) in
    (f.0 ++ s.0, s.1 ∙ ap (λ (k : List ℕ). k ++ s.0) f.1)

pub first_under : (a b c : Name) (l : Label) (end : ℕ) → a ≡ l ∷ c → IsLabel l → c ≡ b → end ≡ length (key_of c) → NamesDiffer a b (record { place = end; before = first_position (get_or l 0 0); after = 0 })
first_under a b c l end e is same at =
    let f = front_of l is in
    let p : Parting = record { place = end; before = first_position (get_or l 0 0); after = 0 } in
    let key : key_of a ≡ key_of b ++ first_position (get_or l 0 0) ∷ f.0 = ap key_of e ∙ key_of-cons l c ∙ ap (λ (k : List ℕ). key_of c ++ k) f.1 ∙ ap (λ (n : Name). key_of n ++ first_position (get_or l 0 0) ∷ f.0) same in
    let some = (bounds (get_or l 0 0) (small_at l 0 is.octets)).some in
    let ends : end ≡ length (key_of b) = at ∙ ap (λ (n : Name). length (key_of n)) same in
    record {
      part = subst (λ (k : List ℕ). PartAt k (key_of b) p) (sym key) (first_longer (key_of b) f.0 (first_position (get_or l 0 0)) end ends (λ z. omega arith));
      first = λ le. omega (arith, ap length key, length-append (key_of b) (first_position (get_or l 0 0) ∷ f.0));
      second = λ le. absurd (omega (arith, ap length e, ap (λ (n : Name). length n) same));
    }

pub second_under : (a b c : Name) (l : Label) (end : ℕ) → b ≡ l ∷ c → IsLabel l → a ≡ c → end ≡ length (key_of a) → NamesDiffer a b (record { place = end; before = 0; after = first_position (get_or l 0 0) })
second_under a b c l end e is same ends =
    let f = front_of l is in
    let p : Parting = record { place = end; before = 0; after = first_position (get_or l 0 0) } in
    let key : key_of b ≡ key_of a ++ first_position (get_or l 0 0) ∷ f.0 = ap key_of e ∙ key_of-cons l c ∙ ap (λ (k : List ℕ). key_of c ++ k) f.1 ∙ ap (λ (n : Name). key_of n ++ first_position (get_or l 0 0) ∷ f.0) (sym same) in
    let some = (bounds (get_or l 0 0) (small_at l 0 is.octets)).some in
    record {
      part = subst (λ (k : List ℕ). PartAt (key_of a) k p) (sym key) (second_longer (key_of a) f.0 (first_position (get_or l 0 0)) end ends (λ z. omega arith));
      first = λ le. absurd (omega (arith, ap length e, ap (λ (n : Name). length n) same));
      second = λ le. omega (arith, ap length key, length-append (key_of a) (first_position (get_or l 0 0) ∷ f.0));
    }

pub labels_compared : (a b c d : Name) (l m : Label) (r : Result ℕ Parting) → a ≡ l ∷ c → b ≡ m ∷ d → c ≡ d → LabelsPart (key_of c) l m r → NamesPart a b r
labels_compared a b c d l m (Ok end) ea eb same h = (
  ea ∙ ap (λ (k : Label). k ∷ c) h.0 ∙ ap (λ (n : Name). m ∷ n) same ∙ sym eb,
  h.1 ∙ ap length (sym (ap key_of ea ∙ key_of-cons l c)),
)
labels_compared a b c d l m (Err p) ea eb same h =
    let ka : key_of a ≡ key_of c ++ label_positions l = ap key_of ea ∙ key_of-cons l c in
    let kb : key_of b ≡ key_of c ++ label_positions m = ap key_of eb ∙ key_of-cons m d ∙ ap (λ (n : Name). key_of n ++ label_positions m) (sym same) in
    record {
      part = subst (λ (k : List ℕ). PartAt k (key_of b) p) (sym ka) (subst (λ (k : List ℕ). PartAt (key_of c ++ label_positions l) k p) (sym kb) h.part);
      first = λ le. omega (arith, h.first, ap length ka);
      second = λ le. omega (arith, h.second, ap length kb);
    }

-- ---- octets in front

positive : (n : ℕ) → (n ≡ 0 → ⊥) → 0 < n
positive n h = omega arith

pub some_octets : (octets : List ℕ) (name : Name) → BeginsWith octets name → 0 < length octets
some_octets octets name b = positive (length octets) (λ e. never_empty octets name e b)

label_starts : (octets : List ℕ) (name : Name) → AllByRecursion IsLabel name → BeginsWith octets name → 0 < length name → get_or octets 0 0 ≡ 0 → ⊥
label_starts octets [] each b some z = absurd (omega arith)
label_starts octets (l ∷ ls) each b some z = let e : get_or octets 0 0 ≡ length l = ap (λ (k : List ℕ). get_or k 0 0) b.1 in let s = each.0.some in omega arith

pub first_apart : {octets : List ℕ} {name : Name} {n : ℕ} → HasName octets name n → 0 < n → Apart octets name
first_apart {octets} {name} {n} h some = let l = h.long in apart octets name (label_starts octets name h.is.each h.begins (omega arith)) h.is.each h.begins

pub splits_off : {octets : List ℕ} {name : Name} {n : ℕ} (label rest : List ℕ) → HasName octets name n → 0 < n → label ≡ take (get_or octets 0 0) (drop 1 octets) → rest ≡ drop (get_or octets 0 0) (drop 1 octets) → SplitsOff name n label rest
splits_off {octets} {name} {n} label rest h some front back =
    let a = first_apart h some in
    let n_is : 1 + get_or octets 0 0 ≡ get_or octets 0 0 + 1 = omega arith in
    let there : drop (get_or octets 0 0 + 1) octets ≡ rest = sym (back ∙ drop-drop (get_or octets 0 0) 1 octets ∙ ap (λ (k : ℕ). drop k octets) n_is) in
    let is : label ≡ a.label = front ∙ a.label_is in
    record {
      others = a.rest;
      is = a.is ∙ ap (λ (k : Label). k ∷ a.rest) (sym is);
      is_label = subst IsLabel (sym is) a.is_label;
      behind = record { is = name_rest name a.label a.rest h.is a.is; begins = subst (λ (k : List ℕ). BeginsWith k a.rest) there a.begins; long = omega (arith, h.long, ap length a.is) };
    }

pub alike : (front l m : List ℕ) (start at i : ℕ) → take i l ≡ take i m → at ≡ start + length (flat_map octet_positions (take i l)) → start ≡ length front → Alike front l m at i
alike front l m start at i same at_is e = record { same = same; at_is = omega (arith, at_is, e, length-append front (flat_map octet_positions (take i l))) }

-- ---- for the functions

abbrev pub at_place : ℕ → ℕ → ℕ → Parting
at_place place before after = record { place = place; before = before; after = after }

pub part_short : (label : Label) (i : ℕ) → length (flat_map octet_positions (take i label)) ≤ length (flat_map octet_positions label)
part_short label zero = omega arith
part_short [] (suc i) = omega arith
part_short (c ∷ cs) (suc i) = omega (arith, part_short cs i, length-append (octet_positions c) (flat_map octet_positions (take i cs)), length-append (octet_positions c) (flat_map octet_positions cs))

-- a name has fewer labels than octets
pub labels_few : (name : Name) → length name < length (wire name)
labels_few [] = lit< tt
labels_few (l ∷ ls) = omega (arith, labels_few ls, length-append l (wire ls))

pub root_only : (octets : List ℕ) (name : Name) → AllByRecursion IsLabel name → BeginsWith octets name → get_or octets 0 0 ≡ 0 → 0 ≡ length name
root_only octets [] each b z = refl
root_only octets (l ∷ ls) each b z = absurd (label_starts octets (l ∷ ls) each b (omega arith) z)

pub part_behind : (n : ℕ) (octets : List ℕ) → take (length octets - n) (drop n octets) ≡ drop n octets
part_behind n octets = take_all (length octets - n) (drop n octets) (omega (arith, length-drop n octets))

pub key_room : (name others : Name) (label : Label) (end : ℕ) → IsName name → name ≡ label ∷ others → end ≡ length (key_of others) → end + length (label_positions label) ≤ 504
key_room name others label end is e at = omega (arith, length-key_of name is, ap length (ap key_of e ∙ key_of-cons label others), length-append (key_of others) (label_positions label))
