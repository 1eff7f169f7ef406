-- A name is split off from bytes exactly where they begin with one.
use Rattle.std.proofs.Common.{◌≡◌, ◌∙◌, ℕ, zero, suc, ◌+◌, ◌*◌, ◌<◌, ◌≤◌, Bool, true, false, cond, leb, eqb, eq-eqb, ◌&&◌, List, [], ◌∷◌, ◌++◌, length, take, drop, refl, sym, ap, subst, arith, get_or, Option, Some, None, option_and_then, length-append, append_assoc}
use Rattle.std.proofs.lemmas.Bool.Decides.{nat_tests}
use Rattle.std.proofs.lemmas.List.{take_at, drop_at, length-take-le, take-append-drop}
use borrow.Author.Tests.{leb-true, eqb-true}
use Rattle.std.specs.Option.{option_map}
use Rattle.std.specs.List.{list_all, AllByRecursion}
use Rattle.std.specs.Char.{to_ascii_lowercase}
use Rattle.zone_model.specs.Names.{Label, Name, wire, IsName, IsLabel, IsFolded}
use Rattle.zone_model.specs.Splits.{split_octets, split_labels, split_name, is_label_of, under_label}

-- ---- what was spelled is split off

pub octets_back : (octets rest : List ℕ) → split_octets (length octets) (octets ++ rest) ≡ Some (octets, rest)
octets_back octets rest =
    let l : length (octets ++ rest) ≡ length octets + length rest = length-append octets rest in
    let t : leb (length octets) (length (octets ++ rest)) ≡ true = grind (arith, nat_tests) in
    ap (λ b. cond b (Some (take (length octets) (octets ++ rest), drop (length octets) (octets ++ rest))) None) t
    ∙ ap (λ (x : List ℕ). Some (x, drop (length octets) (octets ++ rest))) (take_at octets rest (length octets) refl)
    ∙ ap (λ (x : List ℕ). Some (octets, x)) (drop_at octets rest (length octets) refl)

all_folded : (label : Label) → AllByRecursion IsFolded label → list_all (λ c. eqb (to_ascii_lowercase c) c) label ≡ true
all_folded [] f = refl
all_folded (c ∷ label) f = ap (λ b. b && list_all (λ c. eqb (to_ascii_lowercase c) c) label) (eq-eqb (to_ascii_lowercase c) c f.0) ∙ all_folded label f.1

label_back : (label : Label) → IsLabel label → is_label_of (length label) label ≡ true
label_back label h =
    let a : leb (length label) 63 ≡ true = grind (arith, nat_tests, h.short) in
    rw (a, all_folded label h.folded) refl

zero_ends : (most : ℕ) (rest : List ℕ) → split_labels most (0 ∷ rest) ≡ Some ([], rest)
unfolding split_labels
zero_ends zero rest = refl
zero_ends (suc most) rest = refl

abbrev labels_on : ℕ → ℕ → List ℕ × List ℕ → Option (Name × List ℕ)
labels_on n most x = cond (is_label_of n x.0) (option_map (under_label x.0) (split_labels most x.1)) None

label_step : (n most : ℕ) (bytes : List ℕ) → eqb n 0 ≡ false → split_labels (suc most) (n ∷ bytes) ≡ option_and_then (labels_on n most) (split_octets n bytes)
unfolding split_labels
label_step n most bytes z = ap (λ b. cond b (Some ([], bytes)) (option_and_then (labels_on n most) (split_octets n bytes))) z

pub labels_back : (name : Name) (most : ℕ) (rest : List ℕ) → AllByRecursion IsLabel name → length name ≤ most → split_labels most (wire name ++ rest) ≡ Some (name, rest)
labels_back [] most rest h le = zero_ends most rest
labels_back (label ∷ name) zero rest h le = absurd (omega arith)
labels_back (label ∷ name) (suc most) rest h le =
    let z : eqb (length label) 0 ≡ false = grind (arith, nat_tests, h.0.some) in
    label_step (length label) most ((label ++ wire name) ++ rest) z
    ∙ ap (λ (l : List ℕ). option_and_then (labels_on (length label) most) (split_octets (length label) l)) (append_assoc label (wire name) rest)
    ∙ ap (option_and_then (labels_on (length label) most)) (octets_back label (wire name ++ rest))
    ∙ ap (λ b. cond b (option_map (under_label label) (split_labels most (wire name ++ rest))) None) (label_back label h.0)
    ∙ ap (option_map (under_label label)) (labels_back name most rest h.1 (omega arith))

more_octets : (name : Name) → AllByRecursion IsLabel name → 2 * length name + 1 ≤ length (wire name)
more_octets [] h = omega arith
more_octets (label ∷ name) h =
    let i : 2 * length name + 1 ≤ length (wire name) = more_octets name h.1 in
    omega (arith, h.0.some, length-append label (wire name))

abbrev short_enough : Name × List ℕ → Option (Name × List ℕ)
short_enough x = cond (leb (length (wire x.0)) 255) (Some x) None

pub name_back : (name : Name) (rest : List ℕ) → IsName name → split_name (wire name ++ rest) ≡ Some (name, rest)
name_back name rest h =
    let le : length name ≤ 127 = omega (arith, more_octets name h.each, h.short) in
    let t : leb (length (wire name)) 255 ≡ true = grind (arith, nat_tests, h.short) in
    ap (option_and_then short_enough) (labels_back name 127 rest h.each le) ∙ ap (λ b. cond b (Some (name, rest)) None) t

-- ---- only a name is split off

abbrev pub IsBytes : List ℕ → Type 0
IsBytes bs = (i : ℕ) → get_or bs i 0 < 256

pub and_some : {A B : Type 0} (f : A → Option B) (o : Option A) (y : B) → option_and_then f o ≡ Some y → (x : A) × (o ≡ Some x) × (f x ≡ Some y)
and_some f None y h = absurd cc
and_some f (Some x) y h = (x, refl, h)

pub map_some : {A B : Type 0} (f : A → B) (o : Option A) (y : B) → option_map f o ≡ Some y → (x : A) × (o ≡ Some x) × (f x ≡ y)
map_some f None y h = absurd cc
map_some f (Some x) y h = (x, refl, cc)

pub cond_some : {A : Type 0} (b : Bool) (o : Option A) (y : A) → cond b o None ≡ Some y → (b ≡ true) × (o ≡ Some y)
cond_some true o y h = (refl, h)
cond_some false o y h = absurd cc

pub bytes_behind : (a r : List ℕ) → IsBytes (a ++ r) → IsBytes r
bytes_behind [] r h = h
bytes_behind (x ∷ a) r h = bytes_behind a r (λ i. h (suc i))

pub bytes_before : (a r : List ℕ) → IsBytes (a ++ r) → IsBytes a
bytes_before [] r h i = omega arith
bytes_before (x ∷ a) r h zero = h zero
bytes_before (x ∷ a) r h (suc i) = bytes_before a r (λ j. h (suc j)) i

pub octets_sound : (n : ℕ) (bytes : List ℕ) (x : List ℕ × List ℕ) → split_octets n bytes ≡ Some x → (length x.0 ≡ n) × (bytes ≡ x.0 ++ x.1)
octets_sound n bytes x h =
    let c = cond_some (leb n (length bytes)) (Some (take n bytes, drop n bytes)) x h in
    let le : n ≤ length bytes = leb-true n (length bytes) c.0 in
    let e : (take n bytes, drop n bytes) ≡ x = cc in
    (ap (λ (y : List ℕ × List ℕ). length y.0) (sym e) ∙ length-take-le n bytes le, sym (take-append-drop n bytes) ∙ ap (λ (y : List ℕ × List ℕ). y.0 ++ y.1) e)

and_both : (a b : Bool) → (a && b) ≡ true → (a ≡ true) × (b ≡ true)
and_both true b h = (refl, h)
and_both false b h = absurd cc

folded_of : (label : Label) → list_all (λ c. eqb (to_ascii_lowercase c) c) label ≡ true → AllByRecursion IsFolded label
folded_of [] h = tt
folded_of (c ∷ label) h = let f = and_both (eqb (to_ascii_lowercase c) c) (list_all (λ c. eqb (to_ascii_lowercase c) c) label) h in (eqb-true (to_ascii_lowercase c) c f.0, folded_of label f.1)

bytes_of : (label : Label) → IsBytes label → AllByRecursion (λ c. c < 256) label
bytes_of [] b = tt
bytes_of (c ∷ label) b = (b 0, bytes_of label (λ i. b (suc i)))

label_of : (n : ℕ) (label : Label) → 0 < n → length label ≡ n → IsBytes label → is_label_of n label ≡ true → IsLabel label
label_of n label some e b h =
    let f = and_both (leb n 63) (list_all (λ c. eqb (to_ascii_lowercase c) c) label) h in
    let short : n ≤ 63 = leb-true n 63 f.0 in record {
      some = omega arith;
      short = omega arith;
      octets = bytes_of label b;
      folded = folded_of label f.1;
    }

-- bytes begin with labels that spell a name
pub record Spelled (bytes : List ℕ) (x : Name × List ℕ) : Type 0 where
  pub each : AllByRecursion IsLabel x.0
  pub octets : bytes ≡ wire x.0 ++ x.1

longer : (n : ℕ) (label : Label) (bytes behind : List ℕ) (x : Name × List ℕ) → length label ≡ n → bytes ≡ label ++ behind → IsLabel label → Spelled behind x → Spelled (n ∷ bytes) (label ∷ x.0, x.1)
longer n label bytes behind x size e l s = record {
  each = (l, s.each);
  octets = ap (λ (m : ℕ). m ∷ bytes) (sym size) ∙ ap (λ (k : List ℕ). length label ∷ k) (e ∙ ap (λ (k : List ℕ). label ++ k) s.octets ∙ sym (append_assoc label (wire x.0) x.1));
}

ends_here : (n : ℕ) (rest : List ℕ) (x : Name × List ℕ) → eqb n 0 ≡ true → Some ([], rest) ≡ Some x → Spelled (n ∷ rest) x
ends_here n rest x z h =
    let zeroth : n ≡ 0 = eqb-true n 0 z in
    let e : ([], rest) ≡ x = cc in
    subst (λ (y : Name × List ℕ). Spelled (n ∷ rest) y) e (record { each = tt; octets = ap (λ (m : ℕ). m ∷ rest) zeroth })

label_sound : (n most : ℕ) (bytes : List ℕ) (x : Name × List ℕ) → IsBytes bytes → eqb n 0 ≡ false → ((behind : List ℕ) (y : Name × List ℕ) → IsBytes behind → split_labels most behind ≡ Some y → Spelled behind y) → option_and_then (labels_on n most) (split_octets n bytes) ≡ Some x → Spelled (n ∷ bytes) x
label_sound n most bytes x b z f h =
    let a = and_some (labels_on n most) (split_octets n bytes) x h in
    let o = octets_sound n bytes a.0 a.1 in
    let c = cond_some (is_label_of n a.0.0) (option_map (under_label a.0.0) (split_labels most a.0.1)) x a.2 in
    let m = map_some (under_label a.0.0) (split_labels most a.0.1) x c.1 in
    let some : 0 < n = grind (arith, nat_tests) in
    let both : IsBytes (a.0.0 ++ a.0.1) = subst IsBytes o.1 b in
    let l = label_of n a.0.0 some o.0 (bytes_before a.0.0 a.0.1 both) c.0 in
    subst (λ (y : Name × List ℕ). Spelled (n ∷ bytes) y) m.2 (longer n a.0.0 bytes a.0.1 m.0 o.0 o.1 l (f a.0.1 m.0 (bytes_behind a.0.0 a.0.1 both) m.1))

zero_or_not : (n : ℕ) (t : Bool) → eqb n 0 ≡ t → {P : Type 0} → (eqb n 0 ≡ true → P) → (eqb n 0 ≡ false → P) → P
zero_or_not n true e p q = p e
zero_or_not n false e p q = q e

pub labels_sound : (most : ℕ) (bytes : List ℕ) (x : Name × List ℕ) → IsBytes bytes → split_labels most bytes ≡ Some x → Spelled bytes x
unfolding split_labels
labels_sound zero [] x b h = absurd cc
labels_sound (suc most) [] x b h = absurd cc
labels_sound zero (n ∷ rest) x b h =
    zero_or_not n (eqb n 0) refl
    (λ z. ends_here n rest x z (ap (λ t. cond t (Some ([], rest)) None) (sym z) ∙ h))
    (λ z. let k : None ≡ Some x = ap (λ t. cond t (Some ([], rest)) None) (sym z) ∙ h in absurd cc)
labels_sound (suc most) (n ∷ rest) x b h =
    zero_or_not n (eqb n 0) refl
    (λ z. ends_here n rest x z (ap (λ t. cond t (Some ([], rest)) (option_and_then (labels_on n most) (split_octets n rest))) (sym z) ∙ h))
    (λ z. label_sound n most rest x (λ i. b (suc i)) z (labels_sound most) (ap (λ t. cond t (Some ([], rest)) (option_and_then (labels_on n most) (split_octets n rest))) (sym z) ∙ h))

pub record SplitsName (bytes : List ℕ) (x : Name × List ℕ) : Type 0 where
  pub name : IsName x.0
  pub octets : bytes ≡ wire x.0 ++ x.1

pub name_sound : (bytes : List ℕ) (x : Name × List ℕ) → IsBytes bytes → split_name bytes ≡ Some x → SplitsName bytes x
name_sound bytes x b h =
    let a = and_some short_enough (split_labels 127 bytes) x h in
    let c = cond_some (leb (length (wire a.0.0)) 255) (Some a.0) x a.2 in
    let e : a.0 ≡ x = cc in
    let s = labels_sound 127 bytes a.0 b a.1 in
    subst (λ (y : Name × List ℕ). SplitsName bytes y) e (record { name = record { each = s.each; short = leb-true (length (wire a.0.0)) 255 c.0 }; octets = s.octets })
