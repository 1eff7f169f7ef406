-- The first cut from the origin on, by how many labels the names have.
use Rattle.std.proofs.Common.{◌≡◌, ◌∙◌, ℕ, ◌+◌, ◌-◌, ◌<◌, ◌≤◌, Bool, true, false, cond, not, ◌&&◌, List, [], length, inl, inr, Option, Some, None, MatchOption, refl, sym, ap, subst, arith, length-drop}
use Rattle.std.proofs.lemmas.Bool.{cases_lt}
use Rattle.std.specs.Option.{is_some}
use Rattle.zone_model.specs.Names.{Name, ancestor, is_under, same_name}
use Rattle.zone_model.specs.Records.{Rrset, Entry, rrset_of}
use Rattle.zone_model.specs.Versions.{Version, owned}
use Rattle.zone_answer.specs.Answers.{is_cut, cut_above}
use Rattle.zone_answer.specs.Parts.{delegated, IsCutOf, NoneTo, NoneOver}
use Rattle.zone_answer.specs.declared.records.Held.{Held}
use Rattle.zone_answer.proofs.AncestorLaws.{never_cut, cut_by_set, first_above, none_above, ancestor_self}

pub none_to_origin : (origin name : Name) (version : Version) (labels : ℕ) → labels ≡ length origin → NoneTo origin name version labels
none_to_origin origin name version labels e k l = never_cut origin (ancestor k name) version (let n = length-drop (length name - k) name in omega arith)

-- ---- one name

pub not_delegated : (version : Version) (name : Name) → is_some (rrset_of 2 (owned name version)) ≡ false → delegated version name ≡ None
not_delegated version name e = ap (λ b. cond b (Some name) None) e

pub is_delegated : (version : Version) (name : Name) → is_some (rrset_of 2 (owned name version)) ≡ true → delegated version name ≡ Some name
is_delegated version name e = ap (λ b. cond b (Some name) None) e

-- what is found of a type among what a name owns
pub found_set : (found : Option Rrset) (entry owns : Entry) → entry ≡ owns → MatchOption found (rrset_of 2 entry ≡ None) (λ s. rrset_of 2 entry ≡ Some s) → is_some (rrset_of 2 owns) ≡ is_some found
found_set None entry owns e h = ap (λ (x : Entry). is_some (rrset_of 2 x)) (sym e) ∙ ap (λ (x : Option Rrset). is_some x) h
found_set (Some s) entry owns e h = ap (λ (x : Entry). is_some (rrset_of 2 x)) (sym e) ∙ ap (λ (x : Option Rrset). is_some x) h

-- ---- one name after the other

set_none : (version : Version) (name : Name) → None ≡ delegated version name → is_some (rrset_of 2 (owned name version)) ≡ false
set_none version name h = go (is_some (rrset_of 2 (owned name version))) refl
  where
    go : (b : Bool) → is_some (rrset_of 2 (owned name version)) ≡ b → is_some (rrset_of 2 (owned name version)) ≡ false
    go true e = absurd (let k : None ≡ Some name = h ∙ is_delegated version name e in cc)
    go false e = e

set_some : (version : Version) (name other : Name) → delegated version name ≡ Some other → (is_some (rrset_of 2 (owned name version)) ≡ true) × (name ≡ other)
set_some version name other h = go (is_some (rrset_of 2 (owned name version))) refl
  where
    go : (b : Bool) → is_some (rrset_of 2 (owned name version)) ≡ b → (is_some (rrset_of 2 (owned name version)) ≡ true) × (name ≡ other)
    go true e = (e, (let k : Some name ≡ Some other = sym (is_delegated version name e) ∙ h in cc))
    go false e = absurd (let k : None ≡ Some other = sym (not_delegated version name e) ∙ h in cc)

pub none_to_next : (origin name : Name) (version : Version) (labels : ℕ) → is_under name origin ≡ true → length origin ≤ labels → labels < length name → NoneTo origin name version labels → delegated version (ancestor (labels + 1) name) ≡ None → NoneTo origin name version (labels + 1)
none_to_next origin name version labels u a b none d k l = elim (cases_lt labels k) [
  | inl m ↦ (
      let same : labels + 1 ≡ k = omega arith in
      let e = cut_by_set origin name (labels + 1) version u (omega arith) (omega arith) ∙ set_none version (ancestor (labels + 1) name) (sym d) in
      subst (λ (n : ℕ). is_cut origin version (ancestor n name) ≡ false) same e
      )
  | inr g ↦ none k g
]

pub cut_found : (origin name : Name) (version : Version) (octets : List ℕ) (labels : ℕ) (cut : Held) → is_under name origin ≡ true → length origin ≤ labels → labels < length name → NoneTo origin name version labels → IsCutOf version octets (delegated version (ancestor (labels + 1) name)) (Some cut) → IsCutOf version octets (cut_above origin version name) (Some cut)
cut_found origin name version octets labels cut u a b none d =
    let s = set_some version (ancestor (labels + 1) name) cut.name d.0 in
    let e = cut_by_set origin name (labels + 1) version u (omega arith) (omega arith) ∙ s.0 in
    (first_above (is_cut origin version) name (labels + 1) (omega arith) e (λ k m. none k (omega arith)) ∙ ap (λ (x : Name). Some x) s.1, d.1)

pub none_over : (origin name : Name) (version : Version) (labels last : ℕ) → last ≡ length name - 1 → last ≤ labels → NoneTo origin name version labels → NoneOver origin name version
none_over origin name version labels last e l none k m = none k (omega arith)

-- ---- the name itself

-- where none above it is a cut, it is the cut, or there is none
pub own_cut : (origin name : Name) (version : Version) → NoneOver origin name version → is_cut origin version name ≡ true → cut_above origin version name ≡ Some name
own_cut origin name version none e =
    let self = ancestor_self name (length name) (omega arith) in
    first_above (is_cut origin version) name (length name) (omega arith) (ap (is_cut origin version) self ∙ e) (λ k m. none k (omega arith)) ∙ ap (λ (x : Name). Some x) self

pub no_cut : (origin name : Name) (version : Version) → NoneOver origin name version → is_cut origin version name ≡ false → cut_above origin version name ≡ None
no_cut origin name version none e = none_above (is_cut origin version) name (λ k m. elim (cases_lt k (length name)) [
  | inl l ↦ none k (omega arith)
  | inr g ↦ ap (is_cut origin version) (ancestor_self name k g) ∙ e
])

-- ---- whether it is a cut

pub own_by_set : (origin name : Name) (version : Version) (entry : Entry) (found : Option Rrset) → is_under name origin ≡ true → length origin < length name → entry ≡ owned name version →
    MatchOption found (rrset_of 2 entry ≡ None) (λ s. rrset_of 2 entry ≡ Some s) → is_cut origin version name ≡ is_some found
own_by_set origin name version entry found u l e f =
    let self = ancestor_self name (length name) (omega arith) in
    ap (is_cut origin version) (sym self) ∙ cut_by_set origin name (length name) version u l (omega arith) ∙ ap (λ (x : Name). is_some (rrset_of 2 (owned x version))) self ∙ found_set found entry (owned name version) e f

and_none : (a b c : Bool) → c ≡ false → (a && (b && c)) ≡ false
and_none true true c e = e
and_none true false c e = refl
and_none false b c e = refl

pub empty_no_cut : (origin name : Name) (version : Version) → [] ≡ owned name version → is_cut origin version name ≡ false
empty_no_cut origin name version e = and_none (is_under name origin) (not (same_name name origin)) (is_some (rrset_of 2 (owned name version))) (ap (λ (x : Entry). is_some (rrset_of 2 x)) (sym e))
