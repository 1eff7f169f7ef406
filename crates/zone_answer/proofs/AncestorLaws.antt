-- Names at or above a name, by how many labels they have.
use Rattle.std.proofs.Common.{◌≡◌, ◌∙◌, ℕ, zero, suc, ◌+◌, ◌-◌, ◌<◌, ◌≤◌, Bool, true, false, cond, not, ◌&&◌, ◌||◌, [], ◌∷◌, ◌++◌, length, drop, slice_index_or, reverse, inl, inr, Option, Some, None, refl, sym, ap, subst, arith, length-append, length-drop}
use Rattle.std.proofs.lemmas.Bool.{cases_lt}
use Rattle.std.proofs.lemmas.List.{reverse-append}
use Rattle.std.proofs.lemmas.List.Folds.{find-append}
use Rattle.std.specs.List.{find, AllByRecursion}
use Rattle.std.specs.Option.{option_or, is_some}
use Rattle.zone_model.specs.Names.{Label, Name, wire, is_under, same_name, ancestor}
use Rattle.zone_model.specs.Records.{Entry, rrset_of}
use Rattle.zone_model.specs.Versions.{Version, owned, exists}
use Rattle.zone_model.proofs.NameLemmas.{same_name-lengths, is_under-shorter, is_under-drop}
use Rattle.zone_model.proofs.OrderLemmas.{under_ends, ends_under}
use Rattle.zone_answer.specs.Answers.{at_or_above, is_cut, encloser, ns_type}
use Rattle.zone_answer.specs.Standing.{IsStorable}

ancestor_of : (label : Label) (labels : Name) (k : ℕ) → k ≤ length labels → ancestor k (label ∷ labels) ≡ ancestor k labels
ancestor_of label labels k l = let e : suc (length labels) - k ≡ suc (length labels - k) = omega arith in ap (λ (n : ℕ). drop n (label ∷ labels)) e

pub ancestor_self : (name : Name) (n : ℕ) → length name ≤ n → ancestor n name ≡ name
ancestor_self name n l = let e : length name - n ≡ 0 = omega arith in ap (λ (k : ℕ). drop k name) e

top_first : (test : Name → Bool) (label : Label) (labels : Name) → find test (reverse (at_or_above (label ∷ labels))) ≡ option_or (find test (reverse (at_or_above labels))) (find test ((label ∷ labels) ∷ []))
top_first test label labels = ap (find test) (reverse-append ((label ∷ labels) ∷ []) (at_or_above labels)) ∙ find-append test (reverse (at_or_above labels)) ((label ∷ labels) ∷ [])

pub none_above : (test : Name → Bool) (name : Name) → ((k : ℕ) → k ≤ length name → test (ancestor k name) ≡ false) → find test (reverse (at_or_above name)) ≡ None
none_above test [] h = ap (λ b. cond b (Some []) None) (h 0 (omega arith))
none_above test (label ∷ labels) h =
    let self : test (label ∷ labels) ≡ false = sym (ap test (ancestor_self (label ∷ labels) (suc (length labels)) (omega arith))) ∙ h (suc (length labels)) (omega arith) in
    let above = none_above test labels (λ k l. sym (ap test (ancestor_of label labels k l)) ∙ h k (omega arith)) in
    top_first test label labels ∙ ap (λ (o : Option Name). option_or o (find test ((label ∷ labels) ∷ []))) above ∙ ap (λ b. cond b (Some (label ∷ labels)) None) self

pub first_above : (test : Name → Bool) (name : Name) (n : ℕ) → n ≤ length name → test (ancestor n name) ≡ true → ((k : ℕ) → k < n → test (ancestor k name) ≡ false) → find test (reverse (at_or_above name)) ≡ Some (ancestor n name)
first_above test [] n l t h =
    let self : ancestor n [] ≡ [] = ancestor_self [] n (omega arith) in
    ap (λ b. cond b (Some []) None) (sym (ap test self) ∙ t) ∙ ap (λ (x : Name). Some x) (sym self)
first_above test (label ∷ labels) n l t h = elim (cases_lt (length labels) n) [
  | inl m ↦ (
      let self : ancestor n (label ∷ labels) ≡ label ∷ labels = ancestor_self (label ∷ labels) n (omega arith) in
      let above = none_above test labels (λ k j. sym (ap test (ancestor_of label labels k j)) ∙ h k (omega arith)) in
      top_first test label labels ∙ ap (λ (o : Option Name). option_or o (find test ((label ∷ labels) ∷ []))) above
      ∙ ap (λ b. cond b (Some (label ∷ labels)) None) (sym (ap test self) ∙ t) ∙ ap (λ (x : Name). Some x) (sym self)
      )
  | inr g ↦ (
      let same : ancestor n (label ∷ labels) ≡ ancestor n labels = ancestor_of label labels n g in
      let above = first_above test labels n g (sym (ap test same) ∙ t) (λ k j. sym (ap test (ancestor_of label labels k (omega arith))) ∙ h k j) in
      top_first test label labels ∙ ap (λ (o : Option Name). option_or o (find test ((label ∷ labels) ∷ []))) above ∙ ap (λ (x : Name). Some x) (sym same)
      )
]

-- ---- octets

pub some_octets : (name : Name) → 0 < length (wire name)
some_octets [] = omega arith
some_octets (label ∷ labels) = omega arith

front_octets : (front top : Name) → length front + length (wire top) ≤ length (wire (front ++ top))
front_octets [] top = omega arith
front_octets (label ∷ front) top =
    let rest = front_octets front top in
    let all = length-append label (wire (front ++ top)) in
    omega arith

-- what has no more octets than a name that it is at or under has no more labels
pub as_short : (name top : Name) → is_under name top ≡ true → length (wire name) ≤ length (wire top) → length name ≤ length top
as_short name top u short =
    let e = under_ends name top u in
    let octets = front_octets e.0 top in
    let same = ap (λ (n : Name). length (wire n)) e.1 in
    let labels = ap (λ (n : Name). length n) e.1 ∙ length-append e.0 top in
    omega arith

-- of what has no more octets than a name and a first label have, the first label alone may stand over that name
pub right_under : (name top : Name) → is_under name top ≡ true → length (wire name) ≤ length (wire top) + 1 + slice_index_or (wire name) 0 0 → length name ≤ length top + 1
right_under name top u short = let e = under_ends name top u in go e.0 e.1
  where
    go : (front : Name) → name ≡ front ++ top → length name ≤ length top + 1
    go [] e = let labels = ap (λ (n : Name). length n) e in omega arith
    go (label ∷ front) e =
        let labels = ap (λ (n : Name). length n) e ∙ length-append (label ∷ front) top in
        let octets = ap (λ (n : Name). length (wire n)) e in
        let all = length-append label (wire (front ++ top)) in
        let first : slice_index_or (wire name) 0 0 ≡ length label = ap (λ (n : Name). slice_index_or (wire n) 0 0) e in
        let rest = front_octets front top in
        omega arith

-- and what has more has more
pub longer : (name top : Name) → is_under name top ≡ true → length (wire top) < length (wire name) → length top < length name
longer name top u long = let e = under_ends name top u in go e.0 e.1
  where
    go : (front : Name) → name ≡ front ++ top → length top < length name
    go [] e = absurd (let same = ap (λ (n : Name). length (wire n)) e in omega arith)
    go (label ∷ front) e = let labels = ap (λ (n : Name). length n) e ∙ length-append (label ∷ front) top in omega arith

-- ---- cuts

and-self : (s b : Bool) → (s && (not s && b)) ≡ false
and-self true b = refl
and-self false b = refl

-- a name with no more labels than the origin is no cut
pub never_cut : (origin x : Name) (version : Version) → length x ≤ length origin → is_cut origin version x ≡ false
never_cut origin x version l = elim (cases_lt (length x) (length origin)) [
  | inl m ↦ ap (λ (b : Bool). b && (not (same_name x origin) && is_some (rrset_of ns_type (owned x version)))) (is_under-shorter x origin m)
  | inr g ↦ ap (λ (b : Bool). b && (not (same_name x origin) && is_some (rrset_of ns_type (owned x version)))) (is_under-drop x origin 0 (omega arith)) ∙ and-self (same_name x origin) (is_some (rrset_of ns_type (owned x version)))
]

drop_front : (n : ℕ) (front top : Name) → n ≤ length front → drop n (front ++ top) ≡ drop n front ++ top
drop_front zero front top l = refl
drop_front (suc n) [] top l = absurd (omega arith)
drop_front (suc n) (x ∷ front) top l = drop_front n front top (omega arith)

pub length-ancestor : (k : ℕ) (name : Name) → k ≤ length name → length (ancestor k name) ≡ k
length-ancestor k name l = length-drop (length name - k) name ∙ (omega arith)

-- one with more labels at or above a name in the zone is a cut where it owns an NS set
pub cut_by_set : (origin name : Name) (k : ℕ) (version : Version) → is_under name origin ≡ true → length origin < k → k ≤ length name → is_cut origin version (ancestor k name) ≡ is_some (rrset_of ns_type (owned (ancestor k name) version))
cut_by_set origin name k version u l m =
    let e = under_ends name origin u in
    let sizes = ap (λ (x : Name). length x) e.1 in
    let parts = length-append e.0 origin in
    let x = ancestor k name in
    let is : x ≡ drop (length name - k) e.0 ++ origin = ap (drop (length name - k)) e.1 ∙ drop_front (length name - k) e.0 origin (omega arith) in
    let under : is_under x origin ≡ true = subst (λ (y : Name). is_under y origin ≡ true) (sym is) (ends_under (drop (length name - k) e.0) origin) in
    let other : same_name x origin ≡ false = let n = length-ancestor k name m in same_name-lengths x origin (λ s. omega arith) in
    let b = is_some (rrset_of ns_type (owned x version)) in
    ap (λ (t : Bool). t && (not (same_name x origin) && b)) under ∙ ap (λ (t : Bool). not t && b) other

-- ---- the closest encloser

pub encloser_here : (version : Version) (name : Name) → exists name version ≡ true → encloser version name ≡ Some name
encloser_here version [] e = ap (λ b. cond b (Some []) None) e
encloser_here version (label ∷ labels) e = ap (λ b. cond b (Some (label ∷ labels)) (encloser version labels)) e

pub encloser_above : (version : Version) (label : Label) (labels : Name) → exists (label ∷ labels) version ≡ false → encloser version (label ∷ labels) ≡ encloser version labels
encloser_above version label labels e = ap (λ b. cond b (Some (label ∷ labels)) (encloser version labels)) e

-- ---- names that are too long

wire_longer : (front top : Name) → length (wire top) ≤ length (wire (front ++ top))
wire_longer [] top = omega arith
wire_longer (label ∷ front) top = let a = length-append label (wire (front ++ top)) in let b = wire_longer front top in omega arith

not_first : (name : Name) (pair : Name × Entry) → 255 < length (wire name) → IsStorable pair → (rest b : Bool) → is_under pair.0 name ≡ b → rest ≡ false → (is_under pair.0 name || rest) ≡ false
not_first name pair l item rest true u n =
    let e = under_ends pair.0 name u in
    let longer = wire_longer e.0 name in
    let size = ap (λ (x : Name). length (wire x)) e.1 in
    let short = item.name.short in absurd (omega arith)
not_first name pair l item rest false u n = ap (λ (b : Bool). b || rest) u ∙ n

pub none_too_long : (name : Name) (version : Version) → 255 < length (wire name) → AllByRecursion IsStorable version → exists name version ≡ false
none_too_long name [] l items = refl
none_too_long name (pair ∷ version) l items = not_first name pair l items.0 (exists name version) (is_under pair.0 name) refl (none_too_long name version l items.1)

pub self_under : (name : Name) → is_under name name ≡ true
self_under name = ends_under [] name

-- the last name above that exists is the closest encloser
pub encloser_at : (version : Version) (name : Name) (n : ℕ) → n ≤ length name → exists (ancestor n name) version ≡ true → ((k : ℕ) → n < k → k ≤ length name → exists (ancestor k name) version ≡ false) → encloser version name ≡ Some (ancestor n name)
encloser_at version [] n l here beyond =
    let self : ancestor n [] ≡ [] = ancestor_self [] n (omega arith) in
    encloser_here version [] (sym (ap (λ (x : Name). exists x version) self) ∙ here) ∙ ap (λ (x : Name). Some x) (sym self)
encloser_at version (label ∷ labels) n l here beyond = elim (cases_lt (length labels) n) [
  | inl m ↦ (
      let self : ancestor n (label ∷ labels) ≡ label ∷ labels = ancestor_self (label ∷ labels) n (omega arith) in
      encloser_here version (label ∷ labels) (sym (ap (λ (x : Name). exists x version) self) ∙ here) ∙ ap (λ (x : Name). Some x) (sym self)
      )
  | inr g ↦ (
      let self : ancestor (suc (length labels)) (label ∷ labels) ≡ label ∷ labels = ancestor_self (label ∷ labels) (suc (length labels)) (omega arith) in
      let same : ancestor n (label ∷ labels) ≡ ancestor n labels = ancestor_of label labels n g in
      let never : exists (label ∷ labels) version ≡ false = sym (ap (λ (x : Name). exists x version) self) ∙ beyond (suc (length labels)) (omega arith) (omega arith) in
      let above = encloser_at version labels n g (sym (ap (λ (x : Name). exists x version) same) ∙ here) (λ k j m. sym (ap (λ (x : Name). exists x version) (ancestor_of label labels k m)) ∙ beyond k j (omega arith)) in
      encloser_above version label labels never ∙ above ∙ ap (λ (x : Name). Some x) (sym same)
      )
]

-- a version without names has none
pub no_encloser : (name : Name) → encloser [] name ≡ None
no_encloser [] = refl
no_encloser (label ∷ labels) = no_encloser labels
