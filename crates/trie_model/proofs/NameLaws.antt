-- The key of a name is a key for the trie, and an item that begins with a name tells it.
use Rattle.std.proofs.Common.{◌≡◌, ◌↔◌, ℕ, zero, suc, ◌+◌, ◌-◌, ◌*◌, ◌<◌, ◌≤◌, ◌⊎◌, inl, inr, Bool, true, false, eqb, cond, List, [], ◌∷◌, ◌++◌, length, take, drop, get_or, Some, arith, refl, sym, ap, ◌∙◌, subst, append_assoc, length-append, length-take, take-append-drop}
use Rattle.std.proofs.lemmas.Bool.{cases_lt}
use Rattle.std.proofs.lemmas.Bool.Decides.{nat_tests}
use Rattle.std.proofs.lemmas.List.{get_or_past, get_or_append_left, get_or-append_right}
use Rattle.std.proofs.Math.Seq.{take-append-add}
use Rattle.std.specs.List.{AllByRecursion, flat_map}
use Rattle.zone_model.specs.Names.{Label, Name, IsLabel, wire}
use Rattle.zone_model.specs.Splits.{split_name}
use Rattle.zone_model.specs.Keys.{first_position, second_position, octet_positions, key_of, Leads}
use Rattle.zone_model.specs.Keys.{IsKey as IsNameKey}
use Rattle.zone_model.proofs.OctetKeys.{bounds}
use Rattle.zone_model.proofs.KeyLaws.{key_of-cons, length-key_of}
use Rattle.zone_model.proofs.SplitLemmas.{name_back}
use Rattle.trie_model.specs.Keys.{at, IsKey, IsItem}
use Rattle.trie_model.specs.Order.{labels_in}
use Rattle.trie_model.proofs.ChainLaws.{labels-append, labels_within}

-- positions of octets: none is 0
record Full (k : List ℕ) : Type 0 where
  each : (i : ℕ) → i < length k → (0 < at k i) × (at k i < 47)

full-append : (a b : List ℕ) → Full a → Full b → Full (a ++ b)
full-append a b x y = record {
  each = λ i l. elim (cases_lt i (length a)) [
    | inl m ↦ subst (λ (n : ℕ). (0 < n) × (n < 47)) (sym (get_or_append_left a b 0 i m)) (x.each i m)
    | inr g ↦ subst (λ (n : ℕ). (0 < n) × (n < 47)) (sym (get_or-append_right a b (length a) i 0 refl g)) (y.each (i - length a) (let n = length-append a b in omega arith))
  ];
}

one_full : (p : ℕ) → 0 < p → p < 47 → Full (p ∷ [])
one_full p a b = record { each = each }
  where
    each : (i : ℕ) → i < length (p ∷ []) → (0 < at (p ∷ []) i) × (at (p ∷ []) i < 47)
    each zero l = (a, b)
    each (suc i) l = absurd (omega arith)

eqb_none : (s : ℕ) → eqb s 0 ≡ false → 0 < s
eqb_none s e = grind (arith, nat_tests)

octet_full : (c : ℕ) → c < 256 → Full (octet_positions c)
octet_full c l = go (eqb (second_position c) 0) refl
  where
    go : (b : Bool) → eqb (second_position c) 0 ≡ b → Full (octet_positions c)
    go true e = subst Full (sym (ap (λ x. cond x (first_position c ∷ []) (first_position c ∷ (second_position c ∷ []))) e)) (one_full (first_position c) (bounds c l).some (bounds c l).first)
    go false e =
        subst Full (sym (ap (λ x. cond x (first_position c ∷ []) (first_position c ∷ (second_position c ∷ []))) e))
        (full-append (first_position c ∷ []) (second_position c ∷ []) (one_full (first_position c) (bounds c l).some (bounds c l).first) (one_full (second_position c) (eqb_none (second_position c) e) (bounds c l).second))

octets_full : (label : Label) → AllByRecursion (λ c. c < 256) label → Full (flat_map octet_positions label)
octets_full [] h = record { each = λ i l. absurd (omega arith) }
octets_full (c ∷ cs) h = full-append (octet_positions c) (flat_map octet_positions cs) (octet_full c h.0) (octets_full cs h.1)

octet_some : (c : ℕ) → 0 < length (octet_positions c)
octet_some c = go (eqb (second_position c) 0) refl
  where
    go : (b : Bool) → eqb (second_position c) 0 ≡ b → 0 < length (octet_positions c)
    go true e = subst (λ (k : List ℕ). 0 < length k) (sym (ap (λ x. cond x (first_position c ∷ []) (first_position c ∷ (second_position c ∷ []))) e)) (omega arith)
    go false e = subst (λ (k : List ℕ). 0 < length k) (sym (ap (λ x. cond x (first_position c ∷ []) (first_position c ∷ (second_position c ∷ []))) e)) (omega arith)

octets_some : (label : Label) → 0 < length label → 0 < length (flat_map octet_positions label)
octets_some [] l = absurd (omega arith)
octets_some (c ∷ cs) l = let a = octet_some c in let b = length-append (octet_positions c) (flat_map octet_positions cs) in omega arith

-- what a key is, but for its length
record Shape (k : List ℕ) : Type 0 where
  positions : (i : ℕ) → at k i < 47
  ended : (i : ℕ) → suc i ≡ length k → at k i ≡ 0
  full : (i : ℕ) → i < length k → at k i ≡ 0 → (j : ℕ) × (i ≡ suc j) × (0 < at k j)

zero_at : (j : ℕ) → ◌≡◌ {A = ℕ} (get_or (0 ∷ []) j 0) 0
zero_at zero = refl
zero_at (suc j) = refl

-- a label more
shape-label : (k octets : List ℕ) → Shape k → Full octets → 0 < length octets → Shape (k ++ (octets ++ (0 ∷ [])))
shape-label k octets s f some = record {
  positions = λ i. positions i (cases_lt i (length k)) (cases_lt i (length k + length octets));
  ended = λ i e. ends i (let n = whole in omega arith);
  full = λ i l e. full i l e (cases_lt i (length k)) (cases_lt i (length k + length octets));
}
  where
    whole : length (k ++ (octets ++ (0 ∷ []))) ≡ length k + length octets + 1
    whole = let a = length-append k (octets ++ (0 ∷ [])) in let b = length-append octets (0 ∷ []) in omega arith

    before : (i : ℕ) → i < length k → at (k ++ (octets ++ (0 ∷ []))) i ≡ at k i
    before i l = get_or_append_left k (octets ++ (0 ∷ [])) 0 i l

    within : (i : ℕ) → length k ≤ i → i < length k + length octets → at (k ++ (octets ++ (0 ∷ []))) i ≡ at octets (i - length k)
    within i l m = get_or-append_right k (octets ++ (0 ∷ [])) (length k) i 0 refl l ∙ get_or_append_left octets (0 ∷ []) 0 (i - length k) (omega arith)

    ends : (i : ℕ) → length k + length octets ≤ i → at (k ++ (octets ++ (0 ∷ []))) i ≡ 0
    ends i l =
        get_or-append_right k (octets ++ (0 ∷ [])) (length k) i 0 refl (omega arith) ∙ get_or-append_right octets (0 ∷ []) (length octets) (i - length k) 0 refl (omega arith)
        ∙ zero_at (i - length k - length octets)

    positions : (i : ℕ) → (i < length k) ⊎ (length k ≤ i) → (i < length k + length octets) ⊎ (length k + length octets ≤ i) → at (k ++ (octets ++ (0 ∷ []))) i < 47
    positions i (inl a) b = let e = before i a in let l = s.positions i in omega arith
    positions i (inr a) (inl b) = let e = within i a b in let l = (f.each (i - length k) (omega arith)).1 in omega arith
    positions i (inr a) (inr b) = let e = ends i b in omega arith

    full : (i : ℕ) → i < length (k ++ (octets ++ (0 ∷ []))) → at (k ++ (octets ++ (0 ∷ []))) i ≡ 0 → (i < length k) ⊎ (length k ≤ i) → (i < length k + length octets) ⊎ (length k + length octets ≤ i) →
        (j : ℕ) × (i ≡ suc j) × (0 < at (k ++ (octets ++ (0 ∷ []))) j)
    full i l e (inl a) b =
        let x = s.full i a (sym (before i a) ∙ e) in
        (x.0, x.1, (let n = x.1 in let m = before x.0 (omega arith) in let p = x.2 in omega arith))
    full i l e (inr a) (inl b) = absurd (let m = within i a b in let p = (f.each (i - length k) (omega arith)).0 in omega arith)
    full i l e (inr a) (inr b) =
        (i - 1, omega arith, (let n = whole in let m = within (i - 1) (omega arith) (omega arith) in let p = (f.each (i - 1 - length k) (omega arith)).0 in omega arith))

shape_of : (name : Name) → AllByRecursion IsLabel name → Shape (key_of name)
shape_of [] h = record { positions = λ i. (let e = get_or_past {X = ℕ} [] i 0 (omega arith) in omega arith); ended = λ i e. absurd (omega arith); full = λ i l e. absurd (omega arith) }
shape_of (label ∷ labels) h =
    subst Shape (sym (key_of-cons label labels)) (shape-label (key_of labels) (flat_map octet_positions label) (shape_of labels h.1) (octets_full label h.0.octets) (octets_some label h.0.some))

pub name_key : (k : List ℕ) → IsNameKey k → IsKey k
name_key k h =
    let s = shape_of h.0 h.1.each in
    subst IsKey (sym h.2) (record { short = length-key_of h.0 h.1; positions = s.positions; ended = s.ended; full = s.full })

same_some : (x y : Name × List ℕ) → Some x ≡ Some y → x ≡ y
same_some x y e = cc

-- an item begins with one name
pub one_key_leads : (a b item : List ℕ) → Leads a item → Leads b item → a ≡ b
one_key_leads a b item x y =
    let split = sym (name_back x.name x.front.0 x.is_name) ∙ ap split_name (sym x.front.1) ∙ ap split_name y.front.1 ∙ name_back y.name y.front.0 y.is_name in
    x.key ∙ ap (λ (z : Name × List ℕ). key_of z.0) (same_some (x.name, x.front.0) (y.name, y.front.0) split) ∙ sym y.key

pub leads_by_front : (key item : List ℕ) → IsItem item → Leads key item ↔ Leads key (take 256 item)
leads_by_front key item is = (there, back)
  where
    there : Leads key item → Leads key (take 256 item)
    there x =
        let n : 256 ≡ length (wire x.name) + (256 - length (wire x.name)) = let s = x.is_name.short in omega arith in
        record {
          short = (let t = length-take 256 item in omega arith);
          name = x.name;
          is_name = x.is_name;
          key = x.key;
          front = (take (256 - length (wire x.name)) x.front.0, ap (take 256) x.front.1 ∙ ap (λ (k : ℕ). take k (wire x.name ++ x.front.0)) n ∙ take-append-add (wire x.name) x.front.0 (256 - length (wire x.name)));
        }

    back : Leads key (take 256 item) → Leads key item
    back x = record {
      short = is.short;
      name = x.name;
      is_name = x.is_name;
      key = x.key;
      front = (x.front.0 ++ drop 256 item, sym (take-append-drop 256 item) ∙ ap (λ (xs : List ℕ). xs ++ drop 256 item) x.front.1 ∙ append_assoc (wire x.name) x.front.0 (drop 256 item));
    }

-- ---- a key has an end for each label
no_ends : (k : List ℕ) → Full k → labels_in k ≡ 0
no_ends [] f = refl
no_ends (p ∷ ps) f =
    let e : eqb p 0 ≡ false = let l = (f.each 0 (omega arith)).0 in grind (arith, nat_tests) in
    labels_within p ps e ∙ no_ends ps (record { each = λ i l. f.each (suc i) (omega arith) })

pub labels_of : (name : Name) → AllByRecursion IsLabel name → labels_in (key_of name) ≡ length name
labels_of [] h = refl
labels_of (label ∷ labels) h =
    let octets = flat_map octet_positions label in
    let none = no_ends octets (octets_full label h.0.octets) in
    let a = ap labels_in (key_of-cons label labels) in
    let b = labels-append (key_of labels) (octets ++ (0 ∷ [])) in
    let c = labels-append octets (0 ∷ []) in
    let one : labels_in (0 ∷ []) ≡ 1 = refl in
    let d = labels_of labels h.1 in omega arith

wire_short : (name : Name) → AllByRecursion IsLabel name → 2 * length name + 1 ≤ length (wire name)
wire_short [] h = omega arith
wire_short (label ∷ labels) h = let a = wire_short labels h.1 in let b = h.0.some in let c = length-append label (wire labels) in omega arith

-- at most 127 labels
pub labels_few : (k : List ℕ) → IsNameKey k → labels_in k ≤ 127
labels_few k h = let a = ap labels_in h.2 in let b = labels_of h.0 h.1.each in let c = wire_short h.0 h.1.each in let d = h.1.short in omega arith

pub key_ended : (name : Name) → AllByRecursion IsLabel name → (i : ℕ) → suc i ≡ length (key_of name) → at (key_of name) i ≡ 0
key_ended name h = (shape_of name h).ended
