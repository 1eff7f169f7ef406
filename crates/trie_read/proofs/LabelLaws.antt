-- Where the labels of a key end, and how many do in its front.
use Rattle.std.proofs.Common.{◌≡◌, ℕ, ◌+◌, ◌-◌, ◌<◌, ◌≤◌, List, [], ◌∷◌, length, take, drop, get_or, take-append-drop, length-append, arith, inl, inr, refl, sym, ◌∙◌, ap, subst}
use Rattle.std.proofs.lemmas.List.{get_or-append_right}
use Rattle.std.specs.List.{AllByRecursion, flat_map}
use Rattle.zone_model.specs.Names.{Name, IsLabel, wire}
use Rattle.zone_model.specs.Keys.{octet_positions, label_positions, key_of}
use Rattle.zone_model.proofs.KeyLaws.{key_of-cons}
use Rattle.shift_key.proofs.PositionLemmas.{some_positions, nonzero_inside}
use Rattle.trie_model.specs.Order.{EndsAt, labels_in}
use Rattle.trie_model.proofs.ChainLaws.{labels-append}

pub labels_front : (n : ℕ) (k : List ℕ) → labels_in (take n k) ≤ labels_in k
labels_front n k = let e = ap labels_in (take-append-drop n k) in let f = labels-append (take n k) (drop n k) in omega arith

octets_long : (label : List ℕ) → length label ≤ length (flat_map octet_positions label)
octets_long [] = omega arith
octets_long (c ∷ cs) = let n = octets_long cs in let some = some_positions c in let whole = length-append (octet_positions c) (flat_map octet_positions cs) in omega arith

-- no label ends within the last one
pub last_within : (name : Name) → AllByRecursion IsLabel name → (place : ℕ) → length (key_of name) - (get_or (wire name) 0 0 + 1) < place → place < length (key_of name) → EndsAt place (key_of name) → ⊥
last_within [] h place l m ends = absurd (omega arith)
last_within (label ∷ labels) h place l m ends =
    let n = octets_long label in
    let first : get_or (wire (label ∷ labels)) 0 0 ≡ length label = refl in
    let whole = key_of-cons label labels in
    let size = ap length whole in
    let parts = length-append (key_of labels) (label_positions label) in
    let end = length-append (flat_map octet_positions label) (0 ∷ []) in
    elim ends [
      | inl z ↦ omega arith
      | inr z ↦ nonzero_inside label (0 ∷ []) (place - 1 - length (key_of labels)) h.0.octets (omega arith)
          (sym (get_or-append_right (key_of labels) (label_positions label) (length (key_of labels)) (place - 1) 0 refl (omega arith)) ∙ ap (λ (k : List ℕ). get_or k (place - 1) 0) (sym whole) ∙ z)
    ]

pub last_there : (k octets : List ℕ) (name : Name) → AllByRecursion IsLabel name → k ≡ key_of name → octets ≡ wire name → (last : ℕ) → last ≡ length k - (get_or octets 0 0 + 1) → (place : ℕ) → last < place → place < length k → EndsAt place k → ⊥
last_there k octets name h e f last is place l m ends =
    let n = ap length e in
    let o = ap (λ (xs : List ℕ). get_or xs 0 0) f in
    last_within name h place (omega arith) (omega arith) (subst (EndsAt place) e ends)

pub wire_some : (name : Name) → 0 < length (wire name)
wire_some [] = omega arith
wire_some (label ∷ labels) = omega arith
