-- The positions of an octet and of a label.
use Rattle.std.proofs.Common.{◌≡◌, ℕ, ◌-◌, ◌<◌, true, false, List, [], ◌∷◌, ◌++◌, length, get_or, sym, ap, ◌∙◌, refl, arith, append_assoc, append-nil, length-append, eqb, inl, inr}
use Rattle.std.proofs.lemmas.Bool.{cases_lt, cases_eq}
use Rattle.std.proofs.lemmas.List.{get_or_append_left, get_or-append_right}
use Rattle.std.specs.List.{AllByRecursion, flat_map}
use Rattle.zone_model.specs.Keys.{first_position, second_position, octet_positions}
use Rattle.zone_model.proofs.OctetKeys.{bounds}

pub one_position : (c : ℕ) → second_position c ≡ 0 → octet_positions c ≡ first_position c ∷ []
one_position c z = let e : eqb (second_position c) 0 ≡ true = grind arith in rw e refl

pub two_positions : (c : ℕ) → (second_position c ≡ 0 → ⊥) → octet_positions c ≡ first_position c ∷ second_position c ∷ []
two_positions c n = let e : eqb (second_position c) 0 ≡ false = grind arith in rw e refl

pub some_positions : (c : ℕ) → 0 < length (octet_positions c)
some_positions c = elim (cases_eq (second_position c) 0) [ inl z ↦ omega (arith, ap length (one_position c z)) | inr n ↦ omega (arith, ap length (two_positions c n)) ]

nonzero_octet : (c k : ℕ) → c < 256 → k < length (octet_positions c) → get_or (octet_positions c) k 0 ≡ 0 → ⊥
nonzero_octet c k small h e =
    elim (cases_eq (second_position c) 0) [
      | inl z ↦
          let first : k ≡ 0 = omega (arith, ap length (one_position c z)) in
          let read : get_or (octet_positions c) k 0 ≡ first_position c = ap (λ (j : ℕ). get_or (octet_positions c) j 0) first ∙ ap (λ (l : List ℕ). get_or l 0 0) (one_position c z) in
          omega (arith, (bounds c small).some)
      | inr n ↦ elim (cases_eq k 0) [
        | inl first ↦
            let read : get_or (octet_positions c) k 0 ≡ first_position c = ap (λ (j : ℕ). get_or (octet_positions c) j 0) first ∙ ap (λ (l : List ℕ). get_or l 0 0) (two_positions c n) in
            omega (arith, (bounds c small).some)
        | inr m ↦
            let second : k ≡ 1 = omega (arith, ap length (two_positions c n)) in
            let read : get_or (octet_positions c) k 0 ≡ second_position c = ap (λ (j : ℕ). get_or (octet_positions c) j 0) second ∙ ap (λ (l : List ℕ). get_or l 1 0) (two_positions c n) in
            n (sym read ∙ e)
      ]
    ]

-- no position of an octet is 0
pub nonzero_inside : (label rest : List ℕ) (k : ℕ) → AllByRecursion (λ c. c < 256) label → k < length (flat_map octet_positions label) → get_or (flat_map octet_positions label ++ rest) k 0 ≡ 0 → ⊥
nonzero_inside [] rest k small h e = absurd (omega arith)
nonzero_inside (c ∷ cs) rest k small h e =
    let whole : (octet_positions c ++ flat_map octet_positions cs) ++ rest ≡ octet_positions c ++ (flat_map octet_positions cs ++ rest) = append_assoc (octet_positions c) (flat_map octet_positions cs) rest in
    let read : get_or (octet_positions c ++ (flat_map octet_positions cs ++ rest)) k 0 ≡ 0 = ap (λ (l : List ℕ). get_or l k 0) (sym whole) ∙ e in
    elim (cases_lt k (length (octet_positions c))) [
      | inl lt ↦ nonzero_octet c k small.0 lt (sym (get_or_append_left (octet_positions c) (flat_map octet_positions cs ++ rest) 0 k lt) ∙ read)
      | inr past ↦
          nonzero_inside cs rest (k - length (octet_positions c)) small.1 (omega (arith, length-append (octet_positions c) (flat_map octet_positions cs)))
          (sym (get_or-append_right (octet_positions c) (flat_map octet_positions cs ++ rest) (length (octet_positions c)) k 0 refl past) ∙ read)
    ]

octets-append : (xs ys : List ℕ) → flat_map octet_positions (xs ++ ys) ≡ flat_map octet_positions xs ++ flat_map octet_positions ys
octets-append [] ys = refl
octets-append (x ∷ xs) ys = ap (λ (k : List ℕ). octet_positions x ++ k) (octets-append xs ys) ∙ sym (append_assoc (octet_positions x) (flat_map octet_positions xs) (flat_map octet_positions ys))

pub octets-push : (xs : List ℕ) (c : ℕ) → flat_map octet_positions (xs ++ c ∷ []) ≡ flat_map octet_positions xs ++ octet_positions c
octets-push xs c = octets-append xs (c ∷ []) ∙ ap (λ (k : List ℕ). flat_map octet_positions xs ++ k) (append-nil (octet_positions c))
