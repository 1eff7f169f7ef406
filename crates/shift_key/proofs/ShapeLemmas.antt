-- The shape of a name's key: small positions, a 0 at its end, and no two zeros side by side.
use Rattle.std.proofs.Common.{◌≡◌, ℕ, zero, suc, ◌+◌, ◌-◌, ◌<◌, ◌≤◌, List, [], ◌∷◌, ◌++◌, length, get_or, sym, ap, ◌∙◌, subst, refl, arith, append_assoc, length-append, lit<, inl, inr}
use Rattle.std.proofs.lemmas.Bool.{cases_lt, cases_eq}
use Rattle.std.proofs.lemmas.List.{get_or_append_left, get_or-append_right}
use Rattle.std.proofs.Math.Seq.{get_or-append_seam}
use Rattle.std.specs.List.{AllByRecursion, flat_map}
use Rattle.zone_model.specs.Names.{Label, Name, IsLabel}
use Rattle.zone_model.specs.Keys.{second_position, octet_positions, label_positions, key_of, IsKey}
use Rattle.zone_model.proofs.OctetKeys.{bounds}
use Rattle.zone_model.proofs.KeyLaws.{key_of-cons, length-key_of}
use Rattle.dns_name.proofs.BodyLemmas.{all_append}
use Rattle.shift_key.specs.Shape.{KeyShape}
use Rattle.shift_key.proofs.PositionLemmas.{one_position, two_positions, some_positions, nonzero_inside}

-- ---- small positions

abbrev Small : List ℕ → Type 0
Small = AllByRecursion (λ p. p < 47)

small_octet : (c : ℕ) → c < 256 → Small (octet_positions c)
small_octet c h =
    let b = bounds c h in
    elim (cases_eq (second_position c) 0) [ inl z ↦ subst Small (sym (one_position c z)) (b.first, tt) | inr n ↦ subst Small (sym (two_positions c n)) (b.first, (b.second, tt)) ]

small_octets : (l : Label) → AllByRecursion (λ c. c < 256) l → Small (flat_map octet_positions l)
small_octets [] h = tt
small_octets (c ∷ cs) h = all_append (λ p. p < 47) (octet_positions c) (flat_map octet_positions cs) (small_octet c h.0) (small_octets cs h.1)

small_key : (name : Name) → AllByRecursion IsLabel name → Small (key_of name)
small_key [] h = tt
small_key (l ∷ ls) h =
    subst Small (sym (key_of-cons l ls))
    (all_append (λ p. p < 47) (key_of ls) (label_positions l) (small_key ls h.1) (all_append (λ p. p < 47) (flat_map octet_positions l) (0 ∷ []) (small_octets l h.0.octets) (lit< tt, tt)))

small_at : (key : List ℕ) → Small key → (i : ℕ) → get_or key i 0 < 47
small_at [] h i = lit< tt
small_at (p ∷ ps) h zero = h.0
small_at (p ∷ ps) h (suc i) = small_at ps h.1 i

-- ---- zeros

-- the key of a name with its nearest label apart, and that label's end
parts : (l : Label) (ls : Name) → key_of (l ∷ ls) ≡ (key_of ls ++ flat_map octet_positions l) ++ 0 ∷ []
parts l ls = key_of-cons l ls ∙ sym (append_assoc (key_of ls) (flat_map octet_positions l) (0 ∷ []))

ends : (name : Name) (i : ℕ) → suc i ≡ length (key_of name) → get_or (key_of name) i 0 ≡ 0
ends [] i e = absurd (omega arith)
ends (l ∷ ls) i e =
    let front : List ℕ = key_of ls ++ flat_map octet_positions l in
    let last : i ≡ length (key_of ls ++ flat_map octet_positions l) = omega (arith, ap length (parts l ls), length-append (key_of ls ++ flat_map octet_positions l) (0 ∷ [])) in
    ap (λ (k : List ℕ). get_or k i 0) (parts l ls) ∙ ap (λ (k : ℕ). get_or ((key_of ls ++ flat_map octet_positions l) ++ 0 ∷ []) k 0) last ∙ get_or-append_seam (key_of ls ++ flat_map octet_positions l) 0 [] 0

octets_long : (l : Label) → 0 < length l → 0 < length (flat_map octet_positions l)
octets_long [] h = absurd (omega arith)
octets_long (c ∷ cs) h = omega (arith, some_positions c, length-append (octet_positions c) (flat_map octet_positions cs))

positive : (n : ℕ) → (n ≡ 0 → ⊥) → 0 < n
positive n h = omega arith

fills : (name : Name) → AllByRecursion IsLabel name → (i : ℕ) → i < length (key_of name) → get_or (key_of name) i 0 ≡ 0 → (j : ℕ) × (i ≡ suc j) × (0 < get_or (key_of name) j 0)
fills [] h i lt z = absurd (omega arith)
fills (l ∷ ls) h i lt z =
    let n : ℕ = length (key_of ls) in
    let whole : key_of (l ∷ ls) ≡ key_of ls ++ label_positions l = key_of-cons l ls in
    let long : length (key_of (l ∷ ls)) ≡ length (key_of ls) + (length (flat_map octet_positions l) + 1) = omega (arith, ap length (key_of-cons l ls), length-append (key_of ls) (label_positions l), length-append (flat_map octet_positions l) (0 ∷ [])) in
    let some : 0 < length (flat_map octet_positions l) = octets_long l h.0.some in
    elim (cases_lt i (length (key_of ls))) [
      | inl low ↦
          let there : get_or (key_of ls) i 0 ≡ 0 = sym (get_or_append_left (key_of ls) (label_positions l) 0 i low) ∙ ap (λ (k : List ℕ). get_or k i 0) (sym whole) ∙ z in
          let f = fills ls h.1 i low there in
          let below : f.0 < length (key_of ls) = omega (arith, f.1) in
          let same : get_or (key_of (l ∷ ls)) f.0 0 ≡ get_or (key_of ls) f.0 0 = ap (λ (k : List ℕ). get_or k f.0 0) whole ∙ get_or_append_left (key_of ls) (label_positions l) 0 f.0 below in
          (f.0, f.1, omega (arith, f.2))
      | inr high ↦
          let there : get_or (label_positions l) (i - length (key_of ls)) 0 ≡ 0 = sym (get_or-append_right (key_of ls) (label_positions l) (length (key_of ls)) i 0 refl high) ∙ ap (λ (k : List ℕ). get_or k i 0) (sym whole) ∙ z in
          let past : length (flat_map octet_positions l) ≤ i - length (key_of ls) = elim (cases_lt (i - length (key_of ls)) (length (flat_map octet_positions l))) [
            | inl inside ↦ absurd (nonzero_inside l (0 ∷ []) (i - length (key_of ls)) h.0.octets inside there)
            | inr ge ↦ ge
          ] in
          let inside : i - 1 - length (key_of ls) < length (flat_map octet_positions l) = omega arith in
          let from : length (key_of ls) ≤ i - 1 = omega arith in
          let same : get_or (key_of (l ∷ ls)) (i - 1) 0 ≡ get_or (label_positions l) (i - 1 - length (key_of ls)) 0 = ap (λ (k : List ℕ). get_or k (i - 1) 0) whole ∙ get_or-append_right (key_of ls) (label_positions l) (length (key_of ls)) (i - 1) 0 refl from in
          (i - 1, omega arith, positive (get_or (key_of (l ∷ ls)) (i - 1) 0) (λ e. nonzero_inside l (0 ∷ []) (i - 1 - length (key_of ls)) h.0.octets inside (sym same ∙ e)))
    ]

-- every key has this shape
pub key_shape : (key : List ℕ) → IsKey key → KeyShape key
key_shape key k = subst KeyShape (sym k.2) (record {
  short = length-key_of k.0 k.1;
  small = small_at (key_of k.0) (small_key k.0 k.1.each);
  ended = ends k.0;
  full = fills k.0 k.1.each;
})
