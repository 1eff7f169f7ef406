-- An escape in a string stands for the octet that it stands for in a name.
use Rattle.std.proofs.Common.{◌≡◌, ℕ, ◌+◌, ◌-◌, ◌*◌, Bool, true, false, leb, ltb, eqb, List, [], ◌∷◌, length, drop, refl, ap, arith, Option, option_and_then}
use Rattle.std.proofs.lemmas.Bool.Decides.{nat_tests}
use Rattle.std.specs.Option.{option_map}
use Rattle.std.specs.Char.{is_ascii_digit}
use Rattle.zone_model.specs.Escapes.{escaped_octet, escape_len, number_of_three}
use Rattle.zone_model.specs.DataWords.{octets_from, unescaped, Slash}

-- the octet of the escape, and what the text behind it says
abbrev behind_escape : List ℕ → Option (List ℕ)
behind_escape text = option_and_then (λ o. option_map (λ cs. o ∷ cs) (unescaped (drop (escape_len text) text))) (escaped_octet text)

-- there is an octet
some : (c : ℕ) (text : List ℕ) → eqb (length (c ∷ text)) 0 ≡ false
some c text = grind (arith, nat_tests)

-- three digits
three : (c x y : ℕ) (rest : List ℕ) → is_ascii_digit c ≡ true → octets_from Slash (c ∷ x ∷ y ∷ rest) ≡ behind_escape (c ∷ x ∷ y ∷ rest)
unfolding octets_from escaped_octet
three c x y rest d = by_tests (is_ascii_digit x) (is_ascii_digit y) (leb (10 * (10 * (c - 48) + (x - 48)) + (y - 48)) 255) (ltb (number_of_three (c ∷ x ∷ y ∷ rest)) 256) refl refl refl refl
  where
    value : ℕ
    value = 10 * (10 * (c - 48) + (x - 48)) + (y - 48)

    by_tests : (p q r s : Bool) → is_ascii_digit x ≡ p → is_ascii_digit y ≡ q → leb value 255 ≡ r → ltb (number_of_three (c ∷ x ∷ y ∷ rest)) 256 ≡ s → octets_from Slash (c ∷ x ∷ y ∷ rest) ≡ behind_escape (c ∷ x ∷ y ∷ rest)
    by_tests false q r s a b e f = rw (some c (x ∷ y ∷ rest), d, a) refl
    by_tests true false r s a b e f = rw (some c (x ∷ y ∷ rest), d, a, b) refl
    by_tests true true false false a b e f = rw (some c (x ∷ y ∷ rest), d, a, b, e, f) refl
    by_tests true true true true a b e f =
        let same : value ≡ number_of_three (c ∷ x ∷ y ∷ rest) = omega arith in
        rw (some c (x ∷ y ∷ rest), d, a, b, e, f) (ap (λ (n : ℕ). option_map (λ cs. n ∷ cs) (unescaped rest)) same)
    by_tests true true true false a b e f = absurd (grind (arith, nat_tests))
    by_tests true true false true a b e f = absurd (grind (arith, nat_tests))

digit_first : (c : ℕ) (text : List ℕ) → is_ascii_digit c ≡ true → octets_from Slash (c ∷ text) ≡ behind_escape (c ∷ text)
unfolding octets_from escaped_octet
digit_first c [] d = rw d refl
digit_first c (x ∷ []) d = by_test (is_ascii_digit x) refl
  where
    by_test : (p : Bool) → is_ascii_digit x ≡ p → octets_from Slash (c ∷ x ∷ []) ≡ behind_escape (c ∷ x ∷ [])
    by_test true a = rw (some c (x ∷ []), d, a) refl
    by_test false a = rw (some c (x ∷ []), d, a) refl
digit_first c (x ∷ y ∷ rest) d = three c x y rest d

pub one_escape : (text : List ℕ) → octets_from Slash text ≡ behind_escape text
unfolding octets_from escaped_octet
one_escape [] = refl
one_escape (c ∷ text) = by_test (is_ascii_digit c) refl
  where
    by_test : (p : Bool) → is_ascii_digit c ≡ p → octets_from Slash (c ∷ text) ≡ behind_escape (c ∷ text)
    by_test true d = digit_first c text d
    by_test false d = rw (some c text, d) refl
