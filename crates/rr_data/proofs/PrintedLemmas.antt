-- What is printed is read again: strings, hexadecimal digits, numbers.
use Rattle.std.proofs.Common.{◌≡◌, ◌∙◌, ℕ, ◌+◌, ◌-◌, ◌*◌, ◌/◌, ◌%◌, ◌^◌, ◌<◌, ◌≤◌, length, get_or, suc, option_and_then, Bool, true, false, cond, ◌&&◌, ◌||◌, eqb, ltb, leb, List, [], ◌∷◌, ◌++◌, refl, ap, arith, Some, None}
use Rattle.std.proofs.lemmas.Bool.Decides.{nat_tests}
use borrow.Author.Tests.{eqb-true, ltb-true, ltb-false}
use Rattle.std.specs.Option.{option_map}
use Rattle.std.specs.List.{flat_map, list_all, AllByRecursion}
use Rattle.std.specs.Fmt.{decimal}
use Rattle.std.proofs.lemmas.Fmt.{decimal_by_steps, decimal_nonempty}
use Rattle.zone_model.specs.Texts.{digits_from, number, at_most}
use Rattle.std.specs.Char.{is_ascii_digit, to_ascii_lowercase}
use Rattle.zone_model.specs.NameText.{three_digits}
use Rattle.zone_model.specs.DataWords.{octets_from, unescaped, Plain, Slash, One, Two, paired, digit_value, most_time, time_of, groups}
use Rattle.zone_model.specs.DataText.{string_octet, string_text, hex_digit, hex_text}

digit_is : (d : ℕ) → d < 10 → is_ascii_digit (d + 48) ≡ true
digit_is d h = grind (arith, nat_tests)

one_digit : (x : ℕ) (text : List ℕ) → is_ascii_digit x ≡ true → octets_from Slash (x ∷ text) ≡ octets_from (One (x - 48)) text
unfolding octets_from
one_digit x text d = ap (λ t. cond t (octets_from (One (x - 48)) text) (option_map (λ cs. x ∷ cs) (octets_from Plain text))) d

two_digits : (v x : ℕ) (text : List ℕ) → is_ascii_digit x ≡ true → octets_from (One v) (x ∷ text) ≡ octets_from (Two (10 * v + (x - 48))) text
unfolding octets_from
two_digits v x text d = ap (λ t. cond t (octets_from (Two (10 * v + (x - 48))) text) None) d

last_digit : (v x c : ℕ) (text : List ℕ) → is_ascii_digit x ≡ true → 10 * v + (x - 48) ≡ c → c < 256 → octets_from (Two v) (x ∷ text) ≡ option_map (λ cs. c ∷ cs) (octets_from Plain text)
unfolding octets_from
last_digit v x c text d e h =
    let l : leb (10 * v + (x - 48)) 255 ≡ true = grind (arith, nat_tests) in
    ap (λ t. cond t (option_map (λ cs. (10 * v + (x - 48)) ∷ cs) (octets_from Plain text)) None) (ap (λ t. t && leb (10 * v + (x - 48)) 255) d ∙ l)
    ∙ ap (λ (n : ℕ). option_map (λ cs. n ∷ cs) (octets_from Plain text)) e

plain_octet : (c : ℕ) (text : List ℕ) → (c ≡ 92 → ⊥) → octets_from Plain (c ∷ text) ≡ option_map (λ cs. c ∷ cs) (octets_from Plain text)
unfolding octets_from
plain_octet c text n = let t : eqb c 92 ≡ false = grind (arith, nat_tests) in ap (λ t. cond t (octets_from Slash text) (option_map (λ cs. c ∷ cs) (octets_from Plain text))) t

slash : (text : List ℕ) → octets_from Plain (92 ∷ text) ≡ octets_from Slash text
unfolding octets_from
slash text = refl

slash_octet : (c : ℕ) (text : List ℕ) → is_ascii_digit c ≡ false → octets_from Slash (c ∷ text) ≡ option_map (λ cs. c ∷ cs) (octets_from Plain text)
unfolding octets_from
slash_octet c text d = ap (λ t. cond t (octets_from (One (c - 48)) text) (option_map (λ cs. c ∷ cs) (octets_from Plain text))) d

digits_back : (c : ℕ) (rest : List ℕ) → c < 256 → octets_from Plain (92 ∷ (three_digits c ++ rest)) ≡ option_map (λ cs. c ∷ cs) (octets_from Plain rest)
digits_back c rest h =
    let a : is_ascii_digit (c / 100 + 48) ≡ true = digit_is (c / 100) (omega arith) in
    let b : is_ascii_digit (c / 10 % 10 + 48) ≡ true = digit_is (c / 10 % 10) (omega arith) in
    let d : is_ascii_digit (c % 10 + 48) ≡ true = digit_is (c % 10) (omega arith) in
    slash ((c / 100 + 48) ∷ ((c / 10 % 10 + 48) ∷ ((c % 10 + 48) ∷ rest)))
    ∙ one_digit (c / 100 + 48) ((c / 10 % 10 + 48) ∷ ((c % 10 + 48) ∷ rest)) a
    ∙ two_digits (c / 100 + 48 - 48) (c / 10 % 10 + 48) ((c % 10 + 48) ∷ rest) b
    ∙ last_digit (10 * (c / 100 + 48 - 48) + (c / 10 % 10 + 48 - 48)) (c % 10 + 48) c rest d (omega arith) h

either : (a b : Bool) → (a || b) ≡ true → (a ≡ false → ⊥) → a ≡ true
either true b h n = refl
either false b h n = absurd (n refl)

special : (c : ℕ) → (eqb c 34 || eqb c 92) ≡ true → is_ascii_digit c ≡ false
special c h = by_first (eqb c 34) refl h
  where
    by_first : (t : Bool) → eqb c 34 ≡ t → (t || eqb c 92) ≡ true → is_ascii_digit c ≡ false
    by_first true e k = ap is_ascii_digit (eqb-true c 34 e)
    by_first false e k = ap is_ascii_digit (eqb-true c 92 k)

ordinary : (c : ℕ) → (eqb c 34 || eqb c 92) ≡ false → c ≡ 92 → ⊥
ordinary c h e = by_first (eqb c 34) h
  where
    by_first : (t : Bool) → (t || eqb c 92) ≡ false → ⊥
    by_first true k = absurd cc
    by_first false k = let t : eqb c 92 ≡ true = grind (arith, nat_tests) in absurd cc

by_case : (c : ℕ) (rest : List ℕ) → c < 256 → (s p : Bool) → (eqb c 34 || eqb c 92) ≡ s → octets_from Plain (cond s (92 ∷ c ∷ []) (cond p (c ∷ []) (92 ∷ three_digits c)) ++ rest) ≡ option_map (λ cs. c ∷ cs) (octets_from Plain rest)
by_case c rest h true p e = slash (c ∷ rest) ∙ slash_octet c rest (special c e)
by_case c rest h false true e = plain_octet c rest (ordinary c e)
by_case c rest h false false e = digits_back c rest h

octet_back : (c : ℕ) (rest : List ℕ) → c < 256 → octets_from Plain (string_octet c ++ rest) ≡ option_map (λ cs. c ∷ cs) (octets_from Plain rest)
octet_back c rest h = by_case c rest h (eqb c 34 || eqb c 92) (ltb 31 c && ltb c 127) refl

pub string_back : (octets : List ℕ) → AllByRecursion (λ c. c < 256) octets → unescaped (string_text octets) ≡ Some octets
unfolding octets_from
string_back [] h = refl
string_back (c ∷ octets) h = octet_back c (string_text octets) h.0 ∙ ap (option_map (λ cs. c ∷ cs)) (string_back octets h.1)

-- ---- hexadecimal digits

pub digit_back : (n : ℕ) → n < 16 → digit_value (hex_digit n) ≡ n
digit_back n h = by_test (ltb n 10) refl
  where
    by_test : (t : Bool) → ltb n 10 ≡ t → digit_value (cond t (48 + n) (87 + n)) ≡ n
    by_test true e = let lt : n < 10 = ltb-true n 10 e in let t : leb (48 + n) 57 ≡ true = grind (arith, nat_tests) in rw t (omega arith)
    by_test false e =
        let ge : 10 ≤ n = ltb-false n 10 e in
        let t : leb (87 + n) 57 ≡ false = grind (arith, nat_tests) in
        let l : to_ascii_lowercase (87 + n) ≡ 87 + n = grind (arith, nat_tests) in rw (t, l) (omega arith)

pub digits_back_of : (octets : List ℕ) → AllByRecursion (λ c. c < 256) octets → paired (flat_map hex_text octets) ≡ octets
unfolding paired
digits_back_of [] h = refl
digits_back_of (c ∷ octets) h =
    let a : digit_value (hex_digit (c / 16)) ≡ c / 16 = digit_back (c / 16) (omega (arith, h.0)) in
    let b : digit_value (hex_digit (c % 16)) ≡ c % 16 = digit_back (c % 16) (omega arith) in
    let e : 16 * digit_value (hex_digit (c / 16)) + digit_value (hex_digit (c % 16)) ≡ c = omega (arith, a, b) in
    ap (λ (n : ℕ). n ∷ paired (flat_map hex_text octets)) e ∙ ap (λ (l : List ℕ). c ∷ l) (digits_back_of octets h.1)

-- ---- numbers

one_more : (v m c : ℕ) (ds : List ℕ) → digits_from v ds ≡ Some m → leb 48 c && leb c 57 ≡ true → digits_from v (ds ++ c ∷ []) ≡ Some (10 * m + (c - 48))
unfolding digits_from
one_more v m c [] h d = let e : v ≡ m = cc in ap (λ b. cond b (Some (10 * v + (c - 48))) None) d ∙ ap (λ (n : ℕ). Some (10 * n + (c - 48))) e
one_more v m c (x ∷ ds) h d = by_test (leb 48 x && leb x 57) h (one_more (10 * v + (x - 48)) m c ds)
  where
    by_test : (t : Bool) → cond t (digits_from (10 * v + (x - 48)) ds) None ≡ Some m → (digits_from (10 * v + (x - 48)) ds ≡ Some m → leb 48 c && leb c 57 ≡ true → digits_from (10 * v + (x - 48)) (ds ++ c ∷ []) ≡ Some (10 * m + (c - 48)))
        → cond t (digits_from (10 * v + (x - 48)) (ds ++ c ∷ [])) None ≡ Some (10 * m + (c - 48))
    by_test true k f = f k d
    by_test false k f = absurd cc

digit_test : (d : ℕ) → d < 10 → leb 48 (48 + d) && leb (48 + d) 57 ≡ true
digit_test d h = grind (arith, nat_tests)

one_digit_number : (m : ℕ) → m < 10 → digits_from 0 ((48 + m) ∷ []) ≡ Some m
unfolding digits_from
one_digit_number m h = one_more 0 0 (48 + m) [] refl (digit_test m h) ∙ ap Some (omega arith)

decimal_digits : (n : ℕ) → n < 2 ^ 64 → digits_from 0 (decimal n) ≡ Some n
decimal_digits = decimal_by_steps (λ m ds. digits_from 0 ds ≡ Some m) (λ m l. one_digit_number m l)
    (λ m ds l h. one_more 0 (m / 10) (48 + m % 10) ds h (digit_test (m % 10) (omega arith)) ∙ ap Some (omega arith))

some_digits : (most n : ℕ) (ds : List ℕ) → 0 < length ds → digits_from 0 ds ≡ Some n → n ≤ most → number most ds ≡ Some n
unfolding number
some_digits most n [] s h le = absurd (omega arith)
some_digits most n (c ∷ ds) s h le = let t : leb n most ≡ true = grind (arith, nat_tests) in ap (option_and_then (at_most most)) h ∙ ap (λ b. cond b (Some n) None) t

pub number_back : (most n : ℕ) → n < 2 ^ 64 → n ≤ most → number most (decimal n) ≡ Some n
number_back most n h le = some_digits most n (decimal n) (decimal_nonempty n h) (decimal_digits n h) le

all_digits_of : (v n : ℕ) (ds : List ℕ) → digits_from v ds ≡ Some n → list_all is_ascii_digit ds ≡ true
unfolding digits_from
all_digits_of v n [] h = refl
all_digits_of v n (c ∷ ds) h = by_test (leb 48 c && leb c 57) refl h (all_digits_of (10 * v + (c - 48)) n ds)
  where
    by_test : (t : Bool) → leb 48 c && leb c 57 ≡ t → cond t (digits_from (10 * v + (c - 48)) ds) None ≡ Some n → (digits_from (10 * v + (c - 48)) ds ≡ Some n → list_all is_ascii_digit ds ≡ true) → (is_ascii_digit c && list_all is_ascii_digit ds) ≡ true
    by_test true e k f = ap (λ b. b && list_all is_ascii_digit ds) e ∙ f k
    by_test false e k f = absurd cc

pub decimal_all_digits : (n : ℕ) → n < 2 ^ 64 → list_all is_ascii_digit (decimal n) ≡ true
decimal_all_digits n small = all_digits_of 0 n (decimal n) (decimal_digits n small)

pub time_back : (n : ℕ) → n ≤ 2147483647 → time_of (decimal n) ≡ Some n
unfolding time_of
time_back n h =
    let small : n < 2 ^ 64 = omega arith in
    ap (λ b. cond b (number most_time (decimal n)) (option_and_then (at_most most_time) (groups 0 None (decimal n)))) (decimal_all_digits n small) ∙ number_back most_time n small h

pub bytes_of : (octets : List ℕ) → ((i : ℕ) → get_or octets i 0 < 256) → AllByRecursion (λ c. c < 256) octets
bytes_of [] b = tt
bytes_of (c ∷ octets) b = (b 0, bytes_of octets (λ i. b (suc i)))
