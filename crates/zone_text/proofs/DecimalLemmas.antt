-- Decimal digits, each by its place.
use Rattle.std.proofs.Common.{◌≡◌, ◌∙◌, ◌++◌, ◌≤◌, ◌<◌, ◌/◌, ◌%◌, ◌+◌, ◌∷◌, [], ℕ, List, ap, arith}
use Rattle.std.specs.Fmt.{decimal}
use Rattle.std.proofs.lemmas.Fmt.{decimal_digit, decimal_step}

pub one_digit : (n : ℕ) → n < 10 → decimal n ≡ (48 + n / 1 % 10) ∷ []
one_digit n most =
    let ones : n ≡ n / 1 % 10 = omega arith in
    decimal_digit n most ∙ (λ i. (48 + ones i) ∷ [])

pub two_digits : (n : ℕ) → 10 ≤ n → n < 100 → decimal n ≡ (48 + n / 10 % 10) ∷ (48 + n / 1 % 10) ∷ []
two_digits n least most =
    let tens : n / 10 / 1 % 10 ≡ n / 10 % 10 = omega arith in
    let ones : n % 10 ≡ n / 1 % 10 = omega arith in
    decimal_step n least (omega arith) ∙ ap (λ (l : List ℕ). l ++ (48 + n % 10) ∷ []) (one_digit (n / 10) (omega arith))
    ∙ (λ i. (48 + tens i) ∷ (48 + ones i) ∷ [])

pub three_digits : (n : ℕ) → 100 ≤ n → n < 1000 → decimal n ≡ (48 + n / 100 % 10) ∷ (48 + n / 10 % 10) ∷ (48 + n / 1 % 10) ∷ []
three_digits n least most =
    let hundreds : n / 10 / 10 % 10 ≡ n / 100 % 10 = omega arith in
    let tens : n / 10 / 1 % 10 ≡ n / 10 % 10 = omega arith in
    let ones : n % 10 ≡ n / 1 % 10 = omega arith in
    decimal_step n (omega arith) (omega arith) ∙ ap (λ (l : List ℕ). l ++ (48 + n % 10) ∷ []) (two_digits (n / 10) (omega arith) (omega arith))
    ∙ (λ i. (48 + hundreds i) ∷ (48 + tens i) ∷ (48 + ones i) ∷ [])

pub four_digits : (n : ℕ) → 1000 ≤ n → n < 10000 → decimal n ≡ (48 + n / 1000 % 10) ∷ (48 + n / 100 % 10) ∷ (48 + n / 10 % 10) ∷ (48 + n / 1 % 10) ∷ []
four_digits n least most =
    let thousands : n / 10 / 100 % 10 ≡ n / 1000 % 10 = omega arith in
    let hundreds : n / 10 / 10 % 10 ≡ n / 100 % 10 = omega arith in
    let tens : n / 10 / 1 % 10 ≡ n / 10 % 10 = omega arith in
    let ones : n % 10 ≡ n / 1 % 10 = omega arith in
    decimal_step n (omega arith) (omega arith) ∙ ap (λ (l : List ℕ). l ++ (48 + n % 10) ∷ []) (three_digits (n / 10) (omega arith) (omega arith))
    ∙ (λ i. (48 + thousands i) ∷ (48 + hundreds i) ∷ (48 + tens i) ∷ (48 + ones i) ∷ [])
