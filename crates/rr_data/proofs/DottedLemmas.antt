-- The digits of an octet's number, with a dot behind them.
use Rattle.std.proofs.Common.{◌≡◌, ◌∙◌, ◌++◌, ◌≤◌, ◌<◌, ◌/◌, ◌%◌, ◌+◌, ◌∷◌, [], ℕ, List, ap, arith}
use Rattle.std.specs.Fmt.{decimal}
use Rattle.std.proofs.lemmas.Fmt.{decimal_digit}
use Rattle.zone_text.proofs.DecimalLemmas.{two_digits, three_digits}

pub one_dotted : (n : ℕ) → n ≤ 9 → decimal n ++ 46 ∷ [] ≡ (48 + n) ∷ 46 ∷ []
one_dotted n most = ap (λ (l : List ℕ). l ++ 46 ∷ []) (decimal_digit n (omega arith))

pub two_dotted : (n : ℕ) → 10 ≤ n → n ≤ 99 → decimal n ++ 46 ∷ [] ≡ (48 + n / 10) ∷ (48 + n % 10) ∷ 46 ∷ []
two_dotted n least most =
    let tens : n / 10 % 10 ≡ n / 10 = omega arith in
    let ones : n / 1 % 10 ≡ n % 10 = omega arith in
    ap (λ (l : List ℕ). l ++ 46 ∷ []) (two_digits n least (omega arith)) ∙ (λ i. (48 + tens i) ∷ (48 + ones i) ∷ 46 ∷ [])

pub three_dotted : (n : ℕ) → 100 ≤ n → n < 256 → decimal n ++ 46 ∷ [] ≡ (48 + n / 100) ∷ (48 + n / 10 % 10) ∷ (48 + n % 10) ∷ 46 ∷ []
three_dotted n least most =
    let hundreds : n / 100 % 10 ≡ n / 100 = omega arith in
    let ones : n / 1 % 10 ≡ n % 10 = omega arith in
    ap (λ (l : List ℕ). l ++ 46 ∷ []) (three_digits n least (omega arith)) ∙ (λ i. (48 + hundreds i) ∷ (48 + n / 10 % 10) ∷ (48 + ones i) ∷ 46 ∷ [])
