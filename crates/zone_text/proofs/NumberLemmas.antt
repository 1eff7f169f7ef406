-- Numbers that are too great.
use Rattle.std.proofs.Common.{◌≡◌, ℕ, ◌+◌, ◌-◌, ◌*◌, ◌<◌, Bool, true, false, cond, ◌&&◌, List, [], ◌∷◌, length, drop, get_or, sym, ap, ◌∙◌, refl, arith, Option, None, leb, option_and_then}
use Rattle.std.proofs.lemmas.Bool.Decides.{nat_tests}
use Rattle.std.proofs.lemmas.List.{drop_more}
use Rattle.zone_model.specs.Texts.{digits_from, number, at_most}

digit_case : (most : ℕ) (b : Bool) (r : Option ℕ) → option_and_then (at_most most) r ≡ None → option_and_then (at_most most) (cond b r None) ≡ None
digit_case most true r h = h
digit_case most false r h = refl

too_great : (most n : ℕ) (text : List ℕ) → most < n → option_and_then (at_most most) (digits_from n text) ≡ None
unfolding digits_from
too_great most n [] h = let e : leb n most ≡ false = grind (arith, nat_tests) in rw e refl
too_great most n (c ∷ text) h =
    let more : most < 10 * n + (c - 48) = omega arith in
    digit_case most (leb 48 c && leb c 57) (digits_from (10 * n + (c - 48)) text) (too_great most (10 * n + (c - 48)) text more)

step : (v g : ℕ) (rest : List ℕ) → leb 48 g && leb g 57 ≡ true → digits_from v (g ∷ rest) ≡ digits_from (10 * v + (g - 48)) rest
unfolding digits_from
step v g rest d = rw d refl

number_some : (most : ℕ) (text : List ℕ) → (length text ≡ 0 → ⊥) → number most text ≡ option_and_then (at_most most) (digits_from 0 text)
unfolding number
number_some most [] some = absurd (some refl)
number_some most (c ∷ text) some = refl

pub too_great_at : (most v : ℕ) (text : List ℕ) (i : ℕ) → (length text ≡ 0 → ⊥) → i < length text → digits_from 0 text ≡ digits_from v (drop i text) → leb 48 (get_or text i 0) && leb (get_or text i 0) 57 ≡ true
    → most < v * 10 + (get_or text i 0 - 48) → None ≡ number most text
too_great_at most v text i some lt e d h =
    let here : drop i text ≡ get_or text i 0 ∷ drop (i + 1) text = drop_more text i 0 lt in
    let more : most < 10 * v + (get_or text i 0 - 48) = omega arith in
    let all : digits_from 0 text ≡ digits_from (10 * v + (get_or text i 0 - 48)) (drop (i + 1) text) = e ∙ ap (digits_from v) here ∙ step v (get_or text i 0) (drop (i + 1) text) d in
    sym (number_some most text some ∙ ap (option_and_then (at_most most)) all ∙ too_great most (10 * v + (get_or text i 0 - 48)) (drop (i + 1) text) more)
