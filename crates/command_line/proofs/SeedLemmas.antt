-- Digits of a seed.
use Rattle.std.proofs.Common.{◌≡◌, ◌∙◌, ◌<◌, ◌+◌, ℕ, false, ◌&&◌, leb, List, [], ◌∷◌, length, get_or, drop, refl, sym, ap, None, option_and_then}
use Rattle.std.proofs.lemmas.List.{drop_more}
use Rattle.zone_model.specs.Texts.{at_most, digits_from, number}

number_some : (most : ℕ) (text : List ℕ) → (length text ≡ 0 → ⊥) → number most text ≡ option_and_then (at_most most) (digits_from 0 text)
unfolding number
number_some most [] some = absurd (some refl)
number_some most (c ∷ text) some = refl

not_digit : (v g : ℕ) (rest : List ℕ) → leb 48 g && leb g 57 ≡ false → digits_from v (g ∷ rest) ≡ None
unfolding digits_from
not_digit v g rest d = rw d refl

-- a byte that is no digit
pub not_digit_at : (most v : ℕ) (text : List ℕ) (i : ℕ) → (length text ≡ 0 → ⊥) → i < length text → digits_from 0 text ≡ digits_from v (drop i text) → leb 48 (get_or text i 0) && leb (get_or text i 0) 57 ≡ false → None ≡ number most text
not_digit_at most v text i some lt e d =
    let here : drop i text ≡ get_or text i 0 ∷ drop (i + 1) text = drop_more text i 0 lt in
    sym (number_some most text some ∙ ap (option_and_then (at_most most)) (e ∙ ap (digits_from v) here ∙ not_digit v (get_or text i 0) (drop (i + 1) text) d))
