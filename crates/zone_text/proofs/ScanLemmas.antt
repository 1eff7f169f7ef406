-- Bytes of a range, from the left and from the right.
use Rattle.std.proofs.Common.{◌≡◌, ℕ, suc, ◌+◌, ◌-◌, ◌<◌, ◌≤◌, ◌++◌, ◌∷◌, [], List, length, get_or, take, drop, arith, ap, ◌∙◌}
use Rattle.std.specs.List.{slice_range}
use Rattle.std.proofs.lemmas.List.{drop_more}
use Rattle.std.proofs.lemmas.List.Edits.{between_more}
use Rattle.zone_model.specs.Refusals.{◌>>=◌}
use Rattle.zone_model.specs.Tokens.{Scan, step, steps}

pub range_more : (xs : List ℕ) (from at : ℕ) → from ≤ at → at < length xs → slice_range xs from (at + 1) ≡ slice_range xs from at ++ get_or xs at 0 ∷ []
range_more xs from at h k = between_more xs from at 0 h k

pub range_first : (xs : List ℕ) (at upto : ℕ) → at < upto → upto ≤ length xs → slice_range xs at upto ≡ get_or xs at 0 ∷ slice_range xs (at + 1) upto
range_first xs at upto h k =
    let lt : at < length xs = omega arith in
    let e : upto - at ≡ suc (upto - (at + 1)) = omega arith in
    ap (λ (n : ℕ). take n (drop at xs)) e ∙ ap (take (suc (upto - (at + 1)))) (drop_more xs at 0 lt)

pub steps_more : (n : ℕ) (xs : List ℕ) (at upto : ℕ) (s : Scan) → at < upto → upto ≤ length xs → steps n (slice_range xs at upto) s ≡ step n (get_or xs at 0) s >>= steps n (slice_range xs (at + 1) upto)
unfolding steps
steps_more n xs at upto s h k = ap (λ (l : List ℕ). steps n l s) (range_first xs at upto h k)
