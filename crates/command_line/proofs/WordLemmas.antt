-- The words of a command line, by places.
use Rattle.std.proofs.Common.{◌≡◌, ◌∙◌, ◌<◌, ◌-◌, ℕ, zero, suc, List, [], ◌∷◌, length, map, get_or, take, drop, refl, sym, ap, arith, Some, option_and_then}
use Rattle.std.proofs.lemmas.List.{length-drop, take_all}
use Rattle.command_line.specs.Options.{Options, with_option, options_from}

-- two words more are an option and its value
pub two_more : {X : Type 0} (view : X → List ℕ) (words : List X) (at : ℕ) (a b : X) (s : Options) → suc at < length words → a ≡ get_or words at a → b ≡ get_or words (suc at) b
    → options_from (map view (drop at words)) s ≡ option_and_then (options_from (map view (drop (suc (suc at)) words))) (with_option (view a) (view b) s)
unfolding options_from
two_more view [] at a b s h e f = absurd (omega arith)
two_more view (x ∷ []) zero a b s h e f = absurd (omega arith)
two_more view (x ∷ y ∷ words) zero a b s h e f =
    ap (λ (w : List ℕ). option_and_then (options_from (map view words)) (with_option w (view y) s)) (ap view (sym e))
    ∙ ap (λ (w : List ℕ). option_and_then (options_from (map view words)) (with_option (view a) w s)) (ap view (sym f))
two_more view (x ∷ words) (suc at) a b s h e f = two_more view words at a b s (omega arith) e f

-- so they join the options that stand before them
pub option_then : {X : Type 0} (view : X → List ℕ) (words : List X) (a b : X) (option value : List ℕ) (s more : Options) → 1 < length words → a ≡ get_or words 0 a → b ≡ get_or words 1 b → option ≡ view a → value ≡ view b → with_option option value s ≡ Some more
    → options_from (map view words) s ≡ options_from (map view (drop 2 words)) more
option_then view words a b option value s more h e f o v r =
    two_more view words zero a b s h e f
    ∙ ap (λ (w : List ℕ). option_and_then (options_from (map view (drop 2 words))) (with_option w (view b) s)) (sym o)
    ∙ ap (λ (w : List ℕ). option_and_then (options_from (map view (drop 2 words))) (with_option option w s)) (sym v)
    ∙ ap (option_and_then (options_from (map view (drop 2 words)))) r

pub map-drop : {X Y : Type 0} (view : X → Y) (n : ℕ) (words : List X) → drop n (map view words) ≡ map view (drop n words)
map-drop view zero words = refl
map-drop view (suc n) [] = refl
map-drop view (suc n) (x ∷ words) = map-drop view n words

-- the words from a place on, as a slice has them
pub rest_of : {X : Type 0} (n : ℕ) (words : List X) → take (length words - n) (drop n words) ≡ drop n words
rest_of n words = take_all (length words - n) (drop n words) (omega (arith, length-drop n words))
