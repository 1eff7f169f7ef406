-- What a sink holds of texts that are written one behind the other.
use Rattle.std.proofs.Common.{◌≡◌, ◌∙◌, ◌<◌, ◌+◌, ℕ, suc, List, [], ◌∷◌, ◌++◌, Vec, Global, length, get_or, drop, drop-cons, sym, ap, append-nil, arith}
use Rattle.std.specs.List.{flat_map}
use Rattle.outer_io.specs.Bytes.{Held, Grows, GrowsByFront}
use Rattle.zone_dump.specs.Writing.{Passes}
use Rattle.zone_dump.proofs.WritingLaws.{front_later}

-- a text that was written by itself
pub passes_by : (a b : Held) (s : List ℕ) → Grows a b s → Passes a b [] [] s
passes_by a b s g = record { written = s; grown = g; whole = sym (append-nil s) }

-- a front of a text, behind a whole one
pub front_behind : (a b c : Held) (s t : List ℕ) → Grows a b s → GrowsByFront b c t → GrowsByFront a c (s ++ t)
front_behind a b c s t g f = front_later a b c [] [] s t (passes_by a b s g) f

-- the texts that are left, the first of which comes next
pub each_left : (texts : List (Vec ℕ Global)) (i : ℕ) (text : Vec ℕ Global) → i < length texts → text ≡ get_or texts i text → flat_map (λ t. t.items) (drop i texts) ≡ text.items ++ flat_map (λ t. t.items) (drop (i + 1) texts)
each_left texts i text within is =
    let next : suc i ≡ i + 1 = omega arith in
    ap (flat_map (λ t. t.items)) (drop-cons texts i text within ∙ ap (λ t. t ∷ drop (suc i) texts) (sym is) ∙ ap (λ (n : ℕ). text ∷ drop n texts) next)
