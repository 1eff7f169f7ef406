-- Lines of a text that is cut where a line begins.
use Rattle.std.proofs.Common.{◌≡◌, ◌∙◌, ℕ, ◌+◌, ◌-◌, ◌<◌, ◌≤◌, Bool, true, false, cond, eqb, ltb, List, [], ◌∷◌, ◌++◌, length, map, take, drop, get_or, refl, sym, ap, arith, append_assoc, append-nil, length-append}
use Rattle.std.proofs.lemmas.Bool.Decides.{nat_tests}
use Rattle.std.proofs.lemmas.List.{take_more, take-append-drop, take_at, take_all, drop_all}
use Rattle.std.proofs.lemmas.List.Splits.{length-slice_split}
use Rattle.std.specs.List.{slice_split, onto_first}
use Rattle.std.specs.Str.Lines.{lines_of_parts, strip_carriage_return}
use Rattle.zone_model.specs.Lines.{lines_of}
use Rattle.std.specs.Prelude.{slice_index}
use Rattle.std.specs.List.{slice_range}
use Rattle.zone_text.specs.Places.{FirstLine}
use borrow.Author.Tests.{ltb-true}

abbrev is_feed : ℕ → Bool
is_feed b = eqb b 10

onto_append : (x : ℕ) (s t : List (List ℕ)) → 0 < length s → onto_first x (s ++ t) ≡ onto_first x s ++ t
onto_append x [] t h = absurd (omega arith)
onto_append x (y ∷ s) t h = refl

some_parts : (xs : List ℕ) → 0 < length (slice_split is_feed xs)
some_parts xs = omega (arith, length-slice_split is_feed xs)

split_step : (x : ℕ) (a rest : List ℕ) (parts : List (List ℕ)) (t : Bool) → is_feed x ≡ t → slice_split is_feed rest ≡ slice_split is_feed a ++ parts → cond t ([] ∷ slice_split is_feed rest) (onto_first x (slice_split is_feed rest)) ≡ cond t ([] ∷ slice_split is_feed a) (onto_first x (slice_split is_feed a)) ++ parts
split_step x a rest parts true e i = ap (λ (l : List (List ℕ)). [] ∷ l) i
split_step x a rest parts false e i = ap (onto_first x) i ∙ onto_append x (slice_split is_feed a) parts (some_parts a)

split_append : (a b : List ℕ) → slice_split is_feed (a ++ 10 ∷ b) ≡ slice_split is_feed a ++ slice_split is_feed b
split_append [] b = refl
split_append (x ∷ a) b = split_step x a (a ++ 10 ∷ b) (slice_split is_feed b) (is_feed x) refl (split_append a b)

parts_more : (x : List ℕ) (s : List (List ℕ)) → 0 < length s → lines_of_parts (x ∷ s) ≡ strip_carriage_return x ∷ lines_of_parts s
parts_more x [] h = absurd (omega arith)
parts_more x (y ∷ s) h = refl

parts_append : (s t : List (List ℕ)) → 0 < length t → lines_of_parts (s ++ t) ≡ map strip_carriage_return s ++ lines_of_parts t
parts_append [] t h = refl
parts_append (x ∷ s) t h =
    let some : 0 < length (s ++ t) = omega (arith, length-append s t) in
    parts_more x (s ++ t) some ∙ ap (λ (l : List (List ℕ)). strip_carriage_return x ∷ l) (parts_append s t h)

-- two texts, the first of which ends with a line feed
lines_append : (a b : List ℕ) → lines_of (a ++ 10 ∷ b) ≡ lines_of (a ++ 10 ∷ []) ++ lines_of b
lines_append a b =
    ap lines_of_parts (split_append a b) ∙ parts_append (slice_split is_feed a) (slice_split is_feed b) (some_parts b)
    ∙ ap (λ (l : List (List ℕ)). l ++ lines_of b) (sym (ap lines_of_parts (split_append a []) ∙ parts_append (slice_split is_feed a) ([] ∷ []) (omega arith) ∙ append-nil (map strip_carriage_return (slice_split is_feed a))))

-- a place where a line begins, or the end
pub data Begins (bytes : List ℕ) (at : ℕ) : Type 0 where
  at_start : at ≡ 0 → Begins bytes at
  behind_feed : (before : ℕ) → at ≡ before + 1 → before < length bytes → get_or bytes before 0 ≡ 10 → Begins bytes at
  at_end : at ≡ length bytes → Begins bytes at

-- the lines before such a place, and those from it on, are all lines
pub cut_lines : (bytes : List ℕ) (at : ℕ) → Begins bytes at → lines_of (take at bytes) ++ lines_of (drop at bytes) ≡ lines_of bytes
cut_lines bytes at (at_start e) = ap (λ (k : ℕ). lines_of (take k bytes) ++ lines_of (drop k bytes)) e
cut_lines bytes at (behind_feed before e lt feed) =
    let front : take (before + 1) bytes ≡ take before bytes ++ 10 ∷ [] = take_more bytes before 0 lt ∙ ap (λ (c : ℕ). take before bytes ++ c ∷ []) feed in
    let all : bytes ≡ take before bytes ++ 10 ∷ drop (before + 1) bytes =
    sym (take-append-drop (before + 1) bytes) ∙ ap (λ (l : List ℕ). l ++ drop (before + 1) bytes) front ∙ append_assoc (take before bytes) (10 ∷ []) (drop (before + 1) bytes) in
    ap (λ (k : ℕ). lines_of (take k bytes) ++ lines_of (drop k bytes)) e ∙ ap (λ (l : List ℕ). lines_of l ++ lines_of (drop (before + 1) bytes)) front ∙ sym (ap lines_of all ∙ lines_append (take before bytes) (drop (before + 1) bytes))
cut_lines bytes at (at_end e) =
    let le : length bytes ≤ at = omega arith in
    ap (λ (l : List ℕ). lines_of l ++ lines_of (drop at bytes)) (take_all at bytes le) ∙ ap (λ (l : List ℕ). lines_of bytes ++ lines_of l) (drop_all at bytes le) ∙ append-nil (lines_of bytes)

same_front : {X : Type 0} (a b c : List X) → a ++ c ≡ b ++ c → a ≡ b
same_front a b c e =
    let l : length a ≡ length b = omega (arith, ap (λ (l : List _). length l) e, length-append a c, length-append b c) in
    sym (take_at a c (length a) refl) ∙ ap (take (length a)) e ∙ take_at b c (length a) (sym l)

-- the place behind a line, whose feed stands before it unless it is the end
pub next_place : (bytes : List ℕ) (next : ℕ) → next ≤ length bytes → 0 < next → (next < length bytes → slice_index bytes (next - 1) ≡ 10) → Begins bytes next
next_place bytes next inside some fed = by_test (ltb next (length bytes)) refl
  where
    by_test : (t : Bool) → ltb next (length bytes) ≡ t → Begins bytes next
    by_test true e =
        let lt : next < length bytes = ltb-true next (length bytes) e in
        behind_feed (next - 1) (omega arith) (omega arith) (fed lt)
    by_test false e = at_end (grind (arith, nat_tests))

-- one line further
pub next_lines : (bytes line : List ℕ) (at next : ℕ) → Begins bytes at → Begins bytes next → lines_of (drop at bytes) ≡ line ∷ lines_of (drop next bytes) → lines_of (take next bytes) ≡ lines_of (take at bytes) ++ line ∷ []
next_lines bytes line at next b c e =
    same_front (lines_of (take next bytes)) (lines_of (take at bytes) ++ line ∷ []) (lines_of (drop next bytes))
    (cut_lines bytes next c ∙ sym (cut_lines bytes at b) ∙ ap (λ (l : List (List ℕ)). lines_of (take at bytes) ++ l) e ∙ sym (append_assoc (lines_of (take at bytes)) (line ∷ []) (lines_of (drop next bytes))))

-- the same of a line that was read
pub behind_line : {bytes : List ℕ} {at upto next : ℕ} → FirstLine bytes at upto next → Begins bytes next
behind_line {bytes} {at} {upto} {next} f = let on : at < next = f.on in next_place bytes next f.inside (omega arith) f.fed

pub line_more : {bytes : List ℕ} {at upto next : ℕ} → Begins bytes at → FirstLine bytes at upto next → lines_of (take next bytes) ≡ lines_of (take at bytes) ++ slice_range bytes at upto ∷ []
line_more {bytes} {at} {upto} {next} b f = next_lines bytes (slice_range bytes at upto) at next b (behind_line f) f.lines
