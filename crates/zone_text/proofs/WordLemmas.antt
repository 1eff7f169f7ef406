-- Bytes that join a word, many at once.
use Rattle.std.proofs.Common.{◌≡◌, ◌∙◌, ℕ, ◌+◌, ◌-◌, ◌<◌, ◌≤◌, true, false, eqb, List, [], ◌∷◌, ◌++◌, length, get_or, take, drop, refl, sym, ap, arith, append_assoc, Some, None, Result, Ok}
use Rattle.std.specs.List.{slice_range, position, position_or_len, All, AllByRecursion}
use Rattle.std.proofs.lemmas.List.{append-nil, drop-drop, drop-take, take-take, take-append-drop}
use Rattle.std.proofs.lemmas.List.Edits.{get_or-between, length-between}
use Rattle.std.proofs.lemmas.List.Elements.{recursion_from_All}
use Rattle.std.proofs.lemmas.List.Quantifiers.{position-Some}
use Rattle.std.proofs.lemmas.List.Sums.{fails_before_first}
use Rattle.std.proofs.lemmas.Bool.{or_parts}
use Rattle.zone_model.specs.Refusals.{Refused, ◌>>=◌}
use Rattle.zone_model.specs.Grammar.{stops_word}
use Rattle.zone_model.specs.Tokens.{Scan, Word, parts_words, step, steps}
use Rattle.zone_model.specs.declared.ZoneKind.{ZoneKind}
use Rattle.zone_text.specs.Views.{scan_view, HasScanned}
use Rattle.zone_text.specs.declared.lexer.Begun.TheVariants as begun
use Rattle.zone_text.specs.declared.lexer.Scan as code
use Rattle.zone_text.proofs.LineLemmas.{missed}

-- none of the bytes parts words or is a backslash
abbrev pub Joins : List ℕ → Type 0
Joins xs = All (λ c. stops_word c ≡ false) xs

take_parts : (m n : ℕ) (xs : List ℕ) → take (m + n) xs ≡ take m xs ++ take n (drop m xs)
take_parts m n xs =
    sym (take-append-drop m (take (m + n) xs))
    ∙ ap (λ (l : List ℕ). l ++ drop m (take (m + n) xs)) (take-take m (m + n) xs (omega arith))
    ∙ ap (λ (l : List ℕ). take m xs ++ l) (drop-take m n xs)

range_parts : (xs : List ℕ) (from mid upto : ℕ) → from ≤ mid → mid ≤ upto → slice_range xs from upto ≡ slice_range xs from mid ++ slice_range xs mid upto
range_parts xs from mid upto h k =
    let e : upto - from ≡ (mid - from) + (upto - mid) = omega arith in
    let f : from + (mid - from) ≡ mid = omega arith in
    ap (λ (n : ℕ). take n (drop from xs)) e
    ∙ take_parts (mid - from) (upto - mid) (drop from xs)
    ∙ ap (λ (l : List ℕ). slice_range xs from mid ++ take (upto - mid) l) (drop-drop (mid - from) from xs ∙ ap (λ (n : ℕ). drop n xs) f)

byte_joins : (n c : ℕ) (w : List ℕ) (s : Scan) → stops_word c ≡ false → step n c (record s { begun = Word w }) ≡ Ok (record s { begun = Word (w ++ c ∷ []) })
unfolding step
byte_joins n c w s h = let p = or_parts (parts_words c) (eqb c 92) h in rw (p.0, p.1) refl

bytes_join : (n : ℕ) (xs ys w : List ℕ) (s : Scan) → AllByRecursion (λ c. stops_word c ≡ false) xs → steps n (xs ++ ys) (record s { begun = Word w }) ≡ steps n ys (record s { begun = Word (w ++ xs) })
unfolding steps
bytes_join n [] ys w s h = ap (λ (l : List ℕ). steps n ys (record s { begun = Word l })) (sym (append-nil w))
bytes_join n (c ∷ xs) ys w s h =
    ap (λ (r : Result Scan (Refused ZoneKind)). r >>= steps n (xs ++ ys)) (byte_joins n c w s h.0)
    ∙ bytes_join n xs ys (w ++ c ∷ []) s h.1
    ∙ ap (λ (l : List ℕ). steps n ys (record s { begun = Word l })) (append_assoc w (c ∷ []) xs)

range_joins : (n : ℕ) (xs : List ℕ) (from at to upto : ℕ) (s : Scan) → from ≤ at → at ≤ to → to ≤ upto → Joins (slice_range xs at to) → steps n (slice_range xs at upto) (record s { begun = Word (slice_range xs from at) }) ≡ steps n (slice_range xs to upto) (record s { begun = Word (slice_range xs from to) })
range_joins n xs from at to upto s h k i j =
    ap (λ (l : List ℕ). steps n l (record s { begun = Word (slice_range xs from at) })) (range_parts xs at to upto k i)
    ∙ bytes_join n (slice_range xs at to) (slice_range xs to upto) (slice_range xs from at) s (recursion_from_All (λ c. stops_word c ≡ false) (slice_range xs at to) j)
    ∙ ap (λ (l : List ℕ). steps n (slice_range xs to upto) (record s { begun = Word l })) (sym (range_parts xs from at to h k))

-- a word that goes on to a place leaves the same as what is seen there
pub word_goes_on : (n : ℕ) (bytes : List ℕ) (from at to upto : ℕ) (s : code.Scan) → s.begun ≡ begun.Word from → HasScanned bytes at s → at ≤ to → to ≤ upto → Joins (slice_range bytes at to) → steps n (slice_range bytes at upto) (scan_view bytes at s) ≡ steps n (slice_range bytes to upto) (scan_view bytes to s)
word_goes_on n bytes from at to upto s e h k i j =
    let b = rw e at h.began in
    rw e (range_joins n bytes from at to upto (scan_view bytes at s) b k i j)

-- ---- the place where a word stops

same_byte : (xs : List ℕ) (at upto n k d : ℕ) → n ≤ upto - at → k < n → get_or (slice_range xs at (at + n)) k d ≡ get_or (slice_range xs at upto) k d
same_byte xs at upto n k d h lt =
    get_or-between xs at (at + n) k d (omega arith) ∙ sym (get_or-between xs at upto k d (omega arith))

pub found_joins : (xs : List ℕ) (at upto n : ℕ) → upto ≤ length xs → position stops_word (slice_range xs at upto) ≡ Some n → Joins (slice_range xs at (at + n))
found_joins xs at upto n h e = λ k d lt.
    let p = position-Some stops_word (slice_range xs at upto) n d e in
    let len : length (slice_range xs at upto) ≡ upto - at = length-between xs at upto h in
    let small : n < length (slice_range xs at upto) = p.0 in
    let most : length (slice_range xs at (at + n)) ≡ at + n - at = length-between xs at (at + n) (omega arith) in
    let below : k < n = omega arith in
    ap stops_word (same_byte xs at upto n k d (omega arith) below) ∙ p.2 k below

pub found_stops : (xs : List ℕ) (at upto n : ℕ) → upto ≤ length xs → position stops_word (slice_range xs at upto) ≡ Some n → stops_word (get_or xs (at + n) 0) ≡ true
found_stops xs at upto n h e =
    let p = position-Some stops_word (slice_range xs at upto) n 0 e in
    let len : length (slice_range xs at upto) ≡ upto - at = length-between xs at upto h in
    let small : n < length (slice_range xs at upto) = p.0 in
    ap stops_word (sym (get_or-between xs at upto n 0 (omega arith))) ∙ p.1

pub missed_joins : (xs : List ℕ) → position stops_word xs ≡ None → Joins xs
missed_joins xs e = λ k d lt.
    let m : length xs ≤ position_or_len stops_word xs = missed stops_word xs e in
    fails_before_first stops_word xs k d (omega arith)
