-- The line behind a zone, among lines.
use Rattle.std.proofs.Common.{◌≡◌, ◌∙◌, ℕ, ◌+◌, ◌-◌, ◌<◌, ◌≤◌, ◌^◌, Bool, true, false, cond, eqb, ◌||◌, List, [], ◌∷◌, ◌++◌, length, take, drop, Option, Some, None, codes, refl, sym, ap, arith, append_assoc, length-append, length-drop}
use Rattle.std.specs.Cmp.Lexicographic.{bytes_decides}
use Rattle.std.specs.List.{after_first, before_first, list_any, position, position_or_len, slice_index}
use Rattle.std.specs.Str.Lines.{strip_carriage_return}
use Rattle.std.proofs.lemmas.Bool.{or_left, or_right}
use Rattle.std.proofs.lemmas.List.{length-take-le, take_all}
use Rattle.std.proofs.lemmas.List.Folds.{list_any-append}
use Rattle.job_model.specs.Jobs.{is_cut}
use Rattle.job_script.specs.Parts.{IsCutAt}
use Rattle.job_script.proofs.PartsLemmas.{cut_here, never_cut}
use Rattle.zone_model.specs.Lines.{lines_of}
use Rattle.zone_text.proofs.LineLemmas.{found, lines_first, lines_last, missed}
use Rattle.session_talk.specs.Answering.{IsFed}
use Rattle.session_talk.proofs.FedLaws.{begins-behind, front-of, lines_behind, rest-of}
use Rattle.live_session.specs.Zones.{has_cut}

pub any-append : (front more : List (List ℕ)) → list_any is_cut front ≡ false → list_any is_cut (front ++ more) ≡ list_any is_cut more
any-append front more n = list_any-append is_cut front more ∙ ap (λ (b : Bool). b || list_any is_cut more) n

or-false : (b : Bool) → (b || false) ≡ b
or-false true = refl
or-false false = refl

pub any_here : (front : List (List ℕ)) (line : List ℕ) (rest : List (List ℕ)) → is_cut line ≡ true → list_any is_cut (front ++ line ∷ rest) ≡ true
any_here front line rest c = list_any-append is_cut front (line ∷ rest) ∙ or_right (list_any is_cut front) (list_any is_cut (line ∷ rest)) (or_left (is_cut line) (list_any is_cut rest) c)

-- of one line
pub cut_of : (line text : List ℕ) → lines_of line ≡ text ∷ [] → has_cut line ≡ is_cut text
cut_of line text one = ap (λ (l : List (List ℕ)). list_any is_cut l) one ∙ or-false (is_cut text)

pub uncut_more : (done line : List ℕ) → IsFed done → has_cut done ≡ false → has_cut line ≡ false → has_cut (done ++ line) ≡ false
uncut_more done line fed n c = ap (λ (l : List (List ℕ)). list_any is_cut l) (lines_behind done line fed) ∙ any-append (lines_of done) (lines_of line) n ∙ c

-- a zone's lines, the line behind them, and others
pub cut_parts : (zone line more text : List ℕ) (n : ℕ) → IsFed zone → lines_of (line ++ more) ≡ text ∷ lines_of more → is_cut text ≡ true → has_cut zone ≡ false → 0 < length line → n ≡ length (lines_of zone) + 1 → n ≤ length zone + 1
    → IsCutAt ((zone ++ line) ++ more) (length zone) (length (zone ++ line)) (n + 1)
cut_parts zone line more text n fed one c uncut some count few =
    let all : (zone ++ line) ++ more ≡ zone ++ (line ++ more) = append_assoc zone line more in
    let front : take (length zone) ((zone ++ line) ++ more) ≡ zone = ap (take (length zone)) all ∙ front-of zone (line ++ more) in
    let behind : drop (length zone) ((zone ++ line) ++ more) ≡ line ++ more = ap (drop (length zone)) all ∙ rest-of zone (line ++ more) in
    let rest : drop (length (zone ++ line)) ((zone ++ line) ++ more) ≡ more = rest-of (zone ++ line) more in
    let size : length (zone ++ line) ≡ length zone + length line = length-append zone line in
    let whole : length ((zone ++ line) ++ more) ≡ length (zone ++ line) + length more = length-append (zone ++ line) more in
    cut_here ((zone ++ line) ++ more) text (length zone) (length (zone ++ line)) n (rw all (begins-behind zone (line ++ more) fed)) (ap lines_of behind ∙ one ∙ ap (λ (l : List ℕ). text ∷ lines_of l) (sym rest)) c
    (ap (λ (l : List ℕ). has_cut l) front ∙ uncut) (count ∙ ap (λ (l : List ℕ). length (lines_of l) + 1) (sym front)) (omega arith) (omega arith) few

-- a zone's lines alone
pub uncut_parts : (zone : List ℕ) (n : ℕ) → has_cut zone ≡ false → n ≡ length (lines_of zone) → n ≤ length zone → IsCutAt zone (length zone) (length zone) (n + 1)
uncut_parts zone n uncut count few =
    let whole : take (length zone) zone ≡ zone = take_all (length zone) zone (omega arith) in
    never_cut zone (length zone) (n + 1) (omega arith) (omega arith) (ap (λ (l : List ℕ). has_cut l) whole ∙ uncut) (let c : n + 1 ≡ length (lines_of zone) + 1 = omega (arith, count) in c ∙ ap (λ (l : List ℕ). length (lines_of l) + 1) (sym whole)) (omega arith)

rest_is : {x y : List ℕ} {xs ys : List (List ℕ)} → x ∷ xs ≡ y ∷ ys → xs ≡ ys
rest_is e = cc

pub first_is : {x y : List ℕ} {xs ys : List (List ℕ)} → x ∷ xs ≡ y ∷ ys → x ≡ y
first_is e = cc

-- ---- a line that is longer than lines may be

strip_by : (l : List ℕ) (t : Bool) → length l ≤ length (cond t (take (length l - 1) l) l) + 1
strip_by l true = let n : length (take (length l - 1) l) ≡ length l - 1 = length-take-le (length l - 1) l (omega arith) in omega (arith, n)
strip_by l false = omega arith

strip_keeps : (l : List ℕ) → length l ≤ length (strip_carriage_return l) + 1
strip_keeps l = strip_by l (eqb (slice_index l (length l - 1)) 13)

pub some_line : (line text : List ℕ) → lines_of line ≡ text ∷ [] → 0 < length line
some_line [] text one = absurd cc
some_line (x ∷ line) text one = omega arith

no_lines : (rest : List ℕ) → lines_of rest ≡ [] → rest ≡ []
no_lines [] e = refl
no_lines (x ∷ rest) e = absurd (by_place (position (λ b. eqb b 10) (x ∷ rest)) refl)
  where
    by_place : (place : Option ℕ) → position (λ b. eqb b 10) (x ∷ rest) ≡ place → ⊥
    by_place None m = let l : lines_of (x ∷ rest) ≡ (x ∷ rest) ∷ [] = lines_last (x ∷ rest) (omega arith) (missed (λ b. eqb b 10) (x ∷ rest) m) in cc
    by_place (Some n) m = let f = found (x ∷ rest) n m in let l = lines_first (x ∷ rest) (omega (arith, f.0, f.1)) in cc

-- a line has two octets more than its text, at most
line_length : (line text : List ℕ) → lines_of line ≡ text ∷ [] → length line ≤ length text + 2
line_length line text one = by_place (position (λ b. eqb b 10) line) refl
  where
    by_place : (place : Option ℕ) → position (λ b. eqb b 10) line ≡ place → length line ≤ length text + 2
    by_place None m =
        let l : lines_of line ≡ line ∷ [] = lines_last line (some_line line text one) (missed (λ b. eqb b 10) line m) in
        let same : length line ≡ length text = ap (λ (x : List ℕ). length x) (first_is (sym l ∙ one)) in omega (arith, same)
    by_place (Some n) m =
        let f = found line n m in
        let l = lines_first line (omega (arith, f.0, f.1)) in
        let text_is : strip_carriage_return (before_first (λ b. eqb b 10) line) ≡ text = first_is (sym l ∙ one) in
        let none : after_first (λ b. eqb b 10) line ≡ [] = no_lines (after_first (λ b. eqb b 10) line) (rest_is (sym l ∙ one)) in
        let gone : length line - (position_or_len (λ b. eqb b 10) line + 1) ≡ 0 = sym (length-drop (position_or_len (λ b. eqb b 10) line + 1) line) ∙ ap (λ (x : List ℕ). length x) none in
        let front : length (before_first (λ b. eqb b 10) line) ≡ position_or_len (λ b. eqb b 10) line = length-take-le (position_or_len (λ b. eqb b 10) line) line (omega (arith, f.0, f.1)) in
        let kept = strip_keeps (before_first (λ b. eqb b 10) line) in
        let size : length (strip_carriage_return (before_first (λ b. eqb b 10) line)) ≡ length text = ap (λ (x : List ℕ). length x) text_is in
        omega (arith, gone, front, kept, size, f.0, f.1)

pub long_uncut : (line text : List ℕ) → lines_of line ≡ text ∷ [] → 2 ^ 24 < length line → has_cut line ≡ false
long_uncut line text one over = cut_of line text one ∙ by_test (is_cut text) refl
  where
    by_test : (t : Bool) → is_cut text ≡ t → is_cut text ≡ false
    by_test false e = e
    by_test true e = absurd (
        let same : text ≡ codes "%%" = (bytes_decides text (codes "%%")).0 e in
        let two : length text ≡ 2 = ap (λ (x : List ℕ). length x) same in
        let most = line_length line text one in
        let wrong : 2 ^ 24 < 5 = omega (arith, two, most, over) in
        omega arith
        )
