-- The line that cuts an input.
use Rattle.std.proofs.Common.{◌≡◌, ◌∙◌, ℕ, suc, ◌+◌, ◌<◌, ◌≤◌, Bool, true, false, cond, not, ◌||◌, List, [], ◌∷◌, ◌++◌, length, take, drop, refl, sym, ap, arith, append_assoc, append-nil, length-append}
use Rattle.std.specs.List.{position_or_len, list_any, before_first, after_first}
use Rattle.std.proofs.lemmas.List.{take_at, drop_at, take_all, drop_all}
use Rattle.zone_model.specs.Lines.{lines_of}
use Rattle.zone_text.proofs.CutLemmas.{Begins, at_start, cut_lines, next_lines}
use Rattle.job_model.specs.Jobs.{is_cut, script_start}
use Rattle.job_script.specs.Parts.{IsCutAt}

-- ---- the first line that cuts

not_cut : (front : List (List ℕ)) (line : List ℕ) → list_any is_cut front ≡ false → is_cut line ≡ false → list_any is_cut (front ++ line ∷ []) ≡ false
not_cut [] line n c = ap (λ b. b || false) c
not_cut (x ∷ front) line n c = by_test (is_cut x) (list_any is_cut front) (list_any is_cut (front ++ line ∷ [])) n (not_cut front line)
  where
    by_test : (t u v : Bool) → (t || u) ≡ false → (u ≡ false → is_cut line ≡ false → v ≡ false) → (t || v) ≡ false
    by_test true u v h f = absurd cc
    by_test false u v h f = f h c

abbrev cut_place : List (List ℕ) → ℕ
cut_place ls = position_or_len is_cut ls

place_step : (x : List ℕ) (front rest : List (List ℕ)) (t : Bool) → is_cut x ≡ t → (t || list_any is_cut front) ≡ false → (list_any is_cut front ≡ false → cut_place (front ++ rest) ≡ length front + cut_place rest) → cond (not t) (1 + cut_place (front ++ rest)) 0 ≡ suc (length front) + cut_place rest
place_step x front rest true e n i = absurd cc
place_step x front rest false e n i = let p : cut_place (front ++ rest) ≡ length front + cut_place rest = i n in omega (arith, p)

place_append : (front rest : List (List ℕ)) → list_any is_cut front ≡ false → cut_place (front ++ rest) ≡ length front + cut_place rest
place_append [] rest n = omega arith
place_append (x ∷ front) rest n = place_step x front rest (is_cut x) refl n (place_append front rest)

any_here : (front : List (List ℕ)) (line : List ℕ) (rest : List (List ℕ)) → is_cut line ≡ true → list_any is_cut (front ++ line ∷ rest) ≡ true
any_here [] line rest c = ap (λ b. b || list_any is_cut rest) c
any_here (x ∷ front) line rest c = ap (λ b. is_cut x || b) (any_here front line rest c) ∙ or-true (is_cut x)
  where
    or-true : (b : Bool) → (b || true) ≡ true
    or-true true = refl
    or-true false = refl

behind_front : (front : List (List ℕ)) (line : List ℕ) (rest : List (List ℕ)) → drop (length front + 1) (front ++ line ∷ rest) ≡ rest
behind_front front line rest =
    let size : length (front ++ line ∷ []) ≡ length front + 1 = length-append front (line ∷ []) in
    ap (drop (length front + 1)) (sym (append_assoc front (line ∷ []) rest)) ∙ drop_at (front ++ line ∷ []) rest (length front + 1) (omega (arith, size))

-- an input that is cut at a line which begins at a place
pub cut_here : (bytes line : List ℕ) (at next n : ℕ) → Begins bytes at → lines_of (drop at bytes) ≡ line ∷ lines_of (drop next bytes) → is_cut line ≡ true → list_any is_cut (lines_of (take at bytes)) ≡ false → n ≡ length (lines_of (take at bytes)) + 1 → at < next → next ≤ length bytes → n ≤ at + 1
    → IsCutAt bytes at next (n + 1)
cut_here bytes line at next n b e c none count le inside few =
    let front = lines_of (take at bytes) in
    let rest = lines_of (drop next bytes) in
    let all : lines_of bytes ≡ lines_of (take at bytes) ++ line ∷ lines_of (drop next bytes) = sym (cut_lines bytes at b) ∙ ap (λ (l : List (List ℕ)). lines_of (take at bytes) ++ l) e in
    let here : cut_place (line ∷ lines_of (drop next bytes)) ≡ 0 = ap (λ t. cond (not t) (1 + cut_place (lines_of (drop next bytes))) 0) c in
    let place : cut_place (lines_of (take at bytes) ++ line ∷ lines_of (drop next bytes)) ≡ length (lines_of (take at bytes)) = place_append (lines_of (take at bytes)) (line ∷ lines_of (drop next bytes)) none ∙ (let z : length (lines_of (take at bytes)) + cut_place (line ∷ lines_of (drop next bytes)) ≡ length (lines_of (take at bytes)) = omega (arith, here) in z) in
    let zone : before_first is_cut (lines_of (take at bytes) ++ line ∷ lines_of (drop next bytes)) ≡ lines_of (take at bytes) =
    ap (λ (k : ℕ). take k (lines_of (take at bytes) ++ line ∷ lines_of (drop next bytes))) place ∙ take_at (lines_of (take at bytes)) (line ∷ lines_of (drop next bytes)) (length (lines_of (take at bytes))) refl in
    let script : after_first is_cut (lines_of (take at bytes) ++ line ∷ lines_of (drop next bytes)) ≡ lines_of (drop next bytes) =
    ap (λ (k : ℕ). drop (k + 1) (lines_of (take at bytes) ++ line ∷ lines_of (drop next bytes))) place ∙ behind_front (lines_of (take at bytes)) line (lines_of (drop next bytes)) in
    let size : length (before_first is_cut (lines_of (take at bytes) ++ line ∷ lines_of (drop next bytes))) ≡ length (lines_of (take at bytes)) = ap (λ (l : List (List ℕ)). length l) zone in
    let start : script_start bytes ≡ n + 1 =
    ap (λ (l : List (List ℕ)). cond (list_any is_cut l) (length (before_first is_cut l) + 2) (length (before_first is_cut l) + 1)) all
    ∙ ap (λ t. cond t (length (before_first is_cut (lines_of (take at bytes) ++ line ∷ lines_of (drop next bytes))) + 2) (length (before_first is_cut (lines_of (take at bytes) ++ line ∷ lines_of (drop next bytes))) + 1)) (any_here (lines_of (take at bytes)) line (lines_of (drop next bytes)) c)
    ∙ (let z : length (before_first is_cut (lines_of (take at bytes) ++ line ∷ lines_of (drop next bytes))) + 2 ≡ n + 1 = omega (arith, size) in z) in
    record {
      zone = sym (ap (before_first is_cut) all ∙ zone);
      script = sym (ap (after_first is_cut) all ∙ script);
      first = sym start;
      zone_inside = omega arith;
      script_inside = inside;
      few = omega arith;
    }

-- an input that no line cuts
pub never_cut : (bytes : List ℕ) (at n : ℕ) → length bytes ≤ at → at ≤ length bytes → list_any is_cut (lines_of (take at bytes)) ≡ false → n ≡ length (lines_of (take at bytes)) + 1 → n ≤ at + 1 → IsCutAt bytes at at n
never_cut bytes at n past inside none count few =
    let whole : take at bytes ≡ bytes = take_all at bytes past in
    let none' : list_any is_cut (lines_of bytes) ≡ false = ap (λ (l : List ℕ). list_any is_cut (lines_of l)) (sym whole) ∙ none in
    let empty : cut_place [] ≡ 0 = refl in
    let place : cut_place (lines_of bytes) ≡ length (lines_of bytes) = ap cut_place (sym (append-nil (lines_of bytes))) ∙ place_append (lines_of bytes) [] none' ∙ (let z : length (lines_of bytes) + cut_place [] ≡ length (lines_of bytes) = omega (arith, empty) in z) in
    let zone : before_first is_cut (lines_of bytes) ≡ lines_of bytes = take_all (cut_place (lines_of bytes)) (lines_of bytes) (omega arith) in
    let script : after_first is_cut (lines_of bytes) ≡ [] = drop_all (cut_place (lines_of bytes) + 1) (lines_of bytes) (omega arith) in
    let size : length (before_first is_cut (lines_of bytes)) ≡ length (lines_of (take at bytes)) = ap (λ (l : List (List ℕ)). length l) zone ∙ ap (λ (l : List ℕ). length (lines_of l)) (sym whole) in
    record {
      zone = ap lines_of whole ∙ sym zone;
      script = ap lines_of (drop_all at bytes past) ∙ sym script;
      first = sym (ap (λ t. cond t (length (before_first is_cut (lines_of bytes)) + 2) (length (before_first is_cut (lines_of bytes)) + 1)) none' ∙ (let z : length (before_first is_cut (lines_of bytes)) + 1 ≡ n = omega (arith, size) in z));
      zone_inside = inside;
      script_inside = inside;
      few = few;
    }

-- how far the search for the line has come
pub record Searched (bytes : List ℕ) (at line : ℕ) : Type 0 where
  pub begins : Begins bytes at
  pub none : list_any is_cut (lines_of (take at bytes)) ≡ false
  pub count : line ≡ length (lines_of (take at bytes)) + 1
  pub inside : at ≤ length bytes
  pub few : line ≤ at + 1

pub begins_at : (bytes : List ℕ) → Searched bytes 0 1
begins_at bytes = record { begins = at_start refl; none = refl; count = omega arith; inside = omega arith; few = omega arith }

pub searched_more : (bytes line : List ℕ) (at next n : ℕ) → Searched bytes at n → Begins bytes next → lines_of (drop at bytes) ≡ line ∷ lines_of (drop next bytes) → is_cut line ≡ false → at < next → next ≤ length bytes → Searched bytes next (n + 1)
searched_more bytes line at next n s b e c lt inside =
    let more : lines_of (take next bytes) ≡ lines_of (take at bytes) ++ line ∷ [] = next_lines bytes line at next s.begins b e in
    record {
      begins = b;
      none = ap (list_any is_cut) more ∙ not_cut (lines_of (take at bytes)) line s.none c;
      count = (let z : n + 1 ≡ length (lines_of (take next bytes)) + 1 = omega (arith, s.count, ap (λ (l : List (List ℕ)). length l) more, length-append (lines_of (take at bytes)) (line ∷ [])) in z);
      inside = inside;
      few = (let z : n + 1 ≤ next + 1 = omega (arith, s.few) in z);
    }
