-- The first line of a text.
use Rattle.std.proofs.Common.{◌≡◌, ℕ, zero, suc, ◌+◌, ◌-◌, ◌<◌, ◌≤◌, ◌∷◌, [], List, length, get_or, take, drop, length-drop, arith, ap, ◌∙◌, refl, sym, Some, None, Bool, true, false, eqb, ltb, cond}
use Rattle.std.specs.List.{position, slice_range, slice_split, position_or_len, before_first, after_first, All}
use Rattle.std.specs.Str.Lines.{lines, lines_of_parts, strip_carriage_return}
use Rattle.std.proofs.lemmas.List.{drop-drop, length-take-le, take-take, get_or-drop}
use Rattle.std.proofs.lemmas.List.Splits.{slice_split_first, slice_split_none, length-slice_split}
use Rattle.std.proofs.lemmas.List.Sums.{fails_before_first, passes_at_first}
use Rattle.std.proofs.lemmas.Bool.Decides.{nat_tests}
use borrow.Author.Tests.{ltb-true, eqb-true}
use Rattle.std.proofs.Math.Seq.{drop-length}
use Rattle.std.proofs.lemmas.Slice.{between_to_end}
use Rattle.zone_text.specs.Places.{FirstLine}
use Rattle.zone_model.specs.Tokens.{begins_blank, is_blank}

parts_more : (line : List ℕ) (parts : List (List ℕ)) → 0 < length parts → lines_of_parts (line ∷ parts) ≡ strip_carriage_return line ∷ lines_of_parts parts
parts_more line [] h = absurd (omega arith)
parts_more line (y ∷ more) h = refl

pub lines_first : (xs : List ℕ) → position_or_len (λ b. eqb b 10) xs < length xs → lines xs ≡ strip_carriage_return (before_first (λ b. eqb b 10) xs) ∷ lines (after_first (λ b. eqb b 10) xs)
lines_first xs h =
    let some : 0 < length (slice_split (λ b. eqb b 10) (after_first (λ b. eqb b 10) xs)) = omega (arith, length-slice_split (λ b. eqb b 10) (after_first (λ b. eqb b 10) xs)) in
    ap lines_of_parts (slice_split_first (λ b. eqb b 10) xs 0 h) ∙ parts_more (before_first (λ b. eqb b 10) xs) (slice_split (λ b. eqb b 10) (after_first (λ b. eqb b 10) xs)) some

one_part : (xs : List ℕ) → 0 < length xs → lines_of_parts (xs ∷ []) ≡ xs ∷ []
one_part [] h = absurd (omega arith)
one_part (x ∷ xs) h = let e : eqb (length (x ∷ xs)) 0 ≡ false = grind (arith, nat_tests) in rw e refl

pub lines_last : (xs : List ℕ) → 0 < length xs → length xs ≤ position_or_len (λ b. eqb b 10) xs → lines xs ≡ xs ∷ []
lines_last xs some h =
    let none : All (λ b. eqb b 10 ≡ false) xs = (λ k d lt. fails_before_first (λ b. eqb b 10) xs k d (omega arith)) in
    ap lines_of_parts (slice_split_none (λ b. eqb b 10) xs none) ∙ one_part xs some

pub found : (xs : List ℕ) (n : ℕ) → position (λ b. eqb b 10) xs ≡ Some n → (position_or_len (λ b. eqb b 10) xs ≡ n) × (n < length xs)
found xs n h = by_test (ltb (position_or_len (λ b. eqb b 10) xs) (length xs)) refl h
  where
    by_test : (b : Bool) → ltb (position_or_len (λ b. eqb b 10) xs) (length xs) ≡ b → cond b (Some (position_or_len (λ b. eqb b 10) xs)) None ≡ Some n → (position_or_len (λ b. eqb b 10) xs ≡ n) × (n < length xs)
    by_test true e h = let p : position_or_len (λ b. eqb b 10) xs ≡ n = cc in (p, omega (arith, ltb-true (position_or_len (λ b. eqb b 10) xs) (length xs) e))
    by_test false e h = absurd cc

pub missed : (p : ℕ → Bool) (xs : List ℕ) → position p xs ≡ None → length xs ≤ position_or_len p xs
missed p xs h = by_test (ltb (position_or_len p xs) (length xs)) refl h
  where
    by_test : (b : Bool) → ltb (position_or_len p xs) (length xs) ≡ b → cond b (Some (position_or_len p xs)) None ≡ None → length xs ≤ position_or_len p xs
    by_test true e h = absurd cc
    by_test false e h = grind (arith, nat_tests)

fed_at : (bytes : List ℕ) (at n m : ℕ) → m ≡ at + n → n < length (drop at bytes) → get_or (drop at bytes) n 0 ≡ 10 → get_or bytes m 0 ≡ 10
fed_at bytes at n m e lt h = ap (λ (k : ℕ). get_or bytes k 0) e ∙ sym (get_or-drop at bytes n 0) ∙ h

pub first_line : (bytes : List ℕ) (at n m : ℕ) → at < length bytes → position (λ b. eqb b 10) (drop at bytes) ≡ Some n → take m (take n (drop at bytes)) ≡ strip_carriage_return (take n (drop at bytes)) → m ≤ length (take n (drop at bytes)) → FirstLine bytes at (at + m) (at + n + 1)
first_line bytes at n m inside h s small =
    let f = found (drop at bytes) n h in
    let lt : n < length (drop at bytes) = f.1 in
    let e : position_or_len (λ b. eqb b 10) (drop at bytes) ≡ n = f.0 in
    let len : length (drop at bytes) ≡ length bytes - at = length-drop at bytes in
    let short : length (take n (drop at bytes)) ≡ n = length-take-le n (drop at bytes) (omega arith) in
    let all : take (at + m - at) (drop at bytes) ≡ strip_carriage_return (take n (drop at bytes)) = ap (λ (k : ℕ). take k (drop at bytes)) (omega arith) ∙ sym (take-take m n (drop at bytes) (omega arith)) ∙ s in
    record {
      lines = lines_first (drop at bytes) (omega arith)
          ∙ ap (λ (k : ℕ). strip_carriage_return (take k (drop at bytes)) ∷ lines (drop (k + 1) (drop at bytes))) e
          ∙ ap (λ (l : List ℕ). l ∷ lines (drop (n + 1) (drop at bytes))) (sym all)
          ∙ ap (λ (l : List ℕ). slice_range bytes at (at + m) ∷ lines l) (drop-drop (n + 1) at bytes ∙ ap (λ (k : ℕ). drop k bytes) (omega arith));
      begins = omega arith;
      ends = omega arith;
      on = omega arith;
      inside = omega arith;
      fed = λ h. fed_at bytes at n (at + n + 1 - 1) (omega arith) lt (eqb-true (get_or (drop at bytes) n 0) 10 (ap (λ (k : ℕ). eqb (get_or (drop at bytes) k 0) 10) (sym e) ∙ passes_at_first (λ b. eqb b 10) (drop at bytes) 0 (omega arith)));
    }

pub last_line : (bytes : List ℕ) (at : ℕ) → at < length bytes → position (λ b. eqb b 10) (drop at bytes) ≡ None → FirstLine bytes at (length bytes) (length bytes)
last_line bytes at inside h =
    let len : length (drop at bytes) ≡ length bytes - at = length-drop at bytes in
    record {
      lines = lines_last (drop at bytes) (omega arith) (missed (λ b. eqb b 10) (drop at bytes) h) ∙ sym (ap (λ (l : List ℕ). l ∷ lines (drop (length bytes) bytes)) (between_to_end bytes at (length bytes) (omega arith)) ∙ ap (λ (l : List ℕ). drop at bytes ∷ lines l) (drop-length bytes));
      begins = omega arith;
      ends = omega arith;
      on = omega arith;
      inside = omega arith;
      fed = λ h. absurd (omega arith);
    }

-- the same, where the text from a place on is what a slice of it shows
pub first_line_of : (bytes rest : List ℕ) (at n m : ℕ) → rest ≡ slice_range bytes at (length bytes) → at < length bytes → position (λ b. eqb b 10) rest ≡ Some n → take m (take n rest) ≡ strip_carriage_return (take n rest) → m ≤ length (take n rest) → FirstLine bytes at (at + m) (at + n + 1)
first_line_of bytes rest at n m e inside h s small =
    let f : rest ≡ drop at bytes = e ∙ between_to_end bytes at (length bytes) (omega arith) in
    first_line bytes at n m inside (rw f at h) (rw f at s) (rw f at small)

pub last_line_of : (bytes rest : List ℕ) (at : ℕ) → rest ≡ slice_range bytes at (length bytes) → at < length bytes → position (λ b. eqb b 10) rest ≡ None → FirstLine bytes at (length bytes) (length bytes)
last_line_of bytes rest at e inside h =
    let f : rest ≡ drop at bytes = e ∙ between_to_end bytes at (length bytes) (omega arith) in
    last_line bytes at inside (rw f at h)

-- a line begins as the text from it on does
pub record FirstBlank (xs : List ℕ) : Type 0 where
  pub line : List ℕ
  pub rest : List (List ℕ)
  pub lines : lines xs ≡ line ∷ rest
  pub blank : begins_blank line ≡ begins_blank xs

strip_blank : (l : List ℕ) → begins_blank (strip_carriage_return l) ≡ begins_blank l
strip_blank [] = by_test (eqb 0 13)
  where
    by_test : (b : Bool) → begins_blank (cond b [] []) ≡ false
    by_test true = refl
    by_test false = refl
strip_blank (c ∷ []) = by_test (eqb c 13) refl
  where
    by_test : (b : Bool) → eqb c 13 ≡ b → begins_blank (cond b [] (c ∷ [])) ≡ is_blank c
    by_test true e = let f : c ≡ 13 = eqb-true c 13 e in ap is_blank (sym f)
    by_test false e = refl
strip_blank (c ∷ d ∷ u) = by_test (eqb (get_or (c ∷ d ∷ u) (length (c ∷ d ∷ u) - 1) 0) 13)
  where
    by_test : (b : Bool) → begins_blank (cond b (take (length (c ∷ d ∷ u) - 1) (c ∷ d ∷ u)) (c ∷ d ∷ u)) ≡ is_blank c
    by_test true = let e : length (c ∷ d ∷ u) - 1 ≡ suc (length u) = omega arith in ap (λ (k : ℕ). begins_blank (take k (c ∷ d ∷ u))) e
    by_test false = refl

take_blank : (k : ℕ) (xs : List ℕ) → (k ≡ 0 → begins_blank xs ≡ false) → begins_blank (take k xs) ≡ begins_blank xs
take_blank zero xs h = sym (h refl)
take_blank (suc k) [] h = refl
take_blank (suc k) (c ∷ xs) h = refl

feed_blank : (xs : List ℕ) → 0 < length xs → get_or xs 0 0 ≡ 10 → begins_blank xs ≡ false
feed_blank [] h e = refl
feed_blank (c ∷ xs) h e = ap is_blank e

first_feed_blank : (xs : List ℕ) → position_or_len (λ b. eqb b 10) xs < length xs → position_or_len (λ b. eqb b 10) xs ≡ 0 → begins_blank xs ≡ false
first_feed_blank xs h e =
    let p : eqb (get_or xs (position_or_len (λ b. eqb b 10) xs) 0) 10 ≡ true = passes_at_first (λ b. eqb b 10) xs 0 h in
    feed_blank xs (omega arith) (eqb-true (get_or xs 0 0) 10 (ap (λ (k : ℕ). eqb (get_or xs k 0) 10) (sym e) ∙ p))

pub first_blank : (xs : List ℕ) → 0 < length xs → FirstBlank xs
first_blank xs some = by_test (ltb (position_or_len (λ b. eqb b 10) xs) (length xs)) refl
  where
    by_test : (b : Bool) → ltb (position_or_len (λ b. eqb b 10) xs) (length xs) ≡ b → FirstBlank xs
    by_test true e =
        let h : position_or_len (λ b. eqb b 10) xs < length xs = ltb-true (position_or_len (λ b. eqb b 10) xs) (length xs) e in
        record {
          line = strip_carriage_return (before_first (λ b. eqb b 10) xs);
          rest = lines (after_first (λ b. eqb b 10) xs);
          lines = lines_first xs h;
          blank = strip_blank (before_first (λ b. eqb b 10) xs) ∙ take_blank (position_or_len (λ b. eqb b 10) xs) xs (first_feed_blank xs h);
        }
    by_test false e = record { line = xs; rest = []; lines = lines_last xs some (grind (arith, nat_tests)); blank = refl }
