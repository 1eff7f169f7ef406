-- The row of a version among the kept ones.
use Rattle.std.proofs.Common.{◌≡◌, ℕ, suc, ◌+◌, ◌-◌, ◌<◌, Bool, true, false, not, cond, List, [], ◌∷◌, ◌++◌, length, take, refl, ◌∙◌, sym, ap, subst, arith}
use Rattle.std.specs.Prelude.{◌≤◌, ◌||◌, drop, remove}
use Rattle.std.specs.List.{All, AllByRecursion, filter, position_or_len, swap}
use Rattle.std.proofs.Common.{get_or, set, inl, inr}
use Rattle.std.proofs.lemmas.Bool.{cases_lt}
use Rattle.std.proofs.lemmas.List.{append-nil, drop-drop, drop-set-lt, get_or-drop, length-set, take-set, take-set-le, take_more_set}
use Rattle.std.proofs.lemmas.List.Elements.{All-set, filter_more}
use Rattle.std.proofs.lemmas.Bool.Decides.{nat_tests}
use Rattle.std.proofs.lemmas.List.Edits.{length-remove, length-swap, swap_is}
use Rattle.std.proofs.Math.Seq.{take-append_seam}
use Rattle.chunk_usage.specs.Ledger.{Row, Rising}
use Rattle.chunk_usage.specs.Keeping.{is_row_of, is_kept, without_row}

-- a version that is kept has a first row
pub kept_within : (rows : List Row) (version : ℕ) → is_kept rows version ≡ true → position_or_len (is_row_of version) rows < length rows
kept_within [] version h = absurd (differ h)
  where
    differ : false ≡ true → ⊥
    differ e = cc
kept_within (r ∷ rows) version h = go (is_row_of version r) h (kept_within rows version)
  where
    go : (b : Bool) → (b || is_kept rows version) ≡ true → (is_kept rows version ≡ true → position_or_len (is_row_of version) rows < length rows)
        → cond (not b) (1 + position_or_len (is_row_of version) rows) 0 < length (r ∷ rows)
    go true h rest = omega arith
    go false h rest = let i = rest h in omega arith

-- newer rows stay
others_stay : (rows : List Row) (version : ℕ) → AllByRecursion (λ (r : Row). version < r.version) rows → without_row version rows ≡ rows
others_stay [] version h = refl
others_stay (r ∷ rows) version h = go (is_row_of version r) (grind (arith, nat_tests)) (others_stay rows version h.1)
  where
    go : (b : Bool) → b ≡ false → without_row version rows ≡ rows → cond (not b) (r ∷ without_row version rows) (without_row version rows) ≡ r ∷ rows
    go true e rest = cc
    go false e rest = ap (λ (rs : List Row). r ∷ rs) rest

-- where versions rise, a version has one row
pub one_removed : (rows : List Row) (version : ℕ) → Rising rows → is_kept rows version ≡ true → remove rows (position_or_len (is_row_of version) rows) ≡ without_row version rows
one_removed [] version rising h = refl
one_removed (r ∷ rows) version rising h = go (is_row_of version r) refl h (one_removed rows version rising.1)
  where
    go : (b : Bool) → is_row_of version r ≡ b → (b || is_kept rows version) ≡ true
        → (is_kept rows version ≡ true → remove rows (position_or_len (is_row_of version) rows) ≡ without_row version rows)
        → remove (r ∷ rows) (cond (not b) (1 + position_or_len (is_row_of version) rows) 0) ≡ cond (not b) (r ∷ without_row version rows) (without_row version rows)
    go true e h rest = let same : r.version ≡ version = grind (arith, nat_tests) in sym (others_stay rows version (subst (λ (v : ℕ). AllByRecursion (λ (s : Row). v < s.version) rows) same rising.0))
    go false e h rest = let n : 1 + position_or_len (is_row_of version) rows ≡ suc (position_or_len (is_row_of version) rows) = omega arith in
        subst (λ (i : ℕ). remove (r ∷ rows) i ≡ r ∷ without_row version rows) (sym n) (ap (λ (rs : List Row). r ∷ rs) (rest h))

-- what is left of rows where one was put behind the others
pub rotated : (rows new : List Row) (place : ℕ) (r : Row) → place < length rows → new ≡ remove rows place ++ r ∷ [] → take (length rows - 1) new ≡ remove rows place
rotated rows new place r l e =
    let n : length (remove rows place) ≡ length rows - 1 = (let m = length-remove rows place l in omega arith) in
    ap (take (length rows - 1)) e ∙ subst (λ (k : ℕ). take k (remove rows place ++ r ∷ []) ≡ remove rows place) n (take-append_seam (remove rows place) (r ∷ []))

-- two elements change places: what is left in front of the first, and behind the second
module _ {X : Type 0} (xs : List X) (n i : ℕ) (d : X) (below : n ≤ i) (within : i < length xs) where
  swapped : set (set xs n (get_or xs i d)) i (get_or xs n d) ≡ swap xs n i
  swapped = swap_is xs n i d (omega arith) within

  front_swapped : take (n + 1) (swap xs n i) ≡ take n xs ++ get_or xs i d ∷ []
  front_swapped = elim (cases_lt n i) [
    | inl l ↦ sym (ap (take (n + 1)) swapped) ∙ take-set-le (n + 1) (set xs n (get_or xs i d)) i (get_or xs n d) (omega arith) ∙ take_more_set xs n (get_or xs i d) (omega arith)
    | inr past ↦ (
        let same : i ≡ n = omega arith in
        let inside : n < length (set xs n (get_or xs i d)) = (let e = length-set xs n (get_or xs i d) in omega arith) in
        sym (ap (take (n + 1)) swapped)
        ∙ ap (λ (k : ℕ). take (n + 1) (set (set xs n (get_or xs i d)) k (get_or xs n d))) same
        ∙ take_more_set (set xs n (get_or xs i d)) n (get_or xs n d) inside
        ∙ ap (λ (ys : List X). ys ++ get_or xs n d ∷ []) (take-set xs n (get_or xs i d))
        ∙ ap (λ (k : ℕ). take n xs ++ get_or xs k d ∷ []) (sym same))
  ]

  back_swapped : drop (i + 1) (swap xs n i) ≡ drop (i + 1) xs
  back_swapped = sym (ap (drop (i + 1)) swapped)
      ∙ drop-set-lt (i + 1) (set xs n (get_or xs i d)) i (get_or xs n d) (omega arith)
      ∙ drop-set-lt (i + 1) xs n (get_or xs i d) (omega arith)

  all_swapped : (P : X → Type 0) → All P xs → All P (swap xs n i)
  all_swapped P each = subst (All P) swapped
      (All-set P (set xs n (get_or xs i d)) i (get_or xs n d) (each n d (omega arith)) (All-set P xs n (get_or xs i d) (each i d within) each))

-- The rows that pass a test, moved to the front of the slots one after another: of `place` slots, `kept` passed.
pub record Gathered (passes : Row → Bool) (first slots : List Row) (place kept : ℕ) : Type 0 where
  pub long : length slots ≡ length first
  pub within : kept ≤ place
  pub front : take kept slots ≡ filter passes (take place first)
  pub rest : drop place slots ≡ drop place first
  pub wide : (n : ℕ) → All (λ (r : Row). length r.chunks ≡ n) first → All (λ (r : Row). length r.chunks ≡ n) slots

module _ (passes : Row → Bool) (first slots : List Row) (place kept : ℕ) (d : Row) (inside : place < length slots) (g : Gathered passes first slots place kept) where
  same_row : get_or slots place d ≡ get_or first place d
  same_row = by_zero ∙ ap (λ (rows : List Row). get_or rows 0 d) g.rest ∙ sym from_zero
    where
      by_zero : get_or slots place d ≡ get_or (drop place slots) 0 d
      by_zero = sym (get_or-drop place slots 0 d ∙ ap (λ (k : ℕ). get_or slots k d) (let e : place + 0 ≡ place = omega arith in e))

      from_zero : get_or first place d ≡ get_or (drop place first) 0 d
      from_zero = sym (get_or-drop place first 0 d ∙ ap (λ (k : ℕ). get_or first k d) (let e : place + 0 ≡ place = omega arith in e))

  more : filter passes (take (place + 1) first) ≡ filter passes (take place first) ++ cond (passes (get_or first place d)) (get_or first place d ∷ []) []
  more = filter_more passes first place d (let e = g.long in omega arith)

  rest_more : (xs : List Row) → drop place xs ≡ drop place first → drop (place + 1) xs ≡ drop (place + 1) first
  rest_more xs e = sym (drop-drop 1 place xs) ∙ ap (drop 1) e ∙ drop-drop 1 place first

  -- the next one passes, and changes places with the first that didn't
  pub gathered_more : passes (get_or slots place d) ≡ true → Gathered passes first (swap slots kept place) (place + 1) (kept + 1)
  gathered_more passed = record {
    long = length-swap slots kept place ∙ g.long;
    within = let w = g.within in omega arith;
    front =
        front_swapped slots kept place d g.within inside
        ∙ ap (λ (rows : List Row). rows ++ get_or slots place d ∷ []) g.front
        ∙ ap (λ (r : Row). filter passes (take place first) ++ r ∷ []) same_row
        ∙ sym (more ∙ ap (λ (b : Bool). filter passes (take place first) ++ cond b (get_or first place d ∷ []) []) (sym (ap passes same_row) ∙ passed));
    rest = back_swapped slots kept place d g.within inside ∙ rest_more slots g.rest;
    wide = λ n all. all_swapped slots kept place d g.within inside (λ (r : Row). length r.chunks ≡ n) (g.wide n all);
  }

  -- it doesn't
  pub gathered_past : passes (get_or slots place d) ≡ false → Gathered passes first slots (place + 1) kept
  gathered_past failed = record {
    long = g.long;
    within = let w = g.within in omega arith;
    front = g.front ∙ sym (more ∙ ap (λ (b : Bool). filter passes (take place first) ++ cond b (get_or first place d ∷ []) []) (sym (ap passes same_row) ∙ failed) ∙ append-nil (filter passes (take place first)));
    rest = rest_more slots g.rest;
    wide = g.wide;
  }
