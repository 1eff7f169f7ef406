-- Cells of a list that are copied one after another.
use Rattle.std.proofs.Common.{◌≡◌, ◌≢◌, ℕ, ◌+◌, ◌<◌, List, length, set, inl, inr, arith, sym, ap, ◌∙◌, subst, Some, length-set, get_or-set_same, get_or-set_other}
use Rattle.std.specs.Prelude.{slice_get}
use Rattle.std.proofs.lemmas.Bool.{cases_lt}
use Rattle.std.proofs.lemmas.Option.{slice_get_within, slice_get-get_or, get_or_from_slice_get}

module _ {A : Type 0} where
  written : (xs : List A) (i : ℕ) (x : A) → i < length xs → slice_get (set xs i x) i ≡ Some x
  written xs i x l = slice_get-get_or (set xs i x) i x (let n = length-set xs i x in omega arith) ∙ ap (λ (y : A). Some y) (get_or-set_same xs i x x l)

  unwritten : (xs : List A) (i j : ℕ) (x y : A) → j ≢ i → slice_get xs j ≡ Some y → slice_get (set xs i x) j ≡ Some y
  unwritten xs i j x y apart e = slice_get-get_or (set xs i x) j y (let n = length-set xs i x in let l = slice_get_within xs j y e in omega arith)
      ∙ ap (λ (z : A). Some z) (get_or-set_other xs i j x y apart ∙ get_or_from_slice_get xs j y y e)

  -- the first k of n cells are copied, and none but the n were written
  pub record Upto (before now : List A) (from to n k : ℕ) : Type 0 where
    pub copied : (i : ℕ) (c : A) → i < k → slice_get before (from + i) ≡ Some c → slice_get now (to + i) ≡ Some c
    pub others : (q : ℕ) (c : A) → ((i : ℕ) → i < n → q ≢ to + i) → slice_get before q ≡ Some c → slice_get now q ≡ Some c

  -- and the next one
  pub upto_next : {before now : List A} {from to n k : ℕ} (x : A) → Upto before now from to n k → k < n → to + k < length now → ((i j : ℕ) → i < n → j < n → from + i ≢ to + j)
      → ((c : A) → slice_get now (from + k) ≡ Some c → x ≡ c) → Upto before (set now (to + k) x) from to n (k + 1)
  upto_next {before} {now} {from} {to} {n} {k} x u l room apart is = record {
    copied = λ i c m e. elim (cases_lt i k) [
      | inl a ↦ unwritten now (to + k) (to + i) x c (λ s. omega arith) (u.copied i c a e)
      | inr a ↦ (
          let same : i ≡ k = omega arith in
          let here : slice_get before (from + k) ≡ Some c = subst (λ (p : ℕ). slice_get before (from + p) ≡ Some c) same e in
          let stays : slice_get now (from + k) ≡ Some c = u.others (from + k) c (λ j t. apart k j l t) here in
          subst (λ (p : ℕ). slice_get (set now (to + k) x) (to + p) ≡ Some c) (sym same) (written now (to + k) x room ∙ ap (λ (z : A). Some z) (is c stays))
          )
    ];
    others = λ q c away e. unwritten now (to + k) q x c (away k l) (u.others q c away e);
  }
