-- Cells side by side: how many of them lie in a chunk.
use Rattle.std.proofs.Common.{◌≡◌, ◌≢◌, ℕ, zero, suc, ◌+◌, ◌-◌, ◌/◌, ◌%◌, ◌<◌, ◌≤◌, List, length, slice_index, slice_set, refl, ◌∙◌, sym, ap, subst, inl, inr, arith}
use Rattle.std.proofs.lemmas.Bool.{cases_eq, cases_lt}
use Rattle.std.proofs.lemmas.Bool.Decides.{nat_tests}
use Rattle.std.proofs.lemmas.List.{get_or-set_same, get_or-set_other, get_or_past, set_past}
use Rattle.trie_model.specs.Extents.{row}
use Rattle.trie_model.specs.Reach.{in_chunk}

in_it : (k r : ℕ) → r / 1024 ≡ k → in_chunk k r ≡ 1
in_it k r e = grind (arith, nat_tests)

not_in_it : (k r : ℕ) → r / 1024 ≢ k → in_chunk k r ≡ 0
not_in_it k r e = grind (arith, nat_tests)

all_in : (k r n : ℕ) → ((i : ℕ) → i < n → (r + i) / 1024 ≡ k) → row (in_chunk k) r n ≡ n
all_in k r zero h = refl
all_in k r (suc n) h =
    let here = in_it k r (let e = h 0 (omega arith) in omega arith) in
    let rest = all_in k (suc r) n (λ i l. let e = h (suc i) (omega arith) in omega arith) in
    omega arith

none_in : (k r n : ℕ) → ((i : ℕ) → i < n → (r + i) / 1024 ≢ k) → row (in_chunk k) r n ≡ 0
none_in k r zero h = refl
none_in k r (suc n) h =
    let here = not_in_it k r (λ e. h 0 (omega arith) (omega arith)) in
    let rest = none_in k (suc r) n (λ i l e. h (suc i) (omega arith) (omega arith)) in
    omega arith

-- n cells of one chunk
module _ (r n : ℕ) (together : r % 1024 + n ≤ 1024) where
  pub row_here : row (in_chunk (r / 1024)) r n ≡ n
  row_here = all_in (r / 1024) r n (λ i l. omega arith)

  pub row_there : (k : ℕ) → k ≢ r / 1024 → row (in_chunk k) r n ≡ 0
  row_there k other = none_in k r n (λ i l e. other (omega arith))

  -- what a count that rises, or falls, by n in that chunk says of each chunk
  pub counts_more : (live : List ℕ) (c k : ℕ) → c ≡ r / 1024 → c < length live → slice_index (slice_set live c (slice_index live c + n)) k ≡ slice_index live k + row (in_chunk k) r n
  counts_more live c k here inside = elim (cases_eq k c) [
    | inl e ↦ subst (λ (j : ℕ). slice_index (slice_set live c (slice_index live c + n)) j ≡ slice_index live j + row (in_chunk j) r n) (sym e)
        (get_or-set_same live c (slice_index live c + n) 0 inside ∙ ap (λ m. slice_index live c + m) (sym (ap (λ j. row (in_chunk j) r n) here ∙ row_here)))
    | inr other ↦ (let z = row_there k (λ e. other (e ∙ sym here)) in get_or-set_other live c k _ 0 other ∙ omega arith)
  ]

  pub counts_fewer : (live : List ℕ) (k : ℕ) → n ≤ slice_index live (r / 1024) → slice_index (slice_set live (r / 1024) (slice_index live (r / 1024) - n)) k + row (in_chunk k) r n ≡ slice_index live k
  counts_fewer live k enough = elim (cases_eq k (r / 1024)) [
    | inl e ↦ subst (λ (j : ℕ). slice_index (slice_set live (r / 1024) (slice_index live (r / 1024) - n)) j + row (in_chunk j) r n ≡ slice_index live j) (sym e) here
    | inr other ↦ (let z = row_there k other in let o = get_or-set_other live (r / 1024) k (slice_index live (r / 1024) - n) 0 other in omega arith)
  ]
    where
      here : slice_index (slice_set live (r / 1024) (slice_index live (r / 1024) - n)) (r / 1024) + row (in_chunk (r / 1024)) r n ≡ slice_index live (r / 1024)
      here = elim (cases_lt (r / 1024) (length live)) [
        | inl inside ↦ (let z = row_here in let o = get_or-set_same live (r / 1024) (slice_index live (r / 1024) - n) 0 inside in omega arith)
        | inr past ↦ (let z = row_here in let o = get_or_past live (r / 1024) 0 past in let s = ap (λ (xs : List ℕ). slice_index xs (r / 1024)) (set_past live (r / 1024) (slice_index live (r / 1024) - n) past) in omega arith)
      ]
