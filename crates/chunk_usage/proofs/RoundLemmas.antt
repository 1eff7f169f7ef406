-- Lists of one entry for each chunk, in which the entries of the chunks of a set are changed one after the other.
use Rattle.std.proofs.Common.{◌≡◌, ℕ, ◌+◌, ◌<◌, ◌≤◌, Bool, false, List, length, slice_index_or, slice_set, sym, subst, inl, inr, arith}
use Rattle.std.proofs.lemmas.Bool.{cases_eq, cases_lt}
use Rattle.std.proofs.lemmas.List.{get_or-set_same, get_or-set_other}
use Rattle.chunk_sets.specs.ChunkSets.{IsFirstFrom}

-- what holds of each entry before a place, and of each from there on whose chunk isn't in the set
module _ {X : Type 0} (d : X) (xs : List X) (flags : List Bool) (from : ℕ) (P : ℕ → X → Type 0)
    (before : (k : ℕ) → k < from → P k (slice_index_or xs k d)) (others : (k : ℕ) → from ≤ k → k < length xs → slice_index_or flags k false ≡ false → P k (slice_index_or xs k d)) where
  -- it holds before the place behind the set's next chunk, where it holds of the new entry
  pub one_done : (chunk : ℕ) (x : X) → IsFirstFrom flags from chunk → chunk < length xs → P chunk x → (k : ℕ) → k < chunk + 1 → P k (slice_index_or (slice_set xs chunk x) k d)
  one_done chunk x first inside this k l = elim (cases_eq k chunk) [
    | inl same ↦ subst (λ (j : ℕ). P j (slice_index_or (slice_set xs chunk x) j d)) (sym same) (subst (P chunk) (sym (get_or-set_same xs chunk x d inside)) this)
    | inr other ↦ subst (P k) (sym (get_or-set_other xs chunk k x d other)) (elim (cases_lt k from) [ inl done ↦ before k done | inr le ↦ others k le (omega arith) (first.none_between k le (omega arith)) ])
  ]

  -- it holds of all where the set has no chunk any more
  pub all_done : ((k : ℕ) → from ≤ k → slice_index_or flags k false ≡ false) → (k : ℕ) → k < length xs → P k (slice_index_or xs k d)
  all_done none k l = elim (cases_lt k from) [ inl done ↦ before k done | inr le ↦ others k le l (none k le) ]
