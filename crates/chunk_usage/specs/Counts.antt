-- The fields of the counts.
use Rattle.std.specs.Prelude.{◌≡◌, ℕ, ◌≤◌, nat_lt, Bool, false, if◌then◌else◌, List, map, length, count_by, slice_index, slice_index_or}
use Rattle.std.specs.List.{range_with_len}
use Rattle.chunk_usage.specs.declared.counts.Counts.TheInside.{Inside}
use Rattle.chunk_usage.specs.Ledger.{row_of}
use Rattle.chunk_usage.specs.Counting.{Counted, is_low, thin_row}

-- what a chunk's count was at the last freeze: what was noted, where it was set since, else what it is
abbrev pub count_before : List Bool → List ℕ → List ℕ → ℕ → ℕ
count_before changed noted live chunk = if slice_index_or changed chunk false then slice_index noted chunk else slice_index live chunk

unfoldable pub counts_before : List Bool → List ℕ → List ℕ → List ℕ
counts_before changed noted live = map (count_before changed noted live) (range_with_len 0 (length live))

abbrev pub counted_of : Inside → Counted
counted_of s = record { live = s.live.items; last = counts_before s.changed s.noted.items s.live.items }

-- one of each for a chunk; the sets of counted and of thin chunks, the number of the first and that of the chunks with few cells go by the counts
pub record IsCounted (s : Inside) : Type 0 where
  pub few : length s.live.items ≤ 4096
  pub noted : length s.noted.items ≡ length s.live.items
  pub changed : length s.changed ≡ length s.live.items
  pub counted : s.counted ≡ row_of s.live.items
  pub thin : s.thin ≡ thin_row s.live.items
  pub used : s.used ≡ count_by (nat_lt 0) s.live.items
  pub low : s.low ≡ count_by is_low s.live.items
