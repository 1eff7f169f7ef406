use Rattle.std.proofs.Common.{◌≡◌, ℕ, ◌<◌, false, slice_index_or}
use Rattle.chunk_usage.specs.Ledger.{Row}
use Rattle.chunk_usage.specs.Keeping.{is_row_of}
use Rattle.chunk_usage.proofs.usage.versions.place_of.Given as goal

abbrev pub invariant-loop-place : goal.invariant-loop-place
invariant-loop-place l = (k : ℕ) (d : Row) → k < l.place → is_row_of l.version (slice_index_or l.rows k d) ≡ false
