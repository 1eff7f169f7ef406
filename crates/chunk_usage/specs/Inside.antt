-- A usage's state as a ledger.
use Rattle.std.specs.Prelude.{◌≡◌, ◌+◌, ◌≤◌, take, length, All}
use Rattle.chunk_usage.specs.declared.usage.State.{State}
use Rattle.chunk_usage.specs.Ledger.{Ledger, Row, IsLedger, free_count}

abbrev pub ledger_of : State → Ledger
ledger_of s = record {
  live = s.counts.live;
  given = s.given;
  since = s.since;
  bump = s.bump;
  last_live = s.counts.last;
  fender = s.fender;
  rows = take s.kept s.slots.items;
  passes = s.passes;
}

-- besides: the number of free chunks is known, and there is room for the kept versions and for the chunks that are to be freed
pub record IsWhole (s : State) : Type 0 where
  pub ledger : IsLedger (ledger_of s)
  pub free : s.free ≡ free_count (ledger_of s)
  pub slots : length s.slots.items ≡ s.passes + 2
  pub within : s.kept ≤ s.passes + 2
  pub wide : All (λ (r : Row). length r.chunks ≡ length s.given) s.slots.items
  pub unreached : length s.unreached ≡ length s.given
