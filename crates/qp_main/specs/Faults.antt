-- What a status says of calls that failed, by the counts of faults of a source and a sink before and after.
use Rattle.std.specs.Prelude.{◌≡◌, ℕ}
use Rattle.outer_io.specs.Faults.{Rose}
use Rattle.qp_main.specs.declared.status.Status.{Status}
use Rattle.qp_main.specs.declared.status.Status.TheVariants as status

-- of a sink
pub record TellsSink {K : Type 0} (faults : K → ℕ) (old new : K) (s : Status) : Type 0 where
  -- that it failed is told only where its count rose
  pub sink_fault : s ≡ status.SinkFault → Rose (faults old) (faults new)
  -- under any other status no call on it failed
  pub quiet_sink : (s ≡ status.SinkFault → ⊥) → faults new ≡ faults old

-- of a source
pub record TellsSource {S : Type 0} (faults : S → ℕ) (old new : S) (s : Status) : Type 0 where
  -- that it failed is told only where its count rose
  pub source_fault : s ≡ status.SourceFault → Rose (faults old) (faults new)
  -- under any other status no call on it failed
  pub quiet_source : (s ≡ status.SourceFault → ⊥) → faults new ≡ faults old
