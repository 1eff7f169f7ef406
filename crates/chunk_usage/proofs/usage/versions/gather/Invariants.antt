use Rattle.chunk_usage.specs.Ledger.{Row}
use Rattle.chunk_usage.specs.Keeping.{is_among}
use Rattle.chunk_usage.proofs.KeptLemmas.{Gathered}
use Rattle.chunk_usage.proofs.usage.versions.gather.Given as goal

abbrev pub invariant-loop-place : goal.invariant-loop-place
invariant-loop-place l = Gathered (λ (r : Row). is_among l.versions r.version) l.fn.slots l.slots l.place l.kept
