use Rattle.std.proofs.Common.{◌≡◌, All, length}
use Rattle.chunk_usage.specs.Ledger.{Row}
use Rattle.chunk_usage.proofs.usage.slots_for.Given as goal

abbrev pub invariant-loop-made : goal.invariant-loop-made
invariant-loop-made l = record { count : length l.slots.items ≡ l.made; wide : All (λ (r : Row). length r.chunks ≡ l.chunks) l.slots.items }
