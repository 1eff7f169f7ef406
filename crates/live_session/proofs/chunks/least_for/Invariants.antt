use Rattle.std.proofs.Common.{◌≡◌, ◌<◌, ◌≤◌, ℕ}
use Rattle.live_session.specs.Chunks.{HasRoom}
use Rattle.live_session.proofs.chunks.least_for.Given as goal

abbrev pub invariant-loop-chunks : goal.invariant-loop-chunks
invariant-loop-chunks l = (fewer : ℕ) → 64 ≤ fewer → fewer < l.chunks → HasRoom l.cells fewer → ⊥
