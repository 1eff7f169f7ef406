use Rattle.std.proofs.Common.{take}
use Rattle.chunk_sets.specs.ChunkSets.{Without}
use Rattle.chunk_usage.specs.Keeping.{is_in_rows}
use Rattle.chunk_usage.proofs.usage.recycling.leave_out_kept.Given as goal

abbrev pub invariant-loop-version : goal.invariant-loop-version
invariant-loop-version l = Without l.fn.found l.found (is_in_rows (take l.version-index l.kept))
