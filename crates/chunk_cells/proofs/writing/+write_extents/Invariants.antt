use Rattle.std.proofs.Common.{length}
use Rattle.chunk_cells.proofs.writing.+write_extents.Given as goal

abbrev pub decreases-write_extents : goal.decreases-write_extents
decreases-write_extents g l = length l.item.now
