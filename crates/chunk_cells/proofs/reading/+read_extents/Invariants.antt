use Rattle.chunk_cells.proofs.reading.+read_extents.Given as goal

abbrev pub decreases-read_extents : goal.decreases-read_extents
decreases-read_extents g l = l.len
