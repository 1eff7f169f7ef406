use Rattle.chunk_cells.proofs.extents.+follow_links.Given as goal

abbrev pub decreases-follow_links : goal.decreases-follow_links
decreases-follow_links g l = l.len
