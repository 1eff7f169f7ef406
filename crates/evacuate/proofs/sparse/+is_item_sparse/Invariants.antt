use Rattle.evacuate.proofs.sparse.+is_item_sparse.Given as goal

abbrev pub decreases-is_item_sparse : goal.decreases-is_item_sparse
decreases-is_item_sparse g l = l.len
