use Rattle.trie_write.proofs.laying.+release_extents.Given as goal

abbrev pub decreases-release_extents : goal.decreases-release_extents
decreases-release_extents g l = l.len
