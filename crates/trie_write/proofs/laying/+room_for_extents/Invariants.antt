use Rattle.trie_write.proofs.laying.+room_for_extents.Given as goal

abbrev pub decreases-room_for_extents : goal.decreases-room_for_extents
decreases-room_for_extents g l = l.len
