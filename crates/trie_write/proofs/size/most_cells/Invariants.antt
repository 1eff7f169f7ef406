use Rattle.std.proofs.Common.{◌+◌, ◌≤◌, min, length}
use Rattle.trie_write.specs.Entries.{entries_of_items}
use Rattle.trie_write.proofs.MostLaws.{most}
use Rattle.trie_write.proofs.size.most_cells.Given as goal

abbrev pub invariant-loop-item : goal.invariant-loop-item
invariant-loop-item l = min (most (entries_of_items l.items)) 18446744073709551615 ≤ l.most + most (entries_of_items l.rest)

abbrev pub decreases-loop-item : goal.decreases-loop-item
decreases-loop-item l = length l.rest
