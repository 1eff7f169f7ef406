use Rattle.std.specs.Prelude.{◌≡◌, map, take}
use Rattle.trie_write.specs.Entries.{entries_of_items}
use Rattle.zone_table.specs.Tables.{entry_for}
use Rattle.zone_table.proofs.table.items_for.Given as goal

-- those of the origins so far
abbrev pub invariant-loop-origin : goal.invariant-loop-origin
invariant-loop-origin l = entries_of_items l.items.items ≡ map entry_for (take l.origin-index l.origins)
