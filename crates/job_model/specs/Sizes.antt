-- How large the trie of a version is.
use Rattle.std.specs.Prelude.{ℕ, ◌+◌, List, map}
use Rattle.zone_model.specs.Names.{Name}
use Rattle.zone_model.specs.Records.{item}
use Rattle.zone_model.specs.Versions.{Version, owned}
use Rattle.trie_model.specs.Extents.{cells_in}
use Rattle.trie_model.specs.Keys as trie
use Rattle.trie_model.specs.Shape.{nodes, keys_of, cells}
use Rattle.zone_answer.specs.Standing.{trie_entry}

abbrev pub trie_entries : Version → List trie.Entry
trie_entries version = map trie_entry version

abbrev pub cell_count : Version → ℕ
cell_count version = cells (trie_entries version)

abbrev pub node_count : Version → ℕ
node_count version = nodes (keys_of (trie_entries version))

-- how many cells the item of what a name owns has
abbrev pub item_cells : Name → Version → ℕ
item_cells name version = cells_in (item name (owned name version))

-- How many cells an operation asks for at most that changes a name's entry and so makes one version of another: those of the new item,
-- three for its leaf and a branch, and those on the path to it.
abbrev pub cells_asked : Name → Version → Version → ℕ
cells_asked owner working next = 3 + item_cells owner next + cell_count working
