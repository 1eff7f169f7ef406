-- What items hold: the entries of a trie.
use Rattle.std.specs.Prelude.{List, map}
use Rattle.trie_model.specs.Keys.{Entry}
use Rattle.trie_write.specs.declared.item.Item.{Item}
use Rattle.trie_write.specs.Named.{key_in}

-- the key is that of the name that the octets begin with
abbrev pub entry_of : Item → Entry
entry_of item = record { key = key_in item.octets.items; item = item.octets.items }

abbrev pub entries_of_items : List Item → List Entry
entries_of_items items = map entry_of items
