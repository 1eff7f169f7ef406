-- What a transaction's call asks of its working set.
use Rattle.std.specs.Prelude.{◌≡◌, ℕ, ◌+◌, List}
use Rattle.zone_model.specs.Keys.{Leads}
use Rattle.trie_model.specs.Extents.{cells_in}
use Rattle.trie_model.specs.Keys.{Entry, InList}
use Rattle.trie_write.specs.Paths.{insert_asks, replace_asks, delete_asks}
use Rattle.qp_multi.specs.declared.change.TrieChange.{TrieChange}
use Rattle.qp_multi.specs.declared.change.TrieChange.TheVariants as change
use Rattle.qp_multi.specs.declared.meaning.Operation.{Operation}
use Rattle.qp_multi.specs.declared.meaning.Operation.TheVariants.{Insert, Replace, Delete}

abbrev pub operation_of : TrieChange → Operation
operation_of (change.Insert key item) = Insert (record { key = key.now; item = item.now })
operation_of (change.Replace key item) = Replace (record { key = key.now; item = item.now })
operation_of (change.Delete key) = Delete key.now

abbrev pub key_of : TrieChange → List ℕ
key_of (change.Insert key item) = key.now
key_of (change.Replace key item) = key.now
key_of (change.Delete key) = key.now

-- its item, if it has one, begins with the name of its key
abbrev pub LeadsItem : TrieChange → Type 0
LeadsItem (change.Insert key item) = Leads key.now item.now
LeadsItem (change.Replace key item) = Leads key.now item.now
LeadsItem (change.Delete key) = Unit {0}

-- an insertion is refused where the key is there, and the others where it isn't
abbrev pub IsRefused : TrieChange → List Entry → Type 0
IsRefused (change.Insert key item) es = (x : Entry) × InList x es × (x.key ≡ key.now)
IsRefused (change.Replace key item) es = (x : Entry) → InList x es → x.key ≡ key.now → ⊥
IsRefused (change.Delete key) es = (x : Entry) → InList x es → x.key ≡ key.now → ⊥

-- how many cells it writes at most, beside the twigs on its key's path
abbrev pub written_by : TrieChange → ℕ
written_by (change.Insert key item) = 3 + cells_in item.now
written_by (change.Replace key item) = 3 + cells_in item.now
written_by (change.Delete key) = 1

-- how many cells side by side it may ask for, where the branches on its key's path have so many twigs
abbrev pub asked_by : TrieChange → List ℕ → List ℕ
asked_by (change.Insert key item) = insert_asks item.now
asked_by (change.Replace key item) = replace_asks item.now
asked_by (change.Delete key) = delete_asks
