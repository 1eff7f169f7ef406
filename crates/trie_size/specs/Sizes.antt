-- What is counted of the trie of some entries.
use Rattle.std.specs.Prelude.{◌≡◌, ℕ, ◌<◌, ◌^◌, ◌⊎◌, List, [], ◌∷◌, ◌++◌, length, take}
use Rattle.zone_model.specs.Names.{Name, IsName, BeginsWith}
use Rattle.zone_model.specs.Keys.{key_of, Leads}
use Rattle.trie_model.specs.Keys.{Entry, Rises}
use Rattle.trie_model.specs.Shape.{nodes, keys_of, cells}
use Rattle.trie_model.specs.Trees.{Tree, entries_of, IsTree}
use Rattle.trie_size.specs.Ways.{way, last_key}
use Rattle.trie_size.specs.declared.size.TrieSize.{TrieSize}

-- octets begin with the name of the last entry's key, and the offsets lie above that entry's leaf in a tree of all
pub record EndsAt (octets offsets : List ℕ) (es : List Entry) : Type 0 where
  pub tree : Tree
  pub is : IsTree 0 tree
  pub holds : entries_of tree ≡ es
  pub way_is : way tree ≡ offsets
  pub name : Name
  pub is_name : IsName name
  pub begins : BeginsWith octets name
  pub key : last_key [] es ≡ key_of name

abbrev pub IsNone : List ℕ → List Entry → Type 0
IsNone offsets es = (es ≡ []) × (offsets ≡ [])

pub record IsSizeOf (s : TrieSize) (es : List Entry) : Type 0 where
  pub names : s.names ≡ length es
  pub nodes : s.nodes ≡ nodes (keys_of es)
  pub cells : s.cells ≡ cells es
  pub ends : IsNone (take s.depth s.offsets) es ⊎ EndsAt (take s.last_len s.last) (take s.depth s.offsets) es

-- more than memory holds
abbrev pub many : ℕ
many = 2 ^ 40

-- these entries were counted, and the octets are the item of one behind them
pub record Follows (s : TrieSize) (octets : List ℕ) (es : List Entry) (e : Entry) : Type 0 where
  pub counted : IsSizeOf s es
  pub few : length es < many
  pub item : e.item ≡ octets
  pub leads : Leads e.key octets
  pub rising : Rises (es ++ e ∷ [])
