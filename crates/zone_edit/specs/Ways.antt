-- The sets on the way of a transaction: what its operations have made of a version so far.
use Rattle.std.specs.Prelude.{◌≡◌, List, ◌++◌, Ok}
use Rattle.zone_model.specs.Names.{Name}
use Rattle.zone_model.specs.Versions.{Version, Operation, all_applied}
use Rattle.trie_model.specs.Keys as trie
use Rattle.job_model.specs.Sizes.{trie_entries}

-- some first ones of these operations make a version that stands as these entries
pub record MadeOnTheWay (origin : Name) (operations : List Operation) (version : Version) (es : List trie.Entry) : Type 0 where
  pub front : List Operation
  pub back : List Operation
  pub all : operations ≡ front ++ back
  pub working : Version
  pub made : all_applied origin front version ≡ Ok working
  pub entries : es ≡ trie_entries working
