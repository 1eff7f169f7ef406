-- Tries of items, which the tests change and evacuate.
use Rattle.std.specs.Prelude.{ℕ, Bool, List, Option}
use Rattle.packed_node.specs.declared.Cell.{Cell}
use Rattle.chunk_usage.specs.Rooms.{Account}
use Rattle.zone_model.specs.Keys.{Leads}
use Rattle.trie_model.specs.Keys.{Entry}
use Rattle.trie_read.specs.Reads.{EachTells}
use Rattle.trie_space.specs.Spaces.{Ready}
use Rattle.trie_space.specs.Standing.{HasTrie}

-- the trie of some items stands at a root, and can be changed
pub record IsTrie {S A : Type 0} (has : S → ℕ → Cell → Type 0) (kept : S → List ℕ) (given : S → List Bool) (account : A → Account) (s : S) (a : A) (root : Option ℕ) : Type 0 where
  pub stands : (version : List Entry) × HasTrie has account s a root version × EachTells Leads version
  pub ready : Ready kept given account s a
