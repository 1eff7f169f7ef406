-- What a change below a root is asked.
use Rattle.std.specs.Prelude.{◌≡◌, ℕ, List}
use Rattle.packed_node.specs.declared.Cell.{Cell}
use Rattle.trie_model.specs.Extents.{Extents}
use Rattle.trie_model.specs.Keys.{Entry}
use Rattle.trie_model.specs.Trees.{Tree}
use Rattle.trie_model.specs.Trees.Tree.{leaf}
use Rattle.chunk_usage.specs.Rooms.{Account}
use Rattle.trie_space.specs.Standing.{StandsIn}
use Rattle.trie_space.specs.Ways.{Fork, plug, IsWay}

-- a trie stands, in which the way along the key ends at the key's leaf
pub record HasKey {S A : Type 0} (has : S → ℕ → Cell → Type 0) (account : A → Account) (s : S) (a : A) (r : ℕ) (key : List ℕ) (t : Tree) (version : List Entry) : Type 0 where
  pub stands : StandsIn (has s) (account a).used (account a).live r t version
  pub way : List Fork
  pub entry : Entry
  pub first : Extents
  pub is : t ≡ plug way (leaf entry first)
  pub is_way : IsWay 65535 key way (leaf entry first)
  pub same_key : entry.key ≡ key

pub record KeyIsThere {S A : Type 0} (has : S → ℕ → Cell → Type 0) (account : A → Account) (s : S) (a : A) (r : ℕ) (key : List ℕ) : Type 0 where
  pub t : Tree
  pub version : List Entry
  pub asks : HasKey has account s a r key t version
