-- A root whose cells are all in use and counted.
use Rattle.std.specs.Prelude.{◌≡◌, ℕ, Bool, true, List, [], Option, Some, None}
use Rattle.packed_node.specs.declared.Cell.{Cell}
use Rattle.trie_model.specs.Keys.{Entry}
use Rattle.trie_model.specs.Trees.{Tree}
use Rattle.trie_model.specs.Memory.{IsTrieAt}
use Rattle.trie_model.specs.Reach.{WithinTree, live_in}
use Rattle.chunk_usage.specs.Rooms.{Account}

-- The trie stands for the version, all that it reaches is in use, and these cells are what counts in each chunk.
pub record StandsIn (has : ℕ → Cell → Type 0) (used : ℕ → Bool) (live : ℕ → ℕ) (r : ℕ) (t : Tree) (version : List Entry) : Type 0 where
  pub trie : IsTrieAt has r t version
  pub top_in_use : used r ≡ true
  pub in_use : WithinTree used t
  pub counted : (chunk : ℕ) → live chunk ≡ live_in chunk r t

-- no root is that of the empty trie
abbrev pub Standing : (ℕ → Cell → Type 0) → (ℕ → Bool) → (ℕ → ℕ) → Option ℕ → List Entry → Type 0
Standing has used live None version = (version ≡ []) × ((chunk : ℕ) → live chunk ≡ 0)
Standing has used live (Some r) version = (t : Tree) × StandsIn has used live r t version

-- the same of a root in some cells and a space
abbrev pub HasTrie : {S A : Type 0} → (S → ℕ → Cell → Type 0) → (A → Account) → S → A → Option ℕ → List Entry → Type 0
HasTrie has account s a root version = Standing (has s) (account a).used (account a).live root version
