-- A tree that hangs on a cell, or stands at a root, in cells that are in use.
use Rattle.std.specs.Prelude.{◌≡◌, ℕ, ◌+◌, ◌<◌, ◌≤◌, ◌^◌}
use Rattle.packed_node.specs.declared.Cell.{Cell}
use Rattle.trie_model.specs.Memory.{Beneath, top_cell}
use Rattle.trie_model.specs.Reach.{in_chunk, weigh_tree, WithinTree}
use Rattle.trie_model.specs.Trees.{Tree}
use Rattle.chunk_usage.specs.Rooms.{Account}
use Rattle.trie_read.specs.Reads.{IsTop}
use Rattle.trie_space.specs.Weights.{at_place, mark}

-- A tree hangs on a cell, in cells in use, which count.
pub record Hangs {S A : Type 0} (has : S → ℕ → Cell → Type 0) (account : A → Account) (s : S) (a : A) (low : ℕ) (cell : Cell) (t : Tree) : Type 0 where
  pub top : IsTop (has s) low cell t
  pub within : WithinTree (account a).used t
  pub counted : (k : ℕ) → weigh_tree (in_chunk k) t ≤ (account a).live k

-- A tree stands at a root. Its cells, and what is spare beside them, are in use, each once, and are what counts.
pub record Rooted {S A : Type 0} (has : S → ℕ → Cell → Type 0) (account : A → Account) (s : S) (a : A) (spare : (ℕ → ℕ) → ℕ) (r : ℕ) (t : Tree) : Type 0 where
  pub inside : r < 2 ^ 22
  pub top : has s r (top_cell t)
  pub beneath : Beneath (has s) t
  pub counted : (k : ℕ) → (account a).live k ≡ in_chunk k r + weigh_tree (in_chunk k) t + spare (in_chunk k)
  pub once : (q : ℕ) → at_place q r + weigh_tree (at_place q) t + spare (at_place q) ≤ mark (account a).used q

-- nothing is spare
abbrev pub no_spare : (ℕ → ℕ) → ℕ
no_spare w = 0
