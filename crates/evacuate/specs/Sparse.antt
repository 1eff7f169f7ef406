-- What lies in sparse chunks.
use Rattle.std.specs.Prelude.{◌≡◌, ◌⊎◌, ℕ, ◌/◌, Bool, true, false, List}
use Rattle.packed_node.specs.declared.Cell.{Cell}
use Rattle.trie_model.specs.Extents.{Extents, LiesAt}
use Rattle.trie_model.specs.Extents.Extents.{last, linked}
use Rattle.trie_model.specs.Reach.{in_chunk, weigh_tree}
use Rattle.trie_model.specs.Trees.{Tree}
use Rattle.trie_model.specs.Trees.Tree.{leaf, branch}
use Rattle.chunk_usage.specs.Counting.{is_sparse}
use Rattle.chunk_usage.specs.Ledger.{Ledger}

-- some extent of an item lies in a sparse chunk
abbrev pub SparseExtents : Ledger → Extents → Type 0
SparseExtents l (last r) = is_sparse l (r / 1024) ≡ true
SparseExtents l (linked r x) = (is_sparse l (r / 1024) ≡ true) ⊎ SparseExtents l x

-- the answer is whether some does, however an item of so many octets lies here
pub record TellsSparse (has : ℕ → Cell → Type 0) (l : Ledger) (at n : ℕ) (answer : Bool) : Type 0 where
  pub some : answer ≡ true → (item : List ℕ) (x : Extents) → LiesAt has at n item x → SparseExtents l x
  pub none : answer ≡ false → (item : List ℕ) (x : Extents) → LiesAt has at n item x → SparseExtents l x → ⊥

-- what hangs on a tree's top node does: its twigs, or some extent of its item
abbrev pub LiesSparse : Ledger → Tree → Type 0
LiesSparse l (leaf e x) = SparseExtents l x
LiesSparse l (branch o r below) = is_sparse l (r / 1024) ≡ true

-- no cell that a tree reaches lies in a sparse chunk
abbrev pub AvoidsSparse : Ledger → Tree → Type 0
AvoidsSparse l t = (k : ℕ) → is_sparse l k ≡ true → weigh_tree (in_chunk k) t ≡ 0
