-- The extents of an item, as an array of their first cells gives them, and which cells may be written and read.
use Rattle.std.specs.Prelude.{◌≢◌, ℕ, zero, suc, ◌+◌, ◌*◌, ◌/◌, ◌^◌, ◌<◌, ◌≤◌, length, Bool, Contains, List, [], ◌∷◌}
use Rattle.trie_model.specs.Extents.{Extents, content_cells, links, AreExtents, AreApart, EachCell}
use Rattle.packed_node.specs.declared.Cell.{Cell}
use Rattle.chunk_cells.specs.Chunks.{IsGiven}
use Rattle.trie_model.specs.Extents.Extents.{last, linked}
use Rattle.chunk_cells.specs.declared.extents.Extents.{Extents as Laid}

-- they begin at these cells, one after each link
abbrev pub extents_at : ℕ → List ℕ → Extents
extents_at count [] = last 0
extents_at zero (r ∷ rs) = last r
extents_at (suc count) (r ∷ rs) = linked r (extents_at count rs)

abbrev pub extents_in : Laid → Extents
extents_in laid = extents_at (links laid.len) laid.at

-- n octets may be written there: in given chunks, no cell twice, and none that is kept
pub record AreBlank (kept : List ℕ) (given : List Bool) (n : ℕ) (x : Extents) : Type 0 where
  pub are : AreExtents n x
  pub apart : AreApart n x
  pub in_given : EachCell (λ q. IsGiven given (q / 1024)) n x
  pub unkept : EachCell (λ q. Contains kept q → ⊥) n x

-- n octets may be written into extents that begin at these cells
pub record CanLayAt (kept : List ℕ) (given : List Bool) (at : List ℕ) (n : ℕ) : Type 0 where
  pub enough : links n < length at
  pub blank : AreBlank kept given n (extents_at (links n) at)

-- so many cells side by side may be written
pub record CanLayCells (all_kept : List ℕ) (all_given : List Bool) (at count : ℕ) : Type 0 where
  -- they are no more than an extent's
  pub few : count ≤ 256
  pub inside : at + count ≤ 2 ^ 22
  pub given : (k : ℕ) → k < count → IsGiven all_given ((at + k) / 1024)
  pub unkept : (k : ℕ) → k < count → Contains all_kept (at + k) → ⊥

-- n cells of so many may be copied to others
pub record CanCopyAmong (all from to n : ℕ) : Type 0 where
  pub inside : from + n ≤ 2 ^ 22
  pub within : to + n ≤ 2 ^ 22
  pub there : (i : ℕ) → i < n → from + i < all
  pub room : (i : ℕ) → i < n → to + i < all
  -- none of them is one of the others
  pub apart : (i j : ℕ) → i < n → j < n → from + i ≢ to + j

-- an extent with none behind it can be read into so many octets
pub record CanReadLast (has : ℕ → Cell → Type 0) (at len most : ℕ) : Type 0 where
  pub room : len ≤ most
  pub short : len ≤ 4096
  pub inside : at + content_cells len ≤ 2 ^ 22
  -- each of its cells says something
  pub there : (k : ℕ) → k < content_cells len → (c : Cell) × has (at + k) c

-- so many cells can
pub record CanReadCells (has : ℕ → Cell → Type 0) (at count most : ℕ) : Type 0 where
  pub room : 16 * count ≤ most
  pub inside : at + count ≤ 2 ^ 22
  -- each says something
  pub there : (k : ℕ) → k < count → (c : Cell) × has (at + k) c
