-- How many blocks the lists of paths have.
use Rattle.std.specs.Prelude.{ℕ, ◌+◌, ◌/◌, min, List, sum_by}

-- a block has room for 64 paths, and a list has 512 at most
abbrev pub blocks_for : ℕ → ℕ
blocks_for count = (min 512 count + 63) / 64

-- the blocks of all lists, by how many paths each has
abbrev pub blocks_in : List ℕ → ℕ
blocks_in counts = sum_by blocks_for counts
