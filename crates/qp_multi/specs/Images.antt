-- The cells that a root reaches, found by the words of the table.
use Rattle.std.specs.Prelude.{ℕ, zero, suc, ◌+◌, ◌-◌, ◌/◌, ◌%◌, ◌^◌, ◌==◌, if◌then◌else◌, List, [], ◌∷◌, ◌++◌, Option, Some, None, count_ones, slice_index}
use Rattle.pin_core.specs.declared.kept.CellAt.{CellAt}
use Rattle.pin_core.specs.Words.{cell_at}
use Rattle.pin_core.specs.Machine.{image_of}
use Rattle.trie_model.specs.Extents.{content_cells, links, linked_cells, side_by_side}

-- n nodes side by side from r on, each with what hangs on it
abbrev pub nodes_from : (ℕ → List ℕ) → ℕ → ℕ → List ℕ
nodes_from below r zero = []
nodes_from below r (suc n) = r ∷ (below r ++ nodes_from below (suc r) n)

-- the cells of n octets from r on, along so many link cells: the words of each say where the next extent begins
abbrev pub octets_from : List ℕ → ℕ → ℕ → ℕ → List ℕ
octets_from words zero n r = side_by_side r (content_cells n)
octets_from words (suc more) n r = side_by_side r linked_cells ++ octets_from words more (n - 4080) (slice_index words (cell_at (r + 255) + 1))

-- what hangs on a node of these two words: the cells of a leaf's item, or a branch's twigs with what hangs on them
abbrev pub hangs_on : List ℕ → (ℕ → List ℕ) → ℕ → ℕ → List ℕ
hangs_on words below big small = if big % 4 == 0 then octets_from words (links (big / 4)) (big / 4) small else nodes_from below small (count_ones (big / 4 % 2 ^ 47))

-- what hangs on the node at r, as far down as so many nodes
unfoldable pub found_below : ℕ → List ℕ → ℕ → List ℕ
found_below zero words r = []
found_below (suc depth) words r = hangs_on words (found_below depth words) (slice_index words (cell_at r)) (slice_index words (cell_at r + 1))

-- no way down has more than 505 nodes
abbrev pub found : List ℕ → Option ℕ → List ℕ
found words None = []
found words (Some r) = r ∷ found_below 505 words r

abbrev pub image_at : List ℕ → Option ℕ → List CellAt
image_at words root = image_of words (found words root)
