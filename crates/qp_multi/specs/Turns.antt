-- What the turn knows between two transactions: the chunks that are allocated, and those that the kept versions have cells in.
use Rattle.std.specs.Prelude.{◌≡◌, ℕ, ◌+◌, ◌/◌, ◌≤◌, ◌==◌, Bool, true, not, ◌&&◌, List, [], ◌∷◌, length, map, count_by, Option, None}
use Rattle.std.specs.List.{list_any, list_all, range_with_len}
use Rattle.pin_core.specs.declared.kept.CellAt.{CellAt}
use Rattle.pin_core.specs.declared.kept.Kept.{Kept}
use Rattle.chunk_usage.specs.Ledger.{Ledger, Row, is_used, is_mutable}
use Rattle.shared_cells.specs.declared.view.TurnView.{TurnView}
use Rattle.shared_cells.specs.Cells.{Cells, cells_of, given_chunks, kept_references}

-- of each chunk, whether the image has a cell in it; and how many it has there

abbrev pub chunk_set : ℕ → List CellAt → List Bool
chunk_set chunks image = map (λ chunk. list_any (λ (c : CellAt). c.at / 1024 == chunk) image) (range_with_len 0 chunks)

abbrev pub cell_counts : ℕ → List CellAt → List ℕ
cell_counts chunks image = map (λ chunk. count_by (λ (c : CellAt). c.at / 1024 == chunk) image) (range_with_len 0 chunks)

abbrev pub row_for : ℕ → Kept → Row
row_for chunks k = record { version = k.version; chunks = chunk_set chunks k.image }

-- the last of the kept versions, which is the current one: its cells and its root

abbrev pub current_image : List Kept → List CellAt
current_image [] = []
current_image (k ∷ []) = k.image
current_image (k ∷ j ∷ kept) = current_image (j ∷ kept)

abbrev pub current_root : List Kept → Option ℕ
current_root [] = None
current_root (k ∷ []) = k.root
current_root (k ∷ j ∷ kept) = current_root (j ∷ kept)

-- the cell is handed out, and was so at the last freeze
abbrev pub is_immutable : Ledger → ℕ → Bool
is_immutable u q = is_used u q && not (is_mutable u q)

-- The usage is that of the turn's cells, of an index of so many passes, with at most so many rows.
pub record AgreesWithin (most : ℕ) (cells : Cells) (u : Ledger) (count : ℕ) : Type 0 where
  -- chunks are allocated where their status says so
  pub given : given_chunks cells ≡ u.given
  -- the kept versions, each with the chunks that it has cells in
  pub rows : u.rows ≡ map (row_for cells.chunks) cells.kept
  pub few_rows : length u.rows ≤ most
  -- at the last freeze the cells of the current version counted, and no others
  pub last_live : u.last_live ≡ cell_counts cells.chunks (current_image cells.kept)
  -- what a kept version has isn't written
  pub immutable : list_all (is_immutable u) (kept_references cells) ≡ true
  pub passes : u.passes ≡ count

-- after a round at most one version for each pass is kept, and the current one
abbrev pub Agrees : Cells → Ledger → ℕ → Type 0
Agrees cells u count = AgreesWithin (count + 1) cells u count

-- No transaction is under way: nothing was handed out or released since the last freeze.
pub record AtRest (u : Ledger) : Type 0 where
  pub live : u.live ≡ u.last_live
  pub bump : u.bump ≡ u.fender

-- the turn's cells, of as many chunks as the usage has
abbrev pub cells_with : Ledger → Option TurnView → Cells
cells_with u turn = cells_of (length u.given) turn
