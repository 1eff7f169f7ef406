-- Versions of one cell, which the tests publish: version n is the number n, in a cell of the chunk n modulo 6.
use Rattle.std.specs.Prelude.{◌≡◌, ℕ, ◌*◌, ◌/◌, ◌%◌, ◌^◌, ◌<◌, List, [], ◌∷◌, ◌++◌, length, map, replicate, Contains}
use Rattle.std.specs.Prelude.{Bool, false, Option, Some}
use Rattle.std.specs.Bool.{OnTrue}
use Rattle.pin_core.specs.declared.kept.CellAt.{CellAt}
use Rattle.shared_cells.specs.declared.view.Seen.{Seen}
use Rattle.shared_cells.specs.declared.view.TableSize.{TableSize}
use Rattle.shared_cells.specs.declared.view.TurnView.{TurnView}
use Rattle.shared_cells.specs.declared.view.View.{View}
use Rattle.shared_cells.specs.Cells.{HasCell, cells_of, given_chunks, kept_references, with_words}
use Rattle.shared_cells.specs.History.{IsPartOf, entry_of}
use Rattle.shared_cells.specs.Views.{kept_in, unopened_view, words_of}

-- where it is
abbrev pub place_of : ℕ → ℕ
place_of n = 1024 * (n % 6)

abbrev pub cell_of : ℕ → CellAt
cell_of n = record { at = place_of n; big = n; small = n }

abbrev pub IsVersion : List CellAt → Option ℕ → ℕ → Type 0
IsVersion image root n = (image ≡ cell_of n ∷ []) × (root ≡ Some (place_of n))

-- each of these references is in the chunk of one of these versions
abbrev pub AreOf : List ℕ → List ℕ → Type 0
AreOf versions references = (q : ℕ) → Contains references q → (v : ℕ) × Contains versions v × (q / 1024 ≡ v % 6)

-- The writer's lists of chunks and versions are right, of the chunks that are given and the references that are kept.
pub record KnowsChunks (given : List Bool) (versions : List ℕ) (chunks : List Bool) (references : List ℕ) : Type 0 where
  pub six : length given ≡ 6
  pub each : chunks ≡ given
  pub kept : AreOf versions references

-- so they are of the turn
abbrev pub KnowsTurn : List Bool → List ℕ → ℕ → Option TurnView → Type 0
KnowsTurn given versions count turn = KnowsChunks given versions (given_chunks (cells_of count turn)) (kept_references (cells_of count turn))

-- A version was written, if it was: of so many chunks these are given then.
pub record Writes (count next : ℕ) (done : Bool) (v w : View ℕ ℕ) (given : List Bool) : Type 0 where
  -- nothing but words has changed
  pub same : w ≡ with_words v (words_of w.turn)
  pub chunks : given_chunks (cells_of count w.turn) ≡ given
  pub written : OnTrue done (HasCell (cells_of count w.turn) (place_of next) (record { big = next; small = next }))

-- version 0 is 0, and the writer's lists are those of the turn: which of so many chunks are given, and which versions are kept
pub record IsTold (count : ℕ) (v : View ℕ ℕ) (given : List Bool) (versions : List ℕ) : Type 0 where
  pub opening : v.seen.opening ≡ Some 0
  pub chunks : given_chunks (cells_of count v.turn) ≡ given
  pub kept : map (λ k. k.version) (kept_in v.turn) ≡ versions

-- the writer can make one more transaction, which is at this version
pub record CanGoOn (count version : ℕ) (v : View ℕ ℕ) (given : List Bool) (versions : List ℕ) : Type 0 where
  pub six : length given ≡ 6
  pub told : IsTold count v given versions
  -- there is a next number
  pub room : version < 2 ^ 39

-- six chunks and three passes, before the index is open: no chunk is given
pub record IsFresh (key : TableSize) (v : View ℕ ℕ) (given : List Bool) : Type 0 where
  pub size : key.chunks ≡ 6
  pub view : v ≡ unopened_view key 3
  pub none : given ≡ replicate 6 false

-- a pass, which had seen this, has paid the amount in a transaction of the turn
pub record Pays (number amount : ℕ) (seen before after : Seen ℕ ℕ) : Type 0 where
  -- it had seen no more than the turn
  pub told : IsPartOf before seen
  -- the history has it last
  pub paid : after.history ≡ before.history ++ entry_of number amount ∷ []
