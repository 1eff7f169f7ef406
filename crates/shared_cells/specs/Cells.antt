-- The cells of the table as the turn knows them, in the terms of the traits by which the trie's crates know cells.
use Rattle.std.specs.Prelude.{◌≡◌, ◌≢◌, ℕ, ◌+◌, ◌*◌, ◌^◌, ◌/◌, ◌<◌, ◌≤◌, ◌==◌, List, [], length, map, replicate, slice_index, true, false, Bool, Option, Some, None}
use Rattle.std.specs.List.{flat_map, range_with_len}
use Rattle.atomic_table.specs.Seated.{TableId}
use Rattle.atomic_table.specs.Table.{Me}
use Rattle.packed_node.specs.declared.Cell.{Cell}
use Rattle.pin_core.specs.declared.kept.CellAt.{CellAt}
use Rattle.pin_core.specs.declared.kept.Kept.{Kept}
use Rattle.pin_core.specs.declared.kept.Mark.TheVariants as mark
use Rattle.pin_core.specs.declared.event.Half.{Half}
use Rattle.pin_core.specs.Machine.{is_kept_cell}
use Rattle.pin_core.specs.Words.{status_at, cell_at, half_at, words_for}
use Rattle.chunk_cells.specs.Chunks.{IsGiven}
use Rattle.shared_cells.specs.declared.view.PassView.{PassView}
use Rattle.shared_cells.specs.declared.view.TurnView.{TurnView}
use Rattle.shared_cells.specs.declared.view.View.{View}
use Rattle.shared_cells.specs.Views.{number_of, has_turn, is_told, words_of, kept_in, marks_of}

-- how many chunks there are, the words, and the kept versions
pub record Cells : Type 0 where
  pub chunks : ℕ
  pub words : List ℕ
  pub kept : List Kept

-- of each chunk, whether its status says that it is given
abbrev pub given_chunks : Cells → List Bool
given_chunks cells = map (λ chunk. slice_index cells.words (status_at chunk) == 1) (range_with_len 0 cells.chunks)

-- the references of the kept images
abbrev pub kept_references : Cells → List ℕ
kept_references cells = flat_map (λ k. map (λ c. c.at) k.image) cells.kept

-- a cell of a given chunk has these words
pub record HasCell (cells : Cells) (at : ℕ) (c : Cell) : Type 0 where
  pub given : IsGiven (given_chunks cells) (at / 1024)
  pub big : slice_index cells.words (cell_at at) ≡ c.big
  pub small : slice_index cells.words (cell_at at + 1) ≡ c.small

-- a cell of an image is such
abbrev pub HasAt : Cells → CellAt → Type 0
HasAt cells c = HasCell cells c.at (record { big = c.big; small = c.small })

-- as the turn knows them
abbrev pub cells_of : ℕ → Option TurnView → Cells
cells_of chunks turn = record { chunks = chunks; words = words_of turn; kept = kept_in turn }

abbrev pub words_in : Option TurnView → List ℕ → Option TurnView
words_in None words = None
words_in (Some turn) words = Some (record turn { words = words })

module _ {O E : Type 0} where
  -- nothing but the turn's words has changed
  abbrev pub with_words : View O E → List ℕ → View O E
  with_words v words = record v { turn = words_in v.turn words }

-- the number, of the pass if one is joined
abbrev pub NumberFits : {E : Type 0} → Option (PassView E) → TableId → ℕ → Type 0
NumberFits None table number = Unit {0}
NumberFits (Some own) table number = (own.number ≡ number) × (number < 64) × (words_for own.chunks ≡ table.words)

module _ {O E : Type 0} where
  -- A place of the turn that was lent when the view was this, and has written words since.
  pub record IsLent (table : TableId) (view : View O E) (at_table : TableId) (me : Me (Unit {0}) (View O E)) (current joined passes : ℕ) : Type 0 where
    pub here : at_table ≡ table
    pub turn : has_turn view.turn ≡ true
    pub frame : me.0 ≡ with_words view (words_of me.0.turn)
    pub no_slots : me.1 ≡ []
    pub copied : length (words_of me.0.turn) ≡ table.words
    pub version : current ≡ length view.seen.history
    pub number : NumberFits view.pass table joined
    pub round : (1 ≤ passes) × (passes ≤ 64)
    pub blank : marks_of view.turn ≡ replicate passes mark.Blank

  -- the view of a turn's seat that isn't open; and of one that has a pass joined

  pub record IsNewTurn (v : View O E) : Type 0 where
    pub alone : number_of v.pass ≡ 0
    pub untold : is_told v.seen.opening ≡ false
    pub nothing_seen : length v.seen.history ≡ 0

  pub record IsJoined (v : View O E) : Type 0 where
    pub number : ℕ
    pub is_pass : number_of v.pass ≡ number + 1
    pub told : is_told v.seen.opening ≡ true

-- a word of a cell that no kept version has
abbrev pub IsBlankWord : ℕ → List Kept → ℕ → Type 0
IsBlankWord chunks kept word = (at : ℕ) × (half : Half) × (word ≡ half_at at half) × (at / 1024 < chunks) × (is_kept_cell kept at ≡ false)

-- n words were copied to the places from `to` on, and no others have changed
pub record IsCopy (before after : List ℕ) (from to n : ℕ) : Type 0 where
  pub long : length after ≡ length before
  pub copied : (k : ℕ) → k < n → slice_index after (to + k) ≡ slice_index before (from + k)
  pub others : (j : ℕ) → ((k : ℕ) → k < n → j ≢ to + k) → slice_index after j ≡ slice_index before j

module _ {O E : Type 0} where
  -- the turn may copy n words past the pins to others, which are of cells that no kept version has
  pub record MayCopy (chunks words : ℕ) (me : Me (Unit {0}) (View O E)) (from to n : ℕ) : Type 0 where
    pub turn : has_turn me.0.turn ≡ true
    pub long : length (words_of me.0.turn) ≡ words
    pub past : 64 < from
    pub inside : (k : ℕ) → k < n → from + k < words
    pub apart : (i j : ℕ) → i < n → j < n → from + i ≢ to + j
    pub blank : (k : ℕ) → k < n → IsBlankWord chunks (kept_in me.0.turn) (to + k)

  -- the turn may copy so many cells
  pub record MayCopyCells (chunks words : ℕ) (me : Me (Unit {0}) (View O E)) (from to cells : ℕ) : Type 0 where
    -- no place is so high that it can't be counted
    pub small : (from + 2 * cells ≤ 2 ^ 24) × (to + 2 * cells ≤ 2 ^ 24)
    -- the two words of each
    pub all : MayCopy chunks words me from to (2 * cells)

  -- it has copied them, and done nothing else
  pub record HasCopied (before after : Me (Unit {0}) (View O E)) (from to n : ℕ) : Type 0 where
    pub frame : after ≡ (with_words before.0 (words_of after.0.turn), before.1)
    pub copy : IsCopy (words_of before.0.turn) (words_of after.0.turn) from to n
