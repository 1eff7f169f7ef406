-- A table that no index was opened on, and whether an index can begin with some entries.
use Rattle.std.specs.Prelude.{◌≡◌, ◌⊎◌, ℕ, ◌-◌, ◌*◌, ◌/◌, ◌^◌, ◌<◌, ◌≤◌, List, [], length, map, All, Option, Vec, IsSome, slice_index}
use Rattle.std.specs.Global.{Global}
use Rattle.std.specs.List.{range_with_len}
use Rattle.atomic_table.specs.Seated.{TableId}
use Rattle.trie_model.specs.Keys.{Entry, Rises}
use Rattle.trie_model.specs.Shape.{cells}
use Rattle.trie_model.specs.Capacity.{filled_cells}
use Rattle.chunk_usage.specs.Ledger.{Ledger, frozen_part}
use Rattle.chunk_usage.specs.Handing.{consumed}
use Rattle.shared_cells.specs.declared.pass.NewPassSeat.{NewPassSeat}
use Rattle.shared_cells.specs.declared.turn.NewTurnSeat.{NewTurnSeat}
use Rattle.shared_cells.specs.declared.turn.TurnSeat.{TurnSeat}
use Rattle.shared_cells.specs.declared.view.TableSize.{TableSize}
use Rattle.shared_cells.specs.declared.view.TurnView.{TurnView}
use Rattle.shared_cells.specs.Cells.{cells_of, given_chunks, kept_references, with_words}
use Rattle.shared_cells.specs.Views.{number_of, words_of}
use Rattle.qp_multi.specs.declared.index.Index.{Index}
use Rattle.qp_multi.specs.declared.meaning.Named.{Ghosts}
use Rattle.qp_multi.specs.declared.meaning.Operation.{Operation}
use Rattle.qp_multi.specs.declared.opening.OpenRefusal.{OpenRefusal}
use Rattle.qp_multi.specs.declared.opening.OpenRefusal.TheVariants.{Full, Memory}
use Rattle.qp_multi.specs.declared.pass.Pass.{Pass}
use Rattle.qp_multi.specs.Closings.{AreAll}
use Rattle.qp_multi.specs.Passes.{Known, commits_in, first_version, known_at, pinned_in}
use Rattle.qp_multi.specs.Turns.{cells_with}

-- how many chunks and passes a table may have
pub record IsTableSize (chunks passes : ℕ) : Type 0 where
  pub enough : 16 ≤ chunks
  pub few : chunks ≤ 4096
  pub some_passes : 1 ≤ passes
  pub few_passes : passes ≤ 64

-- No chunk is given, nothing counts, and no cell is kept.
pub record IsUnused (t : Option TurnView) (u : Ledger) (passes : ℕ) : Type 0 where
  pub given : given_chunks (cells_of (length u.given) t) ≡ u.given
  pub none_kept : kept_references (cells_of (length u.given) t) ≡ []
  pub uncounted : (k : ℕ) → slice_index u.live k ≡ 0
  pub none_consumed : consumed u ≡ 0
  pub no_rows : u.rows ≡ []
  pub passes_are : u.passes ≡ passes

-- How many cells are sure to find room. A quarter of the chunks is kept free, and one more may be left unfilled. Of each
-- other chunk at least `filled_cells` are filled before the next one is begun, for no cells that lie together are more than 256.
abbrev pub room_in : ℕ → ℕ
room_in chunks = filled_cells * (chunks - chunks / 4 - 1)

-- The trie may not fit, and both numbers are told; or it fits, and memory is wanting, or there are more entries than memory holds.
abbrev pub Refuses : ℕ → List Entry → OpenRefusal → Type 0
Refuses chunks es (Full needed limit) = (needed ≡ cells es) × (limit ≡ room_in chunks) × (limit < needed)
Refuses chunks es Memory = (cells es ≤ room_in chunks) ⊎ (2 ^ 40 ≤ length es)

-- a pass that has seen version 0 alone
pub record SeesFirst (es : List Entry) (v : Known) : Type 0 where
  pub opening : first_version v.seen ≡ es
  pub history : v.seen.history ≡ []

-- ---- the steps of an opening

-- a trie of these entries may be written into the cells of a new table
pub record CanFill (at : TableId) (chunks : ℕ) (turn : NewTurnSeat (List Entry) (List Operation)) (u : Ledger) (es : List Entry) : Type 0 where
  pub table : turn.place.table_id ≡ at
  -- the usage is of as many chunks
  pub size : chunks ≡ length u.given
  pub unused : IsUnused turn.place.me.0.turn u turn.passes
  -- they come in the order of their keys
  pub rising : Rises es

-- cells were written
pub record IsFilled (turn left : NewTurnSeat (List Entry) (List Operation)) (u n : Ledger) (es : List Entry) : Type 0 where
  pub table : left.place.table_id ≡ turn.place.table_id
  -- what the turn knows is the same but for the words
  pub same : left.place.me.0 ≡ with_words turn.place.me.0 (words_of left.place.me.0.turn)
  -- the usage is of as many chunks, with the same said of the last freeze
  pub size : length n.given ≡ length u.given
  pub frozen : frozen_part n ≡ frozen_part u
  -- chunks are allocated where their status says so
  pub given : given_chunks (cells_with n left.place.me.0.turn) ≡ n.given
  -- no more than the trie has
  pub consumes : consumed n ≤ cells es

-- the turn of a table was opened with these entries
pub record OpensTurn (at : TableId) (es : List Entry) (seat : TurnSeat (List Entry) (List Operation)) : Type 0 where
  pub table : seat.place.table_id ≡ at
  pub sees : SeesFirst es seat.place.me.0

-- the seats of a new table for so many passes, of which none has done or seen anything
pub record AreNewSeats (at : TableId) (many : ℕ) (seats : List (NewPassSeat (List Entry) (List Operation))) : Type 0 where
  pub here : All (λ s. s.place.table_id ≡ at) seats
  pub unseen : All (λ s. length s.place.me.0.seen.history ≡ 0) seats
  pub unused : All (λ s. (commits_in s.place.me.0.pass ≡ []) × (pinned_in s.place.me.0.pass ≡ [])) seats
  -- in their order
  pub numbered : map (λ s. number_of s.place.me.0.pass) seats ≡ range_with_len 1 many

module _ {Y : Type 0} {N : Ghosts Y} where
  -- the first passes of the index at this place, so many
  pub record AreFirst (at many : ℕ) (es : List Entry) (passes : List (Pass Y N)) : Type 0 where
    -- each has seen version 0 alone, with these entries
    pub told : All (λ p. (IsSome p.seat) × (p.place ≡ at) × (SeesFirst es (known_at p.seat))) passes
    -- none has committed or asked
    pub unused : All (λ p. (commits_in (known_at p.seat).pass ≡ []) × (pinned_in (known_at p.seat).pass ≡ [])) passes
    pub count : length passes ≡ many
    -- they are all that there are
    pub all : AreAll many (map (λ p. known_at p.seat) passes)

module _ {X Y : Type 0} {N : Ghosts Y} where
  -- an index was opened on a table of this size, at this place, with these entries as version 0; and its passes
  pub record IsOpened (at : ℕ) (key : TableSize) (es : List Entry) (made : Index X Y N × Vec (Pass Y N) Global) : Type 0 where
    pub place : made.0.place ≡ at
    pub size : made.0.shared.table.shared.key ≡ key
    pub passes : AreFirst at key.passes es made.1.items
    -- there was room
    pub fits : cells es ≤ room_in key.chunks
