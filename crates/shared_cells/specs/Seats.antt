-- The seats of a table when it is made.
use Rattle.std.specs.Prelude.{◌≡◌, ℕ, List, [], map, All}
use Rattle.std.specs.List.{range_with_len}
use Rattle.atomic_table.specs.Seated.{TableId}
use Rattle.atomic_table.specs.Table.{Me}
use Rattle.shared_cells.specs.declared.pass.NewPassSeat.{NewPassSeat}
use Rattle.shared_cells.specs.declared.turn.NewTurnSeat.{NewTurnSeat}
use Rattle.shared_cells.specs.declared.view.TableSize.{TableSize}
use Rattle.shared_cells.specs.declared.view.View.{View}
use Rattle.shared_cells.specs.Views.{pass_view, unopened_view}

module _ {O E : Type 0} where
  -- a seat for each pass, none of which has done anything
  pub record AreNewPasses (table : TableId) (chunks passes : ℕ) (seats : List (NewPassSeat O E)) : Type 0 where
    -- they are numbered from 0
    pub views : map (λ seat. seat.place.me.0) seats ≡ map (λ number. pass_view number chunks) (range_with_len 0 passes)
    -- all are of this table
    pub places : All (λ seat. seat.place.table_id ≡ table) seats

  -- the turn has made them
  pub record MakesPasses (table : TableId) (key : TableSize) (passes : ℕ) (me : Me (Unit {0}) (View O E)) (seats : List (NewPassSeat O E)) : Type 0 where
    -- and has done nothing else
    pub turn : me ≡ (unopened_view key passes, [])
    pub made : AreNewPasses table key.chunks passes seats

  -- the turn's seat, of a table that has so many passes and isn't open
  pub record IsFirstTurn (table : TableId) (key : TableSize) (passes : ℕ) (seat : NewTurnSeat O E) : Type 0 where
    pub here : seat.place.table_id ≡ table
    pub view : seat.place.me.0 ≡ unopened_view key passes
    pub count : seat.passes ≡ passes
