-- How much memory the guesses hold: for how many values there is room.
use Rattle.std.specs.Prelude.{ℕ, ◌+◌}
use Rattle.std.specs.Vec.{vec_capacity}
use Rattle.chunk_hints.specs.declared.ages.Ages.{Ages}
use Rattle.chunk_hints.specs.declared.hints.Hints.{Hints}
use Rattle.chunk_hints.specs.declared.lists.PathLists.{PathLists}
use Rattle.chunk_hints.specs.declared.rows.Rows.{Rows}
use Rattle.chunk_hints.specs.declared.spans.Spans.{Spans}

abbrev pub list_room : PathLists → ℕ
list_room l = vec_capacity l.paths + vec_capacity l.blocks + vec_capacity l.counts + vec_capacity l.free

abbrev pub row_room : Rows → ℕ
row_room r = vec_capacity r.behind_one + vec_capacity r.behind_two

abbrev pub span_room : Spans → ℕ
span_room s = vec_capacity s.spans

abbrev pub hint_room : Hints → ℕ
hint_room h = list_room h.lists + row_room h.rows + vec_capacity h.lacking + span_room h.spans

abbrev pub age_room : Ages → ℕ
age_room a = vec_capacity a.given + vec_capacity a.settled
