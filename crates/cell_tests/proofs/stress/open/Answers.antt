use Rattle.std.proofs.Common.{true, refl}
use Rattle.shared_cells.proofs.Seats.{turn_there}
use Rattle.cell_tests.proofs.OneCellLaws.{one_image}
use Rattle.cell_tests.proofs.stress.open.Goals as goal

pub open-turn-requires-clause-can : goal.open-turn-requires-clause-can
open-turn-requires-clause-can c =
    let key = c.args.index.now.table.shared.key in
    let seat = c.write_first-turn.result in
    let turn = turn_there seat.place.me.0.turn seat.turn in
    record {
      turn = turn.0;
      opening = 0;
      is_turn = turn.1;
      is_version = refl;
      fits = one_image key.passes key.chunks seat.place.me.0.turn turn.0 0 true turn.1 refl c.write_first-turn.ensures.writes.written;
      good = tt;
      stood = (refl, refl);
    }
