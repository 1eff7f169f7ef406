use Rattle.shared_cells.proofs.Images.{some_word}
use Rattle.shared_cells.proofs.Passes.{may_see}
use Rattle.shared_cells.proofs.Seats.{idle_is}
use Rattle.shared_cells.proofs.pass.PassSeat.see.Goals as goal

pub load-word-requires : goal.load-word-requires
load-word-requires g c =
    let seat = c.args.self.now in (
      c.requires.table,
      some_word _ _ c.args.shared.now.wide,
      may_see g.L.HistoryLaw.applied g.L.HistoryLaw.lawful g.L.HistoryLaw.permitted g.L.HistoryLaw.stands _ _ _ _ _ seat.is_pass seat.no_turn seat.told (idle_is seat.place.me.0.progress seat.idle),
    )
