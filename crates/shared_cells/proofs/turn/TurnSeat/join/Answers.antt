use Rattle.shared_cells.proofs.Images.{some_word}
use Rattle.shared_cells.proofs.Seats.{joins_pass}
use Rattle.shared_cells.proofs.turn.TurnSeat.join.Goals as goal

pub join_seat-requires : goal.join_seat-requires
join_seat-requires g c = (c.requires.0, c.requires.1, c.args.pass.no_slots, some_word _ _ c.args.shared.now.wide, joins_pass g.L.HistoryLaw.applied g.L.HistoryLaw.lawful g.L.HistoryLaw.permitted g.L.HistoryLaw.stands _ _ _ _ _ _ c.args.self.turn c.args.pass.is_pass c.args.pass.idle)
