use Rattle.shared_cells.proofs.Images.{some_word}
use Rattle.shared_cells.proofs.Seats.{splits_pass}
use Rattle.shared_cells.proofs.turn.JoinedSeat.split.Goals as goal

pub split_seat-other-requires : goal.split_seat-other-requires
split_seat-other-requires g c = (c.requires, some_word _ _ c.args.shared.now.wide, splits_pass g.L.HistoryLaw.applied g.L.HistoryLaw.lawful g.L.HistoryLaw.permitted g.L.HistoryLaw.stands _ _ _ _ c.args.self.turn c.args.self.is_pass)
