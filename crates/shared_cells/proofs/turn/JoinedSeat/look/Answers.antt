use Rattle.shared_cells.proofs.Images.{some_word}
use Rattle.shared_cells.proofs.Looking.{may_look}
use Rattle.shared_cells.proofs.turn.JoinedSeat.look.Goals as goal

pub load-requires : goal.load-requires
load-requires g c = (c.requires, some_word _ _ c.args.shared.now.wide, may_look g.L.HistoryLaw.applied g.L.HistoryLaw.lawful g.L.HistoryLaw.permitted g.L.HistoryLaw.stands _ _ _ _ c.args.self.now.turn)
