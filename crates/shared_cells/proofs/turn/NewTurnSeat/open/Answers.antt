use Rattle.shared_cells.proofs.Images.{some_word}
use Rattle.shared_cells.proofs.Openings.{may_open}
use Rattle.shared_cells.proofs.turn.NewTurnSeat.open.Goals as goal

pub store-requires : goal.store-requires
store-requires g c = (c.requires.table, some_word _ _ c.args.shared.now.wide, may_open g.L.HistoryLaw.applied g.L.HistoryLaw.lawful g.L.HistoryLaw.permitted g.L.HistoryLaw.stands _ _ _ _ _ c.args.root _ _ c.args.self.untold c.requires.can c.word_of_version-word.ensures)
