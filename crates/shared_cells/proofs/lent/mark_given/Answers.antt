use Rattle.shared_cells.proofs.Images.{status_word}
use Rattle.shared_cells.proofs.Turns.{may_give}
use Rattle.shared_cells.proofs.lent.mark_given.Goals as goal

pub store-requires : goal.store-requires
store-requires g c = (c.requires.table, status_word _ _ _ c.args.shared.now.wide c.args.shared.now.few.1 c.requires.inside, may_give g.L.HistoryLaw.applied g.L.HistoryLaw.lawful g.L.HistoryLaw.permitted g.L.HistoryLaw.stands _ _ _ _ c.requires.turn _ c.requires.inside)
