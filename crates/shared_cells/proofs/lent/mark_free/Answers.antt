use Rattle.shared_cells.proofs.Images.{status_word}
use Rattle.shared_cells.proofs.Turns.{may_free}
use Rattle.shared_cells.proofs.lent.mark_free.Goals as goal

pub store-requires : goal.store-requires
store-requires g c = (c.requires.table, status_word _ _ _ c.args.shared.now.wide c.args.shared.now.few.1 c.requires.may.inside, may_free g.L.HistoryLaw.applied g.L.HistoryLaw.lawful g.L.HistoryLaw.permitted g.L.HistoryLaw.stands _ _ _ _ c.requires.may.turn _ c.requires.may.inside c.requires.may.unkept)
