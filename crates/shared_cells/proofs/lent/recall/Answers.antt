use Rattle.shared_cells.proofs.Turns.{may_recall}
use Rattle.shared_cells.proofs.lent.recall.Goals as goal

pub load-requires : goal.load-requires
load-requires g c = (c.requires.table, c.requires.inside.1, may_recall g.L.HistoryLaw.applied g.L.HistoryLaw.lawful g.L.HistoryLaw.permitted g.L.HistoryLaw.stands _ _ _ _ _ c.requires.turn c.requires.inside.0)
