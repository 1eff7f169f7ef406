use Rattle.shared_cells.proofs.Passes.{may_read}
use Rattle.shared_cells.proofs.pinned.PinnedSeat.read.Goals as goal

pub load-requires : goal.load-requires
load-requires g c = (c.requires.table, c.requires.inside, may_read g.L.HistoryLaw.applied g.L.HistoryLaw.lawful g.L.HistoryLaw.permitted g.L.HistoryLaw.stands _ _ _ _ _)
