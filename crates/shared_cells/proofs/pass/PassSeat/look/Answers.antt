use Rattle.shared_cells.proofs.Images.{some_word}
use Rattle.shared_cells.proofs.Accounts.{may_account}
use Rattle.shared_cells.proofs.pass.PassSeat.look.Goals as goal

pub load-requires : goal.load-requires
load-requires g c = (c.requires.table, some_word _ _ c.args.shared.now.wide, may_account g.L.HistoryLaw.applied g.L.HistoryLaw.lawful g.L.HistoryLaw.permitted g.L.HistoryLaw.stands _ _ _ _ _ c.requires.passes c.args.self.now.idle)
