use Rattle.shared_cells.proofs.Images.{half_word}
use Rattle.shared_cells.proofs.Turns.{may_write}
use Rattle.shared_cells.proofs.copying.store_word.Goals as goal

pub store-requires : goal.store-requires
store-requires g c =
    let b = c.requires.blank in (
      c.requires.table,
      half_word _ _ b.0 _ b.1 b.2 c.args.shared.now.wide b.3,
      may_write g.L.HistoryLaw.applied g.L.HistoryLaw.lawful g.L.HistoryLaw.permitted g.L.HistoryLaw.stands _ _ _ _ c.requires.turn b.0 b.1 _ _ b.2 b.3 b.4,
    )
