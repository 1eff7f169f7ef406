use Rattle.shared_cells.proofs.Images.{half_word}
use Rattle.shared_cells.proofs.Turns.{may_write}
use Rattle.shared_cells.proofs.lent.write_half.Goals as goal

pub store-requires : goal.store-requires
store-requires g c =
    let word = c.place_of_half-word.ensures in (
      c.requires.table,
      half_word _ _ c.args.at _ c.args.half word c.args.shared.now.wide c.requires.may.inside,
      may_write g.L.HistoryLaw.applied g.L.HistoryLaw.lawful g.L.HistoryLaw.permitted g.L.HistoryLaw.stands _ _ _ _ c.requires.may.turn c.args.at c.args.half _ _ word c.requires.may.inside c.requires.may.unkept,
    )
