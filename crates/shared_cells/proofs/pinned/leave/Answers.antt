use Rattle.shared_cells.proofs.Images.{pin_word}
use Rattle.shared_cells.proofs.Passes.{may_leave, pinned_there}
use Rattle.shared_cells.proofs.pinned.leave.Goals as goal

pub store-requires : goal.store-requires
store-requires g c =
    let pass = c.requires.pass in
    let k = pinned_there c.args.place.now.me.0.progress c.requires.pinned in (
      c.requires.table,
      pin_word _ _ _ c.args.shared.now.wide pass.few,
      may_leave g.L.HistoryLaw.applied g.L.HistoryLaw.lawful g.L.HistoryLaw.permitted g.L.HistoryLaw.stands _ _ _ _ _ pass.pass pass.off_turn pass.told k.0 k.1,
    )
