use Rattle.std.proofs.Common.{◌∙◌}
use Rattle.shared_cells.proofs.Accounts.{may_account_pinned_beside}
use Rattle.shared_cells.proofs.Images.{some_word}
use Rattle.shared_cells.proofs.Seats.{joins_note}
use Rattle.shared_cells.proofs.pinned.PinnedSeat.look_beside.Goals as goal

pub join_seat-requires : goal.join_seat-requires
join_seat-requires g c = (c.requires.table.0, c.requires.table.1, c.args.note.no_slots, some_word _ _ c.args.shared.now.wide, joins_note g.L.HistoryLaw.applied g.L.HistoryLaw.lawful g.L.HistoryLaw.permitted g.L.HistoryLaw.stands _ _ _ _ _ c.args.note.no_turn)

pub load-requires : goal.load-requires
load-requires g c =
    let joined = c.join_seat.ensures in (
      joined.0 ∙ c.requires.table.0,
      some_word _ _ c.args.shared.now.wide,
      may_account_pinned_beside g.L.HistoryLaw.applied g.L.HistoryLaw.lawful g.L.HistoryLaw.permitted g.L.HistoryLaw.stands _ _ _ _ c.args.self.now.place.me.0 c.args.note.place.me.0 _ c.args.self.now.place.me joined.2 c.requires.passes c.args.self.now.pinned,
    )
