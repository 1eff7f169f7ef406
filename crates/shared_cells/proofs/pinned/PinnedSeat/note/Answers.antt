use Rattle.shared_cells.proofs.Images.{some_word}
use Rattle.shared_cells.proofs.Seats.{splits_note}
use Rattle.shared_cells.proofs.pinned.PinnedSeat.note.Goals as goal

pub split_seat-place-requires : goal.split_seat-place-requires
split_seat-place-requires g c = (c.requires, some_word _ _ c.args.shared.now.wide, splits_note g.L.HistoryLaw.applied g.L.HistoryLaw.lawful g.L.HistoryLaw.permitted g.L.HistoryLaw.stands _ _ _)
