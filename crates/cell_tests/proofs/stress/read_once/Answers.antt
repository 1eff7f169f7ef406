use Rattle.std.proofs.Common.{sym, subst}
use Rattle.shared_cells.specs.Views.{pinned_image, pinned_root}
use Rattle.cell_tests.specs.OneCell.{IsVersion}
use Rattle.cell_tests.proofs.OneCellLaws.{pinned_is}
use Rattle.cell_tests.proofs.stress.read_once.Goals as goal

pub is_its_version-is_right-requires-clause-stood : goal.is_its_version-is_right-requires-clause-stood
is_its_version-is_right-requires-clause-stood c =
    let seat = c.pin-pinned.result in
    subst (IsVersion (pinned_image seat.place.me.0.progress) (pinned_root seat.place.me.0.progress)) (sym c.pin-pinned.ensures.seen.version)
    (pinned_is _ c.args.pass.place.me.0 seat.place.me.0 c.pin-pinned.ensures.pinned c.requires.opening)
