use Rattle.std.proofs.Common.{rules}
use Rattle.shared_cells.specs.Views.{pinned_image}
use Rattle.qp_multi.specs.Meanings.{IsVersion}
use Rattle.qp_multi.specs.Passes.{version_seen}
use Rattle.qp_multi.proofs.ImageLaws.{version_holds}
use Rattle.qp_multi.proofs.pass.Pass.query.Goals as goal

pub returns-clause-reads : goal.returns-clause-reads
returns-clause-reads g c =
    let seat = c.pin-seat.result in
    let shows : IsVersion (pinned_image seat.place.me.0.progress) seat.root (version_seen seat.place.me.0.seen) = search rules in
    record {
      few_operations = c.pin-seat.ensures.pinned.allowed;
      shows = shows;
      holds = version_holds (pinned_image seat.place.me.0.progress) seat.root (version_seen seat.place.me.0.seen) shows;
    }
