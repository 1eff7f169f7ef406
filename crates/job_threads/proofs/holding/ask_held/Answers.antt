use Rattle.std.proofs.Common.{refl, sym, subst}
use Rattle.shared_cells.specs.Views.{pinned_image}
use Rattle.qp_multi.specs.Meanings.{Holds}
use Rattle.qp_multi.specs.Passes.{version_seen}
use Rattle.zone_answer.specs.Standing.{Shows, ShowsSome}
use Rattle.job_commands.proofs.ShowLaws.{shown}
use Rattle.job_threads.proofs.SnapshotLaws.{held_shows}
use Rattle.job_threads.proofs.holding.ask_held.Goals as goal

pub reply_text-requires : goal.reply_text-requires
reply_text-requires g c =
    subst (λ x. ShowsSome (Holds (pinned_image x.seat.place.me.0.progress) x.seat.root)) (sym c.version-version.ensures.same) (held_shows c.args.snapshot.now.seat c.requires)

pub returns-clause-asked : goal.returns-clause-asked
returns-clause-asked g c = record {
  version = c.version-version.ensures.number;
  shown = refl;
  replies = λ zone stands. c.in_ok-text.ensures.reply zone
      (subst (λ x. Shows (Holds (pinned_image x.seat.place.me.0.progress) x.seat.root) zone) (sym c.version-version.ensures.same)
      (shown (pinned_image c.args.snapshot.now.seat.place.me.0.progress) c.args.snapshot.now.seat.root (version_seen c.args.snapshot.now.seat.place.me.0.seen) zone c.requires.holds stands));
}
