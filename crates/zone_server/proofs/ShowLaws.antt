-- What a pass knows when it has asked a version.
use Rattle.std.proofs.Common.{◌≡◌, ◌∙◌, ℕ, length, sym, ap, subst}
use Rattle.zone_model.specs.Versions.{Version}
use Rattle.zone_answer.specs.Standing.{Shows, ShowsSome}
use Rattle.shared_cells.specs.declared.view.Progress.TheVariants as progress
use Rattle.shared_cells.specs.History.{IsPartOf}
use Rattle.shared_cells.specs.Views.{pinned_image, with_pinned, with_progress}
use Rattle.qp_multi.specs.declared.meaning.Named.{Ghosts}
use Rattle.qp_multi.specs.declared.query.Query.{Query}
use Rattle.qp_multi.specs.Meanings.{Holds}
use Rattle.qp_multi.specs.Passes.{Known, Pinned, first_version, version_seen}
use Rattle.job_commands.proofs.ShowLaws.{shown, shown_some}
use Rattle.job_commands.specs.Histories.{IsLawful, StandsAs}
use Rattle.zone_server.specs.Replies.{HasGrown, IsShown}

module _ {X Y : Type 0} {N : Ghosts Y} {old : Known} {begun asked : Query X Y N} (same : asked ≡ begun) (took : Pinned IsLawful old begun.seat.place.me.0 begun.seat.version)
    (holds : Holds (pinned_image begun.seat.place.me.0.progress) begun.seat.root (version_seen begun.seat.place.me.0.seen)) where
  -- a query that was asked for its number shows a version
  pub query_shows : ShowsSome (Holds (pinned_image asked.seat.place.me.0.progress) asked.seat.root)
  query_shows = subst (λ (q : Query X Y N). ShowsSome (Holds (pinned_image q.seat.place.me.0.progress) q.seat.root)) (sym same) (shown_some _ _ _ _ holds took.good)

  -- then it was read, and dropped
  module _ {last : Query X Y N} {new : Known} (read : last ≡ asked) (left : new ≡ with_progress last.seat.place.me.0 progress.Idle) where
    idle : new ≡ with_progress begun.seat.place.me.0 progress.Idle
    idle = left ∙ ap (λ (q : Query X Y N). with_progress q.seat.place.me.0 progress.Idle) (read ∙ same)

    same_seen : new.seen ≡ begun.seat.place.me.0.seen
    same_seen = ap (λ (v : Known). v.seen) idle

    pub query_grown : HasGrown old new
    query_grown = record { grows = subst (λ x. IsPartOf x old.seen) (sym same_seen) took.grows }

    -- its version is the last that was seen
    pub query_last : length new.seen.history ≡ begun.seat.version
    query_last = ap (λ x. length x.history) same_seen ∙ sym took.version

    pub query_shown : (tells : Version → Type 0) (version : ℕ) → version ≡ begun.seat.version → ((zone : Version) → Shows (Holds (pinned_image asked.seat.place.me.0.progress) asked.seat.root) zone → tells zone) → IsShown tells old new version
    query_shown tells version is told = record {
      grows = query_grown.grows;
      version_is = is ∙ sym query_last;
      pass = ap (λ (v : Known). v.pass) idle ∙ took.pass ∙ ap (with_pinned old.pass) (sym is);
      lawful = subst (λ x. IsLawful (first_version x) (version_seen x)) (sym same_seen) took.good;
      tells_of = λ zone stands.
          let shows = shown _ _ _ zone holds (subst (λ x. StandsAs (version_seen x) zone) same_seen stands) in
          told zone (subst (λ (q : Query X Y N). Shows (Holds (pinned_image q.seat.place.me.0.progress) q.seat.root) zone) (sym same) shows);
    }
