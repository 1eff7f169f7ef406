-- What a pinned seat shows, and passes in their places.
use Rattle.std.proofs.Common.{◌≡◌, ◌∙◌, ℕ, ◌+◌, true, List, length, arith, Option, Some, None, refl, sym, ap, subst}
use Rattle.std.specs.Prelude.{IsSome}
use Rattle.zone_model.specs.Names.{Name}
use Rattle.zone_model.specs.Versions.{Version}
use Rattle.pin_core.specs.declared.kept.CellAt.{CellAt}
use Rattle.zone_answer.specs.Standing.{Shows, ShowsSome}
use Rattle.job_model.specs.declared.Question.{Question}
use Rattle.job_model.specs.Replies.{reply_of}
use Rattle.job_report.specs.Outcomes.{Replies, ended_view}
use Rattle.job_report.specs.declared.outcomes.Outcome.{Outcome}
use Rattle.shared_cells.specs.declared.view.PassView.{PassView}
use Rattle.shared_cells.specs.declared.view.Progress.TheVariants as progress
use Rattle.shared_cells.specs.Views.{number_of, is_told, with_pinned, with_progress}
use Rattle.shared_cells.specs.History.{IsPartOf}
use Rattle.qp_multi.specs.declared.meaning.Operation.{Operation}
use Rattle.qp_multi.specs.Meanings.{Holds}
use Rattle.qp_multi.specs.Passes.{Known, known_at, version_seen, Pinned}
use Rattle.job_model.specs.Outcomes.{Shown}
use Rattle.job_commands.specs.Histories.{Entries, IsLawful, StandsAs}
use Rattle.job_commands.specs.Commands.{Asked, Seat}

-- a reading that holds what a version stands as shows that version
pub shown : (image : List CellAt) (root : Option ℕ) (es : Entries) (zone : Version) → Holds image root es → StandsAs es zone → Shows (Holds image root) zone
shown image root es zone holds stands = record { version_is = stands.valid; held = subst (Holds image root) (sym stands.entries) holds }

pub shown_some : (image : List CellAt) (root : Option ℕ) (first es : Entries) → Holds image root es → IsLawful first es → ShowsSome (Holds image root)
shown_some image root first es holds l = (l.zone.version, shown image root es l.zone.version holds l.zone.stands)

-- a question was asked by a pass that is idle again
pub asked_of : (lawful : Entries → Entries → Type 0) (origin : Name) (question : Question) (old pinned new : Known) (number : ℕ) (o : Outcome) → Pinned lawful old pinned number → new ≡ with_progress pinned progress.Idle → o.version ≡ number → ended_view o.told ≡ Shown
    → ((zone : Version) → StandsAs (version_seen pinned.seen) zone → Replies (reply_of origin zone question) o.told) → Asked origin question old new o
asked_of lawful origin question old pinned new number o p left version is replies =
    let seen : new.seen ≡ pinned.seen = ap (λ (v : Known). v.seen) left in
    record {
      grows = subst (λ x. IsPartOf x old.seen) (sym seen) p.grows;
      version = version ∙ p.version ∙ sym (ap (λ x. length x.history) seen);
      pass = ap (λ (v : Known). v.pass) left ∙ p.pass ∙ ap (with_pinned old.pass) (sym version);
      shown = is;
      replies = λ zone stands. replies zone (subst (λ x. StandsAs (version_seen x) zone) seen stands);
    }

-- ---- seats

pub seat_told : (seat : Option Seat) → IsSome seat → is_told (known_at seat).seen.opening ≡ true
seat_told (Some s) h = s.told
seat_told None h = absurd cc

-- a seat is a pass's
pub seat_pass : (seat : Option Seat) → IsSome seat → (own : PassView (List Operation)) × ((known_at seat).pass ≡ Some own)
seat_pass (Some s) h = by_pass s.place.me.0.pass refl s.is_pass
  where
    by_pass : (p : Option (PassView (List Operation))) → s.place.me.0.pass ≡ p → number_of p ≡ s.number + 1 → (own : PassView (List Operation)) × (s.place.me.0.pass ≡ Some own)
    by_pass None is e = absurd (omega arith)
    by_pass (Some own) is e = (own, is)
seat_pass None h = absurd cc
