-- What commands do with a snapshot.
use Rattle.std.specs.Prelude.{◌≡◌, List}
use Rattle.zone_model.specs.Names.{Name}
use Rattle.zone_model.specs.Versions.{Version}
use Rattle.trie_model.specs.Keys as trie
use Rattle.job_model.specs.declared.Question.{Question}
use Rattle.job_model.specs.Replies.{reply_of}
use Rattle.job_model.specs.Outcomes.{Shown}
use Rattle.job_report.specs.Outcomes.{ended_view, Replies}
use Rattle.job_report.specs.declared.outcomes.Told.TheVariants as told
use Rattle.job_report.specs.declared.outcomes.Outcome.{Outcome}
use Rattle.shared_cells.specs.declared.view.Progress.TheVariants as progress
use Rattle.shared_cells.specs.declared.pinned.PinnedSeat.{PinnedSeat}
use Rattle.shared_cells.specs.History.{IsPartOf}
use Rattle.shared_cells.specs.Views.{with_pinned, with_progress}
use Rattle.qp_multi.specs.declared.meaning.Operation.{Operation}
use Rattle.qp_multi.specs.Passes.{Known, version_seen}
use Rattle.job_commands.specs.Histories.{StandsAs}

-- The second pass took a snapshot, when it had learnt what the first had seen, and then the first learnt what it has seen.
pub record Held (old second new : Known) (seat : PinnedSeat (List trie.Entry) (List Operation)) (o : Outcome) : Type 0 where
  pub grows : IsPartOf seat.place.me.0.seen second.seen
  pub learns : IsPartOf seat.place.me.0.seen old.seen
  pub first : IsPartOf new.seen old.seen
  pub tells : IsPartOf new.seen seat.place.me.0.seen
  pub same : new.pass ≡ old.pass
  pub pass : seat.place.me.0.pass ≡ with_pinned second.pass o.version
  pub version : o.version ≡ seat.version
  pub is_told : o.told ≡ told.Held

-- a snapshot replied
pub record AskedHeld (origin : Name) (question : Question) (seat : PinnedSeat (List trie.Entry) (List Operation)) (o : Outcome) : Type 0 where
  pub version : o.version ≡ seat.version
  pub shown : ended_view o.told ≡ Shown
  pub replies : (zone : Version) → StandsAs (version_seen seat.place.me.0.seen) zone → Replies (reply_of origin zone question) o.told

-- it was given back
pub record Released (seat : PinnedSeat (List trie.Entry) (List Operation)) (new : Known) (o : Outcome) : Type 0 where
  pub version : o.version ≡ seat.version
  pub is_told : o.told ≡ told.Released
  pub left : new ≡ with_progress seat.place.me.0 progress.Idle
