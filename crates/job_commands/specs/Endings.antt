-- How large a version is, and how the index of a job ends.
use Rattle.std.specs.Prelude.{◌≡◌, ℕ, List, length}
use Rattle.zone_model.specs.Versions.{Version}
use Rattle.job_model.specs.Commands.{Command}
use Rattle.job_report.specs.declared.outcomes.Outcomes.{Outcomes}
use Rattle.shared_cells.specs.History.{IsPartOf}
use Rattle.shared_cells.specs.Views.{with_pinned}
use Rattle.trie_model.specs.Shape.{nodes, keys_of}
use Rattle.qp_multi.specs.Passes.{Known, version_seen}
use Rattle.qp_multi.specs.Closings.{AreAll}
use Rattle.job_commands.specs.declared.closing.Last.{Last}
use Rattle.job_commands.specs.Histories.{OpenedWith, StandsAs}
use Rattle.job_commands.specs.Closings.{Gathers}
use Rattle.job_commands.specs.Runs.{IsRun}

-- An index of so many passes was closed with these and main's. Whichever job its workers were gathered of, on whichever zone it was
-- opened: the job has come to this last version.
abbrev pub EndsRun : ℕ → List Known → Known → Last → Type 0
EndsRun count views main last =
    (s : OpenedWith) (zone : Version) (before : List Known) (ws : List (List Command)) (os : List Outcomes) → Gathers s before ws os views main
    → length before ≡ count → AreAll count before → StandsAs s.opening zone → IsRun s.chunks s.passes s.origin zone ws os last.version last.names last.nodes

-- A pass took the current version, which is no older than what it had seen. So large is the version that it has then seen last.
pub record Measured (old new : Known) (last : Last) : Type 0 where
  pub grows : IsPartOf new.seen old.seen
  pub version : last.version ≡ length new.seen.history
  pub pass : new.pass ≡ with_pinned old.pass last.version
  pub names : last.names ≡ length (version_seen new.seen)
  pub nodes : last.nodes ≡ nodes (keys_of (version_seen new.seen))
