-- One worker alone at an index that is open: what its commands have come to, at any moment.
use Rattle.std.specs.Prelude.{◌≡◌, ◌⊎◌, ℕ, ◌<◌, List, [], ◌∷◌, length}
use Rattle.zone_model.specs.Versions.{Version}
use Rattle.job_model.specs.Commands.{Command}
use Rattle.job_model.specs.Sizes.{node_count}
use Rattle.job_model.specs.Outcomes.{Lawful, Pair, WorkerProgress, all_pairs, at_first, progress_after, version_at}
use Rattle.job_report.specs.Outcomes.{EachTells, pairs_of}
use Rattle.job_report.specs.declared.outcomes.Outcome.{Outcome}
use Rattle.job_commands.specs.declared.closing.Last.{Last}
use Rattle.job_commands.specs.Histories.{OpenedWith}
use Rattle.job_commands.specs.Steps.{IsProgress, IsUnder, WorkerPasses}
use Rattle.job_commands.specs.Works.{Numbers, WorkerRan}

-- what a worker has come to behind some commands
abbrev pub progress_behind : WorkerProgress → List Pair → WorkerProgress
progress_behind progress [] = progress
progress_behind progress (pair ∷ rest) = progress_behind (progress_after progress pair.0 pair.1.version) rest

-- A worker has run these commands, and goes on. What it has come to by them is what its passes have seen and hold.
pub record AtWork (s : OpenedWith) (numbers : Numbers) (t : WorkerPasses) (commands : List Command) (os : List Outcome) : Type 0 where
  pub alike : length commands ≡ length os
  pub progress : IsProgress t (progress_behind at_first (pairs_of commands os))
  pub under : IsUnder t.asks t.holds
  pub ran : WorkerRan s numbers t commands os

-- passes of these numbers are all that an index of two has
abbrev pub AreBoth : Numbers → Type 0
AreBoth numbers = (number : ℕ) → number < 2 → (numbers.asker ≡ number) ⊎ (numbers.holder ≡ number)

-- so does the one worker of an index that has no passes but its two
pub record Sits (s : OpenedWith) (t : WorkerPasses) (commands : List Command) (os : List Outcome) : Type 0 where
  pub two : s.passes ≡ 2
  pub numbers : Numbers
  pub both : AreBoth numbers
  pub work : AtWork s numbers t commands os

-- the versions of a zone that the outcomes of one worker make
abbrev pub versions_by : OpenedWith → Version → List Command → List Outcome → ℕ → Version
versions_by s zone commands os = version_at s.origin zone (all_pairs (pairs_of commands os ∷ []))

-- The outcomes of one worker are lawful, where this is the current version, and tell what is so of the versions that they make.
pub record ComesTo (s : OpenedWith) (zone : Version) (commands : List Command) (os : List Outcome) (last : ℕ) : Type 0 where
  pub lawful : Lawful s.chunks s.passes s.origin zone (pairs_of commands os ∷ []) last
  pub tell : EachTells s.origin (versions_by s zone commands os) commands os

-- and so large is that version
pub record EndsAt (s : OpenedWith) (zone : Version) (commands : List Command) (os : List Outcome) (last : Last) : Type 0 where
  pub comes_to : ComesTo s zone commands os last.version
  pub names_are : last.names ≡ length (versions_by s zone commands os last.version)
  pub nodes_are : last.nodes ≡ node_count (versions_by s zone commands os last.version)
