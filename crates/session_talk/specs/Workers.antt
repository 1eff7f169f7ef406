-- What one worker's commands have come to at an index that is open.
use Rattle.std.specs.Prelude.{◌≡◌, ℕ, Bool, List, [], ◌∷◌, ◌++◌, Result, IfOk, length}
use Rattle.zone_model.specs.Names.{Name}
use Rattle.zone_model.specs.Versions.{Version}
use Rattle.job_model.specs.Commands.{Command, MayCome}
use Rattle.job_model.specs.Feeds.{passes_fed}
use Rattle.job_model.specs.Outcomes.{Lawful, all_pairs, version_at}
use Rattle.job_report.specs.Outcomes.{EachTells, pairs_of}
use Rattle.job_report.specs.declared.outcomes.Outcome.{Outcome}
use Rattle.report_laws.specs.Changes.{AllAsked}
use Rattle.session_talk.specs.declared.worker.LastVersion.{LastVersion}

-- how many chunks an index has, the zone's origin, and version 0
pub record Opened : Type 0 where
  pub chunks : ℕ
  pub origin : Name
  pub zone : Version

-- the versions of the zone that the outcomes make
abbrev pub versions_by : Opened → List Command → List Outcome → ℕ → Version
versions_by o commands os = version_at o.origin o.zone (all_pairs (pairs_of commands os ∷ []))

-- The outcomes are lawful, where this is the current version, and tell what is so of the versions that they make.
pub record ComesTo (o : Opened) (commands : List Command) (os : List Outcome) (last : ℕ) : Type 0 where
  pub lawful : Lawful o.chunks (passes_fed 1) o.origin o.zone (pairs_of commands os ∷ []) last
  pub tell : EachTells o.origin (versions_by o commands os) commands os

-- and that version has so many names
pub record EndsAt (o : Opened) (commands : List Command) (os : List Outcome) (last : LastVersion) : Type 0 where
  pub comes_to : ComesTo o commands os last.version
  pub names_are : last.names ≡ length (versions_by o commands os last.version)

-- ---- what is asked of a worker, and stays

-- A worker may run a command.
pub record MayRun (is_ready : Type 0) (holds : Bool) (zone : Name) (command : Command) : Type 0 where
  -- no memory was wanted for one before
  pub ready : is_ready
  -- it comes where a snapshot is held or isn't, as it wants
  pub may : MayCome holds command
  -- what it asks for lies in the zone
  pub asked : AllAsked zone command

-- the command came to an outcome, behind those that the worker ran before
abbrev pub RunsOneMore : {E : Type 0} → Result Outcome E → (Opened → List Command → List Outcome → Type 0) → (Opened → List Command → List Outcome → Type 0)
    → Command → Type 0
RunsOneMore result has_run has_run_now command = (o : Opened) (commands : List Command) (os : List Outcome) → has_run o commands os
    → IfOk result (λ outcome. has_run_now o (commands ++ command ∷ []) (os ++ outcome ∷ []))

-- A worker can go on, as it stood before.
pub record StandsAsBefore (is_ready : Type 0) (zone zone_now : Name) (holds holds_now : Bool) : Type 0 where
  pub ready : is_ready
  -- it is of the same zone
  pub origin : zone_now ≡ zone
  -- a snapshot is held if one was
  pub held : holds_now ≡ holds
