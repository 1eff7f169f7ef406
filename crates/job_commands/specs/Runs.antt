-- What a job comes to.
use Rattle.std.specs.Prelude.{◌≡◌, ℕ, List, length}
use Rattle.zone_model.specs.Names.{Name}
use Rattle.zone_model.specs.Versions.{Version}
use Rattle.job_model.specs.Commands.{Command}
use Rattle.job_model.specs.Sizes.{node_count}
use Rattle.job_model.specs.Outcomes.{Lawful}
use Rattle.job_report.specs.Outcomes.{job_pairs, versions_made, AllTell}
use Rattle.job_report.specs.declared.outcomes.Outcomes.{Outcomes}

-- The outcomes of a job, on an index of so many chunks and passes, are lawful and all that its report takes.
pub record IsRun (chunks passes : ℕ) (origin : Name) (zone : Version) (workers : List (List Command)) (os : List Outcomes) (version names nodes : ℕ) : Type 0 where
  pub lawful : Lawful chunks passes origin zone (job_pairs workers os) version
  pub tell : AllTell origin (versions_made origin zone workers os) workers os
  pub names_are : names ≡ length (versions_made origin zone workers os version)
  pub nodes_are : nodes ≡ node_count (versions_made origin zone workers os version)
