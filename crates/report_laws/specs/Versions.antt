-- Versions of a job, and dumps that say the version.
use Rattle.std.specs.Prelude.{◌≡◌, ℕ, List, map, Ok}
use Rattle.zone_model.specs.Names.{Name}
use Rattle.zone_model.specs.Lines.{lines_of}
use Rattle.zone_model.specs.Versions.{Version}
use Rattle.zone_model.specs.MasterFile.{zone_of}
use Rattle.zone_model.specs.Dumps.{dump}
use Rattle.zone_model.specs.declared.Style.{Style}
use Rattle.job_model.specs.Commands.{Job, FedJob}
use Rattle.job_model.specs.Outcomes.{Pair, all_pairs, version_at}
use Rattle.job_model.specs.Feeds.{FedPair, fed_commands, by_worker}

-- a dump of a version, in either style, is read as the version
abbrev pub ReadsBack : Name → Version → Type 0
ReadsBack origin version = (style : Style) → zone_of origin (lines_of (dump style origin version)) ≡ Ok version

-- these are a job's commands, each with some outcome
abbrev pub AreOutcomesOf : Job → List (List Pair) → Type 0
AreOutcomesOf job workers = map (map (λ pair. pair.0)) workers ≡ job.workers

-- version v of a job under these outcomes
abbrev pub version_of : Job → List (List Pair) → ℕ → Version
version_of job workers v = version_at job.origin job.zone (all_pairs workers) v

-- ---- the same of a job that is one list

abbrev pub AreFedOutcomesOf : FedJob → List FedPair → Type 0
AreFedOutcomesOf job fed = fed_commands fed ≡ job.commands

-- of which so many workers ran each some
abbrev pub fed_version_of : FedJob → ℕ → List FedPair → ℕ → Version
fed_version_of job workers fed v = version_at job.origin job.zone (all_pairs (by_worker workers fed)) v
