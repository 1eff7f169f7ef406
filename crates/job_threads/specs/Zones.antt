-- What a job comes to on the index of a zone.
use Rattle.std.specs.Prelude.{◌≡◌, ◌<◌, ◌≤◌, ℕ, List, length}
use Rattle.zone_model.specs.Names.{Name}
use Rattle.zone_model.specs.Versions.{Version}
use Rattle.job_model.specs.Commands.{Command}
use Rattle.job_model.specs.Sizes.{cell_count}
use Rattle.job_model.specs.Outcomes.{passes_for}
use Rattle.qp_multi.specs.Openings.{room_in}
use Rattle.job_commands.specs.Calls.{AllHeard, Call}
use Rattle.job_commands.specs.Runs.{IsRun}
use Rattle.job_threads.specs.declared.zone.Ran.{Ran}
use Rattle.job_threads.specs.declared.zone.Ran.TheVariants.{Finished, DoesNotFit}

-- the zone fits, and the job was run; or it doesn't, and both numbers are told
abbrev pub RanOn : ℕ → Name → Version → List (List Command) → Ran → Type 0
RanOn chunks origin zone workers (Finished f) = (cell_count zone ≤ room_in chunks) × IsRun chunks (passes_for (length workers)) origin zone workers f.outcomes.items f.version f.names f.nodes
RanOn chunks origin zone workers (DoesNotFit cells limit) = (cells ≡ cell_count zone) × (limit ≡ room_in chunks) × (limit < cells)

-- where the job was run, the gate was told of all commands of its workers
abbrev pub HeardOn : (Call → Type 0) → List (List Command) → Ran → Type 0
HeardOn hears workers (Finished f) = AllHeard hears 1 workers
HeardOn hears workers (DoesNotFit cells limit) = Unit {0}
