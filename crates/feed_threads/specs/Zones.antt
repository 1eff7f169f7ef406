-- What one list of commands comes to on the index of a zone.
use Rattle.std.specs.Prelude.{◌≡◌, ◌<◌, ◌≤◌, ℕ, List}
use Rattle.zone_model.specs.Names.{Name}
use Rattle.zone_model.specs.Versions.{Version}
use Rattle.job_model.specs.Commands.{Command}
use Rattle.job_model.specs.Sizes.{cell_count}
use Rattle.qp_multi.specs.Openings.{room_in}
use Rattle.job_commands.specs.Calls.{Call}
use Rattle.feed_threads.specs.Feeds.{AllFedHeard, IsFedRun}
use Rattle.feed_threads.specs.declared.zone.FedRan.{FedRan}
use Rattle.feed_threads.specs.declared.zone.FedRan.TheVariants.{Finished, DoesNotFit}

-- the zone fits, and the list was run by so many workers; or it doesn't, and both numbers are told
abbrev pub FedRanOn : ℕ → ℕ → Name → Version → List Command → FedRan → Type 0
FedRanOn chunks workers origin zone commands (Finished f) = (cell_count zone ≤ room_in chunks) × IsFedRun chunks workers origin zone commands f.outcomes.items f.version f.names
FedRanOn chunks workers origin zone commands (DoesNotFit cells limit) = (cells ≡ cell_count zone) × (limit ≡ room_in chunks) × (limit < cells)

-- where a list of so many commands was run, the gate was told of all of them
abbrev pub FedHeardOn : (Call → Type 0) → ℕ → ℕ → FedRan → Type 0
FedHeardOn hears workers count (Finished f) = AllFedHeard hears workers count f.outcomes.items
FedHeardOn hears workers count (DoesNotFit cells limit) = Unit {0}
