-- What is known when all workers of several zones are done.
use Rattle.std.specs.Prelude.{◌≡◌, ℕ, List, [], ◌∷◌, map}
use Rattle.job_model.specs.Commands as jobs
use Rattle.job_report.specs.declared.outcomes.Outcome.{Outcome}
use Rattle.job_report.specs.declared.outcomes.Outcomes.{Outcomes}
use Rattle.qp_multi.specs.declared.meaning.Named.{Ghosts}
use Rattle.qp_multi.specs.Passes.{Known}
use Rattle.job_commands.specs.Histories.{OpenedWith}
use Rattle.job_commands.specs.Closings.{Gathers, Handed}
use Rattle.zones_model.specs.Commands.{Command}
use Rattle.zones_model.specs.Outcomes as model
use Rattle.zone_table.specs.declared.pass.ZonesPass.{ZonesPass}
use Rattle.zone_table.specs.Passes.{table_known, zone_known}
use Rattle.zones_report.specs.declared.outcomes.CommandEnds.{CommandEnds}
use Rattle.zones_threads.specs.Views.{Part, commands_of, outcomes_of, parts_in}
use Rattle.zones_threads.specs.Works.{TableOpenedWith, TableWork}

-- ---- one zone

-- the commands of each worker that are of a zone, with their outcomes
abbrev pub all_parts : ℕ → List (List Command) → List CommandEnds → List (List Part)
all_parts zone [] ds = []
all_parts zone (w ∷ ws) [] = []
all_parts zone (w ∷ ws) (d ∷ ds) = parts_in zone w d.list.items ∷ all_parts zone ws ds

abbrev pub zone_commands : ℕ → List (List Command) → List CommandEnds → List (List jobs.Command)
zone_commands zone ws ds = map commands_of (all_parts zone ws ds)

abbrev pub zone_outcomes : ℕ → List (List Command) → List CommandEnds → List (List Outcome)
zone_outcomes zone ws ds = map outcomes_of (all_parts zone ws ds)

-- what passes know of a zone, and of the table

abbrev pub zone_views : {X : Type 0} {N : Ghosts X} → ℕ → List (ZonesPass X N) → List Known
zone_views zone passes = map (λ p. zone_known p zone) passes

abbrev pub table_views : {X : Type 0} {N : Ghosts X} → List (ZonesPass X N) → List Known
table_views passes = map (λ p. table_known p) passes

-- The workers of a zone are done, as those of a job over that zone alone.
pub record ZoneGathers (s : OpenedWith) (zone : ℕ) (before : List Known) (ws : List (List Command)) (ds : List CommandEnds) (views : List Known) (main : Known) : Type 0 where
  pub outcomes : List Outcomes
  pub outcomes_are : map (λ (o : Outcomes). o.list.items) outcomes ≡ zone_outcomes zone ws ds
  pub gathers : Gathers s before (zone_commands zone ws ds) outcomes views main

-- ---- the table

-- A worker that is done, as far as the table is concerned: the number of its pass and what that knows, and what its commands came to.
pub record TableWorker (b : TableOpenedWith) : Type 0 where
  pub number : ℕ
  pub view : Known
  pub done : List model.CommandEnd
  pub work : TableWork b number view done

abbrev pub worker_views : {b : TableOpenedWith} → List (TableWorker b) → List Known
worker_views ws = map (λ w. w.view) ws

abbrev pub dones_in : {b : TableOpenedWith} → List (TableWorker b) → List (List model.CommandEnd)
dones_in ws = map (λ w. w.done) ws

-- Workers had passes of the table, and their commands came to this.
pub record TableGathers (b : TableOpenedWith) (before : List Known) (dones : List (List model.CommandEnd)) (views : List Known) (main : Known) : Type 0 where
  pub done : List (TableWorker b)
  pub dones_are : dones ≡ dones_in done
  pub views_are : views ≡ worker_views done
  pub handed : Handed b.opening (λ (w : TableWorker b). w.view) before views main done
