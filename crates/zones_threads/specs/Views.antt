-- Commands over several zones, and what they came to, as the definitions see them.
use Rattle.std.specs.Prelude.{◌≡◌, ℕ, List, [], ◌∷◌, ◌++◌, map, ◌==◌, if◌then◌else◌, Option, Some, None}
use Rattle.std.specs.Option.{option_map}
use Rattle.job_model.specs.Commands as jobs
use Rattle.job_model.specs.declared.Question.{Question}
use Rattle.job_model.specs.declared.Question.TheVariants as question
use Rattle.job_model.specs.Outcomes.{Shown}
use Rattle.job_report.specs.Outcomes.{ended_view, outcome_view}
use Rattle.job_script.specs.Views.{asked_view}
use Rattle.job_report.specs.declared.outcomes.Outcome.{Outcome}
use Rattle.zones_model.specs.Commands as model
use Rattle.zones_script.specs.Views.{worker_view}
use Rattle.zones_model.specs.Outcomes as model_outcomes
use Rattle.zones_script.specs.declared.commands.Command.{Command}
use Rattle.zones_script.specs.declared.commands.Command.TheVariants as command
use Rattle.zones_script.specs.declared.commands.Worker.{Worker}
use Rattle.zones_report.specs.declared.outcomes.Answer.{Answer}
use Rattle.zones_report.specs.declared.outcomes.CommandEnd.{CommandEnd}
use Rattle.zones_report.specs.declared.outcomes.CommandEnd.TheVariants as done
use Rattle.zones_report.specs.declared.outcomes.CommandEnds.{CommandEnds}

abbrev pub workers_view : List Worker → List (List model.Command)
workers_view workers = map worker_view workers

-- ---- one zone

-- a command of one zone with its outcome there
pub record Part : Type 0 where
  pub command : jobs.Command
  pub outcome : Outcome

abbrev pub answer_part : ℕ → Question → Option Answer → List Part
answer_part zone question None = []
answer_part zone question (Some a) = if a.zone == zone then record { command = jobs.Ask question; outcome = a.outcome } ∷ [] else []

-- what became of a command, as of a zone's, if it is of that zone
abbrev pub part_in : ℕ → model.Command → CommandEnd → List Part
part_in zone (model.Get name rtype) (done.Got table answer) = answer_part zone (question.Get name rtype) answer
part_in zone (model.Block changed weight asked ending) (done.Ran ran o) = if changed == zone then record { command = jobs.Block weight asked ending; outcome = o } ∷ [] else []
part_in zone c d = []

abbrev pub parts_in : ℕ → List model.Command → List CommandEnd → List Part
parts_in zone [] ds = []
parts_in zone (c ∷ cs) [] = []
parts_in zone (c ∷ cs) (d ∷ ds) = part_in zone c d ++ parts_in zone cs ds

abbrev pub commands_of : List Part → List jobs.Command
commands_of parts = map (λ (p : Part). p.command) parts

abbrev pub outcomes_of : List Part → List Outcome
outcomes_of parts = map (λ (p : Part). p.outcome) parts
