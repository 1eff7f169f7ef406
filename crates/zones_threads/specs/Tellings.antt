-- What became of commands tells what is so.
use Rattle.std.specs.Prelude.{ℕ, List, [], ◌∷◌, Option, Some, None, slice_index_or}
use Rattle.zone_model.specs.MasterFile.{Zone}
use Rattle.zone_model.specs.Names.{Name}
use Rattle.zone_model.specs.Versions.{Version}
use Rattle.job_model.specs.declared.Question.TheVariants as question
use Rattle.job_model.specs.Replies.{reply_of}
use Rattle.job_report.specs.Outcomes.{EachTells, EndsBlock, Replies}
use Rattle.zones_model.specs.Commands.{Command, Get, Block}
use Rattle.zones_model.specs.Reports.{no_zone}
use Rattle.zones_report.specs.declared.outcomes.Answer.{Answer}
use Rattle.zones_report.specs.declared.outcomes.CommandEnd.{CommandEnd}
use Rattle.zones_report.specs.declared.outcomes.CommandEnd.TheVariants as done
use Rattle.zones_report.specs.declared.outcomes.CommandEnds.{CommandEnds}
use Rattle.zones_threads.specs.Views.{Part, commands_of, outcomes_of}

-- the text is that of what the version answers that is shown
abbrev pub AnswerTells : List Zone → (ℕ → ℕ → Version) → Name → ℕ → Option Answer → Type 0
AnswerTells zones set name rtype None = Unit {0}
AnswerTells zones set name rtype (Some a) = Replies (reply_of (slice_index_or zones a.zone no_zone).origin (set a.zone a.outcome.version) (question.Get name rtype)) a.outcome.told

abbrev pub CommandEndTells : List Zone → (ℕ → ℕ → Version) → Command → CommandEnd → Type 0
CommandEndTells zones set (Get name rtype) (done.Got table answer) = AnswerTells zones set name rtype answer
CommandEndTells zones set (Block zone _ asked ending) (done.Ran ran o) = EndsBlock o.told
CommandEndTells zones set c d = Unit {0}

-- each of a worker's, and of all workers'

abbrev pub WorkerTells : List Zone → (ℕ → ℕ → Version) → List Command → List CommandEnd → Type 0
WorkerTells zones set [] ds = Unit {0}
WorkerTells zones set (c ∷ cs) [] = Unit {0}
WorkerTells zones set (c ∷ cs) (d ∷ ds) = CommandEndTells zones set c d × WorkerTells zones set cs ds

abbrev pub WorkersTell : List Zone → (ℕ → ℕ → Version) → List (List Command) → List CommandEnds → Type 0
WorkersTell zones set [] ds = Unit {0}
WorkersTell zones set (w ∷ ws) [] = Unit {0}
WorkersTell zones set (w ∷ ws) (d ∷ ds) = WorkerTells zones set w d.list.items × WorkersTell zones set ws ds

-- what is of one zone tells what is so of that
abbrev pub PartsTell : Name → (ℕ → Version) → List Part → Type 0
PartsTell origin set parts = EachTells origin set (commands_of parts) (outcomes_of parts)
