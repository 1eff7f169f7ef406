-- The command line as the definitions see it.
use Rattle.command_line.specs.Invocations as lines
use Rattle.command_line.specs.Options as options
use Rattle.command_line.specs.declared.invocation.Invocation.{Invocation}
use Rattle.command_line.specs.declared.invocation.Verb.{Verb}
use Rattle.command_line.specs.declared.invocation.Verb.TheVariants.{Run, Check, Make, Dump, Feed, Size, Zones, Diff, Live}
use Rattle.command_line.specs.declared.given.Options.{Options}
use Rattle.job_make.specs.Views.{load_view}

abbrev pub verb_view : Verb → lines.Verb
verb_view Run = lines.Run
verb_view Check = lines.Check
verb_view (Make load) = lines.Make (load_view load)
verb_view (Dump style) = lines.Dump style
verb_view (Feed crew) = lines.Feed crew.workers
verb_view Size = lines.Size
verb_view Zones = lines.Zones
verb_view (Diff comparison) = lines.Diff comparison.style comparison.serial
verb_view (Live asked) = lines.Live asked.chunks

abbrev pub invocation_view : Invocation → lines.Invocation
invocation_view i = record { verb = verb_view i.verb; origin = i.origin; chunks = i.chunks }

abbrev pub options_view : Options → options.Options
options_view s = record {
  origin = s.origin;
  chunks = s.chunks;
  style = s.style;
  workers = s.workers;
  seed = s.seed;
  names = s.names;
  turns = s.turns;
}
