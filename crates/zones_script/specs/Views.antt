-- Scripts over zones as the definitions see them.
use Rattle.std.specs.Prelude.{ℕ, List, map}
use Rattle.std.specs.Option.{option_map}
use Rattle.zone_text.specs.Tokens.{IsPlaced, token_view}
use Rattle.job_script.specs.Views.{asked_view}
use Rattle.job_script.specs.Scripts as alone
use Rattle.zones_model.specs.Commands as says
use Rattle.zones_script.specs.Phrases as phrases
use Rattle.zones_script.specs.Scripts as zones
use Rattle.zones_script.specs.declared.commands.Command.{Command}
use Rattle.zones_script.specs.declared.commands.Command.TheVariants as command
use Rattle.zones_script.specs.declared.commands.Worker.{Worker}
use Rattle.zones_script.specs.declared.commands.ZonesScript.{ZonesScript}
use Rattle.zones_script.specs.declared.phrases.Phrase.{Phrase}
use Rattle.zones_script.specs.declared.phrases.Phrase.TheVariants as phrase
use Rattle.zones_script.specs.declared.script.Chosen.{Chosen}
use Rattle.zones_script.specs.declared.script.OpenBlock.{OpenBlock}
use Rattle.zones_script.specs.declared.script.Script.{Script}

-- ---- commands

abbrev pub command_view : Command → says.Command
command_view (command.Get name rtype) = says.Get name rtype
command_view (command.Block zone block) = says.Block zone block.weight (asked_view block) block.ending
command_view (command.Attach zone) = says.Attach zone
command_view (command.Detach zone) = says.Detach zone

-- it may wait for the right to write
abbrev pub MayWait : Command → Type 0
MayWait (command.Get name rtype) = ⊥
MayWait (command.Block zone block) = Unit {0}
MayWait (command.Attach zone) = Unit {0}
MayWait (command.Detach zone) = Unit {0}

abbrev pub worker_view : Worker → List says.Command
worker_view w = map command_view w.commands.items

abbrev pub workers_view : ZonesScript → List (List says.Command)
workers_view s = map worker_view s.workers.items

-- ---- phrases

abbrev pub phrase_view : List ℕ → Phrase → phrases.Phrase
phrase_view bytes phrase.Worker = phrases.Worker
phrase_view bytes (phrase.Gets name rtype) = phrases.Gets (token_view bytes name) (token_view bytes rtype)
phrase_view bytes (phrase.Opens weight origin) = phrases.Opens weight (token_view bytes origin)
phrase_view bytes (phrase.Attaches origin) = phrases.Attaches (token_view bytes origin)
phrase_view bytes (phrase.Detaches origin) = phrases.Detaches (token_view bytes origin)

-- the tokens lie inside the bytes
abbrev pub PhrasePlaced : List ℕ → Phrase → Type 0
PhrasePlaced bytes phrase.Worker = Unit {0}
PhrasePlaced bytes (phrase.Gets name rtype) = IsPlaced bytes name × IsPlaced bytes rtype
PhrasePlaced bytes (phrase.Opens _ origin) = IsPlaced bytes origin
PhrasePlaced bytes (phrase.Attaches origin) = IsPlaced bytes origin
PhrasePlaced bytes (phrase.Detaches origin) = IsPlaced bytes origin

-- ---- scripts

abbrev pub chosen_view : Chosen → zones.Chosen
chosen_view c = record { zone = c.zone; origin = c.origin }

abbrev pub open_view : OpenBlock → zones.OpenBlock
open_view b = record { chosen = chosen_view b.chosen; alone = alone.script_view b.alone }

abbrev pub script_view : Script → zones.Script
script_view s = record {
  earlier = map worker_view s.earlier.items;
  begun = s.begun;
  commands = map command_view s.commands.items;
  block = option_map open_view s.block;
}
