-- What a script is read from, and what is so of all that one may say.
use Rattle.std.specs.Prelude.{ℕ, ◌+◌, ◌<◌, ◌≤◌, ◌^◌, List, length}
use Rattle.std.specs.List.{AllByRecursion}
use Rattle.zone_model.specs.Names.{IsName, Name}
use Rattle.zones_script.specs.Views.{workers_view}
use Rattle.zones_script.specs.declared.commands.ZonesScript.{ZonesScript}
use Rattle.zones_threads.specs.Sites.{IsSaid}

-- octets whose first line has a number
pub record IsText (first : ℕ) (bytes : List ℕ) : Type 0 where
  -- they are within the limit of an input
  pub short : length bytes ≤ 2 ^ 24
  -- the numbers of all lines are below 2^32
  pub few : first + length bytes < 2 ^ 32

-- origins of zones that one script may be over
pub record AreOrigins (origins : List Name) : Type 0 where
  -- there are sixteen at most
  pub zones : length origins ≤ 16
  -- each is a name
  pub names : AllByRecursion IsName origins

-- a script over zones of these origins
pub record IsScriptOver (origins : List Name) (script : ZonesScript) : Type 0 where
  -- it has sixteen workers at most
  pub few_workers : length script.workers.items ≤ 16
  -- what its blocks ask for are changes of their zones
  pub said : AllByRecursion (AllByRecursion (IsSaid origins)) (workers_view script)
