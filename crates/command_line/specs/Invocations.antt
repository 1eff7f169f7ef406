-- Plain words of the command line.
use Rattle.std.specs.Prelude.{◌≡◌, ℕ, Bool, ◌&&◌, List, [], ◌∷◌, if◌then◌else◌, Option, Some, None, codes, is_none, option_and_then, unwrap_or}
use Rattle.std.specs.Option.{option_map}
use Rattle.std.specs.Str.{bytes_eq}
use Rattle.zone_model.specs.Names.{Name}
use Rattle.zone_model.specs.declared.Style.{Style}
use Rattle.zone_model.specs.declared.Style.TheVariants.{Full}
use Rattle.job_model.specs.Loads.{Load, made_origin}
use Rattle.zone_diff.specs.declared.DiffStyle.{DiffStyle}
use Rattle.zone_diff.specs.declared.DiffStyle.TheVariants.{Script}
use Rattle.zone_diff.specs.declared.Serial.{Serial}
use Rattle.zone_diff.specs.declared.Serial.TheVariants.{Keep}
use Rattle.command_line.specs.Options.{Options, no_options, options_from, load_of, chunks_given}

-- What is done: a job is run; it is said how large a zone's index is; a load's job is run, and summed up; a zone is written; one list
-- of commands is run by so many workers; it is reckoned how many chunks a job needs; a job over several zones is run; what makes of a
-- zone another one is written; or lines are answered one by one, on an index of a number of chunks where one is asked for.
pub data Verb : Type 0 where
  Run : Verb
  Check : Verb
  Make : (load : Load) → Verb
  Dump : (style : Style) → Verb
  Feed : (workers : ℕ) → Verb
  Size : Verb
  Zones : Verb
  Diff : (style : DiffStyle) (serial : Serial) → Verb
  Live : (asked : Option ℕ) → Verb

-- what to do under an origin, over a number of chunks
pub record Invocation : Type 0 where
  pub verb : Verb
  pub origin : Name
  pub chunks : ℕ

-- a load's names are under an origin of their own; several zones are under the root
abbrev pub IsUnder : Verb → Name → Type 0
IsUnder Run origin = Unit {0}
IsUnder Check origin = Unit {0}
IsUnder (Make load) origin = origin ≡ made_origin
IsUnder (Dump style) origin = Unit {0}
IsUnder (Feed workers) origin = Unit {0}
IsUnder Size origin = Unit {0}
IsUnder Zones origin = origin ≡ []
IsUnder (Diff style serial) origin = Unit {0}
IsUnder (Live asked) origin = Unit {0}

-- ---- a command and its options

-- an origin is given, and perhaps a number of chunks
abbrev pub under_origin : Options → Verb → Option Invocation
under_origin s verb = option_map (λ origin. record { verb = verb; origin = origin; chunks = chunks_given s }) s.origin

-- nothing of a load is given but perhaps its workers
abbrev pub makes_nothing : Options → Bool
makes_nothing s = is_none s.seed && is_none s.names && is_none s.turns

abbrev pub reading_of : Verb → Options → Option Invocation
reading_of verb s = if makes_nothing s && is_none s.style && is_none s.workers then under_origin s verb else None

abbrev pub dumping_of : Options → Option Invocation
dumping_of s = if makes_nothing s && is_none s.workers then under_origin s (Dump (unwrap_or s.style Full)) else None

abbrev pub feeding_of : Options → Option Invocation
feeding_of s = if makes_nothing s && is_none s.style then option_and_then (λ workers. under_origin s (Feed workers)) s.workers else None

-- an origin is given, and nothing else
abbrev pub sizing_of : Options → Option Invocation
sizing_of s = if is_none s.chunks then reading_of Size s else None

abbrev pub differing_of : Options → Option Invocation
differing_of s = if is_none s.chunks then reading_of (Diff Script Keep) s else None

-- nothing is given but perhaps a number of chunks
abbrev pub zones_of : Options → Option Invocation
zones_of s =
    if makes_nothing s && is_none s.origin && is_none s.style && is_none s.workers then Some (record { verb = Zones; origin = []; chunks = chunks_given s })
    else None

abbrev pub making_of : Options → Option Invocation
making_of s =
    if is_none s.origin && is_none s.style then option_map (λ load. record { verb = Make load; origin = made_origin; chunks = chunks_given s }) (load_of s)
    else None

-- what a command with these options says
abbrev pub asked_of : List ℕ → Options → Option Invocation
asked_of command s =
    if bytes_eq command (codes "run") then reading_of Run s
    else if bytes_eq command (codes "check") then reading_of Check s
    else if bytes_eq command (codes "make") then making_of s
    else if bytes_eq command (codes "dump") then dumping_of s
    else if bytes_eq command (codes "feed") then feeding_of s
    else if bytes_eq command (codes "size") then sizing_of s
    else if bytes_eq command (codes "zones") then zones_of s
    else if bytes_eq command (codes "diff") then differing_of s
    else if bytes_eq command (codes "live") then reading_of (Live s.chunks) s
    else None

-- what plain words say, the first of which is the program's name: a command and options of it, each option once with its value behind
-- it, an origin that is a name, and numbers within their limits; None where they aren't so
abbrev pub plain_of : List (List ℕ) → Option Invocation
plain_of [] = None
plain_of (program ∷ []) = None
plain_of (program ∷ command ∷ options) = option_and_then (asked_of command) (options_from options no_options)
