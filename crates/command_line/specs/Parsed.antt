-- The command line as clap reads it.
use Rattle.std.specs.Prelude.{ℕ, Bool, true, false, List, [], ◌∷◌, if◌then◌else◌, Option, Some, None, codes, option_and_then}
use Rattle.std.specs.Option.{option_map}
use Rattle.std.specs.Str.{bytes_eq}
use Rattle.zone_model.specs.Names.{Name}
use Rattle.zone_model.specs.NameText.{name_of}
use Rattle.zone_model.specs.Texts.{named}
use Rattle.zone_model.specs.declared.Style.{Style}
use Rattle.zone_model.specs.declared.Style.TheVariants.{Full}
use Rattle.job_model.specs.Loads.{Load, made_origin}
use Rattle.zone_diff.specs.declared.DiffStyle.{DiffStyle}
use Rattle.zone_diff.specs.declared.DiffStyle.TheVariants.{Script, Nsupdate}
use Rattle.zone_diff.specs.declared.Serial.{Serial}
use Rattle.zone_diff.specs.declared.Serial.TheVariants.{Keep, Ignore}
use Rattle.clap.specs.Walk.{Row, Rule, first_of, is_empty}
use Rattle.clap.specs.Simple.{App, Shape, new_rule, new_shape, subcommand_of, with_rule, with_subcommand}
use Rattle.clap.specs.Faults.{fault_of}
use Rattle.clap.specs.declared.builder.action.ArgAction.TheVariants.{Set}
use Rattle.command_line.specs.Numbers.{chunks_of, default_chunks, seed_of, names_of, turns_of, workers_of}
use Rattle.command_line.specs.Options.{load_by, style_of}
use Rattle.command_line.specs.Invocations.{Invocation, Verb, Run, Check, Make, Dump, Feed, Size, Zones, Diff, Live}

-- ---- the command line that clap is given

-- an option with a value
abbrev pub option_rule : List ℕ → Bool → Rule
option_rule name required = record (new_rule name) { long = Some name; action = Some Set; required = required }

-- options join those of a command
abbrev pub with_options : App → List Rule → App
with_options app [] = app
with_options app (rule ∷ more) = with_options (with_rule app rule) more

-- commands join those of the program
abbrev pub with_commands : App → List Shape → App
with_commands app [] = app
with_commands app (shape ∷ more) = with_commands (with_subcommand app shape) more

abbrev pub reading_shape : List ℕ → Shape
reading_shape name = record (new_shape name) { rules = option_rule (codes "origin") true ∷ option_rule (codes "chunks") false ∷ [] }

abbrev pub making_shape : Shape
making_shape = record (new_shape (codes "make")) {
  rules = option_rule (codes "seed") true
      ∷ option_rule (codes "names") true
      ∷ option_rule (codes "turns") true
      ∷ option_rule (codes "workers") true
      ∷ option_rule (codes "chunks") false
      ∷ [];
}

abbrev pub dumping_shape : Shape
dumping_shape = record (new_shape (codes "dump")) {
  rules = option_rule (codes "origin") true ∷ option_rule (codes "style") false ∷ option_rule (codes "chunks") false ∷ [];
}

abbrev pub feeding_shape : Shape
feeding_shape = record (new_shape (codes "feed")) {
  rules = option_rule (codes "origin") true ∷ option_rule (codes "workers") true ∷ option_rule (codes "chunks") false ∷ [];
}

abbrev pub sizing_shape : Shape
sizing_shape = record (new_shape (codes "size")) { rules = option_rule (codes "origin") true ∷ [] }

abbrev pub zones_shape : Shape
zones_shape = record (new_shape (codes "zones")) { rules = option_rule (codes "chunks") false ∷ [] }

abbrev pub differing_shape : Shape
differing_shape = record (new_shape (codes "diff")) {
  rules = option_rule (codes "origin") true ∷ option_rule (codes "style") false ∷ option_rule (codes "serial") false ∷ [];
}

abbrev pub program_app : App
program_app = record {
  top = record (new_shape (codes "qpzone")) { is_leaf = false; subcommand_required = true };
  subs = reading_shape (codes "run") ∷ reading_shape (codes "check") ∷ making_shape ∷ dumping_shape ∷ feeding_shape ∷ sizing_shape ∷ zones_shape ∷ differing_shape ∷ reading_shape (codes "live") ∷ [];
}

-- ---- what is meant by what clap gives

-- a value that may be left out
abbrev pub chunks_in : Option (List ℕ) → Option ℕ
chunks_in None = Some default_chunks
chunks_in (Some value) = chunks_of value

abbrev pub origin_in : Option (List ℕ) → Option Name
origin_in value = option_and_then (λ v. named (name_of v [])) value

abbrev pub style_in : Option (List ℕ) → Option Style
style_in None = Some Full
style_in (Some value) = style_of value

abbrev pub invocation : Option Verb → Option Name → Option ℕ → Option Invocation
invocation None origin chunks = None
invocation (Some verb) None chunks = None
invocation (Some verb) (Some origin) None = None
invocation (Some verb) (Some origin) (Some chunks) = Some (record { verb = verb; origin = origin; chunks = chunks })

abbrev pub reading_in : Option Verb → List Row → Option Invocation
reading_in verb rows = invocation verb (origin_in (first_of (codes "origin") rows)) (chunks_in (first_of (codes "chunks") rows))

abbrev pub sizing_in : List Row → Option Invocation
sizing_in rows = invocation (Some Size) (origin_in (first_of (codes "origin") rows)) (Some default_chunks)

abbrev pub zones_in : List Row → Option Invocation
zones_in rows = invocation (Some Zones) (Some []) (chunks_in (first_of (codes "chunks") rows))

abbrev pub diff_style_of : List ℕ → Option DiffStyle
diff_style_of value = if bytes_eq value (codes "script") then Some Script else if bytes_eq value (codes "nsupdate") then Some Nsupdate else None

abbrev pub diff_style_in : Option (List ℕ) → Option DiffStyle
diff_style_in None = Some Script
diff_style_in (Some value) = diff_style_of value

abbrev pub serial_of : List ℕ → Option Serial
serial_of value = if bytes_eq value (codes "keep") then Some Keep else if bytes_eq value (codes "ignore") then Some Ignore else None

abbrev pub serial_in : Option (List ℕ) → Option Serial
serial_in None = Some Keep
serial_in (Some value) = serial_of value

abbrev pub diff_by : Option DiffStyle → Option Serial → Option Verb
diff_by None serial = None
diff_by (Some style) None = None
diff_by (Some style) (Some serial) = Some (Diff style serial)

abbrev pub diff_in : List Row → Option Verb
diff_in rows = diff_by (diff_style_in (first_of (codes "style") rows)) (serial_in (first_of (codes "serial") rows))

abbrev pub differing_in : List Row → Option Invocation
differing_in rows = invocation (diff_in rows) (origin_in (first_of (codes "origin") rows)) (Some default_chunks)

-- a number of chunks that is asked for, if one is
abbrev pub chunks_asked : Option (List ℕ) → Option (Option ℕ)
chunks_asked None = Some None
chunks_asked (Some value) = option_map Some (chunks_of value)

abbrev pub living_in : List Row → Option Invocation
living_in rows = reading_in (option_map Live (chunks_asked (first_of (codes "chunks") rows))) rows

abbrev pub load_in : List Row → Option Load
load_in rows = load_by (option_and_then seed_of (first_of (codes "seed") rows)) (option_and_then names_of (first_of (codes "names") rows)) (option_and_then turns_of (first_of (codes "turns") rows)) (option_and_then workers_of (first_of (codes "workers") rows))

abbrev pub making_by : Option Load → Option ℕ → Option Invocation
making_by None chunks = None
making_by (Some load) None = None
making_by (Some load) (Some chunks) = Some (record { verb = Make load; origin = made_origin; chunks = chunks })

-- a subcommand's name and its options
abbrev pub asked_by : List ℕ → List Row → Option Invocation
asked_by name rows =
    if bytes_eq name (codes "run") then reading_in (Some Run) rows
    else if bytes_eq name (codes "check") then reading_in (Some Check) rows
    else if bytes_eq name (codes "make") then making_by (load_in rows) (chunks_in (first_of (codes "chunks") rows))
    else if bytes_eq name (codes "dump") then reading_in (option_map Dump (style_in (first_of (codes "style") rows))) rows
    else if bytes_eq name (codes "feed") then reading_in (option_map Feed (option_and_then workers_of (first_of (codes "workers") rows))) rows
    else if bytes_eq name (codes "size") then sizing_in rows
    else if bytes_eq name (codes "zones") then zones_in rows
    else if bytes_eq name (codes "diff") then differing_in rows
    else if bytes_eq name (codes "live") then living_in rows
    else None

abbrev pub asked_in : Option (List ℕ × List Row) → Option Invocation
asked_in found = option_and_then (λ x. asked_by x.0 x.1) found

-- what the words say as clap reads them; None where it refuses them, or an origin isn't a name, a style is none, or a number isn't
-- decimal digits within its limits
abbrev pub parsed_of : List (List ℕ) → Option Invocation
parsed_of words = if is_empty (fault_of program_app words) then asked_in (subcommand_of program_app words) else None
