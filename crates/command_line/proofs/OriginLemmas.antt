-- A load that words ask for is under its own origin, and several zones are under the root.
use Rattle.std.proofs.Common.{ℕ, Bool, true, false, cond, ◌&&◌, List, [], ◌∷◌, Option, Some, None, codes, option_and_then, unwrap_or, is_none, refl}
use Rattle.std.specs.Option.{option_map}
use Rattle.std.specs.Str.{bytes_eq}
use Rattle.zone_model.specs.Names.{Name}
use Rattle.job_model.specs.Loads.{Load, made_origin}
use Rattle.clap.specs.Faults.{fault_of}
use Rattle.clap.specs.Simple.{subcommand_of}
use Rattle.clap.specs.Walk.{Row, first_of, is_empty}
use Rattle.zone_model.specs.declared.Style.{Style}
use Rattle.zone_model.specs.declared.Style.TheVariants.{Full}
use Rattle.zone_diff.specs.declared.DiffStyle.{DiffStyle}
use Rattle.zone_diff.specs.declared.DiffStyle.TheVariants.{Script}
use Rattle.zone_diff.specs.declared.Serial.{Serial}
use Rattle.zone_diff.specs.declared.Serial.TheVariants.{Keep}
use Rattle.command_line.specs.Numbers.{default_chunks, workers_of}
use Rattle.command_line.specs.Options.{Options, chunks_given, load_of, no_options, options_from}
use Rattle.command_line.specs.Invocations.{Invocation, IsUnder, Verb, Run, Check, Make, Dump, Feed, Size, Zones, Diff, Live, asked_of, differing_of, dumping_of, feeding_of, makes_nothing, making_of, plain_of, reading_of, sizing_of, under_origin, zones_of}
use Rattle.command_line.specs.Parsed.{asked_in, chunks_asked, chunks_in, diff_by, diff_style_in, differing_in, invocation, living_in, load_in, making_by, origin_in, parsed_of, program_app, reading_in, serial_in, sizing_in, style_in, zones_in}
use Rattle.command_line.specs.Words.{invocation_of, or_else}

abbrev pub AllUnder : Option Invocation → Type 0
AllUnder None = Unit {0}
AllUnder (Some i) = IsUnder i.verb i.origin

either_under : (b : Bool) (x y : Option Invocation) → AllUnder x → AllUnder y → AllUnder (cond b x y)
either_under true x y h k = h
either_under false x y h k = k

-- what plain words say
origin_under : (verb : Verb) (chunks : ℕ) (origin : Option Name) → ((name : Name) → IsUnder verb name) → AllUnder (option_map (λ name. record { verb = verb; origin = name; chunks = chunks }) origin)
origin_under verb chunks None any = tt
origin_under verb chunks (Some origin) any = any origin

feed_under : (s : Options) (workers : Option ℕ) → AllUnder (option_and_then (λ n. under_origin s (Feed n)) workers)
feed_under s None = tt
feed_under s (Some n) = origin_under (Feed n) (chunks_given s) s.origin (λ name. tt)

load_under : (load : Option Load) (chunks : ℕ) → AllUnder (option_map (λ l. record { verb = Make l; origin = made_origin; chunks = chunks }) load)
load_under None chunks = tt
load_under (Some load) chunks = refl

command_under : (command : List ℕ) (s : Options) → AllUnder (asked_of command s)
command_under command s =
    either_under (bytes_eq command (codes "run")) (reading_of Run s) _ (either_under (makes_nothing s && is_none s.style && is_none s.workers) (under_origin s Run) None (origin_under Run (chunks_given s) s.origin (λ name. tt)) tt)
    (either_under (bytes_eq command (codes "check")) (reading_of Check s) _ (either_under (makes_nothing s && is_none s.style && is_none s.workers) (under_origin s Check) None (origin_under Check (chunks_given s) s.origin (λ name. tt)) tt)
    (either_under (bytes_eq command (codes "make")) (making_of s) _ (either_under (is_none s.origin && is_none s.style) _ None (load_under (load_of s) (chunks_given s)) tt)
    (either_under (bytes_eq command (codes "dump")) (dumping_of s) _ (either_under (makes_nothing s && is_none s.workers) _ None (origin_under (Dump (unwrap_or s.style Full)) (chunks_given s) s.origin (λ name. tt)) tt)
    (either_under (bytes_eq command (codes "feed")) (feeding_of s) _ (either_under (makes_nothing s && is_none s.style) _ None (feed_under s s.workers) tt)
    (either_under (bytes_eq command (codes "size")) (sizing_of s) _ (either_under (is_none s.chunks) (reading_of Size s) None (either_under (makes_nothing s && is_none s.style && is_none s.workers) (under_origin s Size) None (origin_under Size (chunks_given s) s.origin (λ name. tt)) tt) tt)
    (either_under (bytes_eq command (codes "zones")) (zones_of s) _ (either_under (makes_nothing s && is_none s.origin && is_none s.style && is_none s.workers) _ None refl tt)
    (either_under (bytes_eq command (codes "diff")) (differing_of s) _ (either_under (is_none s.chunks) (reading_of (Diff Script Keep) s) None (either_under (makes_nothing s && is_none s.style && is_none s.workers) (under_origin s (Diff Script Keep)) None (origin_under (Diff Script Keep) (chunks_given s) s.origin (λ name. tt)) tt) tt)
    (either_under (bytes_eq command (codes "live")) (reading_of (Live s.chunks) s) None (either_under (makes_nothing s && is_none s.style && is_none s.workers) (under_origin s (Live s.chunks)) None (origin_under (Live s.chunks) (chunks_given s) s.origin (λ name. tt)) tt) tt))))))))

options_under : (command : List ℕ) (options : Option Options) → AllUnder (option_and_then (asked_of command) options)
options_under command None = tt
options_under command (Some s) = command_under command s

plain_under : (words : List (List ℕ)) → AllUnder (plain_of words)
plain_under [] = tt
plain_under (program ∷ []) = tt
plain_under (program ∷ command ∷ options) = options_under command (options_from options no_options)

-- what clap gives
dump_under : (style : Option Style) (origin : Option Name) (chunks : Option ℕ) → AllUnder (invocation (option_map Dump style) origin chunks)
dump_under None origin chunks = tt
dump_under (Some style) None chunks = tt
dump_under (Some style) (Some origin) None = tt
dump_under (Some style) (Some origin) (Some chunks) = tt

diff_under : (style : Option DiffStyle) (serial : Option Serial) (origin : Option Name) (chunks : Option ℕ) → AllUnder (invocation (diff_by style serial) origin chunks)
diff_under None serial origin chunks = tt
diff_under (Some style) None origin chunks = tt
diff_under (Some style) (Some serial) None chunks = tt
diff_under (Some style) (Some serial) (Some origin) None = tt
diff_under (Some style) (Some serial) (Some origin) (Some chunks) = tt

live_under : (asked : Option (Option ℕ)) (origin : Option Name) (chunks : Option ℕ) → AllUnder (invocation (option_map Live asked) origin chunks)
live_under None origin chunks = tt
live_under (Some asked) None chunks = tt
live_under (Some asked) (Some origin) None = tt
live_under (Some asked) (Some origin) (Some chunks) = tt

fed_under : (workers : Option ℕ) (origin : Option Name) (chunks : Option ℕ) → AllUnder (invocation (option_map Feed workers) origin chunks)
fed_under None origin chunks = tt
fed_under (Some workers) None chunks = tt
fed_under (Some workers) (Some origin) None = tt
fed_under (Some workers) (Some origin) (Some chunks) = tt

read_under : (verb : Verb) (origin : Option Name) (chunks : Option ℕ) → ((name : Name) → IsUnder verb name) → AllUnder (invocation (Some verb) origin chunks)
read_under verb None chunks any = tt
read_under verb (Some origin) None any = tt
read_under verb (Some origin) (Some chunks) any = any origin

zones_under : (chunks : Option ℕ) → AllUnder (invocation (Some Zones) (Some []) chunks)
zones_under None = tt
zones_under (Some chunks) = refl

making_under : (load : Option Load) (chunks : Option ℕ) → AllUnder (making_by load chunks)
making_under None chunks = tt
making_under (Some load) None = tt
making_under (Some load) (Some chunks) = refl

asked_under : (found : Option (List ℕ × List Row)) → AllUnder (asked_in found)
asked_under None = tt
asked_under (Some x) =
    let origin = origin_in (first_of (codes "origin") x.1) in
    let chunks = chunks_in (first_of (codes "chunks") x.1) in
    either_under (bytes_eq x.0 (codes "run")) (reading_in (Some Run) x.1) _ (read_under Run origin chunks (λ name. tt))
    (either_under (bytes_eq x.0 (codes "check")) (reading_in (Some Check) x.1) _ (read_under Check origin chunks (λ name. tt))
    (either_under (bytes_eq x.0 (codes "make")) (making_by (load_in x.1) chunks) _ (making_under (load_in x.1) chunks)
    (either_under (bytes_eq x.0 (codes "dump")) _ _ (dump_under (style_in (first_of (codes "style") x.1)) origin chunks)
    (either_under (bytes_eq x.0 (codes "feed")) _ _ (fed_under (option_and_then workers_of (first_of (codes "workers") x.1)) origin chunks)
    (either_under (bytes_eq x.0 (codes "size")) (sizing_in x.1) _ (read_under Size origin (Some default_chunks) (λ name. tt))
    (either_under (bytes_eq x.0 (codes "zones")) (zones_in x.1) _ (zones_under chunks)
    (either_under (bytes_eq x.0 (codes "diff")) (differing_in x.1) _ (diff_under (diff_style_in (first_of (codes "style") x.1)) (serial_in (first_of (codes "serial") x.1)) origin (Some default_chunks))
    (either_under (bytes_eq x.0 (codes "live")) (living_in x.1) None (live_under (chunks_asked (first_of (codes "chunks") x.1)) origin chunks) tt))))))))

parsed_under : (words : List (List ℕ)) → AllUnder (parsed_of words)
parsed_under words = either_under (is_empty (fault_of program_app words)) (asked_in (subcommand_of program_app words)) None (asked_under (subcommand_of program_app words)) tt

or_else_under : (x y : Option Invocation) → AllUnder x → AllUnder y → AllUnder (or_else x y)
or_else_under None y h k = k
or_else_under (Some i) y h k = h

pub words_under : (words : List (List ℕ)) → AllUnder (invocation_of words)
words_under words = or_else_under (plain_of words) (parsed_of words) (plain_under words) (parsed_under words)
