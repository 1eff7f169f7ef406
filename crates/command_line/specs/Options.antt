-- The options of a command line.
use Rattle.std.specs.Prelude.{ℕ, not, List, [], ◌∷◌, ◌==◌, Bool, false, if◌then◌else◌, Option, Some, None, codes, option_and_then, unwrap_or}
use Rattle.std.specs.Option.{option_map}
use Rattle.std.specs.Str.{bytes_eq}
use Rattle.zone_model.specs.Names.{Name}
use Rattle.zone_model.specs.NameText.{name_of}
use Rattle.zone_model.specs.Texts.{named}
use Rattle.zone_model.specs.declared.Style.{Style}
use Rattle.zone_model.specs.declared.Style.TheVariants.{Full, Short}
use Rattle.job_model.specs.Loads.{Load}
use Rattle.command_line.specs.Numbers.{chunks_of, default_chunks, seed_of, names_of, turns_of, workers_of}

-- what was given so far
pub record Options : Type 0 where
  pub origin : Option Name
  pub chunks : Option ℕ
  pub style : Option Style
  pub workers : Option ℕ
  pub seed : Option ℕ
  pub names : Option ℕ
  pub turns : Option ℕ

abbrev pub no_options : Options
no_options = record { origin = None; chunks = None; style = None; workers = None; seed = None; names = None; turns = None }

-- ---- values

-- a value that is plain: it isn't empty and doesn't begin with a dash
abbrev pub is_plain_value : List ℕ → Bool
is_plain_value [] = false
is_plain_value (c ∷ text) = not (c == 45)

-- the origin, read under the root
abbrev pub origin_of : List ℕ → Option Name
origin_of value = if is_plain_value value then named (name_of value []) else None

abbrev pub style_of : List ℕ → Option Style
style_of value = if bytes_eq value (codes "full") then Some Full else if bytes_eq value (codes "short") then Some Short else None

-- ---- options

-- a value that wasn't given before
abbrev pub first : {A : Type 0} → Option A → Option A → Option A
first (Some there) value = None
first None value = value

-- a value that is given once
abbrev pub once : {A : Type 0} → Option A → Option A → (A → Options) → Option Options
once before value with_value = option_map with_value (first before value)

-- an option joins those before it, unless it stands there already, or it or its value is none
abbrev pub with_option : List ℕ → List ℕ → Options → Option Options
with_option option value s =
    if bytes_eq option (codes "--origin") then once s.origin (origin_of value) (λ n. record s { origin = Some n })
    else if bytes_eq option (codes "--chunks") then once s.chunks (chunks_of value) (λ n. record s { chunks = Some n })
    else if bytes_eq option (codes "--style") then once s.style (style_of value) (λ n. record s { style = Some n })
    else if bytes_eq option (codes "--workers") then once s.workers (workers_of value) (λ n. record s { workers = Some n })
    else if bytes_eq option (codes "--seed") then once s.seed (seed_of value) (λ n. record s { seed = Some n })
    else if bytes_eq option (codes "--names") then once s.names (names_of value) (λ n. record s { names = Some n })
    else if bytes_eq option (codes "--turns") then once s.turns (turns_of value) (λ n. record s { turns = Some n })
    else None

-- words join the options, each with its value behind it
unfoldable pub options_from : List (List ℕ) → Options → Option Options
options_from [] s = Some s
options_from (option ∷ []) s = None
options_from (option ∷ value ∷ rest) s = option_and_then (options_from rest) (with_option option value s)

-- the numbers of a load are all given
abbrev pub load_by : Option ℕ → Option ℕ → Option ℕ → Option ℕ → Option Load
load_by None names turns workers = None
load_by (Some seed) None turns workers = None
load_by (Some seed) (Some names) None workers = None
load_by (Some seed) (Some names) (Some turns) None = None
load_by (Some seed) (Some names) (Some turns) (Some workers) = Some (record { seed = seed; names = names; turns = turns; workers = workers })

abbrev pub load_of : Options → Option Load
load_of s = load_by s.seed s.names s.turns s.workers

abbrev pub chunks_given : Options → ℕ
chunks_given s = unwrap_or s.chunks default_chunks
