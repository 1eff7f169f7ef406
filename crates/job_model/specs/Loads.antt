-- A made load: a zone of numbered names, and a script in which each worker asks for and changes names of its own. It is
-- drawn from a seed.
use Rattle.std.specs.Prelude.{ℕ, zero, suc, ◌+◌, ◌*◌, ◌/◌, ◌%◌, ◌^◌, List, [], ◌∷◌, ◌++◌, ◌==◌, if◌then◌else◌, codes}
use Rattle.std.specs.List.{flat_map}
use Rattle.std.specs.Fmt.{decimal}
use Rattle.zone_model.specs.Names.{Name}

-- what the draws begin with; how many names the zone has beside the first two; how many turns each worker has
pub record Load : Type 0 where
  pub seed : ℕ
  pub names : ℕ
  pub turns : ℕ
  pub workers : ℕ

-- ---- draws: the upper half of a linear congruential generator of 64 bits (the factor and the summand are those of Knuth's MMIX)

abbrev pub next_state : ℕ → ℕ
next_state x = (x * 6364136223846793005 + 1442695040888963407) % 2 ^ 64

abbrev pub drawn : ℕ → ℕ
drawn x = x / 2 ^ 32

-- ---- turns

-- what a worker does in a turn: it asks for a name's address, gives it another one, deletes it, or asks what there is of it
pub data Turn : Type 0 where
  Gets : (name : ℕ) → Turn
  Moves : (name address : ℕ) → Turn
  Removes : (name : ℕ) → Turn
  Finds : (name : ℕ) → Turn

-- by a draw, with a name, and to an address
abbrev pub turn_of : ℕ → ℕ → ℕ → Turn
turn_of choice name address =
    if choice % 4 == 0 then Gets name
    else if choice % 4 == 1 then Moves name address
    else if choice % 4 == 2 then Removes name
    else Finds name

abbrev pub name_text : ℕ → List ℕ
name_text name = codes "n" ++ decimal name

-- an address of the network 10: the last three octets of a number are its own
abbrev pub address_text : ℕ → List ℕ
address_text c = codes "10." ++ decimal (c / 65536 % 256) ++ codes "." ++ decimal (c / 256 % 256) ++ codes "." ++ decimal (c % 256)

abbrev pub turn_lines : Turn → List (List ℕ)
turn_lines (Gets name) = (codes "get " ++ name_text name ++ codes " A") ∷ []
turn_lines (Moves name address) =
    codes "write"
    ∷ (codes "del " ++ name_text name ++ codes " A")
    ∷ (codes "add " ++ name_text name ++ codes " 300 A " ++ address_text address)
    ∷ codes "commit"
    ∷ []
turn_lines (Removes name) = codes "update" ∷ (codes "del " ++ name_text name) ∷ codes "commit" ∷ []
turn_lines (Finds name) = (codes "find " ++ name_text name) ∷ []

-- ---- workers

-- how many of the first names are a worker's own: those whose number leaves its remainder by the number of workers
unfoldable pub share : ℕ → ℕ → ℕ → ℕ
share workers remainder zero = 0
share workers remainder (suc name) = share workers remainder name + (if name % workers == remainder then 1 else 0)

-- what a worker has of the names: how many, the remainder of their numbers, and by how many workers that is
pub record Part : Type 0 where
  pub count : ℕ
  pub remainder : ℕ
  pub workers : ℕ

abbrev pub part_of : Load → ℕ → Part
part_of load remainder = record { count = share load.workers remainder load.names; remainder = remainder; workers = load.workers }

-- a turn takes three draws behind a state, of which the second picks one of the worker's names
abbrev pub turn_from : Part → ℕ → Turn
turn_from part x =
    turn_of (drawn (next_state x)) (part.remainder + part.workers * (drawn (next_state (next_state x)) % part.count)) (drawn (next_state (next_state (next_state x))))

abbrev pub state_behind : ℕ → ℕ
state_behind x = next_state (next_state (next_state x))

-- the lines of so many turns from a state on
unfoldable pub turns_from : Part → ℕ → ℕ → List (List ℕ)
turns_from part zero x = []
turns_from part (suc turns) x = turn_lines (turn_from part x) ++ turns_from part turns (state_behind x)

-- the state behind so many turns
unfoldable pub state_after : ℕ → ℕ → ℕ
state_after zero x = x
state_after (suc turns) x = state_after turns (state_behind x)

-- a worker without names has no turns
abbrev pub turns_of : Part → ℕ → ℕ
turns_of part turns = if part.count == 0 then 0 else turns

-- the lines of the worker whose numbers leave a remainder, from a state on, and the state behind them
abbrev pub worker_lines : Load → ℕ → ℕ → List (List ℕ)
worker_lines load remainder x = codes "worker" ∷ turns_from (part_of load remainder) (turns_of (part_of load remainder) load.turns) x

abbrev pub worker_state : Load → ℕ → ℕ → ℕ
worker_state load remainder x = state_after (turns_of (part_of load remainder) load.turns) x

-- the lines of so many workers, the first of which has a remainder, from a state on
unfoldable pub workers_from : Load → ℕ → ℕ → ℕ → List (List ℕ)
workers_from load zero remainder x = []
workers_from load (suc workers) remainder x = worker_lines load remainder x ++ workers_from load workers (remainder + 1) (worker_state load remainder x)

-- ---- the whole

abbrev pub first_lines : List (List ℕ)
first_lines = codes "$TTL 300" ∷ codes "@ SOA ns hostmaster 1 3600 600 86400 60" ∷ codes "@ NS ns" ∷ codes "ns A 192.0.2.1" ∷ []

-- the lines of the first names
unfoldable pub names_lines : ℕ → List (List ℕ)
names_lines zero = []
names_lines (suc name) = names_lines name ++ (name_text name ++ codes " A 10.0.0.1") ∷ []

-- the zone's lines, and the script's
abbrev pub load_lines : Load → List (List ℕ)
load_lines load = first_lines ++ names_lines load.names ++ codes "%%" ∷ workers_from load load.workers 0 load.seed

abbrev pub line_text : List ℕ → List ℕ
line_text line = line ++ codes "\n"

-- the text of a load
abbrev pub made_text : Load → List ℕ
made_text load = flat_map line_text (load_lines load)

-- the origin that a load's names are under: example.
abbrev pub made_origin : Name
made_origin = codes "example" ∷ []
