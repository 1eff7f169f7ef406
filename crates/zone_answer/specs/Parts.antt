-- Parts of an answer as the code has them.
use Rattle.std.specs.Prelude.{◌≡◌, ℕ, ◌-◌, ◌<◌, ◌≤◌, true, false, List, ◌++◌, length, map, take, if◌then◌else◌, Option, Some, None, Result, Ok, Err}
use Rattle.std.specs.Option.{is_some, option_map}
use Rattle.std.specs.declared.alloc.AllocError.{AllocError}
use Rattle.zone_model.specs.Names.{Name, ancestor}
use Rattle.zone_model.specs.Records.{Entry, rrset_of}
use Rattle.zone_model.specs.Versions.{Version, owned, exists}
use Rattle.zone_model.specs.Rows.{Row}
use Rattle.rr_data.specs.ItemViews.{SaysEntry}
use Rattle.zone_answer.specs.Answers as answers
use Rattle.zone_answer.specs.Answers.{Answer, Step, is_cut, cut_above, ns_type}
use Rattle.zone_answer.specs.declared.cut.Cut.{Cut}
use Rattle.zone_answer.specs.declared.kind.Kind.{Kind}
use Rattle.zone_answer.specs.declared.records.Held.{Held}
use Rattle.zone_answer.specs.declared.rows.Row.{Row as CodeRow}
use Rattle.zone_answer.specs.declared.step.Next.{Next}
use Rattle.zone_answer.specs.declared.step.Next.TheVariants.{Ends, Leads}

abbrev pub row_view : CodeRow → Row
row_view r = record { owner = r.owner; rtype = r.rtype; ttl = r.ttl; octets = r.rdata }

abbrev pub rows_in : List CodeRow → List Row
rows_in rows = map row_view rows

-- ---- what was read

-- the octets in front are those of what a name owns; there are some only where it is there
pub record IsRead (name : Name) (version : Version) (octets : List ℕ) (len : ℕ) : Type 0 where
  pub within : len ≤ length octets
  pub says : SaysEntry name (take len octets) (owned name version)
  pub there : 0 < len → exists name version ≡ true

-- the octets in front are those of an entry
pub record IsHeld (octets : List ℕ) (held : Held) (entry : Entry) : Type 0 where
  pub within : held.len ≤ length octets
  pub says : SaysEntry held.name (take held.len octets) entry

-- what answers for a name was read, if anything does
abbrev pub IsNodeOf : List ℕ → Option Entry → Option Held → Type 0
IsNodeOf octets node None = node ≡ None
IsNodeOf octets node (Some held) = (entry : Entry) × (node ≡ Some entry) × IsHeld octets held entry

-- the octets in front are those of a name, if anything was read
abbrev pub held_as : Name → Option ℕ → Option Held
held_as name len = option_map (λ n. record { name = name; len = n }) len

-- what a name owns, if it exists
abbrev pub own_node : Version → Name → Option Entry
own_node version name = if exists name version then Some (owned name version) else None

-- ---- cuts

-- a name, if it owns an NS set
abbrev pub delegated : Version → Name → Option Name
delegated version name = if is_some (rrset_of ns_type (owned name version)) then Some name else None

-- what the name of a cut owns was read
abbrev pub IsCutOf : Version → List ℕ → Option Name → Option Held → Type 0
IsCutOf version octets name None = name ≡ None
IsCutOf version octets name (Some held) = (name ≡ Some held.name) × IsHeld octets held (owned held.name version)

-- of the names at or above a name, none with so many labels or fewer is a cut
abbrev pub NoneTo : Name → Name → Version → ℕ → Type 0
NoneTo origin name version labels = (k : ℕ) → k ≤ labels → is_cut origin version (ancestor k name) ≡ false

-- the names above a name have no cut
abbrev pub NoneOver : Name → Name → Version → Type 0
NoneOver origin name version = NoneTo origin name version (length name - 1)

-- the name of a cut above a name, with what was read
abbrev pub held_at : Name → Cut → Held
held_at name cut = record { name = ancestor cut.labels name; len = cut.len }

-- the first cut, where one of the names above a name is a cut
abbrev pub IsCutOver : Name → Name → Version → List ℕ → Option Held → Type 0
IsCutOver origin name version octets None = NoneOver origin name version
IsCutOver origin name version octets (Some held) = IsCutOf version octets (cut_above origin version name) (Some held)

-- ---- one name

-- how an answer goes on, where an alias's target lies apart
abbrev pub next_view : Option Name → Next → answers.Next
next_view target (Ends kind) = answers.Ends kind
next_view target Leads = answers.LeadsTo target

-- what a sink had, and has since: some rows were added to whatever it had
abbrev pub Adds : (List Row → Type 0) → (List Row → Type 0) → List Row → Type 0
Adds had has added = (rows : List Row) → had rows → has (rows ++ added)

-- a step's rows were added, and it is told how the answer goes on
abbrev pub Gives : Step → (List Row → Type 0) → (List Row → Type 0) → Option Name → Result Next AllocError → Type 0
Gives step had has target (Ok next) = (next_view target next ≡ step.next) × Adds had has step.rows
Gives step had has target (Err e) = Unit {0}

-- the same, where anything is told
abbrev pub GivesAtOnce : Step → (List Row → Type 0) → (List Row → Type 0) → Option Name → Result (Option Next) AllocError → Type 0
GivesAtOnce step had has target (Ok None) = (rows : List Row) → had rows → has rows
GivesAtOnce step had has target (Ok (Some next)) = (next_view target next ≡ step.next) × Adds had has step.rows
GivesAtOnce step had has target (Err e) = Unit {0}

-- ---- the answer

-- a sink has an answer's rows, and its kind is told
pub record IsGiven (has : List Row → Type 0) (answer : Answer) (kind : Kind) : Type 0 where
  pub kind_is : kind ≡ answer.kind
  pub rows : has answer.rows
