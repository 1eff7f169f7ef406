-- The answer to a question: a name and a type (RFC 1034, sections 3.6.2 and 4.3.2; RFC 4592).
use Rattle.std.specs.Prelude.{ℕ, zero, suc, Bool, ◌&&◌, not, List, [], ◌∷◌, ◌++◌, reverse, ◌==◌, if◌then◌else◌, Option, Some, None}
use Rattle.std.specs.List.{find}
use Rattle.std.specs.Option.{is_some, option_map}
use Rattle.zone_model.specs.Names.{Name, is_under, same_name, star_under}
use Rattle.zone_model.specs.Records.{Rrset, Entry, rrset_of}
use Rattle.zone_model.specs.Splits.{split_name}
use Rattle.zone_model.specs.Versions.{Version, owned, cname_type, exists}
use Rattle.zone_model.specs.Rows.{Row, rows_of}
use Rattle.zone_answer.specs.declared.kind.Kind.{Kind}
use Rattle.zone_answer.specs.declared.kind.Kind.TheVariants.{Answered, Nodata, Nxdomain, Referral, Outside}

pub record Answer : Type 0 where
  pub kind : Kind
  pub rows : List Row

-- a name and the names above it, the nearest first
abbrev pub at_or_above : Name → List Name
at_or_above [] = [] ∷ []
at_or_above (label ∷ labels) = (label ∷ labels) ∷ at_or_above labels

-- ---- cuts

-- the type of an authoritative server (RFC 1035, section 3.3.11)
abbrev pub ns_type : ℕ
ns_type = 2

-- A name under the origin that owns an NS set: what lies at or under it is another zone's.
abbrev pub is_cut : Name → Version → Name → Bool
is_cut origin version name = is_under name origin && (not (same_name name origin) && is_some (rrset_of ns_type (owned name version)))

-- of the cuts at or above a name, the one nearest to the origin
abbrev pub cut_above : Name → Version → Name → Option Name
cut_above origin version name = find (is_cut origin version) (reverse (at_or_above name))

-- ---- wildcards

-- the closest encloser: the longest name at or above a name that exists
abbrev pub encloser : Version → Name → Option Name
encloser version name = find (λ above. exists above version) (at_or_above name)

-- what the wildcard right under a name owns, if the wildcard exists
abbrev pub wildcard_under : Version → Option Name → Option Entry
wildcard_under version None = None
wildcard_under version (Some name) = if exists (star_under name) version then Some (owned (star_under name) version) else None

-- What answers for a name: its own records, which may be none; for a name that doesn't exist, those of the wildcard right under its
-- closest encloser.
abbrev pub node : Version → Name → Option Entry
node version name = if exists name version then Some (owned name version) else wildcard_under version (encloser version name)

-- ---- one name

-- how an answer goes on: it ends, or an alias leads on; to no name, where its data are none
pub data Next : Type 0 where
  Ends : (kind : Kind) → Next
  LeadsTo : (target : Option Name) → Next

-- the rows that a name gives, and how the answer goes on
pub record Step : Type 0 where
  pub rows : List Row
  pub next : Next

abbrev pub set_rows : Name → Option Rrset → List Row
set_rows owner None = []
set_rows owner (Some s) = rows_of owner s

-- the name that an alias's data are; None where they are none
abbrev pub target_of : List (List ℕ) → Option Name
target_of [] = None
target_of (octets ∷ more) = option_map (λ x. x.0) (split_name octets)

-- the alias among a name's records, unless it is itself asked for
abbrev pub alias_in : ℕ → Entry → Option Rrset
alias_in rtype entry = if rtype == cname_type then None else rrset_of cname_type entry

abbrev pub by_type : Name → Option Rrset → Step
by_type owner None = record { rows = []; next = Ends Nodata }
by_type owner (Some s) = record { rows = rows_of owner s; next = Ends Answered }

abbrev pub by_alias : Name → ℕ → Entry → Option Rrset → Step
by_alias owner rtype entry None = by_type owner (rrset_of rtype entry)
by_alias owner rtype entry (Some alias) = record { rows = rows_of owner alias; next = LeadsTo (target_of alias.records) }

abbrev pub by_node : Name → ℕ → Option Entry → Step
by_node owner rtype None = record { rows = []; next = Ends Nxdomain }
by_node owner rtype (Some entry) = by_alias owner rtype entry (alias_in rtype entry)

abbrev pub by_cut : Version → Name → ℕ → Option Name → Step
by_cut version name rtype None = by_node name rtype (node version name)
by_cut version name rtype (Some cut) = record { rows = set_rows cut (rrset_of ns_type (owned cut version)); next = Ends Referral }

-- what a name at or under the origin gives
abbrev pub step : Name → Version → ℕ → Name → Step
step origin version rtype name = by_cut version name rtype (cut_above origin version name)

-- ---- the answer

-- the rows that were gathered are all
abbrev pub no_more : Answer
no_more = record { kind = Answered; rows = [] }

abbrev pub behind : List Row → Answer → Answer
behind rows answer = record { kind = answer.kind; rows = rows ++ answer.rows }

abbrev pub going_on : (Name → Answer) → Next → Answer
going_on at (Ends kind) = record { kind = kind; rows = [] }
going_on at (LeadsTo None) = no_more
going_on at (LeadsTo (Some target)) = at target

-- The answer for a name that aliases led to or that was asked for, where so many aliases may still be gathered: the last one ends
-- the answer, as does one that leads out of the zone.
unfoldable pub followed : ℕ → Name → Version → ℕ → Name → Answer
followed zero origin version rtype name = no_more
followed (suc left) origin version rtype name =
    if is_under name origin then
    behind (step origin version rtype name).rows (going_on (followed left origin version rtype) (step origin version rtype name).next)
    else no_more

-- how many aliases are gathered at most
abbrev pub most_aliases : ℕ
most_aliases = 16

abbrev pub answer : Name → Version → Name → ℕ → Answer
answer origin version name rtype =
    if is_under name origin then followed most_aliases origin version rtype name else record { kind = Outside; rows = [] }
