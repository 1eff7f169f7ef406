-- A transaction: what it wants of the version that it changes, and its operations.
use Rattle.std.specs.Prelude.{ℕ, Bool, true, false, ◌&&◌, not, List, [], ◌∷◌, if◌then◌else◌, Option, Some, None, is_some, Result, Err}
use Rattle.zone_model.specs.Names.{Name}
use Rattle.zone_model.specs.Records.{Entry, rrset_of}
use Rattle.zone_model.specs.Versions.{Version, Operation, owned, all_applied}
use Rattle.zone_model.specs.declared.Refusal.{Refusal}
use Rattle.zone_model.specs.declared.Refusal.TheVariants.{Prereq}

-- ---- prerequisites (RFC 2136, section 2.4, the forms without data)

-- a name is to own a record, or one of a type; or it is to own none
pub record Prerequisite : Type 0 where
  pub owner : Name
  pub rtype : Option ℕ
  pub wanted : Bool

-- an entry has a record, or one of a type
abbrev pub has_some : Option ℕ → Entry → Bool
has_some None [] = false
has_some None (first ∷ rest) = true
has_some (Some rtype) entry = is_some (rrset_of rtype entry)

-- met by what the name owns
abbrev pub is_met_by : Entry → Prerequisite → Bool
is_met_by entry p = if p.wanted then has_some p.rtype entry else not (has_some p.rtype entry)

abbrev pub all_met : Version → List Prerequisite → Bool
all_met version [] = true
all_met version (p ∷ rest) = is_met_by (owned p.owner version) p && all_met version rest

-- ---- transactions

pub record Transaction : Type 0 where
  pub needs : List Prerequisite
  pub operations : List Operation

-- one that changes nothing
abbrev pub no_changes : Transaction
no_changes = record { needs = []; operations = [] }

-- What a transaction makes of a version: nothing where a prerequisite isn't met, and else what its operations make of it, or the first
-- refusal.
abbrev pub whole : Name → Transaction → Version → Result Version Refusal
whole origin t version = if all_met version t.needs then all_applied origin t.operations version else Err Prereq
