-- Operations and commands as scripts say them.
use Rattle.std.specs.Prelude.{◌≡◌, true, Option, Some, None}
use Rattle.std.specs.List.{AllByRecursion}
use Rattle.zone_model.specs.Names.{Name, IsName, is_under}
use Rattle.zone_model.specs.Versions.{Operation, Add, DeleteName, DeleteSet, DeleteRecord, Addition}
use Rattle.zone_model.specs.Rows.{Row}
use Rattle.zone_model.specs.Transactions.{Transaction}
use Rattle.master_file.specs.Rows.{IsRecord}
use Rattle.job_model.specs.Commands.{Command}
use Rattle.job_model.specs.Jobs.{Unfinished}
use Rattle.job_model.specs.Outcomes.{asked_by}

-- a name at or under the origin
pub record IsInside (origin owner : Name) : Type 0 where
  pub name : IsName owner
  pub under : is_under owner origin ≡ true

-- the record that is added, with its owner
abbrev pub row_of : Addition → Row
row_of a = record { owner = a.owner; rtype = a.rtype; ttl = a.ttl; octets = a.octets }

-- An operation as scripts say it: at a name at or under the origin; and what is added is a record as master files have it.
abbrev pub IsSaid : Name → Operation → Type 0
IsSaid origin (Add a) = IsInside origin a.owner × IsRecord (row_of a)
IsSaid origin (DeleteName owner) = IsInside origin owner
IsSaid origin (DeleteSet owner rtype) = IsInside origin owner
IsSaid origin (DeleteRecord owner rtype octets) = IsInside origin owner

-- each operation of a transaction is so
abbrev pub AllSaid : Name → Transaction → Type 0
AllSaid origin t = AllByRecursion (IsSaid origin) t.operations

-- and each of those that commands ask for
abbrev pub AllAsked : Name → Command → Type 0
AllAsked origin command = AllSaid origin (asked_by command)

-- so is what is asked of a transaction that is open
abbrev pub IsBlock : Name → Option Unfinished → Type 0
IsBlock origin None = Unit {0}
IsBlock origin (Some b) = AllSaid origin b.asked
