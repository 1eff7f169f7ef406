-- Operations on their way to a sink.
use Rattle.std.specs.Prelude.{◌≡◌, ◌≤◌, List, ◌++◌, length}
use Rattle.zone_model.specs.Names.{Name}
use Rattle.zone_model.specs.Versions.{Operation, DeleteName, DeleteSet, DeleteRecord}
use Rattle.zone_diff.specs.declared.changes.Change.{Change}
use Rattle.zone_diff.specs.declared.changes.Change.TheVariants as change
use Rattle.zone_diff.specs.declared.DiffStyle.{DiffStyle}
use Rattle.zone_diff.specs.Differences.{addition}

-- what becomes of a name is an operation
abbrev pub change_view : Name → Change → Operation
change_view owner (change.Comes rtype ttl octets) = addition owner rtype ttl octets.now
change_view owner change.Goes = DeleteName owner
change_view owner (change.SetGoes rtype) = DeleteSet owner rtype
change_view owner (change.RecordGoes rtype octets) = DeleteRecord owner rtype octets.now

-- the octets are no more than a record may have
abbrev pub IsShort : Change → Type 0
IsShort (change.Comes rtype ttl octets) = length octets.now ≤ 65535
IsShort change.Goes = Unit {0}
IsShort (change.SetGoes rtype) = Unit {0}
IsShort (change.RecordGoes rtype octets) = length octets.now ≤ 65535

-- what a sink is for, which no operation changes
pub record Aim : Type 0 where
  pub style : DiffStyle
  pub origin : Name

-- what a sink had, and has since: some operations were added to whatever it had
abbrev pub Adds : (Aim → List Operation → Type 0) → (Aim → List Operation → Type 0) → List Operation → Type 0
Adds had has added = (aim : Aim) (operations : List Operation) → had aim operations → has aim (operations ++ added)

-- of all that is to be added some is left
pub record AddsFront (had has : Aim → List Operation → Type 0) (all left : List Operation) : Type 0 where
  pub done : List Operation
  pub gives : done ++ left ≡ all
  pub added : Adds had has done
