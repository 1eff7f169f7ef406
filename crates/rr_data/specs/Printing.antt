-- What printing the fields of a type's data leaves, and where printed names are read.
use Rattle.std.specs.Prelude.{◌≡◌, ℕ, Bool, true, false, List, ◌++◌, Option, Some, None}
use Rattle.zone_model.specs.Names.{Name}

-- a field was printed, and these octets are behind it; or octets don't begin with it
abbrev pub PrintsField : Option (List ℕ) → List ℕ → List ℕ → Option (List ℕ × List ℕ) → Type 0
PrintsField None old new wanted = wanted ≡ None
PrintsField (Some behind) old new wanted = (text : List ℕ) × (wanted ≡ Some (text, behind)) × (new ≡ old ++ text)

-- all fields were printed; or octets aren't just these
abbrev pub PrintsFields : Bool → List ℕ → List ℕ → Option (List ℕ) → Type 0
PrintsFields false old new wanted = wanted ≡ None
PrintsFields true old new wanted = (text : List ℕ) × (wanted ≡ Some text) × (new ≡ old ++ text)

-- names that were printed relative to an origin are read under that one, absolute names under any
abbrev pub ReadsUnder : Option Name → Name → Type 0
ReadsUnder None origin = Unit {0}
ReadsUnder (Some printed) origin = origin ≡ printed
