-- RRsets that rise beside others that rise, where each is looked at once.
use Rattle.std.specs.Prelude.{ℕ, List, [], ◌∷◌, ◌++◌, ◌==◌, if◌then◌else◌, Option, Some, None}
use Rattle.std.specs.Ordering.{nat_cmp, match_ordering}
use Rattle.zone_model.specs.Names.{Name}
use Rattle.zone_model.specs.Records.{Rrset, Entry}
use Rattle.zone_model.specs.Versions.{Operation}
use Rattle.zone_diff.specs.declared.sets.Side.{Side}
use Rattle.zone_diff.specs.Differences.{set_changes, unless_soa}

-- the RRsets that are left: the one ahead, and those behind it
abbrev pub sets_ahead : Option Rrset → Entry → Entry
sets_ahead None behind = []
sets_ahead (Some ahead) behind = ahead ∷ behind

-- RRsets without those below a type
abbrev pub sets_reached : ℕ → Entry → Entry
sets_reached rtype [] = []
sets_reached rtype (first ∷ rest) = match_ordering (nat_cmp rtype first.rtype) (first ∷ rest) (first ∷ rest) (sets_reached rtype rest)

-- the first RRset, if it is of a type
abbrev pub set_ahead : ℕ → Entry → Option Rrset
set_ahead rtype [] = None
set_ahead rtype (first ∷ rest) = if first.rtype == rtype then Some first else None

-- what is due for each RRset, by the one of its type among others
abbrev pub each_beside : (Option Rrset → Rrset → List Operation) → Entry → Entry → List Operation
each_beside due others [] = []
each_beside due others (first ∷ rest) = let left = sets_reached first.rtype others in due (set_ahead first.rtype left) first ++ each_beside due left rest

abbrev pub changes_walked : Side → Name → Entry → Entry → List Operation
changes_walked side owner others sets = each_beside (λ other s. unless_soa s (set_changes side owner other s)) others sets
