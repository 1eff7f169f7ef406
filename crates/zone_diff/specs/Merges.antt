-- Records that rise beside others that rise, where each is looked at once.
use Rattle.std.specs.Prelude.{ℕ, Bool, false, List, [], ◌∷◌, if◌then◌else◌, Option, Some, None}
use Rattle.std.specs.Borrow.{Bor}
use Rattle.std.specs.Ordering.{is_eq, match_ordering}
use Rattle.zone_model.specs.Records.{Rrset, octets_cmp, RisingOctets}

-- the records that are left: the one ahead, and those behind it
abbrev pub records_ahead : Option (Bor (List ℕ)) → List (List ℕ) → List (List ℕ)
records_ahead None behind = []
records_ahead (Some ahead) behind = ahead.now ∷ behind

-- records without those below some octets
abbrev pub reached : List ℕ → List (List ℕ) → List (List ℕ)
reached octets [] = []
reached octets (first ∷ rest) = match_ordering (octets_cmp octets first) (first ∷ rest) (first ∷ rest) (reached octets rest)

-- the octets are the first record
abbrev pub is_first : List ℕ → List (List ℕ) → Bool
is_first octets [] = false
is_first octets (first ∷ rest) = is_eq (octets_cmp octets first)

-- the records that others haven't, where both rise
abbrev pub lacking_beside : List (List ℕ) → List (List ℕ) → List (List ℕ)
lacking_beside others [] = []
lacking_beside others (octets ∷ rest) =
    let left = reached octets others in if is_first octets left then lacking_beside left rest else octets ∷ lacking_beside left rest

-- the records of an RRset rise, if there is one
abbrev pub Rises : Option Rrset → Type 0
Rises None = Unit {0}
Rises (Some s) = RisingOctets None s.records
