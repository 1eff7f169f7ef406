-- Which zones are attached, and to which of them a name belongs.
use Rattle.std.specs.Prelude.{ℕ, ◌+◌, Bool, true, false, ◌&&◌, List, [], ◌∷◌, ◌==◌, if◌then◌else◌, Option, Some, None}
use Rattle.zone_model.specs.Names.{Name, same_name}

-- ---- changes

pub data Change : Type 0 where
  Attaches : (zone : ℕ) → Change
  Detaches : (zone : ℕ) → Change

-- whether a zone is attached behind a change, if it was or wasn't before
abbrev pub attached_after : Option Change → ℕ → Bool → Bool
attached_after None zone before = before
attached_after (Some (Attaches changed)) zone before = if changed == zone then true else before
attached_after (Some (Detaches changed)) zone before = if changed == zone then false else before

-- ---- the zone of a name

abbrev pub or_else : {A : Type 0} → Option A → Option A → Option A
or_else (Some x) other = Some x
or_else None other = other

-- the attached zone that has this origin, of zones the first of which has number n
abbrev pub zone_at : (ℕ → Bool) → ℕ → List Name → Name → Option ℕ
zone_at attached n [] name = None
zone_at attached n (origin ∷ origins) name = if attached n && same_name origin name then Some n else zone_at attached (n + 1) origins name

-- The attached zone to which a name belongs, of those that have these origins: the one whose origin is the nearest at or above it.
abbrev pub zone_for : (ℕ → Bool) → List Name → Name → Option ℕ
zone_for attached origins [] = zone_at attached 0 origins []
zone_for attached origins (label ∷ labels) = or_else (zone_at attached 0 origins (label ∷ labels)) (zone_for attached origins labels)

-- how many are attached, of zones the first of which has number n
abbrev pub attached_count : (ℕ → Bool) → ℕ → List Name → ℕ
attached_count attached n [] = 0
attached_count attached n (origin ∷ origins) = (if attached n then 1 else 0) + attached_count attached (n + 1) origins
