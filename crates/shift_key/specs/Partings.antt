-- Where the keys of two names part, as their labels are compared from the last one on.
use Rattle.std.specs.Prelude.{◌≡◌, ℕ, ◌-◌, ◌<◌, ◌≤◌, List, ◌∷◌, ◌++◌, length, slice_index, Option, Some, None, Result, Ok, Err}
use Rattle.zone_model.specs.Names.{Name, Label, IsName, IsLabel, BeginsWith}
use Rattle.zone_model.specs.Keys.{octet_positions, label_positions, key_of, IsFirstDifference}
use Rattle.shift_key.specs.declared.names.Parting.{Parting}

-- the first place at which two lists of positions differ, and what each has there
pub record PartAt (a b : List ℕ) (p : Parting) : Type 0 where
  pub first : IsFirstDifference a b p.place
  pub before : p.before ≡ slice_index a p.place
  pub after : p.after ≡ slice_index b p.place

abbrev pub IsParting : List ℕ → List ℕ → Option Parting → Type 0
IsParting a b None = a ≡ b
IsParting a b (Some p) = PartAt a b p

-- before the end of both
pub record PartInside (a b : List ℕ) (p : Parting) : Type 0 where
  pub part : PartAt a b p
  pub first : p.place < length a
  pub second : p.place < length b

-- octets begin with a name of so many labels
pub record HasName (octets : List ℕ) (name : Name) (labels : ℕ) : Type 0 where
  pub is : IsName name
  pub begins : BeginsWith octets name
  pub long : labels ≡ length name

-- the name's first label, and octets that begin with the others
pub record SplitsOff (name : Name) (labels : ℕ) (label octets : List ℕ) : Type 0 where
  pub others : Name
  pub is : name ≡ label ∷ others
  pub is_label : IsLabel label
  pub behind : HasName octets others (labels - 1)

abbrev pub OctetsPart : ℕ → ℕ → ℕ → Parting → Type 0
OctetsPart at c d p = (front : List ℕ) → at ≡ length front → PartInside (front ++ octet_positions c) (front ++ octet_positions d) p

abbrev pub LabelsPart : List ℕ → Label → Label → Result ℕ Parting → Type 0
LabelsPart front l m (Ok end) = (l ≡ m) × (end ≡ length (front ++ label_positions l))
LabelsPart front l m (Err p) = PartInside (front ++ label_positions l) (front ++ label_positions m) p

-- before the end of each that has no fewer labels than the other
pub record NamesDiffer (a b : Name) (p : Parting) : Type 0 where
  pub part : PartAt (key_of a) (key_of b) p
  pub first : length b ≤ length a → p.place < length (key_of a)
  pub second : length a ≤ length b → p.place < length (key_of b)

abbrev pub NamesPart : Name → Name → Result ℕ Parting → Type 0
NamesPart a b (Ok end) = (a ≡ b) × (end ≡ length (key_of a))
NamesPart a b (Err p) = NamesDiffer a b p
