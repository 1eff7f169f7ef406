-- Bytes that are the wire form of some labels.
use Rattle.std.specs.Prelude.{◌≡◌, ℕ, ◌+◌, ◌≤◌, List, [], ◌∷◌, ◌++◌, length, ⊤, Option, Some, None}
use Rattle.std.specs.Borrow.{Bor}
use Rattle.std.specs.List.{AllByRecursion}
use Rattle.zone_model.specs.Names.{wire, IsName, IsLabel}

-- the octets of labels, without that of the root
abbrev pub body : List (List ℕ) → List ℕ
body [] = []
body (label ∷ labels) = length label ∷ (label ++ body labels)

pub record Spells (bytes : List ℕ) (labels : List (List ℕ)) : Type 0 where
  pub each : AllByRecursion IsLabel labels
  pub same : bytes ≡ wire labels

abbrev pub IsSpelled : List ℕ → Type 0
IsSpelled bytes = (labels : List (List ℕ)) × Spells bytes labels

-- there are at least so many labels
abbrev pub HasLabels : List ℕ → ℕ → Type 0
HasLabels bytes n = (labels : List (List ℕ)) × Spells bytes labels × (n ≤ length labels)

abbrev pub IsNameSpelled : List ℕ → Type 0
IsNameSpelled bytes = (labels : List (List ℕ)) × IsName labels × (bytes ≡ wire labels)

-- the first label, and the bytes of the others
abbrev pub IsFirst : List (List ℕ) → Option (Bor (List ℕ) × Bor (List ℕ)) → Type 0
IsFirst [] None = ⊤
IsFirst [] (Some x) = ⊥
IsFirst (label ∷ labels) None = ⊥
IsFirst (label ∷ labels) (Some x) = (x.0.now ≡ label) × (x.1.now ≡ wire labels)

-- a label is in front of the bytes, behind its length
abbrev pub BeginsWithLabel : List ℕ → List ℕ → Type 0
BeginsWithLabel bytes label = (behind : List ℕ) × (bytes ≡ length label ∷ (label ++ behind))

-- a label is in front, which takes n bytes with its length
abbrev pub HasLabelOf : List ℕ → ℕ → Type 0
HasLabelOf bytes n = (label : List ℕ) × IsLabel label × BeginsWithLabel bytes label × (n ≡ length label + 1)

-- labels stand in front of the last octets, which are a name's wire form
pub record SpellsInFront (bytes : List ℕ) (last : ℕ) (front : List (List ℕ)) : Type 0 where
  pub back : List (List ℕ)
  pub spells : Spells bytes (front ++ back)
  pub counted : last ≡ length (wire back)

-- some labels do
abbrev pub HasFront : List ℕ → ℕ → Type 0
HasFront bytes last = (front : List (List ℕ)) × SpellsInFront bytes last front
