-- What the walk over a text finds.
use Rattle.std.specs.Prelude.{◌≡◌, ℕ, ◌+◌, Bool, List, length, Result, Ok, Err}
use Rattle.std.specs.List.{AllByRecursion}
use Rattle.zone_model.specs.Names.{wire, IsLabel}
use Rattle.zone_model.specs.NameText.{labels_of}
use Rattle.zone_model.specs.declared.NameRefusal.{NameRefusal}
use Rattle.dns_name.specs.Blank.{over_zeros}
use Rattle.dns_name.specs.Spelling.{body}

-- the octets of the labels without that of the root, and whether a dot ends them
abbrev pub Measures : Result (ℕ × Bool) NameRefusal → Result (List (List ℕ) × Bool) NameRefusal → Type 0
Measures (Ok x) (Ok y) = (x.0 + 1 ≡ length (wire y.0)) × (x.1 ≡ y.1) × AllByRecursion IsLabel y.0
Measures (Ok x) (Err e) = ⊥
Measures (Err e) (Ok y) = ⊥
Measures (Err e) (Err f) = e ≡ f

-- the octets of the labels without that of the root
abbrev pub IsLaid : List ℕ → Result (List (List ℕ) × Bool) NameRefusal → Type 0
IsLaid octets (Ok y) = octets ≡ over_zeros (body y.0)
IsLaid octets (Err e) = ⊥

-- the text was walked, and these are the octets of its labels
pub record IsMeasured (text : List ℕ) (octets : ℕ) (absolute : Bool) : Type 0 where
  pub labels : List (List ℕ)
  pub read : labels_of text ≡ Ok (labels, absolute)
  pub counted : octets + 1 ≡ length (wire labels)
  pub each : AllByRecursion IsLabel labels
