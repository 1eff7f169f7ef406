-- What octets begin with, and what is left behind it (RFC 1035, section 3.1).
use Rattle.std.specs.Prelude.{ℕ, zero, suc, ◌&&◌, Bool, List, [], ◌∷◌, length, take, drop, nat_le, ◌==◌, if◌then◌else◌, Option, Some, None, option_and_then}
use Rattle.std.specs.Option.{option_map}
use Rattle.std.specs.List.{list_all}
use Rattle.std.specs.Char.{to_ascii_lowercase}
use Rattle.zone_model.specs.Names.{Label, Name, wire}

abbrev pub split_octets : ℕ → List ℕ → Option (List ℕ × List ℕ)
split_octets n octets = if nat_le n (length octets) then Some (take n octets, drop n octets) else None

-- a label of a length, in lower case
abbrev pub is_label_of : ℕ → Label → Bool
is_label_of n label = nat_le n 63 && list_all (λ c. to_ascii_lowercase c == c) label

abbrev pub under_label : Label → Name × List ℕ → Name × List ℕ
under_label label x = (label ∷ x.0, x.1)

-- a name of at most some labels, in its wire form
unfoldable pub split_labels : ℕ → List ℕ → Option (Name × List ℕ)
split_labels most [] = None
split_labels zero (n ∷ rest) = if n == 0 then Some ([], rest) else None
split_labels (suc most) (n ∷ rest) =
    if n == 0 then Some ([], rest)
    else option_and_then (λ x. if is_label_of n x.0 then option_map (under_label x.0) (split_labels most x.1) else None) (split_octets n rest)

-- a name has at most 255 octets, and so 127 labels
abbrev pub split_name : List ℕ → Option (Name × List ℕ)
split_name octets = option_and_then (λ x. if nat_le (length (wire x.0)) 255 then Some x else None) (split_labels 127 octets)
