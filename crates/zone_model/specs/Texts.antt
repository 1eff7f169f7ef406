-- Numbers and addresses as words.
use Rattle.std.specs.Prelude.{ℕ, ◌+◌, ◌-◌, ◌*◌, ◌&&◌, List, [], ◌∷◌, length, map, nat_le, ◌==◌, if◌then◌else◌, Option, Some, None, Result, Ok, Err, option_and_then}
use Rattle.std.specs.Option.{option_map}
use Rattle.std.specs.List.{slice_split}
use Rattle.zone_model.specs.Names.{Name}
use Rattle.zone_model.specs.declared.NameRefusal.{NameRefusal}

-- decimal digits behind a number
unfoldable pub digits_from : ℕ → List ℕ → Option ℕ
digits_from n [] = Some n
digits_from n (c ∷ text) = if nat_le 48 c && nat_le c 57 then digits_from (10 * n + (c - 48)) text else None

abbrev pub at_most : ℕ → ℕ → Option ℕ
at_most most n = if nat_le n most then Some n else None

-- a number of at least one digit, up to a greatest one
unfoldable pub number : ℕ → List ℕ → Option ℕ
number most [] = None
number most (c ∷ text) = option_and_then (at_most most) (digits_from 0 (c ∷ text))

abbrev pub named : Result Name NameRefusal → Option Name
named (Ok name) = Some name
named (Err e) = None

-- one part of an address
abbrev pub address_part : List ℕ → Option ℕ
address_part part = if nat_le (length part) 3 then number 255 part else None

-- the values, if all are there
abbrev pub all_some : List (Option ℕ) → Option (List ℕ)
all_some [] = Some []
all_some (None ∷ rest) = None
all_some (Some x ∷ rest) = option_map (λ xs. x ∷ xs) (all_some rest)

unfoldable pub address : List ℕ → Option (List ℕ)
address word = let parts = slice_split (λ b. b == 46) word in if length parts == 4 then all_some (map address_part parts) else None
