-- The form that a type's data has as octets.
use Rattle.std.specs.Prelude.{ℕ, zero, suc, Bool, true, false, ◌&&◌, List, [], ◌∷◌, length, drop, nat_le, nat_lt, ◌==◌, if◌then◌else◌, Option, Some, None, option_and_then}
use Rattle.std.specs.Option.{option_map}
use Rattle.std.specs.Int.{w32, from_be_bytes}
use Rattle.zone_model.specs.DataWords.{most_time}
use Rattle.zone_model.specs.Types.{Field, NameField, ShortField, NumberField, TimeField, AddressField, Address6Field, Form, Fields, Strings, form_of}
use Rattle.zone_model.specs.Splits.{split_octets, split_name}

-- ---- octets that are of a form

-- a time, at most the greatest
abbrev pub split_time : List ℕ → Option (List ℕ × List ℕ)
split_time octets = option_and_then (λ x. if nat_le (from_be_bytes w32 x.0) most_time then Some x else None) (split_octets 4 octets)

-- what stands behind the field that octets begin with
abbrev pub field_rest : Field → List ℕ → Option (List ℕ)
field_rest NameField octets = option_map (λ x. x.1) (split_name octets)
field_rest ShortField octets = option_map (λ x. x.1) (split_octets 2 octets)
field_rest NumberField octets = option_map (λ x. x.1) (split_octets 4 octets)
field_rest TimeField octets = option_map (λ x. x.1) (split_time octets)
field_rest AddressField octets = option_map (λ x. x.1) (split_octets 4 octets)
field_rest Address6Field octets = option_map (λ x. x.1) (split_octets 16 octets)

abbrev pub fits_behind : Option (List ℕ) → (List ℕ → Bool) → Bool
fits_behind None fit = false
fits_behind (Some rest) fit = fit rest

-- the octets are a row of fields
unfoldable pub fields_fit : List Field → List ℕ → Bool
fields_fit [] octets = length octets == 0
fields_fit (field ∷ fields) octets = fits_behind (field_rest field octets) (fields_fit fields)

-- the octets are strings, each behind its length
unfoldable pub strings_fit : ℕ → List ℕ → Bool
strings_fit left [] = true
strings_fit zero (n ∷ rest) = false
strings_fit (suc left) (n ∷ rest) = nat_le n (length rest) && strings_fit left (drop n rest)

abbrev pub fits_form : Option Form → List ℕ → Bool
fits_form None octets = true
fits_form (Some (Fields fields)) octets = fields_fit fields octets
fits_form (Some Strings) octets = nat_lt 0 (length octets) && strings_fit (length octets) octets

-- the octets are of a type's form; any are where the form is not known
abbrev pub form_fits : ℕ → List ℕ → Bool
form_fits rtype octets = fits_form (form_of rtype) octets
