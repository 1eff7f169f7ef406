-- The data of a record as tokens and as octets (RFC 1035, RFC 3597).
use Rattle.std.specs.Prelude.{ℕ, drop, ◌+◌, ◌-◌, ◌*◌, Bool, false, ◌&&◌, not, List, [], ◌∷◌, ◌++◌, length, nat_le, nat_lt, ◌==◌, if◌then◌else◌, Option, Some, None, Result, Ok, Err}
use Rattle.std.specs.Option.{option_map}
use Rattle.std.specs.List.{list_all}
use Rattle.std.specs.Str.{bytes_eq}
use Rattle.std.specs.Char.{is_ascii_hexdigit}
use Rattle.std.specs.Int.{w16, w32, to_be_bytes}
use Rattle.zone_model.specs.Names.{Name, wire}
use Rattle.zone_model.specs.NameText.{name_of}
use Rattle.zone_model.specs.Texts.{named, number, address}
use Rattle.zone_model.specs.Refusals.{◌>>=◌}
use Rattle.zone_model.specs.declared.DataRefusal.{DataRefusal}
use Rattle.zone_model.specs.declared.DataRefusal.TheVariants.{BadRdata, LongString}
use Rattle.zone_model.specs.Tokens.{Token}
use Rattle.zone_model.specs.DataWords.{time_of, unescaped, paired}
use Rattle.zone_model.specs.Addresses.{address6}
use Rattle.zone_model.specs.Types.{Field, NameField, ShortField, NumberField, TimeField, AddressField, Address6Field, Form, Fields, Strings, form_of}
use Rattle.zone_model.specs.DataForms.{form_fits}

abbrev pub field_octets : Name → Field → List ℕ → Option (List ℕ)
field_octets origin NameField text = option_map wire (named (name_of text origin))
field_octets origin ShortField text = option_map (to_be_bytes w16) (number 65535 text)
field_octets origin NumberField text = option_map (to_be_bytes w32) (number 4294967295 text)
field_octets origin TimeField text = option_map (to_be_bytes w32) (time_of text)
field_octets origin AddressField text = address text
field_octets origin Address6Field text = address6 text

abbrev pub ahead : List ℕ → Result (List ℕ) DataRefusal → Result (List ℕ) DataRefusal
ahead front (Ok octets) = Ok (front ++ octets)
ahead front (Err e) = Err e

abbrev pub word_octets : Name → Field → Token → Option (List ℕ)
word_octets origin field t = if t.quoted then None else field_octets origin field t.text

-- the octets of the token at a place, and then others
abbrev pub taken : ℕ → Option (List ℕ) → Result (List ℕ) DataRefusal → Result (List ℕ) DataRefusal
taken at None rest = Err (BadRdata at)
taken at (Some octets) rest = ahead octets rest

-- the first refusal from the left, or the octets; `at` is the place of the first token
unfoldable pub read_fields : Name → ℕ → List Field → List Token → Result (List ℕ) DataRefusal
read_fields origin at [] [] = Ok []
read_fields origin at [] (t ∷ tokens) = Err (BadRdata at)
read_fields origin at (field ∷ fields) [] = Err (BadRdata at)
read_fields origin at (field ∷ fields) (t ∷ tokens) = taken at (word_octets origin field t) (read_fields origin (at + 1) fields tokens)

-- ---- strings

-- a string's octets behind its length
abbrev pub string_octets : ℕ → Option (List ℕ) → Result (List ℕ) DataRefusal
string_octets at None = Err (BadRdata at)
string_octets at (Some octets) = if nat_lt 255 (length octets) then Err (LongString at) else Ok (length octets ∷ octets)

-- the strings from place `at` on, with the room that is left
unfoldable pub read_strings : ℕ → ℕ → List Token → Result (List ℕ) DataRefusal
read_strings at room [] = Ok []
read_strings at room (t ∷ tokens) = string_octets at (unescaped t.text) >>= (λ octets.
    if nat_lt room (length octets) then Err (BadRdata at) else ahead octets (read_strings (at + 1) (room - length octets) tokens))

-- ---- data of any type

-- digits of octets from place `at` on, of which some are left to come
unfoldable pub read_digits : ℕ → ℕ → List Token → Result (List ℕ) DataRefusal
read_digits at left [] = if left == 0 then Ok [] else Err (BadRdata at)
read_digits at left (t ∷ tokens) =
    if not t.quoted && list_all is_ascii_hexdigit t.text && nat_le (length t.text) left then ahead t.text (read_digits (at + 1) (left - length t.text) tokens) else Err (BadRdata at)

abbrev pub word_number : ℕ → Token → Option ℕ
word_number most t = if t.quoted then None else number most t.text

-- what stands behind `\#`: the number of octets, and their digits
abbrev pub read_counted : Option ℕ → List Token → Result (List ℕ) DataRefusal
read_counted None tokens = Err (BadRdata 1)
read_counted (Some n) tokens = read_digits 2 (2 * n) tokens >>= (λ digits. Ok (paired digits))

unfoldable pub read_generic : List Token → Result (List ℕ) DataRefusal
read_generic [] = Err (BadRdata 1)
read_generic (t ∷ tokens) = read_counted (word_number 65535 t) tokens

-- the word `\#` begins data of any type
abbrev pub is_generic : List Token → Bool
is_generic [] = false
is_generic (t ∷ tokens) = not t.quoted && bytes_eq t.text (92 ∷ 35 ∷ [])

-- ---- the data of a type

abbrev pub of_form : ℕ → List ℕ → Result (List ℕ) DataRefusal
of_form rtype octets = if form_fits rtype octets then Ok octets else Err (BadRdata 0)

abbrev pub read_formed : Name → Option Form → List Token → Result (List ℕ) DataRefusal
read_formed origin None tokens = Err (BadRdata 0)
read_formed origin (Some (Fields fields)) tokens = read_fields origin 0 fields tokens
read_formed origin (Some Strings) [] = Err (BadRdata 0)
read_formed origin (Some Strings) (t ∷ tokens) = read_strings 0 65535 (t ∷ tokens)

abbrev pub read_typed : Name → ℕ → List Token → Result (List ℕ) DataRefusal
read_typed origin rtype tokens = read_formed origin (form_of rtype) tokens

-- the octets that tokens say for a type, or the first token that is refused
unfoldable pub data_of : Name → ℕ → List Token → Result (List ℕ) DataRefusal
data_of origin rtype tokens = if is_generic tokens then read_generic (drop 1 tokens) >>= of_form rtype else read_typed origin rtype tokens
