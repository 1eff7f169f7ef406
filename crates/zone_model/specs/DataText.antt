-- Types and record data as they are printed (RFC 1035, section 5.1; RFC 3597, section 5).
use Rattle.std.specs.Prelude.{ℕ, zero, suc, ◌+◌, ◌/◌, ◌%◌, ◌||◌, ◌&&◌, List, [], ◌∷◌, ◌++◌, length, nat_le, nat_lt, ◌==◌, if◌then◌else◌, Option, Some, None, codes, option_and_then, unwrap_or}
use Rattle.std.specs.Option.{option_map}
use Rattle.std.specs.List.{flat_map}
use Rattle.std.specs.Int.{w16, w32, from_be_bytes}
use Rattle.std.specs.Fmt.{decimal}
use Rattle.zone_model.specs.Names.{Name}
use Rattle.zone_model.specs.NameText.{name_text, three_digits}
use Rattle.zone_model.specs.Splits.{split_octets, split_name}
use Rattle.zone_model.specs.Types.{Field, NameField, ShortField, NumberField, TimeField, AddressField, Address6Field, Form, Fields, Strings, NamedType, type_numbered, form_of}
use Rattle.zone_model.specs.DataForms.{split_time}

-- a row's mnemonic, or the word TYPE and the number
abbrev pub mnemonic_in : Option NamedType → ℕ → List ℕ
mnemonic_in (Some t) rtype = t.mnemonic
mnemonic_in None rtype = codes "TYPE" ++ decimal rtype

-- a type's mnemonic, or its number (RFC 3597, section 5)
abbrev pub type_text : ℕ → List ℕ
type_text rtype = mnemonic_in (type_numbered rtype) rtype

-- ---- addresses

-- octets as decimals between dots
abbrev pub address_text : List ℕ → List ℕ
address_text [] = []
address_text (octet ∷ []) = decimal octet
address_text (octet ∷ next ∷ rest) = decimal octet ++ codes "." ++ address_text (next ∷ rest)

abbrev pub hex_digit : ℕ → ℕ
hex_digit n = if nat_lt n 10 then 48 + n else 87 + n

-- the digit of a place, unless the number is too small to have one there
abbrev pub digit_at : ℕ → ℕ → List ℕ
digit_at place n = if nat_le place n then hex_digit (n / place % 16) ∷ [] else []

-- two octets as one number in hexadecimal digits, without leading zeros
abbrev pub group_text : ℕ → List ℕ
group_text n = digit_at 4096 n ++ digit_at 256 n ++ digit_at 16 n ++ hex_digit (n % 16) ∷ []

-- groups between colons (RFC 4291, section 2.2)
abbrev pub groups_text : List ℕ → List ℕ
groups_text [] = []
groups_text (a ∷ []) = []
groups_text (a ∷ b ∷ []) = group_text (from_be_bytes w16 (a ∷ b ∷ []))
groups_text (a ∷ b ∷ next ∷ rest) = group_text (from_be_bytes w16 (a ∷ b ∷ [])) ++ codes ":" ++ groups_text (next ∷ rest)

-- ---- fields

-- the text of a field, and the octets behind it; a name is relative to an origin, if there is one
abbrev pub field_text : Option Name → Field → List ℕ → Option (List ℕ × List ℕ)
field_text origin NameField octets = option_map (λ x. (name_text origin x.0, x.1)) (split_name octets)
field_text origin ShortField octets = option_map (λ x. (decimal (from_be_bytes w16 x.0), x.1)) (split_octets 2 octets)
field_text origin NumberField octets = option_map (λ x. (decimal (from_be_bytes w32 x.0), x.1)) (split_octets 4 octets)
field_text origin TimeField octets = option_map (λ x. (decimal (from_be_bytes w32 x.0), x.1)) (split_time octets)
field_text origin AddressField octets = option_map (λ x. (address_text x.0, x.1)) (split_octets 4 octets)
field_text origin Address6Field octets = option_map (λ x. (groups_text x.0, x.1)) (split_octets 16 octets)

-- the texts of fields with single spaces between them, where octets are just these fields
unfoldable pub fields_text : Option Name → List Field → List ℕ → Option (List ℕ)
fields_text origin [] octets = None
fields_text origin (field ∷ []) octets = option_and_then (λ x. if length x.1 == 0 then Some x.0 else None) (field_text origin field octets)
fields_text origin (field ∷ next ∷ fields) octets =
    option_and_then (λ x. option_map (λ t. x.0 ++ codes " " ++ t) (fields_text origin (next ∷ fields) x.1)) (field_text origin field octets)

-- ---- strings

-- an octet between quotes
abbrev pub string_octet : ℕ → List ℕ
string_octet c =
    if (c == 34) || (c == 92) then 92 ∷ c ∷ []
    else if nat_lt 31 c && nat_lt c 127 then c ∷ []
    else 92 ∷ three_digits c

abbrev pub string_text : List ℕ → List ℕ
string_text octets = flat_map string_octet octets

abbrev pub quoted_text : List ℕ → List ℕ
quoted_text octets = 34 ∷ (string_text octets ++ 34 ∷ [])

-- strings, each between quotes, with single spaces between them; at most `left` of them
unfoldable pub strings_text : ℕ → List ℕ → Option (List ℕ)
strings_text left [] = None
strings_text zero (n ∷ rest) = None
strings_text (suc left) (n ∷ rest) = option_and_then (λ x.
    if length x.1 == 0 then Some (quoted_text x.0) else option_map (λ t. quoted_text x.0 ++ codes " " ++ t) (strings_text left x.1)) (split_octets n rest)

-- ---- data

-- two hexadecimal digits
abbrev pub hex_text : ℕ → List ℕ
hex_text octet = hex_digit (octet / 16) ∷ hex_digit (octet % 16) ∷ []

-- data of any type: its number of octets, and their digits in one word
abbrev pub generic_text : List ℕ → List ℕ
generic_text octets = codes "\\# " ++ decimal (length octets) ++ (if length octets == 0 then [] else codes " " ++ flat_map hex_text octets)

abbrev pub formed_text : Option Name → Option Form → List ℕ → Option (List ℕ)
formed_text origin None octets = None
formed_text origin (Some (Fields fields)) octets = fields_text origin fields octets
formed_text origin (Some Strings) octets = strings_text (length octets) octets

-- data in the form of its type, where it has that form
abbrev pub typed_text : Option Name → ℕ → List ℕ → Option (List ℕ)
typed_text origin rtype octets = formed_text origin (form_of rtype) octets

-- data with names relative to an origin, if there is one
abbrev pub data_text_in : Option Name → ℕ → List ℕ → List ℕ
data_text_in origin rtype octets = unwrap_or (typed_text origin rtype octets) (generic_text octets)

-- data with absolute names
abbrev pub data_text : ℕ → List ℕ → List ℕ
data_text rtype octets = data_text_in None rtype octets
