-- The text forms of an address of version 6 (RFC 4291, section 2.2).
use Rattle.std.specs.Prelude.{ℕ, ◌+◌, ◌-◌, ◌*◌, Bool, false, ◌&&◌, List, [], ◌∷◌, ◌++◌, ◌/◌, ◌%◌, length, take, drop, replicate, nat_le, nat_lt, ◌==◌, if◌then◌else◌, Option, Some, None, option_and_then}
use Rattle.std.specs.Option.{option_map}
use Rattle.std.specs.List.{list_all, list_any, slice_split}
use Rattle.std.specs.Char.{is_ascii_hexdigit}
use Rattle.zone_model.specs.Texts.{address}
use Rattle.zone_model.specs.DataWords.{digit_value}

-- the number of hexadecimal digits behind a number
unfoldable pub hex_from : ℕ → List ℕ → ℕ
hex_from n [] = n
hex_from n (c ∷ text) = hex_from (16 * n + digit_value c) text

-- a group: one to four hexadecimal digits, which are two octets
abbrev pub group : List ℕ → Option (List ℕ)
group text =
    if nat_lt 0 (length text) && nat_le (length text) 4 && list_all is_ascii_hexdigit text then Some (hex_from 0 text / 256 ∷ hex_from 0 text % 256 ∷ []) else None

abbrev pub joined : Option (List ℕ) → Option (List ℕ) → Option (List ℕ)
joined (Some a) (Some b) = Some (a ++ b)
joined None b = None
joined (Some a) None = None

-- groups
unfoldable pub groups_of : List (List ℕ) → Option (List ℕ)
groups_of [] = Some []
groups_of (part ∷ parts) = joined (group part) (groups_of parts)

-- a group, or an address of version 4
abbrev pub last_group : List ℕ → Option (List ℕ)
last_group part = if list_any (λ c. c == 46) part then address part else group part

-- groups, the last two of which may be an address of version 4
unfoldable pub last_groups_of : List (List ℕ) → Option (List ℕ)
last_groups_of [] = Some []
last_groups_of (part ∷ []) = last_group part
last_groups_of (part ∷ other ∷ parts) = joined (group part) (last_groups_of (other ∷ parts))

-- the parts between colons; none in an empty text
abbrev pub parts_of : List ℕ → List (List ℕ)
parts_of [] = []
parts_of (c ∷ text) = slice_split (λ b. b == 58) (c ∷ text)

abbrev pub begins_with_colon : List ℕ → Bool
begins_with_colon [] = false
begins_with_colon (c ∷ text) = c == 58

-- the place of the first double colon
unfoldable pub double_at : List ℕ → Option ℕ
double_at [] = None
double_at (c ∷ text) = if (c == 58) && begins_with_colon text then Some 0 else option_map (λ n. n + 1) (double_at text)

-- the double colon stands for one or more groups of zeros
abbrev pub filled : List ℕ → List ℕ → Option (List ℕ)
filled front back = if nat_le (length front + length back) 14 then Some (front ++ replicate (16 - (length front + length back)) 0 ++ back) else None

abbrev pub whole_address : List ℕ → Option (List ℕ)
whole_address octets = if length octets == 16 then Some octets else None

abbrev pub by_double : List ℕ → Option ℕ → Option (List ℕ)
by_double text None = option_and_then whole_address (last_groups_of (parts_of text))
by_double text (Some n) = option_and_then (λ front. option_and_then (filled front) (last_groups_of (parts_of (drop (n + 2) text)))) (groups_of (parts_of (take n text)))

-- the sixteen octets that a text says
unfoldable pub address6 : List ℕ → Option (List ℕ)
address6 text = by_double text (double_at text)
