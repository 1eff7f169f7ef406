-- What words say: times, types, classes, strings, hexadecimal digits.
use Rattle.std.specs.Prelude.{ℕ, ◌+◌, ◌-◌, ◌*◌, Bool, true, false, ◌||◌, ◌&&◌, List, [], ◌∷◌, length, take, drop, nat_le, nat_lt, ◌==◌, if◌then◌else◌, Option, Some, None, codes, option_and_then, unwrap_or}
use Rattle.std.specs.Option.{option_map}
use Rattle.std.specs.List.{list_all}
use Rattle.std.specs.Char.{is_ascii_digit, to_ascii_lowercase}
use Rattle.std.specs.Str.{str_eq_ignore_ascii_case}
use Rattle.zone_model.specs.Texts.{number, at_most}
use Rattle.zone_model.specs.Types.{NamedType, type_spelled}

-- ---- times to live

abbrev pub most_time : ℕ
most_time = 2147483647

-- the seconds of a unit
abbrev pub seconds : ℕ → Option ℕ
seconds c =
    if c == 119 then Some 604800
    else if c == 100 then Some 86400
    else if c == 104 then Some 3600
    else if c == 109 then Some 60
    else if c == 115 then Some 1
    else None

-- The sum of groups of digits, each with its unit: what has come, the digits of the group that is open, and the text.
unfoldable pub groups : ℕ → Option ℕ → List ℕ → Option ℕ
groups sum None [] = Some sum
groups sum (Some n) [] = None
groups sum open_group (c ∷ text) =
    if is_ascii_digit c then groups sum (Some (10 * unwrap_or open_group 0 + (c - 48))) text
    else option_and_then (λ n. option_and_then (λ k. groups (sum + n * k) None text) (seconds (to_ascii_lowercase c))) open_group

-- a time to live: digits, or groups of digits with units
unfoldable pub time_of : List ℕ → Option ℕ
time_of text = if list_all is_ascii_digit text then number most_time text else option_and_then (at_most most_time) (groups 0 None text)

-- ---- types and classes

abbrev pub is_word : List ℕ → List ℕ → Bool
is_word text word = str_eq_ignore_ascii_case text word

-- the number behind a word that a text begins with
abbrev pub numbered : List ℕ → List ℕ → Option ℕ
numbered word text = if is_word (take (length word) text) word then number 65535 (drop (length word) text) else None

-- a number may be a data type's: it is none of a message's own types (RFC 6895, section 3.1)
abbrev pub data_type : ℕ → Option ℕ
data_type n = if n == 0 then None else if n == 41 then None else if nat_le 128 n && nat_le n 255 then None else Some n

-- the number of a row, or that behind the word TYPE
abbrev pub number_in : Option NamedType → List ℕ → Option ℕ
number_in (Some t) text = Some t.number
number_in None text = option_and_then data_type (numbered (codes "TYPE") text)

unfoldable pub type_named : List ℕ → Option ℕ
type_named text = number_in (type_spelled text) text

abbrev pub class_numbered : List ℕ → Option Bool
class_numbered text =
    if is_word (take 5 text) (codes "CLASS") && nat_lt 5 (length text) && list_all is_ascii_digit (drop 5 text) then Some false else None

-- whether a word is a class: the one that is taken, or another
unfoldable pub class_named : List ℕ → Option Bool
class_named text =
    if is_word text (codes "IN") || is_word text (codes "CLASS1") then Some true
    else if is_word text (codes "CH") || is_word text (codes "CS") || is_word text (codes "HS") || is_word text (codes "NONE") || is_word text (codes "ANY") then Some false
    else class_numbered text

-- ---- strings

-- what stands behind a backslash: nothing yet, or one or two digits' value
pub data Behind : Type 0 where
  Plain : Behind
  Slash : Behind
  One : (value : ℕ) → Behind
  Two : (value : ℕ) → Behind

-- the octets of a text with escapes: a backslash and three digits up to 255, or a backslash and what is no digit
unfoldable pub octets_from : Behind → List ℕ → Option (List ℕ)
octets_from Plain [] = Some []
octets_from Slash [] = None
octets_from (One value) [] = None
octets_from (Two value) [] = None
octets_from Plain (c ∷ text) = if c == 92 then octets_from Slash text else option_map (λ cs. c ∷ cs) (octets_from Plain text)
octets_from Slash (c ∷ text) = if is_ascii_digit c then octets_from (One (c - 48)) text else option_map (λ cs. c ∷ cs) (octets_from Plain text)
octets_from (One value) (c ∷ text) = if is_ascii_digit c then octets_from (Two (10 * value + (c - 48))) text else None
octets_from (Two value) (c ∷ text) =
    if is_ascii_digit c && nat_le (10 * value + (c - 48)) 255 then option_map (λ cs. (10 * value + (c - 48)) ∷ cs) (octets_from Plain text) else None

abbrev pub unescaped : List ℕ → Option (List ℕ)
unescaped text = octets_from Plain text

-- ---- hexadecimal digits

abbrev pub digit_value : ℕ → ℕ
digit_value c = if nat_le c 57 then c - 48 else to_ascii_lowercase c - 87

-- octets of two digits each
unfoldable pub paired : List ℕ → List ℕ
paired [] = []
paired (a ∷ []) = []
paired (a ∷ b ∷ digits) = (16 * digit_value a + digit_value b) ∷ paired digits
