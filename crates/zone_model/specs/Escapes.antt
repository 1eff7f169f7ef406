-- Escapes in a master file (RFC 1035, section 5.1): a backslash and three decimal digits, or a backslash and a byte that is no digit.
use Rattle.std.specs.Prelude.{ℕ, ◌+◌, ◌-◌, ◌*◌, List, length, slice_index, ◌==◌, nat_lt, ◌&&◌, if◌then◌else◌, Option, Some, None}
use Rattle.std.specs.Char.{is_ascii_digit}

-- the number that three digits say
abbrev pub number_of_three : List ℕ → ℕ
number_of_three text = 100 * (slice_index text 0 - 48) + 10 * (slice_index text 1 - 48) + (slice_index text 2 - 48)

-- The octet that the text behind a backslash begins with: a byte that is no digit stands for itself, three digits for a number up to 255.
unfoldable pub escaped_octet : List ℕ → Option ℕ
escaped_octet text =
    if length text == 0 then None
    else if is_ascii_digit (slice_index text 0)
    then (if is_ascii_digit (slice_index text 1) && is_ascii_digit (slice_index text 2) && nat_lt (number_of_three text) 256 then Some (number_of_three text) else None)
    else Some (slice_index text 0)

-- how many bytes stand for it
abbrev pub escape_len : List ℕ → ℕ
escape_len text = if is_ascii_digit (slice_index text 0) then 3 else 1
