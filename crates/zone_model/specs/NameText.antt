-- The text of a name (RFC 1035, section 5.1): how it is read and how it is printed.
use Rattle.std.specs.Prelude.{ℕ, zero, suc, ◌+◌, ◌-◌, Bool, true, false, List, [], ◌∷◌, ◌++◌, length, take, map, codes, ◌==◌, nat_lt, ◌/◌, ◌%◌, ◌||◌, ◌&&◌, if◌then◌else◌, Option, Some, None, Result, Ok, Err}
use Rattle.std.specs.List.{flat_map, join_with_byte}
use Rattle.std.specs.Char.{to_ascii_lowercase}
use Rattle.zone_model.specs.Names.{Name, Label, wire, is_under}
use Rattle.zone_model.specs.Escapes.{escaped_octet, escape_len}
use Rattle.zone_model.specs.declared.NameRefusal.{NameRefusal}
use Rattle.zone_model.specs.declared.NameRefusal.TheVariants.{EmptyLabel, LongLabel, BadEscape, LongName}

-- A text is dots that end labels, octets of labels in lower case, and backslashes that begin no escape. Each has its place in the text, counted from 0.
pub data Piece : Type 0 where
  Dot : (at : ℕ) → Piece
  Octet : (at octet : ℕ) → Piece
  Bad : (at : ℕ) → Piece

abbrev pub escape_piece : ℕ → Option ℕ → Piece
escape_piece at None = Bad at
escape_piece at (Some octet) = Octet at (to_ascii_lowercase octet)

-- the piece at a place, where c stands in front of the text
abbrev pub piece_of : ℕ → ℕ → List ℕ → Piece
piece_of at c text =
    if c == 46 then Dot at
    else if c == 92 then escape_piece at (escaped_octet text)
    else Octet at (to_ascii_lowercase c)

-- how many bytes of the text belong to the same piece as c
abbrev pub taken : ℕ → List ℕ → ℕ
taken c text = if c == 92 then escape_len text else 0

-- the pieces from a place on, where `skip` bytes still belong to the piece before
unfoldable pub pieces_from : ℕ → ℕ → List ℕ → List Piece
pieces_from skip at [] = []
pieces_from (suc skip) at (c ∷ text) = pieces_from skip (at + 1) text
pieces_from zero at (c ∷ text) = piece_of at c text ∷ pieces_from (taken c text) (at + 1) text

-- labels in front of what is read behind them
unfoldable pub onto : Name → Result (Name × Bool) NameRefusal → Result (Name × Bool) NameRefusal
onto front (Ok x) = Ok (front ++ x.0, x.1)
onto front (Err e) = Err e

-- The labels that pieces make, where `label` has come of the open label, and whether a dot ends them; or the first refusal.
unfoldable pub labels_from : Label → List Piece → Result (Name × Bool) NameRefusal
labels_from label [] = if length label == 0 then Ok ([], true) else Ok (label ∷ [], false)
labels_from label (Dot at ∷ pieces) = if length label == 0 then Err (EmptyLabel at) else onto (label ∷ []) (labels_from [] pieces)
labels_from label (Bad at ∷ pieces) = Err (BadEscape at)
labels_from label (Octet at octet ∷ pieces) = if length label == 63 then Err (LongLabel at) else labels_from (label ++ octet ∷ []) pieces

abbrev pub labels_of : List ℕ → Result (Name × Bool) NameRefusal
labels_of text = labels_from [] (pieces_from 0 0 text)

-- a name that isn't too long
unfoldable pub fitting : Name → Result Name NameRefusal
fitting labels = if nat_lt 255 (length (wire labels)) then Err (LongName (length (wire labels))) else Ok labels

-- a name of labels that go on with the origin, unless a dot ends them
unfoldable pub completed : Name → Result (Name × Bool) NameRefusal → Result Name NameRefusal
completed origin (Err e) = Err e
completed origin (Ok x) = fitting (if x.1 then x.0 else x.0 ++ origin)

-- the name that a text says; a text without a last dot goes on with the origin
unfoldable pub name_of : List ℕ → Name → Result Name NameRefusal
name_of [] origin = Err (EmptyLabel 0)
name_of (c ∷ []) origin = if c == 64 then Ok origin else if c == 46 then Ok [] else completed origin (labels_of (c ∷ []))
name_of (c ∷ d ∷ text) origin = completed origin (labels_of (c ∷ d ∷ text))

-- ---- names as they are printed

-- the digits of an octet
abbrev pub three_digits : ℕ → List ℕ
three_digits c = (c / 100 + 48) ∷ (c / 10 % 10 + 48) ∷ (c % 10 + 48) ∷ []

abbrev pub is_special : ℕ → Bool
is_special c = (c == 34) || (c == 36) || (c == 40) || (c == 41) || (c == 46) || (c == 59) || (c == 64) || (c == 92)

abbrev pub octet_text : ℕ → List ℕ
octet_text c =
    if is_special c then 92 ∷ c ∷ []
    else if nat_lt 32 c && nat_lt c 127 then c ∷ []
    else 92 ∷ three_digits c

abbrev pub label_text : Label → List ℕ
label_text label = flat_map octet_text label ++ 46 ∷ []

abbrev pub text_of : Name → List ℕ
text_of [] = 46 ∷ []
text_of (label ∷ labels) = flat_map label_text (label ∷ labels)

-- ---- names as they are printed where an origin is in force

-- labels with dots between them
abbrev pub labels_text : Name → List ℕ
labels_text labels = join_with_byte 46 (map (λ label. flat_map octet_text label) labels)

-- the labels in front of an origin
abbrev pub front_text : Name → List ℕ
front_text [] = codes "@"
front_text (label ∷ labels) = labels_text (label ∷ labels)

-- A name relative to an origin: `@` for the origin itself, and for a name under it the labels in front. Any other name is absolute.
abbrev pub relative_text : Name → Name → List ℕ
relative_text origin name = if is_under name origin then front_text (take (length name - length origin) name) else text_of name

-- a name relative to an origin, or absolute where there is none
abbrev pub name_text : Option Name → Name → List ℕ
name_text None name = text_of name
name_text (Some origin) name = relative_text origin name
