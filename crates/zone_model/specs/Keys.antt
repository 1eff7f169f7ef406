-- The key of a name: its labels from the root downwards, each octet as one or two positions below 47, and position 0 at the end of each label.
-- Digits, letters, `-` and `_` have one position; the octets between these share a first position and differ in the second.
-- So keys stand in canonical order (RFC 4034, section 6.1). The plan is that of BIND's doc/design/qp-trie.md, the table is our own.
use Rattle.std.specs.Prelude.{◌≡◌, ◌≢◌, ℕ, ◌+◌, ◌-◌, ◌<◌, ◌≤◌, List, [], ◌∷◌, ◌++◌, length, reverse, slice_index, Bool, ◌==◌, ◌||◌, nat_lt, if◌then◌else◌}
use Rattle.std.specs.List.{flat_map}
use Rattle.std.specs.declared.cmp.Ordering.{Ordering}
use Rattle.std.specs.declared.cmp.Ordering.TheVariants.{Equal}
use Rattle.std.specs.Ordering.{nat_cmp, ordering_then}
use Rattle.zone_model.specs.Names.{Label, Name, IsName, BeginsWith}

-- the first position of an octet; a letter in upper case counts as in lower case
unfoldable pub first_position : ℕ → ℕ
first_position c =
    if nat_lt c 45 then 1
    else if c == 45 then 2
    else if nat_lt c 48 then 3
    else if nat_lt c 58 then c - 44
    else if nat_lt c 65 then 14
    else if nat_lt c 91 then c - 48
    else if nat_lt c 95 then 14
    else if c == 95 then 15
    else if c == 96 then 16
    else if nat_lt c 123 then c - 80
    else if nat_lt c 169 then 43
    else if nat_lt c 215 then 44
    else 45

-- its second position, which is never 0, or 0 where it has none
unfoldable pub second_position : ℕ → ℕ
second_position c =
    if nat_lt c 45 then c + 1
    else if c == 45 then 0
    else if nat_lt c 48 then c - 45
    else if nat_lt c 58 then 0
    else if nat_lt c 65 then c - 57
    else if nat_lt c 91 then 0
    else if nat_lt c 95 then c - 83
    else if c == 95 then 0
    else if c == 96 then 1
    else if nat_lt c 123 then 0
    else if nat_lt c 169 then c - 122
    else if nat_lt c 215 then c - 168
    else c - 214

-- several octets share this first position, and differ in the second
abbrev pub is_shared : ℕ → Bool
is_shared first = (first == 1) || (first == 3) || (first == 14) || (first == 16) || nat_lt 42 first

-- one position, or two where the second is not 0
abbrev pub one_or_two : ℕ → ℕ → List ℕ
one_or_two first second = if second == 0 then first ∷ [] else first ∷ second ∷ []

abbrev pub octet_positions : ℕ → List ℕ
octet_positions c = one_or_two (first_position c) (second_position c)

abbrev pub label_positions : Label → List ℕ
label_positions label = flat_map octet_positions label ++ 0 ∷ []

abbrev pub key_of : Name → List ℕ
key_of name = flat_map label_positions (reverse name)

-- these positions are the key of a name
abbrev pub IsKey : List ℕ → Type 0
IsKey positions = (name : Name) × IsName name × (positions ≡ key_of name)

-- keys are compared position by position, with 0 past the end
abbrev pub key_cmp : List ℕ → List ℕ → Ordering
key_cmp [] [] = Equal
key_cmp [] (y ∷ ys) = ordering_then (nat_cmp 0 y) (key_cmp [] ys)
key_cmp (x ∷ xs) [] = ordering_then (nat_cmp x 0) (key_cmp xs [])
key_cmp (x ∷ xs) (y ∷ ys) = ordering_then (nat_cmp x y) (key_cmp xs ys)

-- the first place at which two keys differ
pub record IsFirstDifference (a b : List ℕ) (at : ℕ) : Type 0 where
  pub differ : slice_index a at ≢ slice_index b at
  pub before : (k : ℕ) → k < at → slice_index a k ≡ slice_index b k

-- the most octets of an item
abbrev pub most_item_octets : ℕ
most_item_octets = 65535

-- an item begins with the wire form of the name that has this key
pub record Leads (positions item : List ℕ) : Type 0 where
  pub short : length item ≤ most_item_octets
  pub name : Name
  pub is_name : IsName name
  pub key : positions ≡ key_of name
  pub front : BeginsWith item name
