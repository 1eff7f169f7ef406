-- Several zones in one input: each is a part, which begins with a line that names its origin.
use Rattle.std.specs.Prelude.{ℕ, ◌+◌, Bool, false, ◌&&◌, List, [], ◌∷◌, ◌++◌, length, take, drop, nat_lt, if◌then◌else◌, Result, Ok, codes}
use Rattle.std.specs.List.{list_any}
use Rattle.std.specs.Str.{bytes_eq}
use Rattle.zone_model.specs.Names.{Name, same_name}
use Rattle.zone_model.specs.Refusals.{Refused, ◌>>=◌}
use Rattle.zone_model.specs.Tokens.{Token, entry_from, fresh, refused, begins_blank}
use Rattle.zone_model.specs.MasterFile.{Zone, zone_at, name_word, required}
use Rattle.zone_model.specs.declared.ZoneKind.{ZoneKind}
use Rattle.zone_model.specs.declared.ZoneKind.TheVariants.{BadName, BadToken, Repeated, TooManyZones}

-- ---- parts

-- the line begins a part: with `%zone`, and a space or tab
abbrev pub is_head : List ℕ → Bool
is_head line = bytes_eq (take 5 line) (codes "%zone") && begins_blank (drop 5 line)

-- the number of a part's first line, that line, and the lines behind it
pub record Part : Type 0 where
  pub number : ℕ
  pub head : List ℕ
  pub lines : List (List ℕ)

-- the lines in front of the first part, and the parts
pub record Cut : Type 0 where
  pub front : List (List ℕ)
  pub parts : List Part

-- line n in front of what is cut
abbrev pub with_line : ℕ → List ℕ → Cut → Cut
with_line n line cut =
    if is_head line then record { front = []; parts = (record { number = n; head = line; lines = cut.front }) ∷ cut.parts }
    else record { front = line ∷ cut.front; parts = cut.parts }

-- The lines from line n on are cut before each one that begins a part.
unfoldable pub cut_from : ℕ → List (List ℕ) → Cut
cut_from n [] = record { front = []; parts = [] }
cut_from n (line ∷ lines) = with_line n line (cut_from (n + 1) lines)

-- ---- what a part says

-- The words of a part's first line, which is line n: the one that it begins with, and the origin, read below the root.
abbrev pub origin_word : ℕ → List Token → Result Name (Refused ZoneKind)
origin_word n [] = refused n BadToken
origin_word n (word ∷ []) = refused n BadToken
origin_word n (word ∷ origin ∷ []) = required n BadName (name_word [] origin)
origin_word n (word ∷ origin ∷ other ∷ words) = refused n BadToken

-- the origin that the first line of a part says, which is line n
unfoldable pub head_says : ℕ → List ℕ → Result Name (Refused ZoneKind)
head_says n line = entry_from n (line ∷ []) fresh >>= (λ entry. origin_word n entry.tokens)

-- the most zones
abbrev pub zone_limit : ℕ
zone_limit = 16

-- an origin that no earlier zone has, while there is room for one zone more
abbrev pub new_origin : ℕ → List Zone → Name → Result Name (Refused ZoneKind)
new_origin n earlier origin =
    if list_any (λ zone. same_name zone.origin origin) earlier then refused n Repeated
    else if nat_lt (length earlier) zone_limit then Ok origin
    else refused n TooManyZones

-- the zone that a part says behind earlier ones
unfoldable pub part_says : List Zone → Part → Result Zone (Refused ZoneKind)
part_says earlier part = do
  word ← head_says part.number part.head
  origin ← new_origin part.number earlier word
  version ← zone_at (part.number + 1) origin part.lines
  Ok (record { origin = origin; pairs = version })

-- ---- all zones

-- earlier zones and those that parts say
unfoldable pub zones_from : List Zone → List Part → Result (List Zone) (Refused ZoneKind)
zones_from earlier [] = Ok earlier
zones_from earlier (part ∷ parts) = part_says earlier part >>= (λ zone. zones_from (earlier ++ zone ∷ []) parts)

-- the first line begins a part
abbrev pub begins_part : List (List ℕ) → Bool
begins_part [] = false
begins_part (line ∷ lines) = is_head line

-- the zones that lines say, in order, or the first refusal from the top
unfoldable pub zones_of : List (List ℕ) → Result (List Zone) (Refused ZoneKind)
zones_of lines = if begins_part lines then zones_from [] (cut_from 1 lines).parts else refused 1 BadToken
