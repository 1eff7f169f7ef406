-- Texts with escapes, as their reader sees them.
use Rattle.std.specs.Prelude.{◌≡◌, ℕ, ◌+◌, ◌-◌, ◌*◌, ◌<◌, ◌&&◌, nat_le, if◌then◌else◌, List, ◌++◌, Option, Some, None}
use Rattle.std.specs.Char.{is_ascii_digit}
use Rattle.std.specs.Option.{option_map}
use Rattle.zone_model.specs.DataWords as says
use Rattle.zone_model.specs.DataWords.{octets_from}
use Rattle.zone_text.specs.declared.escapes.Behind.{Behind}
use Rattle.zone_text.specs.declared.escapes.Behind.TheVariants.{Plain, Slash, One, Two}

abbrev pub behind_view : Behind → says.Behind
behind_view Plain = says.Plain
behind_view Slash = says.Slash
behind_view (One value) = says.One value
behind_view (Two value) = says.Two value

abbrev pub BehindSmall : Behind → Type 0
BehindSmall Plain = Unit {0}
BehindSmall Slash = Unit {0}
BehindSmall (One value) = value < 10
BehindSmall (Two value) = value < 100

-- What is left of a text goes on behind what was pushed, or nothing can.
abbrev pub Unescapes : List ℕ → List ℕ → Option Behind → List ℕ → Option (List ℕ) → Type 0
Unescapes old new None text wanted = wanted ≡ None
Unescapes old new (Some behind) text wanted = option_map (λ cs. old ++ cs) wanted ≡ option_map (λ cs. new ++ cs) (octets_from (behind_view behind) text)

-- the octet of three digits, if it is one
abbrev pub last_digit : ℕ → ℕ → Option ℕ
last_digit value c = if is_ascii_digit c && nat_le (10 * value + (c - 48)) 255 then Some (10 * value + (c - 48)) else None
