-- Tokens as the words of the definitions.
use Rattle.std.specs.Prelude.{ℕ, ◌≤◌, List, length}
use Rattle.std.specs.List.{slice_range}
use Rattle.zone_model.specs.Tokens as says
use Rattle.zone_text.specs.declared.token.Token.{Token}

-- a token's places as its bytes
abbrev pub token_view : List ℕ → Token → says.Token
token_view bytes t = record { text = slice_range bytes t.from t.upto; quoted = t.quoted; line = t.line }

-- a token lies inside the bytes
abbrev pub IsPlaced : List ℕ → Token → Type 0
IsPlaced bytes t = (t.from ≤ t.upto) × (t.upto ≤ length bytes)
