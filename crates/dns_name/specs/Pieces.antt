-- What the walk over a text finds at a place.
use Rattle.std.specs.Prelude.{◌≡◌, ℕ, ◌+◌, ◌<◌, ◌≤◌, List, ◌∷◌, length, drop}
use Rattle.zone_model.specs.Names.{IsFolded}
use Rattle.zone_model.specs.NameText as text
use Rattle.dns_name.specs.declared.pieces.Piece.{Piece}
use Rattle.dns_name.specs.declared.pieces.Piece.TheVariants.{Dot, Octet, Bad}

-- the pieces of a text from a place on
abbrev pub pieces_at : List ℕ → ℕ → List text.Piece
pieces_at bytes at = text.pieces_from 0 at (drop at bytes)

-- an octet, and what follows behind it
pub record IsOctetAt (bytes : List ℕ) (at octet next : ℕ) : Type 0 where
  pub is : pieces_at bytes at ≡ text.Octet at octet ∷ pieces_at bytes next
  pub later : at < next
  pub within : next ≤ length bytes
  pub small : octet < 256
  pub folded : IsFolded octet

abbrev pub IsPieceAt : List ℕ → ℕ → Piece → Type 0
IsPieceAt bytes at Dot = pieces_at bytes at ≡ text.Dot at ∷ pieces_at bytes (at + 1)
IsPieceAt bytes at (Octet octet next) = IsOctetAt bytes at octet next
IsPieceAt bytes at Bad = (rest : List text.Piece) × (pieces_at bytes at ≡ text.Bad at ∷ rest)
