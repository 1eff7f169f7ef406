-- What the tokens of a line outside blocks are, by the command word and the number of tokens.
use Rattle.std.specs.Prelude.{List, [], ◌∷◌, if◌then◌else◌, Option, Some, None, codes}
use Rattle.zone_model.specs.Tokens.{Token}
use Rattle.job_model.specs.Words.{says}
use Rattle.job_model.specs.declared.Weight.{Weight}
use Rattle.job_model.specs.declared.Weight.TheVariants.{Light, Heavy}

-- what a line says
pub data Phrase : Type 0 where
  Worker : Phrase
  Gets : (name rtype : Token) → Phrase
  Opens : (weight : Weight) (origin : Token) → Phrase
  Attaches : (origin : Token) → Phrase
  Detaches : (origin : Token) → Phrase

-- a word with an origin behind it
abbrev pub of_zone : Token → Token → Option Phrase
of_zone w origin =
    if says w (codes "write") then Some (Opens Light origin)
    else if says w (codes "update") then Some (Opens Heavy origin)
    else if says w (codes "attach") then Some (Attaches origin)
    else if says w (codes "detach") then Some (Detaches origin)
    else None

unfoldable pub phrase_of : List Token → Option Phrase
phrase_of [] = None
phrase_of (w ∷ []) = if says w (codes "worker") then Some Worker else None
phrase_of (w ∷ origin ∷ []) = of_zone w origin
phrase_of (w ∷ name ∷ rtype ∷ []) = if says w (codes "get") then Some (Gets name rtype) else None
phrase_of (w ∷ name ∷ rtype ∷ other ∷ rest) = None
