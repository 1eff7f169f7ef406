-- What the tokens of a script's line are, by the command word and the number of tokens.
use Rattle.std.specs.Prelude.{ℕ, Bool, true, false, List, [], ◌∷◌, if◌then◌else◌, Option, Some, None, Result, Ok, Err, codes}
use Rattle.std.specs.Option.{option_map, option_or}
use Rattle.zone_model.specs.Names.{Name}
use Rattle.zone_model.specs.Refusals.{Refused}
use Rattle.zone_model.specs.Tokens.{Token, LineTokens, single_line}
use Rattle.zone_model.specs.declared.ZoneKind.{ZoneKind}
use Rattle.job_model.specs.declared.Ending.{Ending}
use Rattle.job_model.specs.declared.Ending.TheVariants.{Commit, Rollback}
use Rattle.job_model.specs.declared.Weight.{Weight}
use Rattle.job_model.specs.declared.Question.{Question}
use Rattle.job_model.specs.declared.ScriptKind.{ScriptKind}
use Rattle.job_model.specs.declared.Weight.TheVariants.{Light, Heavy}
use Rattle.job_model.specs.Words.{says}
use Rattle.job_model.specs.Questions.{asked_of, response_wanted}

-- ---- the tokens of a line

-- The tokens of line n, which stands by itself; None where a parenthesis stands outside quotes, or a token is bad.
abbrev pub without_parens : Result LineTokens (Refused ZoneKind) → Option (List Token)
without_parens (Err e) = None
without_parens (Ok l) = if l.parens then None else Some l.tokens

abbrev pub script_tokens : ℕ → List ℕ → Option (List Token)
script_tokens n line = without_parens (single_line n line)

-- ---- phrases

-- What a line says; of a question also what its operands say, or why they are refused. A whole response is asked for by a phrase of
-- its own.
pub data Phrase : Type 0 where
  Worker : Phrase
  Asks : (asked : Result Question ScriptKind) → Phrase
  AsksWhole : (asked : Result Question ScriptKind) → Phrase
  Holds : Phrase
  AsksHeld : (asked : Result Question ScriptKind) → Phrase
  AsksHeldWhole : (asked : Result Question ScriptKind) → Phrase
  Releases : Phrase
  Opens : (weight : Weight) → Phrase
  Needs : (wanted : Bool) (owner : Token) (rtype : Option Token) → Phrase
  Adds : (owner ttl rtype : Token) (rdata : List Token) → Phrase
  Deletes : (owner : Token) (rest : List Token) → Phrase
  Ends : (ending : Ending) → Phrase
  Compacts : Phrase

abbrev pub lone_word : Token → Option Phrase
lone_word w =
    if says w (codes "worker") then Some Worker
    else if says w (codes "hold") then Some Holds
    else if says w (codes "release") then Some Releases
    else if says w (codes "write") then Some (Opens Light)
    else if says w (codes "update") then Some (Opens Heavy)
    else if says w (codes "commit") then Some (Ends Commit)
    else if says w (codes "rollback") then Some (Ends Rollback)
    else if says w (codes "compact") then Some Compacts
    else None

-- an addition has an owner, a time to live, a type, and data of one token or more
abbrev pub adds : Token → List Token → Option Phrase
adds owner [] = None
adds owner (ttl ∷ []) = None
adds owner (ttl ∷ rtype ∷ []) = None
adds owner (ttl ∷ rtype ∷ first ∷ rest) = Some (Adds owner ttl rtype (first ∷ rest))

-- a prerequisite has an owner, and perhaps a type
abbrev pub needs : Bool → Token → List Token → Option Phrase
needs wanted owner [] = Some (Needs wanted owner None)
needs wanted owner (rtype ∷ []) = Some (Needs wanted owner (Some rtype))
needs wanted owner (rtype ∷ other ∷ rest) = None

-- what is asked of the snapshot
abbrev pub asks_held : Name → Token → List Token → Option Phrase
asks_held origin w operands =
    if says w (codes "ask") then option_map AsksHeldWhole (response_wanted origin operands)
    else option_map AsksHeld (asked_of origin w operands)

-- what another word says, with an argument and what stands behind that
abbrev pub argued : Name → Token → Token → List Token → Option Phrase
argued origin w first rest =
    if says w (codes "add") then adds first rest
    else if says w (codes "del") then Some (Deletes first rest)
    else if says w (codes "ask") then option_map AsksWhole (response_wanted origin (first ∷ rest))
    else if says w (codes "at") then asks_held origin first rest
    else if says w (codes "need") then needs true first rest
    else if says w (codes "neednot") then needs false first rest
    else None

abbrev pub no_question : Name → Token → List Token → Option Phrase
no_question origin w [] = lone_word w
no_question origin w (first ∷ rest) = argued origin w first rest

-- what tokens say, where names are relative to the origin
unfoldable pub phrase_of : Name → List Token → Option Phrase
phrase_of origin [] = None
phrase_of origin (w ∷ arguments) = option_or (option_map Asks (asked_of origin w arguments)) (no_question origin w arguments)
