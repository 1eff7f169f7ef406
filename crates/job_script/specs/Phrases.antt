-- Phrases as the definitions see them, where names are relative to an origin.
use Rattle.std.specs.Prelude.{ℕ, List, map, IfSome, Result}
use Rattle.std.specs.Option.{option_map}
use Rattle.std.specs.List.{All}
use Rattle.job_model.specs.Arguments.{refuse, addition_of, deletion_of}
use Rattle.job_model.specs.Phrases as phrases
use Rattle.job_model.specs.declared.ScriptKind.{ScriptKind}
use Rattle.job_model.specs.declared.ScriptKind.TheVariants.{BadCommand}
use Rattle.zone_model.specs.Names.{Name}
use Rattle.zone_model.specs.Refusals.{Refused}
use Rattle.zone_model.specs.Versions.{Operation}
use Rattle.zone_text.specs.Tokens.{IsPlaced, token_view}
use Rattle.job_script.specs.Asked.{asked_view, whole_view, AskedPlaced}
use Rattle.job_script.specs.declared.phrases.Phrase.{Phrase}
use Rattle.job_script.specs.declared.phrases.Phrase.TheVariants as phrase

abbrev pub phrase_view : Name → List ℕ → Phrase → phrases.Phrase
phrase_view origin bytes phrase.Worker = phrases.Worker
phrase_view origin bytes (phrase.Asks asked) = phrases.Asks (asked_view origin bytes asked)
phrase_view origin bytes (phrase.AsksWhole name rtype) = phrases.AsksWhole (whole_view origin bytes name rtype)
phrase_view origin bytes phrase.Holds = phrases.Holds
phrase_view origin bytes (phrase.AsksHeld asked) = phrases.AsksHeld (asked_view origin bytes asked)
phrase_view origin bytes (phrase.AsksHeldWhole name rtype) = phrases.AsksHeldWhole (whole_view origin bytes name rtype)
phrase_view origin bytes phrase.Releases = phrases.Releases
phrase_view origin bytes (phrase.Opens weight) = phrases.Opens weight
phrase_view origin bytes (phrase.Needs wanted owner rtype) = phrases.Needs wanted (token_view bytes owner) (option_map (token_view bytes) rtype)
phrase_view origin bytes (phrase.Adds owner ttl rtype rest) = phrases.Adds (token_view bytes owner) (token_view bytes ttl) (token_view bytes rtype) (map (token_view bytes) rest.now)
phrase_view origin bytes (phrase.Deletes owner rest) = phrases.Deletes (token_view bytes owner) (map (token_view bytes) rest.now)
phrase_view origin bytes (phrase.Ends ending) = phrases.Ends ending
phrase_view origin bytes phrase.Compacts = phrases.Compacts

-- the tokens lie inside the bytes
abbrev pub PhrasePlaced : List ℕ → Phrase → Type 0
PhrasePlaced bytes phrase.Worker = Unit {0}
PhrasePlaced bytes (phrase.Asks asked) = AskedPlaced bytes asked
PhrasePlaced bytes (phrase.AsksWhole name rtype) = IsPlaced bytes name × IsPlaced bytes rtype
PhrasePlaced bytes phrase.Holds = Unit {0}
PhrasePlaced bytes (phrase.AsksHeld asked) = AskedPlaced bytes asked
PhrasePlaced bytes (phrase.AsksHeldWhole name rtype) = IsPlaced bytes name × IsPlaced bytes rtype
PhrasePlaced bytes phrase.Releases = Unit {0}
PhrasePlaced bytes (phrase.Opens _) = Unit {0}
PhrasePlaced bytes (phrase.Needs wanted owner rtype) = IsPlaced bytes owner × IfSome rtype (IsPlaced bytes)
PhrasePlaced bytes (phrase.Adds owner ttl rtype rest) = IsPlaced bytes owner × IsPlaced bytes ttl × IsPlaced bytes rtype × All (IsPlaced bytes) rest.now
PhrasePlaced bytes (phrase.Deletes owner rest) = IsPlaced bytes owner × All (IsPlaced bytes) rest.now
PhrasePlaced bytes (phrase.Ends _) = Unit {0}
PhrasePlaced bytes phrase.Compacts = Unit {0}

-- the operation that a phrase says, if it says one
abbrev pub operation_said : Name → ℕ → phrases.Phrase → Result Operation (Refused ScriptKind)
operation_said origin n (phrases.Adds owner ttl rtype tokens) = addition_of origin n owner ttl rtype tokens
operation_said origin n (phrases.Deletes owner rest) = deletion_of origin n owner rest
operation_said origin n other = refuse n BadCommand
