-- Questions as they stand in a line, as the definitions see them.
use Rattle.std.specs.Prelude.{ℕ, List, Result, Ok}
use Rattle.std.specs.Option.{ok_or}
use Rattle.zone_model.specs.Names.{Name}
use Rattle.zone_model.specs.Refusals.{◌>>=◌}
use Rattle.zone_model.specs.MasterFile.{name_word}
use Rattle.zone_text.specs.Tokens.{IsPlaced, token_view}
use Rattle.zone_text.specs.declared.token.Token.{Token}
use Rattle.job_model.specs.Questions.{name_and_type, name_and_number}
use Rattle.job_model.specs.declared.Question.{Question}
use Rattle.job_model.specs.declared.Question.TheVariants.{Get, Respond, Find, Walk, Back, Stat, Dump}
use Rattle.job_model.specs.declared.ScriptKind.{ScriptKind}
use Rattle.job_model.specs.declared.ScriptKind.TheVariants.{BadName}
use Rattle.job_script.specs.declared.questions.Asked.{Asked}
use Rattle.job_script.specs.declared.questions.Asked.TheVariants as asked

-- what its operands say, or why they are refused
abbrev pub asked_view : Name → List ℕ → Asked → Result Question ScriptKind
asked_view origin bytes (asked.Get name rtype) = name_and_type origin (token_view bytes name, token_view bytes rtype) >>= (λ p. Ok (Get p.0 p.1))
asked_view origin bytes (asked.Find name) = ok_or (name_word origin (token_view bytes name)) BadName >>= (λ x. Ok (Find x))
asked_view origin bytes (asked.Walk start number) = name_and_number origin (token_view bytes start, token_view bytes number) >>= (λ x. Ok (Walk x))
asked_view origin bytes (asked.Back start number) = name_and_number origin (token_view bytes start, token_view bytes number) >>= (λ x. Ok (Back x))
asked_view origin bytes asked.Stat = Ok Stat
asked_view origin bytes asked.Dump = Ok Dump

-- the same of a whole response's
abbrev pub whole_view : Name → List ℕ → Token → Token → Result Question ScriptKind
whole_view origin bytes name rtype = name_and_type origin (token_view bytes name, token_view bytes rtype) >>= (λ p. Ok (Respond p.0 p.1))

-- its operands lie inside the bytes
abbrev pub AskedPlaced : List ℕ → Asked → Type 0
AskedPlaced bytes (asked.Get name rtype) = IsPlaced bytes name × IsPlaced bytes rtype
AskedPlaced bytes (asked.Find name) = IsPlaced bytes name
AskedPlaced bytes (asked.Walk start number) = IsPlaced bytes start × IsPlaced bytes number
AskedPlaced bytes (asked.Back start number) = IsPlaced bytes start × IsPlaced bytes number
AskedPlaced bytes asked.Stat = Unit {0}
AskedPlaced bytes asked.Dump = Unit {0}
