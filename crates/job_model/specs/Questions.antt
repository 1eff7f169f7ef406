-- The questions of scripts: the word of each, what its operands say, and what it asks of a version. Operands are read from the left.
use Rattle.std.specs.Prelude.{ℕ, List, [], ◌∷◌, length, if◌then◌else◌, Option, Some, None, Result, Ok, codes}
use Rattle.std.specs.Option.{option_map, ok_or}
use Rattle.zone_model.specs.Names.{Name}
use Rattle.zone_model.specs.Refusals.{◌>>=◌}
use Rattle.zone_model.specs.Tokens.{Token}
use Rattle.zone_model.specs.MasterFile.{name_word, type_word}
use Rattle.zone_model.specs.Rows.{Row}
use Rattle.zone_model.specs.Dumps.{all_rows}
use Rattle.zone_model.specs.Versions.{Version}
use Rattle.zone_answer.specs.Answers.{Answer, answer}
use Rattle.zone_answer.specs.Responses.{Response, respond}
use Rattle.zone_answer.specs.Around.{Found, find, walk, back}
use Rattle.job_model.specs.Sizes.{node_count}
use Rattle.job_model.specs.declared.Question.{Question}
use Rattle.job_model.specs.declared.Question.TheVariants.{Get, Respond, Find, Walk, Back, Stat, Dump}
use Rattle.job_model.specs.declared.Stretch.{Stretch}
use Rattle.job_model.specs.declared.ScriptKind.{ScriptKind}
use Rattle.job_model.specs.declared.ScriptKind.TheVariants.{BadName, BadType, BadNumber}
use Rattle.job_model.specs.Words.{says, lone, pair, names_word}

-- ---- operands: what they say, or why they are refused; None where they are fewer or more

abbrev pub name_and_type : Name → Token × Token → Result (Name × ℕ) ScriptKind
name_and_type origin words = do
  name ← ok_or (name_word origin words.0) BadName
  rtype ← ok_or (type_word words.1) BadType
  Ok (name, rtype)

-- where a list of names begins, and how many are wanted
abbrev pub name_and_number : Name → Token × Token → Result Stretch ScriptKind
name_and_number origin words = do
  start ← ok_or (name_word origin words.0) BadName
  most ← ok_or (names_word words.1) BadNumber
  Ok (record { start = start; most = most })

abbrev pub typed : Name → List Token → Option (Result (Name × ℕ) ScriptKind)
typed origin operands = option_map (name_and_type origin) (pair operands)

abbrev pub named : Name → List Token → Option (Result Name ScriptKind)
named origin operands = option_map (λ word. ok_or (name_word origin word) BadName) (lone operands)

abbrev pub stretched : Name → List Token → Option (Result Stretch ScriptKind)
stretched origin operands = option_map (name_and_number origin) (pair operands)

-- ---- words

-- a question of what its operands say, and one without operands
abbrev pub asks : {A : Type 0} → (A → Question) → Option (Result A ScriptKind) → Option (Result Question ScriptKind)
asks question said = option_map (λ r. r >>= (λ x. Ok (question x))) said

abbrev pub bare : Question → List Token → Option (Result Question ScriptKind)
bare question [] = Some (Ok question)
bare question (t ∷ rest) = None

-- the question that a word asks with its operands; None where it is no such word, or the operands are fewer or more
unfoldable pub asked_of : Name → Token → List Token → Option (Result Question ScriptKind)
asked_of origin w operands =
    if says w (codes "get") then asks (λ p. Get p.0 p.1) (typed origin operands)
    else if says w (codes "find") then asks Find (named origin operands)
    else if says w (codes "walk") then asks Walk (stretched origin operands)
    else if says w (codes "back") then asks Back (stretched origin operands)
    else if says w (codes "stat") then bare Stat operands
    else if says w (codes "dump") then bare Dump operands
    else None

-- the question for a whole response
abbrev pub response_wanted : Name → List Token → Option (Result Question ScriptKind)
response_wanted origin operands = asks (λ p. Respond p.0 p.1) (typed origin operands)

-- ---- what they ask of a version

-- The form of a reply, and what fills it from a version: an answer; a response; what there is of a name; a word with names, or with
-- records; how many names and nodes.
pub data Form : Type 0 where
  OfAnswer : (answer : Version → Answer) → Form
  OfResponse : (response : Version → Response) → Form
  OfFound : (found : Version → Found) → Form
  OfNames : (word : List ℕ) (names : Version → List Name) → Form
  OfRows : (word : List ℕ) (rows : Version → List Row) → Form
  OfSize : (names nodes : Version → ℕ) → Form

-- what a question asks of the versions of the zone of an origin
abbrev pub form_of : Name → Question → Form
form_of origin (Get name rtype) = OfAnswer (λ version. answer origin version name rtype)
form_of origin (Respond name rtype) = OfResponse (λ version. respond origin version name rtype)
form_of origin (Find name) = OfFound (λ version. find name version)
form_of origin (Walk s) = OfNames (codes "WALK") (λ version. walk s.start s.most version)
form_of origin (Back s) = OfNames (codes "BACK") (λ version. back s.start s.most version)
form_of origin Stat = OfSize (λ version. length version) (λ version. node_count version)
form_of origin Dump = OfRows (codes "DUMP") (λ version. all_rows version)
