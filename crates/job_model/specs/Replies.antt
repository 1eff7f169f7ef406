-- How what versions reply to questions is printed.
use Rattle.std.specs.Prelude.{ℕ, Bool, List, [], ◌++◌, length, ◌==◌, if◌then◌else◌, Option, Some, None, codes}
use Rattle.std.specs.List.{flat_map}
use Rattle.std.specs.Fmt.{decimal}
use Rattle.zone_model.specs.Names.{Name}
use Rattle.zone_model.specs.NameText.{text_of}
use Rattle.zone_model.specs.Rows.{Row, row_text}
use Rattle.zone_model.specs.Versions.{Version}
use Rattle.zone_answer.specs.Answers.{Answer}
use Rattle.zone_answer.specs.declared.kind.Kind.{Kind}
use Rattle.zone_answer.specs.declared.kind.Kind.TheVariants.{Answered, Nodata, Nxdomain, Referral, Outside}
use Rattle.zone_answer.specs.Responses.{Response}
use Rattle.zone_answer.specs.declared.header.Code.{Code}
use Rattle.zone_answer.specs.declared.header.Code.TheVariants.{NoError, NxDomain, Refused}
use Rattle.zone_answer.specs.Around.{Found}
use Rattle.trie_read.specs.declared.found.Kind.{Kind as FoundKind}
use Rattle.trie_read.specs.declared.found.Kind.TheVariants as there
use Rattle.job_model.specs.declared.Question.{Question}
use Rattle.job_model.specs.Questions.{Form, OfAnswer, OfResponse, OfFound, OfNames, OfRows, OfSize, form_of}

-- ---- answers

abbrev pub kind_text : Kind → List ℕ
kind_text Answered = codes "ANSWER"
kind_text Nodata = codes "NODATA"
kind_text Nxdomain = codes "NXDOMAIN"
kind_text Referral = codes "REFERRAL"
kind_text Outside = codes "OUTSIDE"

-- a count stands only where it isn't 0
abbrev pub count_text : ℕ → List ℕ
count_text n = if n == 0 then [] else codes " " ++ decimal n

-- a word, how many records there are, and a line for each
abbrev pub rows_text : List ℕ → List Row → List ℕ
rows_text word rows = word ++ count_text (length rows) ++ codes "\n" ++ flat_map row_text rows

abbrev pub answer_text : Answer → List ℕ
answer_text a = rows_text (kind_text a.kind) a.rows

-- ---- responses

abbrev pub code_text : Code → List ℕ
code_text NoError = codes "NOERROR"
code_text NxDomain = codes "NXDOMAIN"
code_text Refused = codes "REFUSED"

-- whether it is authoritative
abbrev pub flag_text : Bool → List ℕ
flag_text authoritative = if authoritative then codes "aa" else codes "-"

-- the code, the flag, and how many records each section has
abbrev pub header_text : Code → Bool → ℕ → ℕ → ℕ → List ℕ
header_text code authoritative answer authority additional =
    codes "ask " ++ code_text code ++ codes " " ++ flag_text authoritative ++ codes " " ++ decimal answer ++ codes " " ++ decimal authority ++ codes " " ++ decimal additional ++ codes "\n"

-- the records of its sections, one section behind the other
abbrev pub response_rows : Response → List Row
response_rows r = r.answer ++ r.authority ++ r.additional

abbrev pub response_text : Response → List ℕ
response_text r = header_text r.code r.authoritative (length r.answer) (length r.authority) (length r.additional) ++ flat_map row_text (response_rows r)

-- ---- names

abbrev pub name_line : Name → List ℕ
name_line name = text_of name ++ codes "\n"

-- a word, how many names there are, and the names
abbrev pub names_text : List ℕ → List Name → List ℕ
names_text word names = word ++ count_text (length names) ++ codes "\n" ++ flat_map name_line names

abbrev pub found_kind_text : FoundKind → List ℕ
found_kind_text there.Exact = codes "EXACT"
found_kind_text there.Partial = codes "PARTIAL"
found_kind_text there.Absent = codes "NONE"

abbrev pub name_or_none : Option Name → List ℕ
name_or_none (Some name) = text_of name
name_or_none None = codes "none"

abbrev pub found_text : Found → List ℕ
found_text f = names_text (found_kind_text f.kind) f.chain ++ codes "pred " ++ name_or_none f.predecessor ++ codes "\n"

-- how many names and nodes
abbrev pub size_text : ℕ → ℕ → List ℕ
size_text names nodes = codes "names " ++ decimal names ++ codes " nodes " ++ decimal nodes ++ codes "\n"

-- ---- replies

-- what is printed of a form that a version fills
abbrev pub form_text : Form → Version → List ℕ
form_text (OfAnswer answer) version = answer_text (answer version)
form_text (OfResponse response) version = response_text (response version)
form_text (OfFound found) version = found_text (found version)
form_text (OfNames word names) version = names_text word (names version)
form_text (OfRows word rows) version = rows_text word (rows version)
form_text (OfSize names nodes) version = size_text (names version) (nodes version)

-- what a version of the zone of an origin replies to a question
pub record Reply : Type 0 where
  pub form : Form
  pub version : Version

abbrev pub reply_of : Name → Version → Question → Reply
reply_of origin version question = record { form = form_of origin question; version = version }

abbrev pub reply_text : Reply → List ℕ
reply_text reply = form_text reply.form reply.version
