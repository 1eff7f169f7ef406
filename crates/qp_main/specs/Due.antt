-- What is due for words and bytes: a status, and the text to be written.
use Rattle.std.specs.Prelude.{◌≡◌, ◌≢◌, ℕ, Bool, true, false, List, nat_le, ◌==◌, ◌++◌, ◌≤◌, IsTrue, length, if◌then◌else◌, Option, Some, None, Result, Ok, Err, codes, map, Contains}
use Rattle.std.specs.List.{list_all}
use Rattle.std.specs.declared.cmp.Ordering.TheVariants.{Less}
use Rattle.std.specs.Fmt.{decimal}
use Rattle.zone_model.specs.Names.{Name, name_cmp}
use Rattle.zone_model.specs.Versions.{Version}
use Rattle.zone_model.specs.Refusals.{Refused}
use Rattle.zone_model.specs.MasterFile.{Zone}
use Rattle.job_model.specs.Commands.{FedJob, Job}
use Rattle.job_model.specs.Jobs.{JobRefusal, ZoneRefused, ScriptRefused, job_of, fed_job_of, list_of}
use Rattle.trie_model.specs.Capacity.{IsLeast}
use Rattle.job_model.specs.Needs.{most_cells, most_operations}
use Rattle.job_model.specs.Outcomes.{Pair, Lawful, all_pairs, passes_for, some_refused}
use Rattle.job_model.specs.Feeds.{Fed, FedPair, all_numbers, by_worker, fed_commands, fed_report, passes_fed, some_fed_refused}
use Rattle.zone_model.specs.declared.ZoneKind.{ZoneKind}
use Rattle.zone_model.specs.declared.ZoneKind.TheVariants as zone_kind
use Rattle.job_model.specs.declared.ScriptKind.{ScriptKind}
use Rattle.job_model.specs.Loads.{made_text}
use Rattle.job_model.specs.Sessions.{script_kind_text}
use Rattle.need_laws.specs.Bounds.{AllFedFindRoom, AllFindRoom, IsSized, IsSizedList}
use Rattle.zones_model.specs.Commands.{Job as ZonesJob}
use Rattle.zones_model.specs.Outcomes.{CommandEnd, Last, ZonesLawful, command_of}
use Rattle.zones_model.specs.Reports as several
use Rattle.zones_script.specs.Jobs.{ZonesRefusal, zones_job_of}
use Rattle.zones_script.specs.Jobs as of_zones
use Rattle.zone_text.specs.declared.refusal.ZoneRefusal.{ZoneRefusal}
use Rattle.job_report.specs.Pieces.{pieces_text}
use Rattle.job_report.specs.declared.pieces.Pieces.{Pieces}
use Rattle.outer_io.specs.Bytes.{Held, Grows, GrowsByFront}
use Rattle.zone_model.specs.Dumps.{dump}
use Rattle.zone_model.specs.Lines.{lines_of}
use Rattle.zone_diff.specs.Blocks.{blocks, in_turn}
use Rattle.zone_diff.specs.Differences.{difference, made}
use Rattle.zone_diff.specs.Texts.{text_in}
use Rattle.zone_diff.specs.Commands.{committed}
use Rattle.zone_diff.specs.declared.DiffStyle.{DiffStyle}
use Rattle.zone_diff.specs.declared.DiffStyle.TheVariants.{Script}
use Rattle.zone_diff.specs.declared.Serial.{Serial}
use Rattle.zone_diff.specs.declared.Serial.TheVariants.{Keep}
use Rattle.zone_model.specs.declared.Style.{Style}
use Rattle.command_line.specs.Invocations.{Invocation, Verb, Run, Feed, Check, Make, Dump, Size, Zones, Diff, Live}
use Rattle.qp_main.specs.Fits.{fits, no_room_text, opened_text}
use Rattle.qp_main.specs.Needs.{needs_text}
use Rattle.qp_main.specs.Saids.{second_said, zone_said}
use Rattle.qp_main.specs.Tellings.{told_text}
use Rattle.qp_main.specs.declared.run_report.Telling.{Telling}
use Rattle.qp_main.specs.declared.run_report.Telling.TheVariants.{Report, Summary}
use Rattle.qp_main.specs.declared.status.Status.{Status}
use Rattle.qp_main.specs.declared.status.Status.TheVariants as status

abbrev pub zone_kind_text : ZoneKind → List ℕ
zone_kind_text zone_kind.BadName = codes "BadName"
zone_kind_text zone_kind.BadToken = codes "BadToken"
zone_kind_text zone_kind.OpenParen = codes "OpenParen"
zone_kind_text zone_kind.OpenQuote = codes "OpenQuote"
zone_kind_text zone_kind.NoOwner = codes "NoOwner"
zone_kind_text zone_kind.NoTtl = codes "NoTtl"
zone_kind_text zone_kind.BadTtl = codes "BadTtl"
zone_kind_text zone_kind.BadClass = codes "BadClass"
zone_kind_text zone_kind.UnknownType = codes "UnknownType"
zone_kind_text zone_kind.BadRdata = codes "BadRdata"
zone_kind_text zone_kind.Include = codes "Include"
zone_kind_text zone_kind.OutsideZone = codes "OutsideZone"
zone_kind_text zone_kind.CnameAndOther = codes "CnameAndOther"
zone_kind_text zone_kind.SoaRule = codes "SoaRule"
zone_kind_text zone_kind.LongEntry = codes "LongEntry"
zone_kind_text zone_kind.Memory = codes "Memory"
zone_kind_text zone_kind.Repeated = codes "Repeated"
zone_kind_text zone_kind.TooManyZones = codes "TooManyZones"

abbrev pub refusal_text : List ℕ → ℕ → List ℕ → List ℕ
refusal_text what line kind = what ++ codes " refused line " ++ decimal line ++ codes " " ++ kind ++ codes "\n"

-- The answers of committed versions: the text tells the job's commands with some lawful outcomes, and the status says
-- whether one of these is refused. Where the chunks are enough for the job, none is refused as full.
pub record Reported (telling : Telling) (chunks : ℕ) (job : Job) (s : Status) (text : List ℕ) : Type 0 where
  pub workers : List (List Pair)
  pub last : ℕ
  pub same : map (map (λ pair. pair.0)) workers ≡ job.workers
  pub lawful : Lawful chunks (passes_for (length job.workers)) job.origin job.zone workers last
  pub is : text ≡ told_text telling job.origin job.zone workers last
  pub ended : s ≡ (if some_refused workers then status.SomeRefused else status.Done)
  pub finds_room : IsSized job chunks → AllFindRoom (all_pairs workers)

-- The same of one list of commands and so many workers, to whom it is handed out.
pub record FedReported (workers chunks : ℕ) (job : FedJob) (s : Status) (text : List ℕ) : Type 0 where
  pub fed : List FedPair
  pub last : ℕ
  pub same : fed_commands fed ≡ job.commands
  pub handed_out : Fed (length job.commands) (all_numbers workers fed)
  pub lawful : Lawful chunks (passes_fed workers) job.origin job.zone (by_worker workers fed) last
  pub is : text ≡ fed_report job.origin job.zone workers fed last
  pub ended : s ≡ (if some_fed_refused fed then status.SomeRefused else status.Done)
  pub finds_room : IsSizedList job workers chunks → AllFedFindRoom fed

-- The same of commands over several zones, each of which has an index of so many chunks.
pub record ZonesReported (chunks : ℕ) (job : ZonesJob) (s : Status) (text : List ℕ) : Type 0 where
  pub workers : List (List CommandEnd)
  pub last : Last
  pub same : map (map command_of) workers ≡ job.workers
  pub lawful : ZonesLawful chunks job.zones workers last
  pub is : text ≡ several.report job.zones workers last
  pub ended : s ≡ (if several.some_refused workers then status.SomeRefused else status.Done)

-- What a job needs: the text tells the least number of chunks that is enough for the passes of its workers, the cells of its zone and of
-- all that is added to it, and its longest transaction; and these two.
pub record Sized (job : Job) (s : Status) (text : List ℕ) : Type 0 where
  pub chunks : Option ℕ
  pub least : IsLeast (passes_for (length job.workers)) (most_cells job) (most_operations job) chunks
  pub is : text ≡ needs_text chunks (most_cells job) (most_operations job)
  pub ended : s ≡ status.Done

-- a status and a text
abbrev pub Ends : Status → List ℕ → Status → List ℕ → Type 0
Ends status text s t = (s ≡ status) × (t ≡ text)

abbrev pub ZoneRefuses : Refused ZoneKind → Status → List ℕ → Type 0
ZoneRefuses e = Ends status.ZoneRefused (refusal_text (codes "zone") e.line (zone_kind_text e.kind))

abbrev pub ScriptRefuses : Refused ScriptKind → Status → List ℕ → Type 0
ScriptRefuses e = Ends status.ScriptRefused (refusal_text (codes "script") e.line (script_kind_text e.kind))

-- a script is refused; what is wrong with the zone is told first
abbrev pub RefusesScript : Result Version (Refused ZoneKind) → Refused ScriptKind → Status → List ℕ → Type 0
RefusesScript (Ok zone) e = ScriptRefuses e
RefusesScript (Err z) e = ZoneRefuses z

-- why bytes are no job
abbrev pub JobRefuses : JobRefusal → Status → List ℕ → Type 0
JobRefuses (ZoneRefused e) = ZoneRefuses e
JobRefuses (ScriptRefused e) = ScriptRefuses e

-- a zone's reader refused it, and not for want of memory
abbrev pub Refuses : ZoneRefusal → Status → List ℕ → Type 0
Refuses e s text = (e.kind ≢ zone_kind.Memory) × ZoneRefuses (record { line = e.line; kind = e.kind }) s text

-- a zone that doesn't fit into the chunks is refused, by whether it does
abbrev pub IfFits : Bool → ℕ → Version → (Status → List ℕ → Type 0) → Status → List ℕ → Type 0
IfFits true chunks zone Fitting = Fitting
IfFits false chunks zone Fitting = Ends status.DoesNotFit (no_room_text chunks zone)

-- of several zones the first in canonical order of the origins that doesn't fit is told
pub record FirstDoesNotFit (chunks : ℕ) (zones : List Zone) (s : Status) (text : List ℕ) : Type 0 where
  pub zone : Zone
  pub there : Contains zones zone
  pub too_large : fits chunks zone.pairs ≡ false
  pub first : (other : Zone) → Contains zones other → name_cmp other.origin zone.origin ≡ Less → fits chunks other.pairs ≡ true
  pub told : Ends status.DoesNotFit (no_room_text chunks zone.pairs) s text

abbrev pub all_fit : ℕ → List Zone → Bool
all_fit chunks zones = list_all (λ zone. fits chunks zone.pairs) zones

abbrev pub IfAllFit : Bool → ℕ → List Zone → (Status → List ℕ → Type 0) → Status → List ℕ → Type 0
IfAllFit true chunks zones Fitting = Fitting
IfAllFit false chunks zones Fitting = FirstDoesNotFit chunks zones

-- the status and the text for the job that bytes say
abbrev pub Answers : Telling → ℕ → Result Job JobRefusal → Status → List ℕ → Type 0
Answers telling chunks (Ok job) = IfFits (fits chunks job.zone) chunks job.zone (Reported telling chunks job)
Answers telling chunks (Err e) = JobRefuses e

-- the same of one list of commands that is handed out to so many workers
abbrev pub FedAnswers : ℕ → ℕ → Result FedJob JobRefusal → Status → List ℕ → Type 0
FedAnswers workers chunks (Ok job) = IfFits (fits chunks job.zone) chunks job.zone (FedReported workers chunks job)
FedAnswers workers chunks (Err e) = JobRefuses e

-- the same of the job over several zones that bytes say
abbrev pub ZonesAnswers : ℕ → Result ZonesJob ZonesRefusal → Status → List ℕ → Type 0
ZonesAnswers chunks (Ok job) = IfAllFit (all_fit chunks job.zones) chunks job.zones (ZonesReported chunks job)
ZonesAnswers chunks (Err (of_zones.ListRefused e)) = ZoneRefuses e
ZonesAnswers chunks (Err (of_zones.ScriptRefused e)) = ScriptRefuses e

-- the status and the text for the job that bytes say: what it needs, whether or not its zone fits into some chunks
abbrev pub Sizes : Result Job JobRefusal → Status → List ℕ → Type 0
Sizes (Ok job) = Sized job
Sizes (Err e) = JobRefuses e

-- the status and the text for the zone that bytes say: how many names and nodes it has
abbrev pub Checks : ℕ → Result Version (Refused ZoneKind) → Status → List ℕ → Type 0
Checks chunks (Ok zone) = IfFits (fits chunks zone) chunks zone (Ends status.Done (opened_text zone))
Checks chunks (Err e) = ZoneRefuses e

-- the status and the text for the zone that bytes say: all of it as a master file
abbrev pub Dumps : ℕ → Style → Name → Result Version (Refused ZoneKind) → Status → List ℕ → Type 0
Dumps chunks style origin (Ok zone) = IfFits (fits chunks zone) chunks zone (Ends status.Done (dump style origin zone))
Dumps chunks style origin (Err e) = ZoneRefuses e

-- What makes of a zone another one: the text has its transactions. Each of these is taken, one after another on the zone before, and
-- together they make the zone after, but for its serial where that doesn't count. A script, read as one list of commands, is these
-- transactions. The status says whether there is any.
pub record Different (style : DiffStyle) (serial : Serial) (origin : Name) (before after : Version) (s : Status) (text : List ℕ) : Type 0 where
  pub is : text ≡ text_in style origin (difference serial before after)
  pub taken : in_turn origin (blocks (difference serial before after)) before ≡ Ok (made serial origin before after)
  pub the_other : serial ≡ Keep → made serial origin before after ≡ after
  pub read_back : style ≡ Script → list_of origin 1 (lines_of text) ≡ Ok (map committed (blocks (difference serial before after)))
  pub ended : s ≡ (if length (difference serial before after) == 0 then status.Done else status.Differ)

-- the status and the text for the two zones that bytes say; what is wrong with the first is told first
abbrev pub Differs : DiffStyle → Serial → Name → Result Version (Refused ZoneKind) → Result Version (Refused ZoneKind) → Status → List ℕ → Type 0
Differs style serial origin (Err e) second = ZoneRefuses e
Differs style serial origin (Ok before) (Err e) = ZoneRefuses e
Differs style serial origin (Ok before) (Ok after) = Different style serial origin before after

-- what is due for bytes within the limit; a check and a dump read the zone alone; a session has no input that is there before its answers, and
-- `SessionRan` says what is due in it
abbrev pub DueInput : Verb → ℕ → Name → List ℕ → Status → List ℕ → Type 0
DueInput Run chunks origin bytes = Answers Report chunks (job_of origin bytes)
DueInput (Feed workers) chunks origin bytes = FedAnswers workers chunks (fed_job_of origin bytes)
DueInput (Make load) chunks origin bytes = Answers Summary chunks (job_of origin bytes)
DueInput Size chunks origin bytes = Sizes (job_of origin bytes)
DueInput Zones chunks origin bytes = ZonesAnswers chunks (zones_job_of bytes)
DueInput Check chunks origin bytes = Checks chunks (zone_said origin bytes)
DueInput (Diff style serial) chunks origin bytes = Differs style serial origin (zone_said origin bytes) (second_said origin bytes)
DueInput (Dump style) chunks origin bytes = Dumps chunks style origin (zone_said origin bytes)
DueInput (Live asked) chunks origin bytes = λ s text. ⊥

-- the same by an invocation
abbrev pub DueUnder : Invocation → List ℕ → Status → List ℕ → Type 0
DueUnder i bytes = DueInput i.verb i.chunks i.origin bytes

-- the most bytes of an input
abbrev pub input_limit : ℕ
input_limit = 16777216

-- what is due for bytes, by whether they are within the limit
abbrev pub DueBytes : Invocation → List ℕ → Bool → Status → List ℕ → Type 0
DueBytes i bytes true = DueUnder i bytes
DueBytes i bytes false = Ends status.TooLong (codes "input over 16777216 bytes\n")

-- the bytes that are read before anything is answered: those that a source has left, or a load's text
abbrev pub input_of : Verb → Option (List ℕ) → Option (List ℕ)
input_of (Make load) left = Some (made_text load)
input_of (Live asked) left = None
input_of _ left = left

-- Of a source that doesn't tell its bytes nothing is said.
abbrev pub DueGiven : Invocation → Option (List ℕ) → Status → List ℕ → Type 0
DueGiven i None s text = Unit {0}
DueGiven i (Some bytes) s text = DueBytes i bytes (nat_le (length bytes) input_limit) s text

-- what is due for the words of the command line and the bytes that a source has left
abbrev pub Due : Option Invocation → Option (List ℕ) → Status → List ℕ → Type 0
Due None left s text = (s ≡ status.WordsRefused) × (text ≡ codes "words refused\n")
Due (Some invocation) left s text = DueGiven invocation (input_of invocation.verb left) s text

-- a status and a text in pieces are what is due
abbrev pub IsAnswerDue : (Status → List ℕ → Type 0) → Status × Pieces → Type 0
IsAnswerDue due answer = due answer.0 (pieces_text answer.1)

-- the input is a load's text, so that nothing is read
abbrev pub MakesInput : Verb → Type 0
MakesInput (Make load) = Unit {0}
MakesInput _ = ⊥

abbrev pub IsMade : Option Invocation → Type 0
IsMade None = ⊥
IsMade (Some invocation) = MakesInput invocation.verb

-- lines are answered one by one
abbrev pub AnswersLines : Verb → Type 0
AnswersLines (Live asked) = Unit {0}
AnswersLines _ = ⊥

abbrev pub IsSession : Option Invocation → Type 0
IsSession None = ⊥
IsSession (Some invocation) = AnswersLines invocation.verb

-- these words have an input read to its end, before anything is answered
abbrev pub ReadsInput : Option Invocation → Type 0
ReadsInput None = ⊥
ReadsInput (Some invocation) = (MakesInput invocation.verb → ⊥) × (AnswersLines invocation.verb → ⊥)

-- Of the bytes that a source gave in this call, which are all up to the end of input where that is to be read and isn't too long.
pub record GaveFor (i : Option Invocation) (before after : List ℕ) (ended : Bool) (so : Option (List ℕ) → Type 0) : Type 0 where
  pub bytes : List ℕ
  pub gave : after ≡ before ++ bytes
  pub whole : ReadsInput i → length bytes ≤ input_limit → IsTrue ended
  pub holds : so (Some bytes)

-- The run of a load ends so: it reads nothing, and its text says a job.
abbrev pub EndsLoad : Status → Type 0
EndsLoad status.Done = Unit {0}
EndsLoad status.SomeRefused = Unit {0}
EndsLoad status.DoesNotFit = Unit {0}
EndsLoad status.SinkFault = Unit {0}
EndsLoad status.NoMemory = Unit {0}
EndsLoad _ = ⊥

-- the status says that its text was written whole
abbrev pub IsWritten : Status → Type 0
IsWritten status.SourceFault = ⊥
IsWritten status.SinkFault = ⊥
IsWritten status.NoMemory = ⊥
IsWritten _ = Unit {0}

-- it is written while it is made, and not when all of it is there
abbrev pub is_streamed : Verb → Bool
is_streamed (Dump style) = true
is_streamed _ = false

abbrev pub streams : Option Invocation → Bool
streams None = false
streams (Some invocation) = is_streamed invocation.verb

-- the status says that nothing was written
abbrev pub IsUnwritten : Bool → Status → Type 0
IsUnwritten streamed status.SourceFault = Unit {0}
IsUnwritten streamed status.NoMemory = streamed ≡ false
IsUnwritten streamed _ = ⊥

-- the status says that what was due may stand up to some place
abbrev pub MayBeShort : Bool → Status → Type 0
MayBeShort streamed status.SinkFault = Unit {0}
MayBeShort streamed status.NoMemory = streamed ≡ true
MayBeShort streamed _ = ⊥

-- what is due was written whole
pub record Written (due : Status → List ℕ → Type 0) (before now : Held) (s : Status) : Type 0 where
  pub text : List ℕ
  pub is_due : due s text
  pub grew : Grows before now text

-- what is due, under a status of its own, was written up to some place
pub record CutShort (due : Status → List ℕ → Type 0) (before now : Held) : Type 0 where
  pub status : Status
  pub text : List ℕ
  pub is_due : due status text
  pub grew : GrowsByFront before now text
