-- Each version of a job of octets can be dumped.
use Rattle.std.proofs.Common.{◌≡◌, ℕ, zero, suc, ◌-◌, ◌<◌, Bool, true, false, cond, eqb, List, [], ◌∷◌, length, take, drop, map, Result, Ok, Err, refl, sym, subst, get_or}
use Rattle.std.specs.Prelude.{slice_index}
use Rattle.std.specs.List.{AllByRecursion, slice_split, onto_first, range_with_len}
use Rattle.std.specs.Str.Lines.{strip_carriage_return, lines_of_parts}
use Rattle.zone_model.specs.Refusals.{Refused, ◌>>=◌}
use Rattle.zone_model.specs.Names.{Name, IsName}
use Rattle.zone_model.specs.Lines.{lines_of}
use Rattle.zone_model.specs.Versions.{Version}
use Rattle.zone_model.specs.Transactions.{Transaction, whole}
use Rattle.zone_model.specs.declared.Refusal.{Refusal}
use Rattle.zone_model.specs.declared.ZoneKind.{ZoneKind}
use Rattle.zone_model.specs.MasterFile.{zone_of}
use Rattle.dns_name.proofs.BodyLemmas.{all_append}
use Rattle.master_file.specs.Rows.{CanBeDumped}
use Rattle.master_file.proofs.DirectiveLemmas.{dump_back}
use Rattle.job_model.specs.declared.ScriptKind.{ScriptKind}
use Rattle.job_model.specs.Commands.{Command, Job, FedJob}
use Rattle.job_model.specs.Jobs.{zone_refused, script_refused, zone_lines, script_lines, script_start, script_of, list_of, job_of_lines, job_of, fed_job_of_lines, fed_job_of}
use Rattle.job_model.specs.Outcomes.{Pair, made, asked_by, asked_at, accepted_or, after, version_at, all_pairs}
use Rattle.job_model.specs.Feeds.{FedPair, fed_commands, pairs_by, by_worker}
use Rattle.report_laws.specs.Octets.{IsOctet, AllOctets}
use Rattle.report_laws.specs.Changes.{AllSaid, AllAsked}
use Rattle.report_laws.specs.Versions.{ReadsBack, AreOutcomesOf, version_of, AreFedOutcomesOf, fed_version_of}
use Rattle.report_laws.proofs.ChangeLemmas.{whole_dumped}
use Rattle.report_laws.proofs.ReaderLemmas.{zone_dumped}
use Rattle.report_laws.proofs.ScriptLemmas.{AllCommands, AllLists, scripts_ask, lists_ask}

-- ---- lines of octets

pub octets_of : (bytes : List ℕ) → ((i : ℕ) → get_or bytes i 0 < 256) → AllOctets bytes
octets_of [] small = tt
octets_of (c ∷ bytes) small = (small 0, octets_of bytes (λ i. small (suc i)))

abbrev pub AllLines : List (List ℕ) → Type 0
AllLines lines = AllByRecursion AllOctets lines

all_taken : {A : Type 0} (P : A → Type 0) (n : ℕ) (xs : List A) → AllByRecursion P xs → AllByRecursion P (take n xs)
all_taken P zero xs h = tt
all_taken P (suc n) [] h = tt
all_taken P (suc n) (x ∷ xs) h = (h.0, all_taken P n xs h.1)

all_dropped : {A : Type 0} (P : A → Type 0) (n : ℕ) (xs : List A) → AllByRecursion P xs → AllByRecursion P (drop n xs)
all_dropped P zero xs h = h
all_dropped P (suc n) [] h = tt
all_dropped P (suc n) (x ∷ xs) h = all_dropped P n xs h.1

onto_lines : (c : ℕ) (parts : List (List ℕ)) → c < 256 → AllLines parts → AllLines (onto_first c parts)
onto_lines c [] small h = ((small, tt), tt)
onto_lines c (part ∷ parts) small h = ((small, h.0), h.1)

split_lines : (stop : ℕ → Bool) (text : List ℕ) → AllOctets text → AllLines (slice_split stop text)
split_lines stop [] h = (tt, tt)
split_lines stop (c ∷ text) h = by_test (stop c) (split_lines stop text h.1)
  where
    by_test : (b : Bool) → AllLines (slice_split stop text) → AllLines (cond b ([] ∷ slice_split stop text) (onto_first c (slice_split stop text)))
    by_test true i = (tt, i)
    by_test false i = onto_lines c (slice_split stop text) h.0 i

stripped : (line : List ℕ) → AllOctets line → AllOctets (strip_carriage_return line)
stripped line h = by_test (eqb (slice_index line (length line - 1)) 13)
  where
    by_test : (b : Bool) → AllOctets (cond b (take (length line - 1) line) line)
    by_test true = all_taken IsOctet (length line - 1) line h
    by_test false = h

parts_lines : (parts : List (List ℕ)) → AllLines parts → AllLines (lines_of_parts parts)
parts_lines [] h = tt
parts_lines (part ∷ []) h = by_test (eqb (length part) 0)
  where
    by_test : (b : Bool) → AllLines (cond b [] (part ∷ []))
    by_test true = tt
    by_test false = h
parts_lines (part ∷ next ∷ parts) h = (stripped part h.0, parts_lines (next ∷ parts) h.1)

pub lines_are : (bytes : List ℕ) → AllOctets bytes → AllLines (lines_of bytes)
lines_are bytes h = parts_lines (slice_split (λ b. eqb b 10) bytes) (split_lines (λ b. eqb b 10) bytes h)

-- ---- jobs

-- a zone and a script of which neither was refused
record AreRead {Said Whole : Type 0} (zone : Result Version (Refused ZoneKind)) (script : Result Said (Refused ScriptKind)) (whole : Version → Said → Whole) (job : Whole) : Type 0 where
  version : Version
  said : Said
  zone_is : zone ≡ Ok version
  script_is : script ≡ Ok said
  job_is : whole version said ≡ job

are_read : {Said Whole : Type 0} (zone : Result Version (Refused ZoneKind)) (script : Result Said (Refused ScriptKind)) (whole : Version → Said → Whole) (job : Whole)
    → (zone_refused zone >>= (λ version. script_refused script >>= (λ said. Ok (whole version said)))) ≡ Ok job → AreRead zone script whole job
are_read (Err refusal) script whole job h = absurd cc
are_read (Ok version) (Err refusal) whole job h = absurd cc
are_read (Ok version) (Ok said) whole job h = record { version = version; said = said; zone_is = refl; script_is = refl; job_is = cc }

pub record IsReadJob (origin : Name) (job : Job) : Type 0 where
  pub origin_is : origin ≡ job.origin
  pub zone : CanBeDumped job.origin job.zone
  pub workers : AllLists job.origin job.workers

job_lines : (origin : Name) (zone : List (List ℕ)) (start : ℕ) (script : List (List ℕ)) (job : Job) → IsName origin → AllLines zone → AllLines script → job_of_lines origin zone start script ≡ Ok job → IsReadJob origin job
unfolding job_of_lines
job_lines origin zone start script job name z s e =
    let whole : Version → List (List Command) → Job = λ version workers. record { origin = origin; zone = version; workers = workers } in
    let r = are_read (zone_of origin zone) (script_of origin start script) whole job e in
    subst (IsReadJob origin) r.job_is (record { origin_is = refl; zone = zone_dumped origin zone r.version z name r.zone_is; workers = scripts_ask origin start script r.said name s r.script_is })

pub job_is : (origin : Name) (bytes : List ℕ) (job : Job) → IsName origin → AllOctets bytes → job_of origin bytes ≡ Ok job → IsReadJob origin job
job_is origin bytes job name h e =
    let lines = lines_are bytes h in
    job_lines origin (zone_lines bytes) (script_start bytes) (script_lines bytes) job name (all_taken AllOctets _ (lines_of bytes) lines) (all_dropped AllOctets _ (lines_of bytes) lines) e

pub record IsReadList (origin : Name) (job : FedJob) : Type 0 where
  pub origin_is : origin ≡ job.origin
  pub zone : CanBeDumped job.origin job.zone
  pub commands : AllCommands job.origin job.commands

list_lines : (origin : Name) (zone : List (List ℕ)) (start : ℕ) (script : List (List ℕ)) (job : FedJob) → IsName origin → AllLines zone → AllLines script → fed_job_of_lines origin zone start script ≡ Ok job → IsReadList origin job
unfolding fed_job_of_lines
list_lines origin zone start script job name z s e =
    let whole : Version → List Command → FedJob = λ version commands. record { origin = origin; zone = version; commands = commands } in
    let r = are_read (zone_of origin zone) (list_of origin start script) whole job e in
    subst (IsReadList origin) r.job_is (record { origin_is = refl; zone = zone_dumped origin zone r.version z name r.zone_is; commands = lists_ask origin start script r.said name s r.script_is })

pub list_is : (origin : Name) (bytes : List ℕ) (job : FedJob) → IsName origin → AllOctets bytes → fed_job_of origin bytes ≡ Ok job → IsReadList origin job
list_is origin bytes job name h e =
    let lines = lines_are bytes h in
    list_lines origin (zone_lines bytes) (script_start bytes) (script_lines bytes) job name (all_taken AllOctets _ (lines_of bytes) lines) (all_dropped AllOctets _ (lines_of bytes) lines) e

-- ---- the transactions that made versions

abbrev pub AllPairs : Name → List Pair → Type 0
AllPairs origin pairs = AllByRecursion (λ (pair : Pair). AllAsked origin pair.0) pairs

pub asked_is : (origin : Name) (j : ℕ) (pairs : List Pair) → AllPairs origin pairs → AllSaid origin (asked_at j pairs)
asked_is origin j [] h = tt
asked_is origin j (pair ∷ pairs) h = by_test (made j pair) (asked_is origin j pairs h.1)
  where
    by_test : (b : Bool) → AllSaid origin (asked_at j pairs) → AllSaid origin (cond b (asked_by pair.0) (asked_at j pairs))
    by_test true i = h.0
    by_test false i = i

after_is : (origin : Name) (t : Transaction) (version : Version) → CanBeDumped origin version → AllSaid origin t → CanBeDumped origin (after origin t version)
after_is origin t version h said = by_result (whole origin t version) refl
  where
    by_result : (r : Result Version Refusal) → whole origin t version ≡ r → CanBeDumped origin (accepted_or version r)
    by_result (Ok next) e = whole_dumped origin t version next e h said
    by_result (Err refusal) e = h

version_is : (origin : Name) (zone : Version) (pairs : List Pair) (j : ℕ) → CanBeDumped origin zone → AllPairs origin pairs → CanBeDumped origin (version_at origin zone pairs j)
version_is origin zone pairs zero h p = h
version_is origin zone pairs (suc j) h p = after_is origin (asked_at (suc j) pairs) (version_at origin zone pairs j) (version_is origin zone pairs j h p) (asked_is origin (suc j) pairs p)

-- ---- of each worker's commands

pairs_of : (origin : Name) (pairs : List Pair) → AllCommands origin (map (λ (pair : Pair). pair.0) pairs) → AllPairs origin pairs
pairs_of origin [] h = tt
pairs_of origin (pair ∷ pairs) h = (h.0, pairs_of origin pairs h.1)

all_of : (origin : Name) (workers : List (List Pair)) → AllLists origin (map (map (λ (pair : Pair). pair.0)) workers) → AllPairs origin (all_pairs workers)
all_of origin [] h = tt
all_of origin (pairs ∷ workers) h = all_append (λ (pair : Pair). AllAsked origin pair.0) pairs (all_pairs workers) (pairs_of origin pairs h.0) (all_of origin workers h.1)

-- a version that can be dumped, and is read from its dump
abbrev pub Dumped : Name → Version → Type 0
Dumped origin version = CanBeDumped origin version × ReadsBack origin version

dumped : (origin : Name) (version : Version) → CanBeDumped origin version → Dumped origin version
dumped origin version h = (h, λ style. dump_back style origin version h)

pub versions_dumped : (origin : Name) (bytes : List ℕ) (job : Job) → IsName origin → AllOctets bytes → job_of origin bytes ≡ Ok job → (workers : List (List Pair)) → AreOutcomesOf job workers
    → (v : ℕ) → Dumped origin (version_of job workers v)
versions_dumped origin bytes job name small e workers same v =
    let j = job_is origin bytes job name small e in
    let commands = subst (AllLists job.origin) (sym same) j.workers in
    subst (λ (o : Name). Dumped o (version_of job workers v)) (sym j.origin_is)
    (dumped job.origin (version_of job workers v) (version_is job.origin job.zone (all_pairs workers) v j.zone (all_of job.origin workers commands)))

-- ---- of one list of commands

fed_pairs : (origin : Name) (w : ℕ) (fed : List FedPair) → AllCommands origin (fed_commands fed) → AllPairs origin (pairs_by w fed)
fed_pairs origin w [] h = tt
fed_pairs origin w (f ∷ fed) h = by_test (eqb f.worker w) (fed_pairs origin w fed h.1)
  where
    by_test : (b : Bool) → AllPairs origin (pairs_by w fed) → AllPairs origin (cond b (f.pair ∷ pairs_by w fed) (pairs_by w fed))
    by_test true i = (h.0, i)
    by_test false i = i

fed_all : (origin : Name) (numbers : List ℕ) (fed : List FedPair) → AllCommands origin (fed_commands fed) → AllPairs origin (all_pairs (map (λ w. pairs_by w fed) numbers))
fed_all origin [] fed h = tt
fed_all origin (w ∷ numbers) fed h =
    all_append (λ (pair : Pair). AllAsked origin pair.0) (pairs_by w fed) (all_pairs (map (λ w. pairs_by w fed) numbers)) (fed_pairs origin w fed h) (fed_all origin numbers fed h)

pub fed_versions_dumped : (origin : Name) (bytes : List ℕ) (job : FedJob) → IsName origin → AllOctets bytes → fed_job_of origin bytes ≡ Ok job → (fed : List FedPair) → AreFedOutcomesOf job fed
    → (workers v : ℕ) → Dumped origin (fed_version_of job workers fed v)
fed_versions_dumped origin bytes job name small e fed same workers v =
    let j = list_is origin bytes job name small e in
    let commands = subst (AllCommands job.origin) (sym same) j.commands in
    subst (λ (o : Name). Dumped o (fed_version_of job workers fed v)) (sym j.origin_is)
    (dumped job.origin (fed_version_of job workers fed v)
    (version_is job.origin job.zone (all_pairs (by_worker workers fed)) v j.zone (fed_all job.origin (range_with_len 1 workers) fed commands)))
