-- What is printed of commands over several zones.
use Rattle.std.specs.Prelude.{ℕ, ◌+◌, Bool, false, true, List, [], ◌∷◌, ◌++◌, length, codes, Option, Some, None, slice_index_or}
use Rattle.std.specs.List.{flat_map, list_any}
use Rattle.std.specs.Fmt.{decimal}
use Rattle.std.specs.BTreeMap.{insert_entry}
use Rattle.zone_model.specs.Names.{Name, name_cmp}
use Rattle.zone_model.specs.NameText.{text_of}
use Rattle.zone_model.specs.MasterFile.{Zone}
use Rattle.zone_model.specs.Versions.{Version}
use Rattle.zone_answer.specs.Answers.{answer}
use Rattle.job_model.specs.Outcomes.{is_refused}
use Rattle.job_model.specs.Replies.{answer_text}
use Rattle.job_model.specs.Reports.{ended_text}
use Rattle.zones_model.specs.Commands.{origins_of}
use Rattle.zones_model.specs.Outcomes.{CommandEnd, Got, Ran, Attached, Detached, Shown, Last, all_done, attached_at, version_of}
use Rattle.zones_model.specs.Tables.{attached_count}
use Rattle.zones_model.specs.declared.TableCause.{TableCause}
use Rattle.zones_model.specs.declared.TableCause.TheVariants.{Exists, Missing, Spent}

-- no zone, where there is none of a number
abbrev pub no_zone : Zone
no_zone = record { origin = []; pairs = [] }

abbrev pub origin_text : List Zone → ℕ → List ℕ
origin_text zones number = text_of (slice_index_or zones number no_zone).origin

-- worker, command, and the table's version; or the zone's origin and its version

abbrev pub table_head : ℕ → ℕ → ℕ → List ℕ
table_head worker command table = decimal worker ++ codes "." ++ decimal command ++ codes " t" ++ decimal table ++ codes " "

abbrev pub zone_version : List Zone → ℕ → ℕ → List ℕ
zone_version zones number version = origin_text zones number ++ codes " v" ++ decimal version ++ codes " "

-- ---- commands

abbrev pub table_cause_text : TableCause → List ℕ
table_cause_text Exists = codes "exists"
table_cause_text Missing = codes "missing"
table_cause_text Spent = codes "spent"

-- how a change of the table ended
abbrev pub change_text : List ℕ → Option TableCause → List ℕ
change_text word None = word ++ codes "\n"
change_text word (Some cause) = codes "REFUSED " ++ table_cause_text cause ++ codes "\n"

-- the answer of the zone that a name belongs to, from the version that is shown of it
abbrev pub shown_text : List Zone → (ℕ → ℕ → Version) → Name → ℕ → Option Shown → List ℕ
shown_text zones set name rtype None = codes "NOZONE\n"
shown_text zones set name rtype (Some s) =
    zone_version zones s.zone s.version ++ answer_text (answer (slice_index_or zones s.zone no_zone).origin (set s.zone s.version) name rtype)

abbrev pub done_text : List Zone → (ℕ → ℕ → Version) → ℕ → ℕ → CommandEnd → List ℕ
done_text zones set worker command (Got name rtype table shown) = table_head worker command table ++ shown_text zones set name rtype shown
done_text zones set worker command (Ran zone _ asked ending outcome) =
    decimal worker ++ codes "." ++ decimal command ++ codes " " ++ zone_version zones zone outcome.version ++ ended_text outcome.ended
done_text zones set worker command (Attached zone table refused) = table_head worker command table ++ change_text (codes "ATTACHED") refused
done_text zones set worker command (Detached zone table refused) = table_head worker command table ++ change_text (codes "DETACHED") refused

abbrev pub worker_text : List Zone → (ℕ → ℕ → Version) → ℕ → ℕ → List CommandEnd → List ℕ
worker_text zones set w c [] = []
worker_text zones set w c (done ∷ rest) = done_text zones set w c done ++ worker_text zones set w (c + 1) rest

abbrev pub workers_text : List Zone → (ℕ → ℕ → Version) → ℕ → List (List CommandEnd) → List ℕ
workers_text zones set w [] = []
workers_text zones set w (worker ∷ workers) = worker_text zones set w 1 worker ++ workers_text zones set (w + 1) workers

-- ---- the last lines

-- the table's last version, and how many zones it has
abbrev pub table_end : ℕ → ℕ → List ℕ
table_end last count = codes "end t" ++ decimal last ++ codes " zones " ++ decimal count ++ codes "\n"

abbrev pub zone_end : Name → ℕ → ℕ → List ℕ
zone_end origin last names = codes "end " ++ text_of origin ++ codes " v" ++ decimal last ++ codes " names " ++ decimal names ++ codes "\n"

-- the last version of each zone and how many names that has, by origin, in canonical order; the first zone has number n
abbrev pub ends_by_origin : (ℕ → ℕ → Version) → ℕ → List Zone → List ℕ → List (Name × (ℕ × ℕ))
ends_by_origin set n [] versions = []
ends_by_origin set n (zone ∷ zones) [] = []
ends_by_origin set n (zone ∷ zones) (v ∷ versions) = insert_entry name_cmp (ends_by_origin set (n + 1) zones versions) zone.origin (v, length (set n v))

abbrev pub ends_text : List (Name × (ℕ × ℕ)) → List ℕ
ends_text ends = flat_map (λ e. zone_end e.0 e.1.0 e.1.1) ends

-- ---- the report

-- version v of the zone of a number, under these outcomes
abbrev pub set_of : List Zone → List (List CommandEnd) → ℕ → ℕ → Version
set_of zones workers number = version_of (slice_index_or zones number no_zone) number workers

-- worker by worker, command by command, and then the last versions
abbrev pub report : List Zone → List (List CommandEnd) → Last → List ℕ
report zones workers last =
    let set = set_of zones workers in
    workers_text zones set 1 workers
    ++ table_end last.table (attached_count (attached_at (all_done workers) last.table) 0 (origins_of zones))
    ++ ends_text (ends_by_origin set 0 zones last.zones)

-- ---- whether something was refused

abbrev pub is_some_cause : Option TableCause → Bool
is_some_cause None = false
is_some_cause (Some cause) = true

abbrev pub was_refused : CommandEnd → Bool
was_refused (Got name rtype table shown) = false
was_refused (Ran zone _ asked ending outcome) = is_refused outcome.ended
was_refused (Attached zone table refused) = is_some_cause refused
was_refused (Detached zone table refused) = is_some_cause refused

abbrev pub some_refused : List (List CommandEnd) → Bool
some_refused workers = list_any was_refused (all_done workers)
