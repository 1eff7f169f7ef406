-- What is printed of what commands came to, for zones of these origins.
use Rattle.std.specs.Prelude.{ℕ, ◌+◌, List, [], ◌∷◌, ◌++◌, codes, Option, Some, None, slice_index_or}
use Rattle.std.specs.Fmt.{decimal}
use Rattle.std.specs.BTreeMap.{insert_entry}
use Rattle.zone_model.specs.Names.{Name, name_cmp}
use Rattle.zone_model.specs.NameText.{text_of}
use Rattle.job_report.specs.Outcomes.{told_text}
use Rattle.job_report.specs.declared.outcomes.Outcome.{Outcome}
use Rattle.zones_model.specs.Reports.{change_text, ends_text, table_end, table_head}
use Rattle.zones_report.specs.declared.outcomes.Answer.{Answer}
use Rattle.zones_report.specs.declared.outcomes.CommandEnd.{CommandEnd}
use Rattle.zones_report.specs.declared.outcomes.CommandEnd.TheVariants as done
use Rattle.zones_report.specs.declared.outcomes.CommandEnds.{CommandEnds}
use Rattle.zones_report.specs.declared.outcomes.ZonesFinished.{ZonesFinished}

abbrev pub origin_text : List Name → ℕ → List ℕ
origin_text origins number = text_of (slice_index_or origins number [])

abbrev pub zone_version : List Name → ℕ → ℕ → List ℕ
zone_version origins number version = origin_text origins number ++ codes " v" ++ decimal version ++ codes " "

abbrev pub answer_text : List Name → Option Answer → List ℕ
answer_text origins None = codes "NOZONE\n"
answer_text origins (Some a) = zone_version origins a.zone a.outcome.version ++ told_text a.outcome.told

abbrev pub ran_text : List Name → ℕ → ℕ → ℕ → Outcome → List ℕ
ran_text origins w c zone o = decimal w ++ codes "." ++ decimal c ++ codes " " ++ zone_version origins zone o.version ++ told_text o.told

abbrev pub done_text : List Name → ℕ → ℕ → CommandEnd → List ℕ
done_text origins w c (done.Got table answer) = table_head w c table ++ answer_text origins answer
done_text origins w c (done.Ran zone o) = ran_text origins w c zone o
done_text origins w c (done.Attached table refused) = table_head w c table ++ change_text (codes "ATTACHED") refused
done_text origins w c (done.Detached table refused) = table_head w c table ++ change_text (codes "DETACHED") refused

-- what worker w's commands came to, the first of which is command c
abbrev pub dones_text : List Name → ℕ → ℕ → List CommandEnd → List ℕ
dones_text origins w c [] = []
dones_text origins w c (d ∷ ds) = done_text origins w c d ++ dones_text origins w (c + 1) ds

-- the same of worker w and of the workers behind it
abbrev pub all_text : List Name → ℕ → List CommandEnds → List ℕ
all_text origins w [] = []
all_text origins w (d ∷ ds) = dones_text origins w 1 d.list.items ++ all_text origins (w + 1) ds

-- the last versions and their numbers of names, by origin, in canonical order
abbrev pub ends_of : List Name → List ℕ → List ℕ → List (Name × (ℕ × ℕ))
ends_of [] versions names = []
ends_of (origin ∷ origins) [] names = []
ends_of (origin ∷ origins) (v ∷ versions) [] = []
ends_of (origin ∷ origins) (v ∷ versions) (count ∷ names) = insert_entry name_cmp (ends_of origins versions names) origin (v, count)

abbrev pub finished_text : List Name → ZonesFinished → List ℕ
finished_text origins f = all_text origins 1 f.done.items ++ table_end f.table f.attached ++ ends_text (ends_of origins f.versions.items f.names.items)
