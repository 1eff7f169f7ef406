-- What commands came to tells what is so.
use Rattle.std.specs.Prelude.{◌≡◌, ℕ, List, [], ◌∷◌, length, Option, Some, None, slice_get, slice_index_or}
use Rattle.zone_model.specs.Names.{Name}
use Rattle.zone_model.specs.Versions.{Version}
use Rattle.zone_model.specs.MasterFile.{Zone}
use Rattle.job_model.specs.declared.Question.TheVariants as question
use Rattle.job_model.specs.Replies.{reply_of}
use Rattle.job_report.specs.Outcomes.{EndsBlock, Replies}
use Rattle.zones_model.specs.Commands as model
use Rattle.zones_model.specs.Commands.{origins_of}
use Rattle.zones_model.specs.Outcomes.{Last, all_done, attached_at}
use Rattle.zones_model.specs.Reports.{no_zone, set_of}
use Rattle.zones_model.specs.Tables.{attached_count}
use Rattle.zones_report.specs.declared.outcomes.Answer.{Answer}
use Rattle.zones_report.specs.declared.outcomes.CommandEnd.{CommandEnd}
use Rattle.zones_report.specs.declared.outcomes.CommandEnd.TheVariants as done
use Rattle.zones_report.specs.declared.outcomes.CommandEnds.{CommandEnds}
use Rattle.zones_report.specs.declared.outcomes.ZonesFinished.{ZonesFinished}
use Rattle.zones_report.specs.Outcomes.{all_dones_view}

-- the text of an answer is what the version of the zone replies that it shows
abbrev pub Answers : List Zone → (ℕ → ℕ → Version) → Name → ℕ → Option Answer → Type 0
Answers zones set name rtype None = Unit {0}
Answers zones set name rtype (Some a) = Replies (reply_of (slice_index_or zones a.zone no_zone).origin (set a.zone a.outcome.version) (question.Get name rtype)) a.outcome.told

-- What became of a command is of the command's kind and zone.
abbrev pub Tells : List Zone → (ℕ → ℕ → Version) → model.Command → CommandEnd → Type 0
Tells zones set (model.Get name rtype) (done.Got table answer) = Answers zones set name rtype answer
Tells zones set (model.Block zone _ asked ending) (done.Ran ran o) = (ran ≡ zone) × EndsBlock o.told
Tells zones set (model.Attach zone) (done.Attached table refused) = Unit {0}
Tells zones set (model.Detach zone) (done.Detached table refused) = Unit {0}
Tells zones set c d = ⊥

-- there is one for each command of a worker, and a list for each worker

abbrev pub EachTells : List Zone → (ℕ → ℕ → Version) → List model.Command → List CommandEnd → Type 0
EachTells zones set [] [] = Unit {0}
EachTells zones set [] (d ∷ ds) = ⊥
EachTells zones set (c ∷ cs) [] = ⊥
EachTells zones set (c ∷ cs) (d ∷ ds) = Tells zones set c d × EachTells zones set cs ds

abbrev pub AllTell : List Zone → (ℕ → ℕ → Version) → List (List model.Command) → List CommandEnds → Type 0
AllTell zones set [] [] = Unit {0}
AllTell zones set [] (d ∷ ds) = ⊥
AllTell zones set (w ∷ ws) [] = ⊥
AllTell zones set (w ∷ ws) (d ∷ ds) = EachTells zones set w d.list.items × AllTell zones set ws ds

abbrev pub last_of : ZonesFinished → Last
last_of f = record { table = f.table; zones = f.versions.items }

-- All that is told of a run over zones is so: what its commands came to, how many zones the last version of the table has, and how many names
-- each zone's last version has.
pub record IsTold (zones : List Zone) (workers : List (List model.Command)) (f : ZonesFinished) : Type 0 where
  pub tell : AllTell zones (set_of zones (all_dones_view workers f.done.items)) workers f.done.items
  pub attached : f.attached ≡ attached_count (attached_at (all_done (all_dones_view workers f.done.items)) f.table) 0 (origins_of zones)
  pub many : length f.names.items ≡ length zones
  pub names : (number : ℕ) (zone : Zone) → slice_get zones number ≡ Some zone → (version count : ℕ) → slice_get f.versions.items number ≡ Some version → slice_get f.names.items number ≡ Some count
      → count ≡ length (set_of zones (all_dones_view workers f.done.items) number version)
