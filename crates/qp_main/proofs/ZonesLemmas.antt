-- What is reported of commands over several zones that were run.
use Rattle.std.proofs.Common.{◌≡◌, ◌∙◌, ℕ, Bool, cond, List, [], ◌∷◌, Some, None, ap}
use Rattle.zone_model.specs.MasterFile.{Zone}
use Rattle.zone_model.specs.Versions.{Version}
use Rattle.zones_model.specs.Commands.{Command, Get, Block, Attach, Detach, origins_of}
use Rattle.zones_model.specs.Reports.{set_of}
use Rattle.zones_report.specs.declared.outcomes.CommandEnd.{CommandEnd}
use Rattle.zones_report.specs.declared.outcomes.CommandEnd.TheVariants.{Got, Ran, Attached, Detached}
use Rattle.zones_report.specs.declared.outcomes.CommandEnds.{CommandEnds}
use Rattle.zones_report.specs.declared.outcomes.ZonesFinished.{ZonesFinished}
use Rattle.zones_report.specs.Outcomes.{AllAreOf, AreOf, IsOf, all_dones_view, all_refused}
use Rattle.zones_report.specs.Telling.{AllTell, EachTells, IsTold, Tells, last_of}
use Rattle.zones_report.specs.Texts.{finished_text}
use Rattle.zones_report.proofs.ReportLaws.{refused_told, reported, workers_same}
use Rattle.zones_threads.specs.Runs.{IsZonesRun}
use Rattle.zones_threads.specs.Tellings.{CommandEndTells, WorkerTells, WorkersTell}
use Rattle.qp_main.specs.Due.{ZonesReported}
use Rattle.qp_main.specs.declared.status.Status.{Status}
use Rattle.qp_main.specs.declared.status.Status.TheVariants as status

-- ---- what is of its command's kind, and tells what is so

module _ (zones : List Zone) (set : ℕ → ℕ → Version) where
  done_tells : (c : Command) (d : CommandEnd) → IsOf c d → CommandEndTells zones set c d → Tells zones set c d
  done_tells (Get name rtype) (Got table None) k t = tt
  done_tells (Get name rtype) (Got table (Some a)) k t = t
  done_tells (Get name rtype) (Ran ran o) k t = absurd k
  done_tells (Get name rtype) (Attached table refused) k t = absurd k
  done_tells (Get name rtype) (Detached table refused) k t = absurd k
  done_tells (Block zone how asked ending) (Got table answer) k t = absurd k
  done_tells (Block zone how asked ending) (Ran ran o) k t = (k, t)
  done_tells (Block zone how asked ending) (Attached table refused) k t = absurd k
  done_tells (Block zone how asked ending) (Detached table refused) k t = absurd k
  done_tells (Attach zone) (Got table answer) k t = absurd k
  done_tells (Attach zone) (Ran ran o) k t = absurd k
  done_tells (Attach zone) (Attached table refused) k t = tt
  done_tells (Attach zone) (Detached table refused) k t = absurd k
  done_tells (Detach zone) (Got table answer) k t = absurd k
  done_tells (Detach zone) (Ran ran o) k t = absurd k
  done_tells (Detach zone) (Attached table refused) k t = absurd k
  done_tells (Detach zone) (Detached table refused) k t = tt

  worker_tells : (cs : List Command) (ds : List CommandEnd) → AreOf cs ds → WorkerTells zones set cs ds → EachTells zones set cs ds
  worker_tells [] [] k t = tt
  worker_tells [] (d ∷ ds) k t = absurd k
  worker_tells (c ∷ cs) [] k t = absurd k
  worker_tells (c ∷ cs) (d ∷ ds) k t = (done_tells c d k.0 t.0, worker_tells cs ds k.1 t.1)

  all_tell : (ws : List (List Command)) (ds : List CommandEnds) → AllAreOf ws ds → WorkersTell zones set ws ds → AllTell zones set ws ds
  all_tell [] [] k t = tt
  all_tell [] (d ∷ ds) k t = absurd k
  all_tell (w ∷ ws) [] k t = absurd k
  all_tell (w ∷ ws) (d ∷ ds) k t = (worker_tells w d.list.items k.0 t.0, all_tell ws ds k.1 t.1)

-- all that is told of a run is so
run_told : (chunks : ℕ) (zones : List Zone) (ws : List (List Command)) (f : ZonesFinished) → IsZonesRun chunks zones ws f.done.items (last_of f) f.attached f.names.items → IsTold zones ws f
run_told chunks zones ws f r = record {
  tell = all_tell zones (set_of zones (all_dones_view ws f.done.items)) ws f.done.items r.kinds r.tell;
  attached = r.attached_are;
  many = r.many;
  names = r.names_are;
}

-- what is printed of it is reported
pub zones_reported : (chunks : ℕ) (zones : List Zone) (ws : List (List Command)) (f : ZonesFinished) (text : List ℕ) (refused : Bool) (s : Status) → IsZonesRun chunks zones ws f.done.items (last_of f) f.attached f.names.items
    → text ≡ finished_text (origins_of zones) f → refused ≡ all_refused f.done.items → s ≡ cond refused status.SomeRefused status.Done → ZonesReported chunks (record { zones = zones; workers = ws }) s text
zones_reported chunks zones ws f text refused s r printed some ended =
    let told = run_told chunks zones ws f r in
    let set = set_of zones (all_dones_view ws f.done.items) in
    record {
      workers = all_dones_view ws f.done.items;
      last = last_of f;
      same = workers_same zones set ws f.done.items told.tell;
      lawful = r.lawful;
      is = printed ∙ reported zones ws f told;
      ended = ended ∙ ap (λ (b : Bool). cond b status.SomeRefused status.Done) (some ∙ refused_told zones set ws f.done.items told.tell);
    }
