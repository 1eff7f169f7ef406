-- How a run over several zones ends.
use Rattle.std.proofs.Common.{◌≡◌, ◌∙◌, ℕ, true, List, [], ◌∷◌, ◌++◌, length, Some, refl, sym, ap, subst, arith}
use Rattle.std.specs.List.{AllByRecursion, slice_get}
use Rattle.std.proofs.lemmas.Option.{slice_get_within, get_or_from_slice_get}
use Rattle.zone_model.specs.MasterFile.{Zone}
use Rattle.zone_model.specs.Names.{Name}
use Rattle.job_model.specs.Outcomes as one
use Rattle.shared_cells.specs.Views.{is_told}
use Rattle.qp_multi.specs.Closings.{AllSeen, AreAll, Ends}
use Rattle.qp_multi.specs.Passes.{Known, Pinned, version_seen}
use Rattle.job_commands.specs.declared.closing.Last.{Last as Size}
use Rattle.job_commands.specs.Closings.{Handed}
use Rattle.job_commands.specs.Endings.{Measured}
use Rattle.job_commands.specs.Histories.{OpenedWith, StandsAs}
use Rattle.job_commands.specs.Runs.{IsRun}
use Rattle.job_commands.proofs.EndLaws.{handed_in, job_ends}
use Rattle.zones_model.specs.Commands.{Command, origins_of}
use Rattle.zones_model.specs.Outcomes as model
use Rattle.zones_model.specs.Outcomes.{Last}
use Rattle.zones_model.specs.Reports.{no_zone, set_of}
use Rattle.zone_table.specs.Tables.{IsAmong, IsTable}
use Rattle.zones_report.specs.declared.outcomes.CommandEnds.{CommandEnds}
use Rattle.zone_table.proofs.Lists.{get_in}
use Rattle.zones_threads.specs.Closings.{TableGathers, TableWorker, ZoneGathers, all_parts, dones_in, worker_views, zone_commands}
use Rattle.zones_threads.specs.Endings.{TableEnd, ZoneEnd}
use Rattle.zones_threads.specs.Runs.{IsZonesRun}
use Rattle.zones_threads.specs.Sites.{IsSaid}
use Rattle.zones_threads.specs.Tellings.{PartsTell}
use Rattle.zones_report.specs.Outcomes.{AllAreOf, all_dones_view}
use Rattle.zones_threads.specs.Works.{AreApart, TableOpenedWith}
use Rattle.zones_threads.proofs.TableCloseLaws.{table_closed, table_lawful, table_count, ends_there}
use Rattle.zones_threads.proofs.TellLaws.{workers_tell}
use Rattle.zones_threads.proofs.ZoneCloseLaws.{zone_lawful, zone_names, zone_tells}

-- ---- the table

-- Main has asked for the table's last version, and all passes were handed in.
pub table_ends : (b : TableOpenedWith) (before : List Known) (dones : List (List model.CommandEnd)) (views : List Known) (main after : Known) (number count version : ℕ) (last : AllSeen) → TableGathers b before dones views main → is_told main.seen.opening ≡ true → Pinned IsAmong main after number → AreApart b.origins
    → IsTable b.origins b.opening → length before ≡ count → AreAll count before → Ends count (views ++ after ∷ []) version last → TableEnd b.origins dones version (length (version_seen after.seen))
table_ends b before dones views main after number count version last g told p apart table counted all ends =
    let first = λ (w : TableWorker b). w.view in
    let back = subst (λ (vs : List Known). Handed b.opening first before vs main g.done) g.views_are g.handed in
    let h = handed_in b.opening first before (worker_views g.done) main after count number g.done back told p.grows p.pass counted all in
    let ended : Ends count (worker_views g.done ++ after ∷ []) version last = subst (λ (vs : List Known). Ends count (vs ++ after ∷ []) version last) g.views_are ends in
    let c = table_closed b last after count version g.done h.own h.is_own h.none ended h.all h.many in
    let there' = ends_there b last.history after g.done h.own h.is_own h.none h.learnt c in
    let many = table_count b last.history after apart g.done h.own h.is_own h.none table c there' h.opened p.good in
    subst (λ (ds : List (List model.CommandEnd)). TableEnd b.origins ds version (length (version_seen after.seen))) (sym g.dones_are)
    (subst (λ (n : ℕ). TableEnd b.origins (dones_in g.done) n (length (version_seen after.seen))) (sym ended.version_is) (record { lawful = table_lawful b last.history after apart g.done h.own h.is_own h.none table c; attached_are = many }))

-- ---- a zone

-- Main has asked for its last version, and all passes were handed in.
pub zone_ends : (s : OpenedWith) (zone : Zone) (number : ℕ) (before : List Known) (ws : List (List Command)) (ds : List CommandEnds) (views : List Known) (main after : Known) (asked : Size) (count version : ℕ) (last : AllSeen) → AllAreOf ws ds → ZoneGathers s number before ws ds views main → is_told main.seen.opening ≡ true
    → Measured main after asked → s.origin ≡ zone.origin → StandsAs s.opening zone.pairs → length before ≡ count → AreAll count before → Ends count (views ++ after ∷ []) version last → ZoneEnd s.chunks s.passes zone number version asked.names ws ds
zone_ends s zone number before ws ds views main after asked count version last are g told m origin opens counted all ends =
    let run = job_ends s before (zone_commands number ws ds) g.outcomes views main after asked g.gathers told m zone.pairs count version last opens counted all ends in
    let alone = subst (λ (o : Name). IsRun s.chunks s.passes o zone.pairs (zone_commands number ws ds) g.outcomes version asked.names asked.nodes) origin run in
    record {
      lawful = zone_lawful s.chunks s.passes zone.origin zone.pairs number version asked.names asked.nodes ws ds g.outcomes are g.outcomes_are alone;
      names_are = zone_names s.chunks s.passes zone.origin zone.pairs number version asked.names asked.nodes ws ds g.outcomes are g.outcomes_are alone;
      tells = zone_tells s.chunks s.passes zone.origin zone.pairs number version asked.names asked.nodes ws ds g.outcomes are g.outcomes_are alone;
    }

-- ---- all of it

dones_many : (ws : List (List Command)) (ds : List CommandEnds) → AllAreOf ws ds → length (all_dones_view ws ds) ≡ length ws
dones_many [] ds are = refl
dones_many (w ∷ ws) [] are = absurd are
dones_many (w ∷ ws) (d ∷ ds) are = (let more = dones_many ws ds are.1 in omega (arith, more))

-- The table and each zone have ended so.
pub zones_run : (chunks : ℕ) (zones : List Zone) (ws : List (List Command)) (ds : List CommandEnds) (last : Last) (attached : ℕ) (names : List ℕ) → AllAreOf ws ds → AllByRecursion (AllByRecursion (IsSaid (origins_of zones))) ws → TableEnd (origins_of zones) (all_dones_view ws ds) last.table attached → length last.zones ≡ length zones → length names ≡ length zones
    → ((number : ℕ) (zone : Zone) → slice_get zones number ≡ Some zone → (version count : ℕ) → slice_get last.zones number ≡ Some version → slice_get names number ≡ Some count → ZoneEnd chunks (model.passes_for (length ws)) zone number version count ws ds)
    → IsZonesRun chunks zones ws ds last attached names
zones_run chunks zones ws ds last attached names are said table many named each = record {
  kinds = are;
  lawful = record {
    table = table.lawful;
    each = λ number zone there version at.
        let inside = slice_get_within zones number zone there in
        let count = get_in names number (let n = named in omega (arith, n, inside)) in
        let e = each number zone there version count.0 at count.1 in
        subst (λ (n : ℕ). one.Lawful chunks (model.passes_for n) zone.origin zone.pairs (model.workers_in number (all_dones_view ws ds)) version) (sym (dones_many ws ds are)) e.lawful;
    many = many;
  };
  tell = workers_tell zones (set_of zones (all_dones_view ws ds)) (model.attached_at (model.all_done (all_dones_view ws ds))) ws ds are said table.lawful.along
      (λ number zone there.
      let inside = slice_get_within zones number zone there in
      let version = get_in last.zones number (let m = many in omega (arith, m, inside)) in
      let count = get_in names number (let m = named in omega (arith, m, inside)) in
      let e = each number zone there version.0 count.0 version.1 count.1 in
      subst (λ (z : Zone). AllByRecursion (PartsTell zone.origin (model.version_of z number (all_dones_view ws ds))) (all_parts number ws ds)) (sym (get_or_from_slice_get zones number zone no_zone there)) e.tells);
  attached_are = table.attached_are;
  many = named;
  names_are = λ number zone there version count at is.
      let e = each number zone there version count at is in
      e.names_are ∙ ap (λ (z : Zone). length (model.version_of z number (all_dones_view ws ds) version)) (sym (get_or_from_slice_get zones number zone no_zone there));
}
