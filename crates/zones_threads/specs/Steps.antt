-- What one command of a worker does to each zone and to the table, while other workers do theirs.
use Rattle.std.specs.Prelude.{◌≡◌, ℕ, ◌+◌, Bool, true, false, List, [], ◌∷◌, ◌++◌, length, Option, Some, None, slice_get}
use Rattle.std.specs.Option.{option_map}
use Rattle.zone_model.specs.Names.{Name}
use Rattle.zone_model.specs.Keys.{key_of}
use Rattle.trie_model.specs.Keys.{Entry}
use Rattle.shared_cells.specs.declared.view.PassView.{PassView}
use Rattle.shared_cells.specs.History.{StartsWith, IsPartOf, entries_by, entry_of, version_after}
use Rattle.shared_cells.specs.Views.{is_told}
use Rattle.qp_multi.specs.declared.meaning.Named.{Ghosts}
use Rattle.qp_multi.specs.declared.meaning.Operation.{Operation}
use Rattle.qp_multi.specs.declared.meaning.Operation.TheVariants.{Insert, Delete}
use Rattle.qp_multi.specs.Operations.{applied}
use Rattle.qp_multi.specs.Passes.{Known, first_version, version_seen}
use Rattle.job_model.specs.Outcomes.{last_version}
use Rattle.job_commands.specs.Histories.{OpenedWith, Commit}
use Rattle.job_commands.specs.Commands.{IsOpenedWith}
use Rattle.job_commands.specs.Steps.{WorkerPasses, IsUnder, Step}
use Rattle.job_commands.specs.Works.{ended}
use Rattle.zones_model.specs.Commands.{Command}
use Rattle.zones_model.specs.Outcomes as model
use Rattle.zones_model.specs.declared.TableCause.{TableCause}
use Rattle.zones_model.specs.declared.TableCause.TheVariants.{Exists, Missing, Spent}
use Rattle.zone_table.specs.declared.zones.Zones.{Zones}
use Rattle.zone_table.specs.declared.pass.ZonesPass.{ZonesPass}
use Rattle.zone_table.specs.Locations.{IsZoneOf}
use Rattle.zone_table.specs.Passes.{HasLooked, IsPassOf, table_known, zone_known}
use Rattle.zone_table.specs.Tables.{IsAttached, entry_for}
use Rattle.zones_report.specs.Outcomes.{IsOf, done_view}
use Rattle.zones_report.specs.declared.outcomes.CommandEnd.{CommandEnd}
use Rattle.zones_threads.specs.Sites.{Site, IsSite}
use Rattle.zones_threads.specs.Views.{Part, part_in}

-- ---- one zone

-- a command was no command of the zone, whose pass knows what it knew; or it was one
abbrev pub Steps : OpenedWith → List Part → WorkerPasses → WorkerPasses → Type 0
Steps s [] old new = new ≡ old
Steps s (p ∷ []) old new = Step s p.command p.outcome old new
Steps s (p ∷ q ∷ parts) old new = ⊥

-- So each zone went on by a command that came to this. As a second pass's, there is what this pass knew at first.
abbrev pub ZonesGo : {X Y : Type 0} {N : Ghosts Y} → Zones X Y N → Command → CommandEnd → ZonesPass Y N → ZonesPass Y N → Type 0
ZonesGo zones c d old new =
    (site : Site) → IsSite zones site → (s : OpenedWith) → IsOpenedWith s site.origin site.size (zone_known old site.number)
    → (first : Known) → is_told first.seen.opening ≡ true → IsUnder (zone_known old site.number) first
    → Steps s (part_in site.number c d) (ended (zone_known old site.number) first) (ended (zone_known new site.number) first)

-- ---- the table

-- whether the origin is attached
abbrev pub IsOrNot : Bool → List Entry → Name → Type 0
IsOrNot true es origin = IsAttached es origin
IsOrNot false es origin = IsAttached es origin → ⊥

-- what is done to the table where a zone is attached or detached, and why it isn't done
abbrev pub operation_for : Bool → Name → Operation
operation_for true origin = Insert (entry_for origin)
operation_for false origin = Delete (key_of origin)

abbrev pub cause_for : Bool → TableCause
cause_for true = Exists
cause_for false = Missing

abbrev pub other : Bool → Bool
other true = false
other false = true

-- The pass has made a version of the table by one operation, on a base where the origin wasn't yet as it was to be.
pub record Changes (attaches : Bool) (origin : Name) (table : ℕ) (own : PassView (List Operation)) (old new : Known) : Type 0 where
  pub base : List Commit
  pub before : StartsWith base old.seen.history
  pub mine : own.entries ≡ entries_by own.number base
  pub history : new.seen.history ≡ base ++ entry_of own.number (operation_for attaches origin ∷ []) ∷ []
  pub pass : new.pass ≡ Some (record own { entries = own.entries ++ entry_of own.number (operation_for attaches origin ∷ []) ∷ [] })
  pub numbered : table ≡ length base + 1
  pub was : IsOrNot (other attaches) (version_after applied (first_version new.seen) base) origin

-- It has seen a version of the table, and made none.
pub record Stays (table : ℕ) (old new : Known) : Type 0 where
  pub version : table ≡ length new.seen.history
  pub pass : new.pass ≡ old.pass

-- A change of the table ended so. One that was refused was on the version that the pass has then seen last.
abbrev pub ChangeEnds : Bool → Name → ℕ → Option TableCause → Known → Known → Type 0
ChangeEnds attaches origin table None old new = (own : PassView (List Operation)) → old.pass ≡ Some own → Changes attaches origin table own old new
ChangeEnds attaches origin table (Some Spent) old new = Stays table old new × (table ≡ last_version) × IsOrNot (other attaches) (version_seen new.seen) origin
ChangeEnds attaches origin table (Some cause) old new = Stays table old new × (cause ≡ cause_for attaches) × IsOrNot attaches (version_seen new.seen) origin

-- A change of a zone's origin, by the zone's number.
pub record ChangeRan (origins : List Name) (attaches : Bool) (zone table : ℕ) (refused : Option TableCause) (old new : Known) : Type 0 where
  pub origin : Name
  pub there : slice_get origins zone ≡ Some origin
  pub grows : IsPartOf new.seen old.seen
  pub ends : ChangeEnds attaches origin table refused old new

-- What a command was to the table. A question was put to a version of it, and shows the zone that this has for the name.
abbrev pub TableGoes : List Name → model.CommandEnd → Known → Known → Type 0
TableGoes origins (model.Got name rtype table shown) old new = HasLooked old new table × IsZoneOf origins (version_seen new.seen) name (option_map (λ s. s.zone) shown)
TableGoes origins (model.Ran zone _ asked ending outcome) old new = new ≡ old
TableGoes origins (model.Attached zone table refused) old new = ChangeRan origins true zone table refused old new
TableGoes origins (model.Detached zone table refused) old new = ChangeRan origins false zone table refused old new

-- ---- a command

-- A command came to this, by a pass of the zones that stays one.
pub record Goes {X Y : Type 0} {N : Ghosts Y} (zones : Zones X Y N) (c : Command) (d : CommandEnd) (old new : ZonesPass Y N) : Type 0 where
  pub pass : IsPassOf zones.origins.items new
  pub kind : IsOf c d
  pub table : TableGoes zones.origins.items (done_view c d) (table_known old) (table_known new)
  pub zones_go : ZonesGo zones c d old new
