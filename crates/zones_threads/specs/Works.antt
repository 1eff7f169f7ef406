-- What a worker's run promises of each zone and of the table, whatever the other workers did.
use Rattle.std.specs.Prelude.{◌≡◌, ℕ, ◌-◌, ◌<◌, ◌≤◌, Bool, true, false, List, [], ◌∷◌, length, Option, Some, None, slice_get}
use Rattle.std.specs.List.{AllByRecursion, IsDistinct}
use Rattle.zone_model.specs.Names.{Name, IsName, same_name}
use Rattle.shared_cells.specs.declared.view.PassView.{PassView}
use Rattle.shared_cells.specs.History.{StartsWith, entries_by}
use Rattle.qp_multi.specs.declared.meaning.Named.{Ghosts}
use Rattle.qp_multi.specs.declared.meaning.Operation.{Operation}
use Rattle.qp_multi.specs.Operations.{applied}
use Rattle.qp_multi.specs.Passes.{Known, first_version}
use Rattle.job_commands.specs.Histories.{OpenedWith, Commit, Entries, index_at, times_by}
use Rattle.job_commands.specs.Commands.{IsOpenedWith}
use Rattle.job_commands.specs.Works.{only, IsNew, WorkerRan, ended}
use Rattle.zones_model.specs.Commands.{Command}
use Rattle.zones_model.specs.Outcomes as model
use Rattle.zones_model.specs.Tables.{Change, Attaches, Detaches}
use Rattle.zone_table.specs.declared.zones.Zones.{Zones}
use Rattle.zone_table.specs.declared.pass.ZonesPass.{ZonesPass}
use Rattle.zone_table.specs.Passes.{zone_known}
use Rattle.zones_report.specs.declared.outcomes.CommandEnd.{CommandEnd}
use Rattle.zones_threads.specs.Sites.{Site, IsSite}
use Rattle.zones_threads.specs.Steps.{IsOrNot, operation_for}
use Rattle.zones_threads.specs.Views.{commands_of, outcomes_of, parts_in}

-- ---- each zone

-- Of each zone, what the worker's commands came to is the run of a worker with that zone alone, by one pass.
abbrev pub ZonesRan : {X Y : Type 0} {N : Ghosts Y} → Zones X Y N → ZonesPass Y N → ZonesPass Y N → List Command → List CommandEnd → Type 0
ZonesRan zones first now cs ds =
    (site : Site) → IsSite zones site → (s : OpenedWith) (number : ℕ) → IsOpenedWith s site.origin site.size (zone_known first site.number) → IsNew number s.opening (zone_known first site.number)
    → WorkerRan s (only number) (ended (zone_known now site.number) (zone_known first site.number)) (commands_of (parts_in site.number cs ds)) (outcomes_of (parts_in site.number cs ds))

-- ---- the table

-- A table of these origins, which was opened with these entries.
pub record TableOpenedWith : Type 0 where
  pub origins : List Name
  pub opening : Entries

-- an origin's change of the table leads from these entries to those
pub record Leads (b : TableOpenedWith) (attaches : Bool) (zone : ℕ) (before after : Entries) : Type 0 where
  pub origin : Name
  pub there : slice_get b.origins zone ≡ Some origin
  pub makes : after ≡ applied before (operation_for attaches origin ∷ [])

abbrev pub LeadsBy : TableOpenedWith → Change → Entries → Entries → Type 0
LeadsBy b (Attaches zone) before after = Leads b true zone before after
LeadsBy b (Detaches zone) before after = Leads b false zone before after

-- a version that was made is what its change makes of the version before
abbrev pub IsReplayed : TableOpenedWith → List Commit → Option (ℕ × Change) → Type 0
IsReplayed b history None = Unit {0}
IsReplayed b history (Some m) = (0 < m.0) × (m.0 ≤ length history) × LeadsBy b m.1 (index_at b.opening history (m.0 - 1)) (index_at b.opening history m.0)

-- which zones are attached in the versions of a history
abbrev pub AreAttached : TableOpenedWith → List Commit → (ℕ → ℕ → Bool) → Type 0
AreAttached b history attached =
    (t : ℕ) → t ≤ length history → (zone : ℕ) (origin : Name) → slice_get b.origins zone ≡ Some origin → IsOrNot (attached t zone) (index_at b.opening history t) origin

-- each origin is a name, and no two are the same
pub record AreApart (origins : List Name) : Type 0 where
  pub names : AllByRecursion IsName origins
  pub different : IsDistinct same_name origins

-- what a worker had seen of the table behind some commands
abbrev pub seen_behind : ℕ → List model.CommandEnd → ℕ
seen_behind seen [] = seen
seen_behind seen (done ∷ rest) = seen_behind (model.seen_after seen (model.table_told done)) rest

-- What a worker's commands came to, by a pass of the table that has seen a history: they are lawful on each history that begins with it.
-- The versions that they made are those of the pass.
pub record TableWork (b : TableOpenedWith) (number : ℕ) (v : Known) (done : List model.CommandEnd) : Type 0 where
  pub opened : first_version v.seen ≡ b.opening
  pub along : AreApart b.origins → (attached : ℕ → ℕ → Bool) → AreAttached b v.seen.history attached → model.Along b.origins attached 0 done
  pub none_above : AllByRecursion (λ d. model.IsTold (length v.seen.history) (model.table_told d)) done
  pub progress : seen_behind 0 done ≤ length v.seen.history
  pub replayed : AllByRecursion (λ d. IsReplayed b v.seen.history (model.made_by d)) done
  pub asker : PassView (List Operation)
  pub is_asker : v.pass ≡ Some asker
  pub numbered : asker.number ≡ number
  -- the history up to its last commit has just its commits
  pub committed : List Commit
  pub front : StartsWith v.seen.history committed
  pub mine : asker.entries ≡ entries_by asker.number committed
  pub made : (t : ℕ) → model.times_made t done ≡ times_by asker.number t committed
