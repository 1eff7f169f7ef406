-- What becomes of a transaction of a zone.
use Rattle.std.specs.Prelude.{◌≡◌, ◌≢◌, ℕ, List, length, Option, Some, None, Result, Ok, Err, slice_get}
use Rattle.zone_model.specs.Names.{Name}
use Rattle.zone_model.specs.Transactions.{Transaction}
use Rattle.job_model.specs.declared.Ending.{Ending}
use Rattle.job_model.specs.declared.Ending.TheVariants.{Commit}
use Rattle.job_report.specs.declared.outcomes.Outcome.{Outcome}
use Rattle.job_model.specs.Outcomes.{Ended, Committed, Refused, Rule, Full, Spent}
use Rattle.shared_cells.specs.History.{IsPartOf}
use Rattle.qp_multi.specs.Passes.{Known}
use Rattle.job_commands.specs.Histories.{OpenedWith}
use Rattle.job_commands.specs.Commands.{BlockRan, BlockWants, Transacts}
use Rattle.zone_server.specs.Homes.{Served, opened_as}
use Rattle.zone_server.specs.Servings.{ServerKnown, of_zone}
use Rattle.zone_server.specs.Updates.{UpdateView}
use Rattle.zone_server.specs.declared.changing.ChangeRefusal.{ChangeRefusal}
use Rattle.zone_server.specs.declared.changing.ChangeRefusal.TheVariants as refusal

-- A transaction was to be committed. It made the next version, or made none and was on the last that the pass has then seen.
pub record Ran (s : OpenedWith) (asked : Transaction) (old new : Known) (version : ℕ) (ended : Ended) : Type 0 where
  pub grows : IsPartOf new.seen old.seen
  pub version_is : version ≡ length new.seen.history
  pub transacts : Transacts s asked Commit old new ended

-- no zone has the origin
abbrev pub NoneHas : List Served → Name → Type 0
NoneHas served origin = (zone : ℕ) (s : Served) → slice_get served zone ≡ Some s → s.origin ≡ origin → ⊥

-- It happened in the zone of an origin. Of each other zone, and of the table, the pass knows what it knew.
pub record HappensIn (served : List Served) (origin : Name) (happens : Served → Known → Known → Type 0) (old new : ServerKnown) : Type 0 where
  pub zone : ℕ
  pub zone_is : Served
  pub there : slice_get served zone ≡ Some zone_is
  pub origin_is : zone_is.origin ≡ origin
  pub happened : happens zone_is (of_zone old zone) (of_zone new zone)
  pub others : (other : ℕ) → other ≢ zone → of_zone new other ≡ of_zone old other
  pub table : new.table ≡ old.table

-- a block was run there, and came to this outcome
abbrev pub RunsIn : List Served → Name → Transaction → Ending → ServerKnown → ServerKnown → Outcome → Type 0
RunsIn served origin asked ending old new outcome = HappensIn served origin (λ s v w. BlockRan (opened_as s) asked ending v w outcome) old new

-- memory was wanted for one there
abbrev pub WantsIn : List Served → Name → Transaction → ServerKnown → ServerKnown → Type 0
WantsIn served origin asked old new = HappensIn served origin (λ s v w. BlockWants (opened_as s) asked v w) old new

-- how a transaction ended that was on a version
abbrev pub ended_of : Result ℕ ChangeRefusal → Option (ℕ × Ended)
ended_of (Ok version) = Some (version, Committed)
ended_of (Err refusal.NoZone) = None
ended_of (Err (refusal.Refused version rule)) = Some (version, Refused (Rule rule))
ended_of (Err (refusal.Full version operation kept)) = Some (version, Refused (Full operation kept.items))
ended_of (Err (refusal.Spent version)) = Some (version, Refused Spent)
ended_of (Err refusal.Memory) = None

-- An update was made the zone's next version, or it wasn't, for this reason.
abbrev pub Changes : List Served → UpdateView → ServerKnown → ServerKnown → Result ℕ ChangeRefusal → Type 0
Changes served u old new (Err refusal.NoZone) = NoneHas served u.origin × (new ≡ old)
Changes served u old new (Err refusal.Memory) = HappensIn served u.origin (λ s v w. BlockWants (opened_as s) u.asked v w) old new
Changes served u old new (Ok version) = HappensIn served u.origin (λ s v w. Ran (opened_as s) u.asked v w version Committed) old new
Changes served u old new (Err (refusal.Refused version rule)) = HappensIn served u.origin (λ s v w. Ran (opened_as s) u.asked v w version (Refused (Rule rule))) old new
Changes served u old new (Err (refusal.Full version operation kept)) = HappensIn served u.origin (λ s v w. Ran (opened_as s) u.asked v w version (Refused (Full operation kept.items))) old new
Changes served u old new (Err (refusal.Spent version)) = HappensIn served u.origin (λ s v w. Ran (opened_as s) u.asked v w version (Refused Spent)) old new
