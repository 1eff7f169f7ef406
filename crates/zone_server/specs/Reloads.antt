-- What becomes of a zone that is exchanged for another one.
use Rattle.std.specs.Prelude.{◌≡◌, ◌+◌, ◌<◌, ℕ, List, length, Result, Ok, Err, IfOk}
use Rattle.zone_model.specs.Names.{Name}
use Rattle.zone_model.specs.MasterFile.{Zone}
use Rattle.zone_model.specs.Transactions.{Transaction, whole}
use Rattle.zone_model.specs.Versions.{Version}
use Rattle.master_file.specs.Rows.{CanBeDumped}
use Rattle.job_model.specs.Outcomes.{Ended, Committed, Refused, Full, Spent}
use Rattle.pin_core.specs.declared.version.Spent.{Spent as NoNumber}
use Rattle.shared_cells.specs.History.{IsPartOf, version_after}
use Rattle.shared_cells.specs.Views.{with_pinned}
use Rattle.qp_multi.specs.declared.commit.Receipt.{Receipt}
use Rattle.qp_multi.specs.Operations.{applied}
use Rattle.qp_multi.specs.Passes.{Known, version_seen}
use Rattle.zone_edit.specs.declared.refusal.EditRefusal.{EditRefusal}
use Rattle.zone_edit.specs.declared.refusal.EditRefusal.TheVariants as edit
use Rattle.zone_diff.specs.Blocks.{changes}
use Rattle.zone_diff.specs.Differences.{difference}
use Rattle.zone_diff.specs.declared.Serial.TheVariants.{Keep}
use Rattle.job_commands.specs.Histories.{OpenedWith, StandsAs}
use Rattle.zone_server.specs.Changes.{HappensIn, NoneHas, Ran}
use Rattle.zone_server.specs.Homes.{Served, opened_as}
use Rattle.zone_server.specs.Replies.{IsAfter}
use Rattle.zone_server.specs.Servings.{ServerKnown}
use Rattle.zone_server.specs.declared.reloading.ReloadRefusal.{ReloadRefusal}
use Rattle.zone_server.specs.declared.reloading.ReloadRefusal.TheVariants as refusal

-- ---- a transaction on the version that a pass had seen last

-- Of that version, which has this number, the transaction makes a zone.
pub record MakesZone (origin : Name) (asked : Transaction) (seen : Known) (number : ℕ) : Type 0 where
  pub number_is : number ≡ length seen.seen.history
  pub before : Version
  pub stands : StandsAs (version_seen seen.seen) before
  pub after : Version
  pub makes : whole origin asked before ≡ Ok after
  pub zone : CanBeDumped origin after

-- it is the one commit since, and made this of it
pub record RanNext (s : OpenedWith) (asked : Transaction) (old new : Known) (version : ℕ) : Type 0 where
  pub ran : Ran s asked old new version Committed
  pub next : version ≡ length old.seen.history + 1
  pub makes : (before : Version) → StandsAs (version_after applied s.opening old.seen.history) before
      → (after : Version) × (whole s.origin asked before ≡ Ok after) × StandsAs (version_after applied s.opening new.seen.history) after

-- it was on that version, and made none
pub record RanNone (s : OpenedWith) (asked : Transaction) (old new : Known) (version : ℕ) (ended : Ended) : Type 0 where
  pub ran : Ran s asked old new version ended
  pub last : version ≡ length old.seen.history

-- the pass made no version
pub record MadeNone (old new : Known) : Type 0 where
  pub grows : IsPartOf new.seen old.seen
  pub pass : new.pass ≡ old.pass

-- How it ended. No rule of zones refuses it; and it isn't tried where the pass sees another one's commit since.
abbrev pub RanOn : OpenedWith → Transaction → Known → Known → Result ℕ ReloadRefusal → Type 0
RanOn s asked old new (Ok version) = RanNext s asked old new version
RanOn s asked old new (Err refusal.NoZone) = ⊥
RanOn s asked old new (Err refusal.Moved) = MadeNone old new × (length old.seen.history < length new.seen.history)
RanOn s asked old new (Err (refusal.Full version operation kept)) = RanNone s asked old new version (Refused (Full operation kept.items))
RanOn s asked old new (Err (refusal.Spent version)) = RanNone s asked old new version (Refused Spent)
RanOn s asked old new (Err refusal.Memory) = MadeNone old new

-- how it ends that was to be committed
abbrev pub commit_told : Result Receipt NoNumber → Result ℕ ReloadRefusal
commit_told (Ok receipt) = Ok receipt.version
commit_told (Err spent) = Err (refusal.Spent spent.version)

-- how it ends that stopped
abbrev pub StopsReload : EditRefusal → List ℕ → ℕ → ReloadRefusal → Type 0
StopsReload (edit.Full operation request) kept version (refusal.Full v o list) = (v ≡ version) × (o ≡ operation) × (list.items ≡ kept)
StopsReload (edit.Full operation request) kept version r = r ≡ refusal.Memory
StopsReload edit.Memory kept version r = r ≡ refusal.Memory
StopsReload (edit.Refused rule) kept version r = ⊥

-- no rule of zones is why
abbrev pub NoRule : EditRefusal → Type 0
NoRule (edit.Refused rule) = ⊥
NoRule edit.Memory = Unit {0}
NoRule (edit.Full operation request) = Unit {0}

-- ---- a reload

-- what makes of a zone the other one: what differs, and nothing else
abbrev pub exchange : Version → Version → Transaction
exchange before after = changes (difference Keep before after)

-- A pass took the version that was current at some moment. It is no older than what the pass had seen, and the last that it has seen then.
pub record Took (old new : Known) : Type 0 where
  pub grows : IsPartOf new.seen old.seen
  pub pass : new.pass ≡ with_pinned old.pass (length new.seen.history)

-- A pass took a version, and the transaction that makes of it the other zone was to be the next commit. Where it was, the version that it made
-- is that zone.
pub record Reloading (s : OpenedWith) (zone : Version) (old new : Known) (result : Result ℕ ReloadRefusal) : Type 0 where
  pub looked : Known
  pub took : Took old looked
  pub before : Version
  pub was : IsAfter s.opening looked.seen.history (length looked.seen.history) before
  pub ran : RanOn s (exchange before zone) looked new result
  pub is_zone : IfOk result (λ version. IsAfter s.opening new.seen.history version zone)

-- The zone of the other one's origin was exchanged, or wasn't, for this reason; or no zone has that origin.
abbrev pub Reloads : List Served → Zone → ServerKnown → ServerKnown → Result ℕ ReloadRefusal → Type 0
Reloads served zone old new (Ok version) = HappensIn served zone.origin (λ s v w. Reloading (opened_as s) zone.pairs v w (Ok version)) old new
Reloads served zone old new (Err refusal.NoZone) = NoneHas served zone.origin × (new ≡ old)
Reloads served zone old new (Err e) = HappensIn served zone.origin (λ s v w. Reloading (opened_as s) zone.pairs v w (Err e)) old new
