-- A job finds room in as many chunks as it needs.
use Rattle.std.proofs.Common.{◌≡◌, ℕ, ◌+◌, ◌-◌, ◌*◌, ◌/◌, ◌≤◌, List, [], ◌∷◌, ◌++◌, length, Some, ap, arith, length-append}
use Rattle.std.specs.List.{AllByRecursion}
use Rattle.zone_model.specs.Versions.{Operation}
use Rattle.zone_model.specs.Transactions.{Transaction, no_changes}
use Rattle.trie_model.specs.Capacity.{is_roomy, IsLeast}
use Rattle.job_model.specs.declared.Ending.{Ending}
use Rattle.job_model.specs.declared.Ending.TheVariants.{Commit}
use Rattle.job_model.specs.Commands.{Command, Ask, Hold, AskHeld, Release, Block, Compact, Job}
use Rattle.job_model.specs.Sizes.{cell_count}
use Rattle.job_model.specs.Needs.{cells_of_workers, most_cells, most_operations}
use Rattle.job_model.specs.Outcomes.{Cause, Rule, Full, Spent, Causes, Ended, Shown, Committed, RolledBack, Refused, Pair, asked_by, JudgedBy, judged_by, BlockEnds, WorkerProgress, progress_after, at_first, Shows, EndsLawfully, Along, AllAlong, all_pairs, Lawful, passes_for}
use Rattle.qp_multi.specs.Openings.{room_in}
use Rattle.report_laws.specs.Versions.{AreOutcomesOf}
use Rattle.report_laws.proofs.ListLemmas.{all_append}
use Rattle.need_laws.specs.Bounds.{IsSaidJob, IsSized, FindsRoom, AllFindRoom}
use Rattle.need_laws.proofs.RunLaws.{IsShort, jobs_few, jobs_short}

-- ---- the zone

-- what versions take beside the zone's cells is left out
room_left : (kept operations cells zone least chunks : ℕ) → kept + 40 * operations + cells / 769 + 4 ≤ least / 2 → zone ≤ cells → least ≤ chunks → zone ≤ 769 * (chunks - chunks / 4 - 1)
room_left kept operations cells zone least chunks roomy within more = omega (arith, roomy, within, more)

pub zone_room : (job : Job) (least chunks : ℕ) → IsLeast (passes_for (length job.workers)) (most_cells job) (most_operations job) (Some least) → least ≤ chunks → cell_count job.zone ≤ room_in chunks
zone_room job least chunks is more =
    let within : cell_count job.zone ≤ cell_count job.zone + cells_of_workers job.workers = omega arith in
    room_left ((passes_for (length job.workers) + 2) * (most_cells job / 257 + 9)) (most_operations job) (most_cells job) (cell_count job.zone) least chunks is.2 within more

-- ---- its commands

-- more chunks have room too
pub roomy_still : (passes cells operations least chunks : ℕ) → IsLeast passes cells operations (Some least) → least ≤ chunks → is_roomy passes cells operations chunks
roomy_still passes cells operations least chunks is more = further ((passes + 2) * (cells / 257 + 9) + 40 * operations + cells / 769 + 4) is.2
  where
    further : (needed : ℕ) → needed ≤ least / 2 → needed ≤ chunks / 2
    further needed le = omega (arith, le, more)

-- Where no cause that may come of a transaction on a version is want of room, no command ends by that.
module _ (s : JudgedBy) (MayCome : Transaction → ℕ → Ended → Type 0)
    (cause_room : (asked : Transaction) (ending : Ending) (base : ℕ) (cause : Cause) → MayCome asked base (Refused cause) → Causes s asked ending base cause → FindsRoom (Refused cause)) where
  block_room : (seen : ℕ) (asked : Transaction) (ending : Ending) (v : ℕ) (ended : Ended) → MayCome asked v ended → BlockEnds s seen asked ending v ended → FindsRoom ended
  block_room seen asked ending v Shown may b = tt
  block_room seen asked ending v Committed may b = tt
  block_room seen asked ending v RolledBack may b = tt
  block_room seen asked ending v (Refused cause) may b = cause_room asked ending v cause may b.1

  shown_room : (May : Type 0) (ended : Ended) → Shows May ended → FindsRoom ended
  shown_room May Shown h = tt
  shown_room May Committed h = tt
  shown_room May RolledBack h = tt
  shown_room May (Refused cause) h = absurd h

  ends_room : (progress : WorkerProgress) (command : Command) (v : ℕ) (ended : Ended) → MayCome (asked_by command) v ended → EndsLawfully s progress command v ended → FindsRoom ended
  ends_room progress (Ask question) v ended may e = shown_room (progress.seen ≤ v) ended e
  ends_room progress Hold v ended may e = shown_room (progress.seen ≤ v) ended e
  ends_room progress (AskHeld question) v ended may e = shown_room (progress.held ≡ Some v) ended e
  ends_room progress Release v ended may e = shown_room (progress.held ≡ Some v) ended e
  ends_room progress (Block _ asked ending) v ended may e = block_room progress.seen asked ending v ended may e
  ends_room progress Compact v ended may e = block_room progress.seen no_changes Commit v ended may e

  abbrev PairMayCome : Pair → Type 0
  PairMayCome pair = MayCome (asked_by pair.0) pair.1.version pair.1.ended

  along_room : (progress : WorkerProgress) (pairs : List Pair) → AllByRecursion PairMayCome pairs → Along s progress pairs → AllFindRoom pairs
  along_room progress [] may a = tt
  along_room progress (pair ∷ pairs) may a = (ends_room progress pair.0 pair.1.version pair.1.ended may.0 a.0, along_room (progress_after progress pair.0 pair.1.version) pairs may.1 a.1)

  both_of : (P : Pair → Type 0) (xs ys : List Pair) → AllByRecursion P (xs ++ ys) → AllByRecursion P xs × AllByRecursion P ys
  both_of P [] ys all = (tt, all)
  both_of P (x ∷ xs) ys all = let parts = both_of P xs ys all.1 in ((all.0, parts.0), parts.1)

  pub ends_with_room : (workers : List (List Pair)) → AllByRecursion PairMayCome (all_pairs workers) → AllAlong s workers → AllFindRoom (all_pairs workers)
  ends_with_room [] may a = tt
  ends_with_room (pairs ∷ workers) may a =
      let parts = both_of PairMayCome pairs (all_pairs workers) may in
      all_append (λ (pair : Pair). FindsRoom pair.1.ended) pairs (all_pairs workers) (along_room at_first pairs parts.0 a.0) (ends_with_room workers parts.1 a.1)

-- where there are enough chunks
module _ (s : JudgedBy) (cells operations : ℕ) (roomy : is_roomy s.passes cells operations s.chunks) (few : (v : ℕ) → cell_count (s.set v) ≤ cells) (short : (v : ℕ) → length (s.made_by v).operations ≤ operations) where
  sized_cause : (asked : Transaction) (ending : Ending) (base : ℕ) (cause : Cause) → length asked.operations ≤ operations → Causes s asked ending base cause → FindsRoom (Refused cause)
  sized_cause asked ending base (Rule refusal) within c = tt
  sized_cause asked ending base (Full operation kept) within c =
      let number = c.number in
      let all = ap (λ (l : List Operation). length l) c.all in
      c.cramped cells operations (record { cells = λ v le. few v; operations = λ v some le. short v }) (omega (arith, number, all, within, length-append c.front (c.refused ∷ c.back))) roomy
  sized_cause asked ending base Spent within c = tt

  pub all_room : (workers : List (List Pair)) → AllByRecursion (IsShort operations) (all_pairs workers) → AllAlong s workers → AllFindRoom (all_pairs workers)
  all_room = ends_with_room s (λ asked v ended. length asked.operations ≤ operations) sized_cause

pub sized_room : (job : Job) → IsSaidJob job → (workers : List (List Pair)) → AreOutcomesOf job workers → (chunks last : ℕ) → IsSized job chunks
    → Lawful chunks (passes_for (length job.workers)) job.origin job.zone workers last → AllFindRoom (all_pairs workers)
sized_room job said workers same chunks last sized lawful =
    let few = jobs_few job said workers same in
    let short = jobs_short job workers same in
    all_room (judged_by chunks (passes_for (length job.workers)) job.origin job.zone workers) (most_cells job) (most_operations job)
    sized few.versions short.made workers short.asked lawful.along
