-- What is known of an index when it ends.
use Rattle.std.specs.Prelude.{◌≡◌, ◌⊎◌, ℕ, ◌+◌, ◌<◌, List, length, Some, All, Contains}
use Rattle.atomic_table.specs.Seated.{TableId}
use Rattle.trie_model.specs.Keys.{Entry}
use Rattle.shared_cells.specs.declared.view.Entry.{Entry as Commit}
use Rattle.shared_cells.specs.declared.view.Naming.{Naming}
use Rattle.shared_cells.specs.declared.view.Seen.{Seen}
use Rattle.shared_cells.specs.declared.view.PassView.{PassView}
use Rattle.shared_cells.specs.declared.turn.TurnSeat.{TurnSeat}
use Rattle.shared_cells.specs.History.{IsPartOf, StartsWith, entries_by}
use Rattle.shared_cells.specs.Steps.{Accounts}
use Rattle.shared_cells.specs.Views.{number_of}
use Rattle.qp_multi.specs.declared.meaning.Operation.{Operation}
use Rattle.qp_multi.specs.Passes.{Known, commits_in, pinned_in}

-- all that was published, and all namings
abbrev pub AllSeen : Type 0
AllSeen = Seen (List Entry) (List Operation)

-- what is known of a pass of an index with so many, at some moment
abbrev pub IsAccounted : ℕ → Known → Type 0
IsAccounted passes v = (all : AllSeen) × Accounts passes v all

-- the same at a moment behind a note's: it begins with what that tells
abbrev pub IsAccountedBeside : ℕ → Known → AllSeen → Type 0
IsAccountedBeside passes v told = (all : AllSeen) × Accounts passes v all × IsPartOf all told

-- Of all this a pass had seen a beginning. The commits that the history has of it stand in its list, which begins with them, and
-- each naming of it is of a version that it pinned.
pub record Includes (last : AllSeen) (v : Known) : Type 0 where
  pub seen : IsPartOf last v.seen
  pub commits : (own : PassView (List Operation)) → v.pass ≡ Some own → StartsWith own.entries (entries_by own.number last.history)
  pub namings : (own : PassView (List Operation)) → v.pass ≡ Some own → All (λ n. n.pass ≡ own.number → Contains own.pinned n.version) last.namings

-- one of these is the pass of this number
abbrev pub IsThere : List Known → ℕ → Type 0
IsThere passes number = (v : Known) × Contains passes v × (number_of v.pass ≡ number + 1)

-- these are all passes of an index that has so many
abbrev pub AreAll : ℕ → List Known → Type 0
AreAll count passes = (number : ℕ) → number < count → IsThere passes number

-- it is by one of these passes, and stands in its list
abbrev pub IsCommitOf : List Known → Commit (List Operation) → Type 0
IsCommitOf passes e = (v : Known) × Contains passes v × (number_of v.pass ≡ e.author + 1) × Contains (commits_in v.pass) e

-- it is of one of these passes, which pinned the version
abbrev pub IsNamingOf : List Known → Naming → Type 0
IsNamingOf passes n = (v : Known) × Contains passes v × (number_of v.pass ≡ n.pass + 1) × Contains (pinned_in v.pass) n.version

-- An index of so many passes ended with this version, where these passes were handed in.
pub record Ends (count : ℕ) (passes : List Known) (version : ℕ) (last : AllSeen) : Type 0 where
  -- the number of commits that were made
  pub version_is : version ≡ length last.history
  pub each : All (Includes last) passes
  -- where all were handed in, all commits and namings are theirs
  pub commits : AreAll count passes → All (IsCommitOf passes) last.history
  pub namings : AreAll count passes → All (IsNamingOf passes) last.namings

-- Where no pass was handed in: as many commits as the turn of this table had seen, at its seat; or none, where the turn was not there.
abbrev pub IsOfTurn : TableId → ℕ → Type 0
IsOfTurn table version = ((seat : TurnSeat (List Entry) (List Operation)) × (seat.place.table_id ≡ table) × (version ≡ length seat.place.me.0.seen.history)) ⊎ (version ≡ 0)

-- One pass took the version, when it had learnt what the others had seen.
pub record Gathers (count : ℕ) (first after : Known) (others : List Known) (version : ℕ) (last : AllSeen) : Type 0 where
  pub version_is : version ≡ length last.history
  pub own : Includes last first
  pub each : All (Includes last) others
  pub authors : All (λ e. e.author < count) last.history
  pub namers : All (λ n. n.pass < count) last.namings
  -- it has seen all this, then
  pub history : StartsWith after.seen.history last.history
  pub namings : StartsWith after.seen.namings last.namings
