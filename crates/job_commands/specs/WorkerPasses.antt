-- Where a worker's passes are.
use Rattle.std.specs.Prelude.{◌≡◌, List, length, Option, Some, None, IsSome}
use Rattle.std.specs.Option.{is_some}
use Rattle.trie_model.specs.Keys as trie
use Rattle.shared_cells.specs.declared.pinned.PinnedSeat.{PinnedSeat}
use Rattle.shared_cells.specs.Views.{pinned_image, spent_view}
use Rattle.qp_multi.specs.declared.meaning.Operation.{Operation}
use Rattle.qp_multi.specs.Meanings.{Holds}
use Rattle.qp_multi.specs.Passes.{Known, first_version, known_at, version_seen}
use Rattle.job_commands.specs.Commands.{Seat}
use Rattle.job_commands.specs.Histories.{IsLawful}
use Rattle.job_commands.specs.Steps.{WorkerPasses}

abbrev pub Pinned : Type 0
Pinned = PinnedSeat (List trie.Entry) (List Operation)

-- a pinned seat shows the version that its pass has seen last, which is one of the zone
pub record IsHeld (seat : Pinned) : Type 0 where
  pub version : seat.version ≡ length seat.place.me.0.seen.history
  pub holds : Holds (pinned_image seat.place.me.0.progress) seat.root (version_seen seat.place.me.0.seen)
  pub lawful : IsLawful (first_version seat.place.me.0.seen) (version_seen seat.place.me.0.seen)

-- what the second pass knows, which is spare or with a snapshot
abbrev pub holder_view : Option (Option Seat) → Option Pinned → Known
holder_view (Some seat) held = known_at seat
holder_view None (Some pinned) = pinned.place.me.0
holder_view None None = spent_view

abbrev pub worker_passes : Option Seat → Option (Option Seat) → Option Pinned → WorkerPasses
worker_passes asks spare held = record { asks = known_at asks; holds = holder_view spare held; held = is_some held }

-- it is one of these
abbrev pub IsPlaced : Option (Option Seat) → Option Pinned → Type 0
IsPlaced (Some seat) None = IsSome seat
IsPlaced None (Some pinned) = IsHeld pinned
IsPlaced (Some seat) (Some pinned) = ⊥
IsPlaced None None = ⊥
