-- What a worker's two passes know.
use Rattle.std.specs.Prelude.{◌≡◌, ℕ, Bool, Option, IfSome, IsSome}
use Rattle.std.specs.Option.{is_some, option_map}
use Rattle.zone_model.specs.Names.{Name}
use Rattle.shared_cells.specs.History.{IsPartOf}
use Rattle.shared_cells.specs.Views.{with_note}
use Rattle.qp_multi.specs.declared.meaning.Named.{Ghosts}
use Rattle.qp_multi.specs.declared.pass.Pass.{Pass}
use Rattle.qp_multi.specs.Passes.{Known, known_at}
use Rattle.qp_multi.specs.Prelude.{Accounts, AllSeen}
use Rattle.job_commands.specs.Commands.{OpensAt, Seat}
use Rattle.job_commands.specs.WorkerPasses.{IsPlaced, Pinned, holder_view, worker_passes}
use Rattle.job_commands.specs.Steps.{WorkerPasses}
use Rattle.job_threads.specs.declared.passes.Passes.{Passes}

module _ {Y : Type 0} {N : Ghosts Y} where
  -- the seats of the second pass, where it is spare, and of the snapshot
  abbrev pub spare_seat : Passes Y N → Option (Option Seat)
  spare_seat passes = option_map (λ p. p.seat) passes.spare

  abbrev pub held_seat : Passes Y N → Option Pinned
  held_seat passes = option_map (λ s. s.seat) passes.held

  -- the second pass is spare, or with a snapshot
  abbrev pub ArePlaced : Passes Y N → Type 0
  ArePlaced passes = IsPlaced (spare_seat passes) (held_seat passes)

  abbrev pub holds_one : Passes Y N → Bool
  holds_one passes = is_some (held_seat passes)

  -- what the second pass knows
  abbrev pub holder_of : Passes Y N → Known
  holder_of passes = holder_view (spare_seat passes) (held_seat passes)

  abbrev pub worker_passes_of : Passes Y N → WorkerPasses
  worker_passes_of passes = worker_passes passes.asks.seat (spare_seat passes) (held_seat passes)

  -- both are of the index at this place
  pub record AreAt (place : ℕ) (passes : Passes Y N) : Type 0 where
    pub here : IsSome passes.asks.seat
    pub asks : passes.asks.place ≡ place
    pub spare : IfSome passes.spare (λ p. p.place ≡ place)
    pub held : IfSome passes.held (λ s. s.place ≡ place)
    pub placed : ArePlaced passes

  -- so they are, and a snapshot is held or not
  pub record StandAt (place : ℕ) (holds : Bool) (passes : Passes Y N) : Type 0 where
    pub at : AreAt place passes
    pub held : holds_one passes ≡ holds

  -- the index was opened with a zone of the origin too: the worker can run commands
  pub record CanRun (origin : Name) (place : ℕ) (holds : Bool) (passes : Passes Y N) : Type 0 where
    pub at : AreAt place passes
    pub held : holds_one passes ≡ holds
    pub opens : OpensAt origin (known_at passes.asks.seat)

  -- the second pass, back in its place: it knows what it did while it was spare, or was with the snapshot
  pub record IsSecond (passes : Passes Y N) (second : Pass Y N) : Type 0 where
    pub here : IsSome second.seat
    pub place : second.place ≡ passes.asks.place
    pub seen : (known_at second.seat).seen ≡ (holder_of passes).seen
    pub pass : (known_at second.seat).pass ≡ (holder_of passes).pass

-- what a pass knows and was told by a note is a part of what all have seen by a moment behind the note's
pub record AccountsBeside (passes : ℕ) (old new note : Known) : Type 0 where
  pub told : new ≡ with_note old note
  pub all : (all : AllSeen) × Accounts passes new all × IsPartOf all note.seen
