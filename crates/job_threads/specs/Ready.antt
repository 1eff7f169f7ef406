-- What workers begin with, and what they give back.
use Rattle.std.specs.Prelude.{◌≡◌, ◌+◌, ◌≤◌, ℕ, List, IsSome, false, length}
use Rattle.std.specs.List.{All, AllByRecursion}
use Rattle.zone_model.specs.Names.{Name}
use Rattle.trie_model.specs.Keys.{Entry}
use Rattle.trie_model.specs.Shape.{cells}
use Rattle.job_model.specs.Commands.{Command, InTurn}
use Rattle.job_model.specs.Outcomes.{passes_for}
use Rattle.report_laws.specs.Changes.{AllAsked}
use Rattle.shared_cells.specs.declared.view.TableSize.{TableSize}
use Rattle.qp_multi.specs.declared.meaning.Named.{Ghosts}
use Rattle.qp_multi.specs.declared.pass.Pass.{Pass}
use Rattle.qp_multi.specs.Closings.{AreAll}
use Rattle.qp_multi.specs.Openings.{room_in}
use Rattle.qp_multi.specs.Passes.{known_at}
use Rattle.job_commands.specs.Commands.{OpensAt, known_in}
use Rattle.job_commands.specs.Histories.{IsZone}
use Rattle.job_commands.specs.Works.{AreNew}
use Rattle.job_threads.specs.declared.job.Gathered.{Gathered}
use Rattle.job_threads.specs.declared.worker.WorkerEnd.{WorkerEnd}

-- a worker's commands come in turn, and ask for changes of a zone of the origin
pub record CanBeRun (origin : Name) (commands : List Command) : Type 0 where
  pub in_turn : InTurn false commands
  pub said : AllByRecursion (AllAsked origin) commands

-- so do those of all workers; the table has the passes for so many, and its zone is one of the origin
pub record CanRunOn (origin : Name) (es : List Entry) (seats many : ℕ) (workers : List (List Command)) : Type 0 where
  pub passes : seats ≡ passes_for many
  pub zone : IsZone origin es
  pub in_turn : AllByRecursion (InTurn false) workers
  pub said : AllByRecursion (AllByRecursion (AllAsked origin)) workers

module _ {Y : Type 0} {N : Ghosts Y} where
  -- a worker's two passes of the index at this place
  pub record AreReady (origin : Name) (place : ℕ) (asks spare : Pass Y N) : Type 0 where
    pub here : (IsSome asks.seat) × (IsSome spare.seat)
    pub places : (asks.place ≡ place) × (spare.place ≡ place)
    pub opens : OpensAt origin (known_at asks.seat)

  -- so many passes of it, and what workers are to run
  pub record CanStart (origin : Name) (place many : ℕ) (workers : List (List Command)) (passes : List (Pass Y N)) : Type 0 where
    pub count : length passes ≡ many
    pub here : All (λ p. (IsSome p.seat) × (p.place ≡ place)) passes
    pub opens : All (λ p. OpensAt origin (known_at p.seat)) passes
    pub in_turn : AllByRecursion (InTurn false) workers
    pub said : AllByRecursion (AllByRecursion (AllAsked origin)) workers

  -- a worker's passes are back
  pub record IsBack (place : ℕ) (d : WorkerEnd Y N) : Type 0 where
    pub here : (IsSome d.asks.seat) × (IsSome d.spare.seat)
    pub places : (d.asks.place ≡ place) × (d.spare.place ≡ place)

  -- main's and those of all workers are
  pub record AreBack (place : ℕ) (g : Gathered Y N) : Type 0 where
    pub main : (IsSome g.main.seat) × (g.main.place ≡ place)
    pub here : All (λ p. (IsSome p.seat) × (p.place ≡ place)) g.passes.items

  -- the passes of an index that a worker has alone
  pub record AreOfOne (origin : Name) (place : ℕ) (passes : List (Pass Y N)) : Type 0 where
    pub count : length passes ≡ 2
    pub here : All (λ p. (IsSome p.seat) × (p.place ≡ place)) passes
    pub opens : All (λ p. OpensAt origin (known_at p.seat)) passes
    pub all : AreAll 2 (known_in passes)

  -- an index of this size was opened for one worker, on these entries
  pub record OpensForOne (origin : Name) (key made : TableSize) (es : List Entry) (place : ℕ) (ps : List (Pass Y N)) : Type 0 where
    pub size : made ≡ key
    pub passes : AreOfOne origin place ps
    pub new : AreNew es (known_in ps)
    pub fits : cells es ≤ room_in key.chunks
