-- What workers of one list begin with, and what they give back.
use Rattle.std.specs.Prelude.{◌≡◌, ◌+◌, ◌≤◌, [], ℕ, List, Option, IsSome, length}
use Rattle.std.specs.List.{All, AllByRecursion}
use Rattle.std.specs.List.Sorted.{IsStrictlyIncreasing}
use Rattle.zone_model.specs.Names.{Name}
use Rattle.trie_model.specs.Keys.{Entry}
use Rattle.job_model.specs.Commands.{Command, NeedsNoSnapshot}
use Rattle.job_model.specs.Feeds.{passes_fed}
use Rattle.report_laws.specs.Changes.{AllAsked}
use Rattle.job_report.specs.declared.outcomes.FedOutcome.{FedOutcome}
use Rattle.feed_core.specs.Feeds.{Handout, Takings, new_seat}
use Rattle.qp_multi.specs.declared.meaning.Named.{Ghosts}
use Rattle.qp_multi.specs.declared.pass.Pass.{Pass}
use Rattle.qp_multi.specs.Passes.{known_at}
use Rattle.job_commands.specs.Commands.{OpensAt}
use Rattle.job_commands.specs.Histories.{IsZone}
use Rattle.feed_threads.specs.Feeds.{IsFree, IsServed, done_seat, seats_served, served_by}
use Rattle.feed_threads.specs.declared.feeding.FedWorkerEnd.{FedWorkerEnd}
use Rattle.feed_threads.specs.declared.feeding.FedGathered.{FedGathered}
use Rattle.feed_threads.specs.declared.ordering.Served.{Served}

-- a feed hands out the numbers of so many commands, which want no snapshot and ask for changes of a zone of the origin
pub record AreFed (origin : Name) (feed : Handout) (many : ℕ) (commands : List Command) : Type 0 where
  pub count : feed.count ≡ many
  pub no_snapshots : AllByRecursion NeedsNoSnapshot commands
  pub said : AllByRecursion (AllAsked origin) commands

-- so many workers and so many passes for them, a zone of the origin, and so many commands
pub record CanFeedOn (origin : Name) (es : List Entry) (seats crew many : ℕ) (commands : List Command) : Type 0 where
  pub workers : (1 ≤ crew) × (crew ≤ 16)
  pub passes : seats ≡ passes_fed crew
  pub zone : IsZone origin es
  pub count : (1 ≤ many) × (many ≤ 10000)
  pub no_snapshots : AllByRecursion NeedsNoSnapshot commands
  pub said : AllByRecursion (AllAsked origin) commands

-- what a worker did can be placed: its numbers rise, their places are free, and none is its own yet
pub record CanBePlaced (worker : ℕ) (served : Served) (places : List (Option FedOutcome)) : Type 0 where
  pub alike : IsServed served
  pub rising : IsStrictlyIncreasing served.numbers.items
  pub free : AllByRecursion (IsFree places) served.numbers.items
  pub none : served_by worker 1 places ≡ []

module _ {Y : Type 0} {N : Ghosts Y} where
  -- a worker's pass of the index at this place, and its seat at a feed
  pub record IsReady (origin : Name) (index : ℕ) (feed : Handout) (p : Pass Y N) (taken : Takings) : Type 0 where
    pub here : IsSome p.seat
    pub place : p.place ≡ index
    pub opens : OpensAt origin (known_at p.seat)
    pub seat : taken ≡ new_seat feed

  -- both are back; the worker took some numbers, and has an outcome for each
  pub record IsBack (index : ℕ) (feed : Handout) (d : FedWorkerEnd Y N) : Type 0 where
    pub here : IsSome d.pass.seat
    pub place : d.pass.place ≡ index
    pub seat : d.seat ≡ done_seat feed d.served.numbers.items
    pub alike : IsServed d.served

  -- a pass for each seat, and one more; what workers are to run
  pub record CanServe (origin : Name) (place : ℕ) (feed : Handout) (many : ℕ) (cs : List Command) (ps : List (Pass Y N)) (taken : List Takings) : Type 0 where
    pub count : length ps ≡ length taken + 1
    pub here : All (λ p. (IsSome p.seat) × (p.place ≡ place)) ps
    pub opens : All (λ p. OpensAt origin (known_at p.seat)) ps
    pub seats : All (λ seat. seat ≡ new_seat feed) taken
    pub commands : AreFed origin feed many cs

  -- main's pass and those of all workers are back
  pub record PassesAreBack (place : ℕ) (g : FedGathered Y N) : Type 0 where
    pub main : (IsSome g.main.seat) × (g.main.place ≡ place)
    pub here : All (λ p. (IsSome p.seat) × (p.place ≡ place)) g.passes.items

  -- so are the seats of so many workers, each of whom has an outcome for each number that it took
  pub record AreBack (place : ℕ) (feed : Handout) (workers : ℕ) (g : FedGathered Y N) : Type 0 where
    pub passes : PassesAreBack place g
    pub many : length g.served.items ≡ workers
    pub seats : g.seats.items ≡ seats_served feed g.served.items
    pub alike : AllByRecursion IsServed g.served.items

  -- so many workers and passes for them, and so many commands
  pub record CanFeed (origin : Name) (place crew many : ℕ) (commands : List Command) (ps : List (Pass Y N)) : Type 0 where
    pub workers : (1 ≤ crew) × (crew ≤ 16)
    pub passes : length ps ≡ passes_fed crew
    pub here : All (λ p. (IsSome p.seat) × (p.place ≡ place)) ps
    pub opens : All (λ p. OpensAt origin (known_at p.seat)) ps
    pub count : (1 ≤ many) × (many ≤ 10000)
    pub no_snapshots : AllByRecursion NeedsNoSnapshot commands
    pub said : AllByRecursion (AllAsked origin) commands
