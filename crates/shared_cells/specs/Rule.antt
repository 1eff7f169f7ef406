-- The rule of the table: what holds, between any two steps, of the words and of what each seat knows.
use Rattle.std.specs.Prelude.{◌≡◌, ◌⊎◌, ℕ, ◌<◌, ◌≤◌, true, List, [], ◌∷◌, ◌++◌, length, take, slice_index, Option, Some, None, All, Contains}
use mathlib.Core.Option.{some}
use lib.ListN.{get_elem?}
use Rattle.atomic_table.specs.Table.{State}
use Rattle.pin_core.specs.declared.kept.CellAt.{CellAt}
use Rattle.pin_core.specs.declared.kept.Kept.{Kept}
use Rattle.pin_core.specs.declared.kept.Stage.{Stage}
use Rattle.pin_core.specs.declared.kept.Stage.TheVariants as stage
use Rattle.pin_core.specs.Words.{pin_at, version_of}
use Rattle.pin_core.specs.Sound.{Sound, turn_of, stage_at}
use Rattle.shared_cells.specs.declared.view.TableSize.{TableSize}
use Rattle.shared_cells.specs.declared.view.Naming.{Naming}
use Rattle.shared_cells.specs.declared.view.Seen.{Seen}
use Rattle.shared_cells.specs.declared.view.Progress.{Progress}
use Rattle.shared_cells.specs.declared.view.Progress.TheVariants as progress
use Rattle.shared_cells.specs.declared.view.PassView.{PassView}
use Rattle.shared_cells.specs.declared.view.TurnView.{TurnView}
use Rattle.shared_cells.specs.declared.view.View.{View}
use Rattle.shared_cells.specs.History.{nothing_seen, IsPartOf, entries_by, version_after}
use Rattle.shared_cells.specs.Views.{core_size, has_turn}

-- What the rule says that there is. Each seat knows a part of it.
pub record Facts (O E : Type 0) : Type 0 where
  -- what the turn knows
  pub turn : TurnView
  -- version 0, once the index is open, the whole history, and all namings
  pub all : Seen O E
  -- the seat that has the turn
  pub writer : ℕ
  -- how far each pass has come
  pub stages : List Stage
  -- how many entries of the history each pass has seen
  pub seen : List ℕ
  -- the seat that each pass is at
  pub owner : ℕ → ℕ
  -- the versions that each pass has pinned
  pub pinned : ℕ → List ℕ

-- how far a pass has come, as the pin core has it
abbrev pub stage_of : Progress → Stage
stage_of progress.Idle = stage.Idle
stage_of progress.Entered = stage.Entered
stage_of (progress.Looked word) = stage.Looked word
stage_of (progress.Pinned k) = stage.Pinned k.version

-- a pinned pass has a kept version, which is the last that it has pinned
abbrev pub ProgressFits : List Kept → List ℕ → Progress → Type 0
ProgressFits kept pinned (progress.Pinned k) = Contains kept k × ((before : List ℕ) × (pinned ≡ before ++ k.version ∷ []))
ProgressFits kept pinned _ = Unit {0}

-- a pass that doesn't know of the opening is idle
abbrev pub IdleUnlessTold : {O : Type 0} → Option O → Progress → Type 0
IdleUnlessTold None p = p ≡ progress.Idle
IdleUnlessTold (Some opening) p = Unit {0}

-- the pin of a pass names this version
abbrev pub PinNames : List ℕ → ℕ → ℕ → Type 0
PinNames words pass version = (2 ≤ slice_index words (pin_at pass)) × (version_of (slice_index words (pin_at pass)) ≡ version)

-- a naming is of a version that its pass has pinned, or that its pin names
abbrev pub NamingFits : List ℕ → (ℕ → List ℕ) → Naming → Type 0
NamingFits words pinned n = Contains (pinned n.pass) n.version ⊎ PinNames words n.pass n.version

module _ {O E : Type 0} where
  -- what a pass knows of itself
  pub record OwnFits (size : TableSize) (f : Facts O E) (seat : ℕ) (seen : Seen O E) (p : Progress) (own : PassView E) : Type 0 where
    pub made : own.number < f.turn.made
    -- it is at this seat, and at no other
    pub at : f.owner own.number ≡ seat
    -- it has all entries that the history has of it, and no others
    pub entries : own.entries ≡ entries_by own.number f.all.history
    pub pinned : own.pinned ≡ f.pinned own.number
    pub seen_length : slice_index f.seen own.number ≡ length seen.history
    pub stage_is : stage_at f.stages own.number ≡ stage_of p
    pub kept : ProgressFits f.turn.kept own.pinned p
    pub told : IdleUnlessTold seen.opening p
    pub chunks : own.chunks ≡ size.chunks

  -- a seat of no pass is idle
  abbrev pub PassFits : TableSize → Facts O E → ℕ → Seen O E → Progress → Option (PassView E) → Type 0
  PassFits size f seat seen p None = p ≡ progress.Idle
  PassFits size f seat seen p (Some own) = OwnFits size f seat seen p own

  -- who has the turn has seen all
  pub record HasAll (f : Facts O E) (seat : ℕ) (seen : Seen O E) (p : Progress) (turn : TurnView) : Type 0 where
    pub writer : seat ≡ f.writer
    pub turn_is : turn ≡ f.turn
    pub seen_is : seen ≡ f.all
    pub idle : p ≡ progress.Idle

  abbrev pub TurnFits : Facts O E → ℕ → Seen O E → Progress → Option TurnView → Type 0
  TurnFits f seat seen p None = Unit {0}
  TurnFits f seat seen p (Some turn) = HasAll f seat seen p turn

  -- The turn is held: this seat has it. No other has it, since each that has it is the writer's.
  pub record IsHeld (views : List (View O E)) (writer : ℕ) : Type 0 where
    pub view : View O E
    pub at : get_elem? views writer ≡ some view
    pub turn : has_turn view.turn ≡ true

  -- what is true of what a seat knows
  pub record Knows (size : TableSize) (f : Facts O E) (seat : ℕ) (v : View O E) : Type 0 where
    pub seen : IsPartOf f.all v.seen
    pub told : IsPartOf f.all v.told
    pub pass : PassFits size f seat v.seen v.progress v.pass
    pub turn : TurnFits f seat v.seen v.progress v.turn

module _ {O E : Type 0} (applied : O → E → O) (lawful : O → O → Type 0) (permitted : E → Type 0) (stands : List CellAt → Option ℕ → O → Type 0) (size : TableSize) where
  -- before the opening nothing has happened; after it every version is lawful, and each kept image is its version
  abbrev pub VersionsFit : Facts O E → Option O → Type 0
  VersionsFit f None = (f.all ≡ nothing_seen) × ((p : ℕ) → p < size.passes → stage_at f.stages p ≡ stage.Idle)
  VersionsFit f (Some o) = ((n : ℕ) → n ≤ length f.all.history → lawful o (version_after applied o (take n f.all.history)))
      × All (λ k. stands k.image k.root (version_after applied o (take k.version f.all.history))) f.turn.kept

  -- There are facts of which the words and all views are true.
  pub record IsSoundTable (s : State (Unit {0}) (View O E)) : Type 0 where
    pub facts : Facts O E
    pub made : facts.turn.made ≤ size.passes
    -- each entry is by a pass that was made
    pub authors : All (λ e. e.author < facts.turn.made) facts.all.history
    -- and is one that the history may have
    pub allowed : All (λ e. permitted e.change) facts.all.history
    -- what the pin core keeps between any two events
    pub sound : Sound (core_size size) s.words facts.stages facts.seen (turn_of (length facts.all.history) facts.turn.kept facts.turn.marks)
    pub seats : (j : ℕ) (v : View O E) → get_elem? s.views j ≡ some v → Knows size facts j v
    pub held : IsHeld s.views facts.writer
    pub versions : VersionsFit facts facts.all.opening
    pub namings : All (NamingFits s.words facts.pinned) facts.all.namings
    -- and of a pass that there is
    pub namers : All (λ n. n.pass < size.passes) facts.all.namings
    -- the turn has a copy of the words, in which it knows all that are past the pins
    pub copied : length facts.turn.words ≡ length s.words
    pub mirror : (i : ℕ) → 64 < i → slice_index s.words i ≡ slice_index facts.turn.words i
