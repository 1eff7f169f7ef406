-- What calls ask of a seat, and what they tell.
use Rattle.std.specs.Prelude.{◌≡◌, ◌⊎◌, ℕ, ◌+◌, ◌^◌, ◌/◌, ◌<◌, ◌≤◌, true, false, List, length, replicate, Contains, Option}
use Rattle.pin_core.specs.declared.kept.Mark.TheVariants as mark
use Rattle.pin_core.specs.Machine.{is_kept_cell, is_kept_chunk}
use Rattle.shared_cells.specs.declared.view.Seen.{Seen}
use Rattle.shared_cells.specs.declared.view.TurnView.{TurnView}
use Rattle.shared_cells.specs.declared.view.View.{View}
use Rattle.shared_cells.specs.History.{IsPartOf}
use Rattle.shared_cells.specs.Views.{number_of, has_turn, is_told, kept_in, marks_of, with_note}
use Rattle.shared_cells.specs.Steps.{Accounts, IsCurrent, IsNamed}

-- ---- cells

-- the turn may write a cell
pub record MayWrite (chunks : ℕ) (known : Option TurnView) (at : ℕ) : Type 0 where
  pub turn : has_turn known ≡ true
  -- its chunk is one that there is
  pub inside : at / 1024 < chunks
  -- no kept version has it
  pub unkept : is_kept_cell (kept_in known) at ≡ false

-- the turn may free a chunk
pub record MayFree (chunks : ℕ) (known : Option TurnView) (chunk : ℕ) : Type 0 where
  pub turn : has_turn known ≡ true
  -- there is such a one
  pub inside : chunk < chunks
  -- no kept version has a cell in it
  pub unkept : is_kept_chunk (kept_in known) chunk ≡ false

-- ---- passes

module _ {O E : Type 0} where
  -- the seat is of the pass of this number, which knows of the opening
  pub record IsPass (number : ℕ) (v : View O E) : Type 0 where
    pub few : number < 64
    pub pass : number_of v.pass ≡ number + 1
    -- it isn't joined to the turn
    pub off_turn : has_turn v.turn ≡ false
    pub told : is_told v.seen.opening ≡ true

  -- what a pass that pinned this version has seen
  pub record SeesUpTo (pinned : ℕ) (old new : View O E) : Type 0 where
    -- the history up to it
    pub version : pinned ≡ length new.seen.history
    -- which isn't older than what it had seen
    pub no_older : length old.seen.history ≤ pinned
    -- and no less than before
    pub grows : IsPartOf new.seen old.seen

  -- what a pass's look tells beside a note
  pub record LooksBeside (passes : ℕ) (old new note : View O E) : Type 0 where
    -- the pass has been told what the note tells, and hasn't learnt it
    pub told : new ≡ with_note old note
    -- what it has seen, and what it was told, is a part of all that was published and named so far
    pub accounted : (all : Seen O E) × Accounts passes (with_note old note) all

-- ---- rounds

-- a version was added to a list
pub record Adds (version : ℕ) (old new : List ℕ) : Type 0 where
  pub has : Contains new version
  pub keeps : (v : ℕ) → Contains old v → Contains new v
  pub only : (v : ℕ) → Contains new v → (v ≡ version) ⊎ Contains old v
  pub few : length new ≤ length old + 1

module _ {O E : Type 0} where
  -- the turn may make a round
  pub record CanRound (passes current : ℕ) (v : View O E) : Type 0 where
    pub turn : has_turn v.turn ≡ true
    pub told : is_told v.seen.opening ≡ true
    -- there are so many passes
    pub passes_fit : (1 ≤ passes) × (passes ≤ 64)
    -- none of which is marked
    pub blank : marks_of v.turn ≡ replicate passes mark.Blank
    -- this is the current version
    pub version : current ≡ length v.seen.history

  -- the turn may mark a pass, when CUR had this word
  pub record CanMark (pass current : ℕ) (v : View O E) : Type 0 where
    pub told : is_told v.seen.opening ≡ true
    -- there is such a pass
    pub pass_fits : pass < length (marks_of v.turn)
    pub few : pass < 64
    pub word : IsCurrent v current
    -- a pin can be made of it
    pub fits : current + 2 < 2 ^ 64

  -- versions that a round has left
  pub record KeepsNamed (passes current : ℕ) (v : View O E) (versions : List ℕ) : Type 0 where
    -- at most one for each pass, and the current one
    pub few : length versions ≤ passes + 1
    -- each but that is of a naming that was seen
    pub named : (version : ℕ) → Contains versions version → (version ≡ current) ⊎ IsNamed v version
