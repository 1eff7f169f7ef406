-- Whole runs of the machine, and what holds of each of them.
use Rattle.std.specs.Prelude.{◌≡◌, ℕ, ◌+◌, ◌<◌, ◌≤◌, ◌==◌, List, [], ◌∷◌, ◌++◌, length, take, slice_get, slice_index, if◌then◌else◌, Option, Some, IsTrue}
use Rattle.pin_core.specs.declared.kept.CellAt.{CellAt}
use Rattle.pin_core.specs.declared.kept.Kept.{Kept}
use Rattle.pin_core.specs.declared.kept.Stage.TheVariants as stage
use Rattle.pin_core.specs.declared.kept.Mark.{Mark}
use Rattle.pin_core.specs.declared.event.Half.{Half}
use Rattle.pin_core.specs.declared.event.Half.TheVariants.{Big, Small}
use Rattle.pin_core.specs.declared.event.Event.{Event}
use Rattle.pin_core.specs.declared.event.Event.TheVariants as event
use Rattle.pin_core.specs.declared.event.Step.{Step}
use Rattle.pin_core.specs.declared.event.Step.TheVariants.{Refused, Word}
use Rattle.pin_core.specs.Words.{Size}
use Rattle.pin_core.specs.Sound.{stage_at}
use Rattle.pin_core.specs.Machine.{Core, IsSound, next, can_publish, next_kept, can_open, opened, kept_by_round}

-- the state after these events
abbrev pub after : Core → List Event → Core
after s [] = s
after s (e ∷ es) = after (next s e).0 es

-- a state that some of these events lead to, from the first on
abbrev pub StoppedWithin : Core → List Event → Core → Type 0
StoppedWithin s events stopped = (n : ℕ) × (stopped ≡ after s (take n events))

-- what they answer, one after another
abbrev pub answers : Core → List Event → List Step
answers s [] = []
answers s (e ∷ es) = (next s e).1 ∷ answers (next s e).0 es

-- the version that an event publishes, if it does
abbrev pub new_version : Core → Event → List Kept
new_version s (event.Publish root cells) = if can_publish s root cells then next_kept s root cells ∷ [] else []
new_version s _ = []

-- all versions that are published on the way, each as it was then
abbrev pub new_versions : Core → List Event → List Kept
new_versions s [] = []
new_versions s (e ∷ es) = new_version s e ++ new_versions (next s e).0 es

-- how many passes and chunks there may be
abbrev pub IsWithinLimits : Size → Type 0
IsWithinLimits z = (1 ≤ z.passes) × (z.passes ≤ 64) × (1 ≤ z.chunks) × (z.chunks ≤ 4096)

-- version 0 has this root and this image
pub record Opening : Type 0 where
  pub size : Size
  pub root : Option ℕ
  pub image : List CellAt

-- the sizes are within the limits, and the image fits them and the root
abbrev pub CanOpen : Opening → Type 0
CanOpen o = IsWithinLimits o.size × IsTrue (can_open o.size o.root o.image)

-- the state after an opening and these events
abbrev pub run_of : Opening → List Event → Core
run_of o events = after (opened o.size o.root o.image) events

-- all versions of a run, from version 0 on
abbrev pub versions_of : Opening → List Event → List Kept
versions_of o events = record { version = 0; root = o.root; image = o.image } ∷ new_versions (opened o.size o.root o.image) events

-- From each opening, after any events: what holds between two events holds.
abbrev pub IsAlwaysSound : Type 0
IsAlwaysSound = (o : Opening) → CanOpen o → (events : List Event) → IsSound (run_of o events)

-- either word of a cell, as an image has it
abbrev pub half_of : CellAt → Half → ℕ
half_of c Big = c.big
half_of c Small = c.small

-- what an image has at a reference
abbrev pub read_of : List CellAt → ℕ → Half → Step
read_of [] at half = Refused
read_of (c ∷ cs) at half = if c.at == at then Word (half_of c half) else read_of cs at half

-- From each opening, after any events, chunks freed, given again and rewritten among them: each read by a pinned pass
-- answers what its version's image had there when that version was published, and is refused where it had nothing.
abbrev pub EachReadsItsVersion : Type 0
EachReadsItsVersion = (o : Opening) → CanOpen o → (events : List Event) (p v : ℕ) → p < o.size.passes → stage_at (run_of o events).stages p ≡ stage.Pinned v
    → (k : Kept) × (slice_get (versions_of o events) v ≡ Some k) × ((at : ℕ) (half : Half) → (next (run_of o events) (event.Read p at half)).1 ≡ read_of k.image at half)

-- From each opening, after any events: a round that ends then, with whatever marks, keeps at most one version for each pass
-- and the current one.
abbrev pub RoundsKeepFew : Type 0
RoundsKeepFew = (o : Opening) → CanOpen o → (events : List Event) (marks : List Mark) → length marks ≡ o.size.passes → length (kept_by_round (record (run_of o events).turn { marks = marks })) ≤ o.size.passes + 1

-- From each opening: what a pass has seen never falls, whatever more events come.
abbrev pub NoPassGoesBack : Type 0
NoPassGoesBack = (o : Opening) → CanOpen o → (events more : List Event) (p : ℕ) → p < o.size.passes → slice_index (run_of o events).seen p ≤ slice_index (run_of o (events ++ more)).seen p

-- what holds of every run, from each opening and whatever the events are
pub record EveryRunHolds : Type 0 where
  -- between any two events
  pub sound : IsAlwaysSound
  -- of what a pinned pass reads
  pub reads : EachReadsItsVersion
  -- of the versions that a round keeps
  pub rounds : RoundsKeepFew
  -- of what a pass has seen
  pub forward : NoPassGoesBack
