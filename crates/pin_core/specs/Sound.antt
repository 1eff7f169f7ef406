-- What holds between any two events: of the shared words, of how far each pass has come, and of what the writer knows.
-- It is said of plain lists, so that a machine and a table that threads share can both keep it.
use Rattle.std.specs.Prelude.{◌≡◌, ◌≢◌, ◌⊎◌, ℕ, ◌+◌, ◌*◌, ◌^◌, ◌<◌, ◌≤◌, List, [], Option, Some, None, length, slice_index, slice_index_or, All, AllPairs, Contains}
use Rattle.pin_core.specs.declared.kept.CellAt.{CellAt}
use Rattle.pin_core.specs.declared.kept.Kept.{Kept}
use Rattle.pin_core.specs.declared.kept.Stage.{Stage}
use Rattle.pin_core.specs.declared.kept.Stage.TheVariants as stage
use Rattle.pin_core.specs.declared.kept.Mark.{Mark}
use Rattle.pin_core.specs.declared.kept.Mark.TheVariants as mark
use Rattle.pin_core.specs.Words.{Size, pin_at, status_at, cell_at, word_count, chunk_of, word_of, pin_of}

-- what the writer knows: the current version, the versions that are kept, and the marks of its round
pub record Turn : Type 0 where
  pub version : ℕ
  pub kept : List Kept
  pub marks : List Mark

abbrev pub turn_of : ℕ → List Kept → List Mark → Turn
turn_of version kept marks = record { version = version; kept = kept; marks = marks }

-- a pass's stage and mark; past the last pass nothing is known
abbrev pub stage_at : List Stage → ℕ → Stage
stage_at stages p = slice_index_or stages p stage.Idle

abbrev pub mark_at : List Mark → ℕ → Mark
mark_at marks p = slice_index_or marks p mark.Blank

-- an image has its root's cell, or there is neither root nor cell
abbrev pub HasRoot : Option ℕ → List CellAt → Type 0
HasRoot None image = image ≡ []
HasRoot (Some reference) image = (c : CellAt) × Contains image c × (c.at ≡ reference)

-- the words of a cell are those of the image
abbrev pub AgreesWith : List ℕ → CellAt → Type 0
AgreesWith words c = (slice_index words (cell_at c.at) ≡ c.big) × (slice_index words (cell_at c.at + 1) ≡ c.small)

-- a cell lies in a chunk that is given
abbrev pub IsGiven : Size → List ℕ → CellAt → Type 0
IsGiven z words c = (c.at < 1024 * z.chunks) × (slice_index words (status_at (chunk_of c.at)) ≡ 1)

-- a pin names a kept version that isn't older than what its pass had seen
abbrev pub Names : List Kept → ℕ → ℕ → Type 0
Names kept seen pin = (k : Kept) × Contains kept k × (pin ≡ pin_of k) × (seen ≤ k.version)

-- what a pass's pin is, by how far the pass has come
abbrev pub PinFits : List Kept → ℕ → ℕ → Stage → Type 0
-- an idle pass pins nothing
PinFits kept seen pin stage.Idle = pin ≡ 0
-- one that has entered has pin 1, until the writer assigns a kept version to it
PinFits kept seen pin stage.Entered = (pin ≡ 1) ⊎ Names kept seen pin
-- one that has looked may still have pin 1: then the word that it looked at is of a kept version
PinFits kept seen pin (stage.Looked word) = ((pin ≡ 1) × Names kept seen (word + 2)) ⊎ Names kept seen pin
-- a pinned pass's pin is of its version, which is kept, and is the last that the pass has seen
PinFits kept seen pin (stage.Pinned version) = (k : Kept) × Contains kept k × (pin ≡ pin_of k) × (k.version ≡ version) × (version ≡ seen)

-- if the pass has looked, it was at this word
abbrev pub LookedAt : ℕ → Stage → Type 0
LookedAt cur (stage.Looked word) = word ≡ cur
LookedAt cur _ = Unit {0}

-- a pass of which a round keeps nothing but the current version: it is idle, or about to pin that version, or pinned at it
abbrev pub IsFresh : ℕ → ℕ → Stage → Type 0
IsFresh cur pin s = (pin ≡ 0) ⊎ ((pin ≡ 1) × LookedAt cur s) ⊎ (pin ≡ cur + 2)

-- what a mark promises until the round ends
abbrev pub MarkFits : List Kept → ℕ → ℕ → Stage → Mark → Type 0
MarkFits kept cur pin s mark.Blank = Unit {0}
MarkFits kept cur pin s mark.Entering = Unit {0}
-- a pass that was idle can since have reached the current version alone
MarkFits kept cur pin s mark.Idle = IsFresh cur pin s
-- one that was pinned is so still, or has since been idle
MarkFits kept cur pin s (mark.Pinned version) = (k : Kept) × Contains kept k × (k.version ≡ version) × ((pin ≡ pin_of k) ⊎ IsFresh cur pin s)

-- Each part has a sentence.
pub record Sound (z : Size) (words : List ℕ) (stages : List Stage) (seen : List ℕ) (turn : Turn) : Type 0 where
  -- there are at most 64 passes and 4,096 chunks
  pub small : (z.passes ≤ 64) × (z.chunks ≤ 4096)
  -- there is a word at each place
  pub wide : length words ≡ word_count z
  -- each pass has a stage
  pub staged : length stages ≡ z.passes
  -- of each pass it is known which version it has seen
  pub watched : length seen ≡ z.passes
  -- each pass has a mark
  pub marked : length turn.marks ≡ z.passes
  -- a version fits beside its root in the word of CUR
  pub few : turn.version < 2 ^ 40
  -- the current version is kept, and CUR names it and its root
  pub current : (k : Kept) × Contains turn.kept k × (k.version ≡ turn.version) × (slice_index words 0 ≡ word_of k)
  -- no kept version is above the current one
  pub newest : All (λ k. k.version ≤ turn.version) turn.kept
  -- the kept versions rise, so each comes once
  pub rising : AllPairs (λ k j. k.version < j.version) turn.kept
  -- each kept image has its root
  pub rooted : All (λ k. HasRoot k.root k.image) turn.kept
  -- each kept image has each cell once
  pub once : All (λ k. AllPairs (λ c d. c.at ≢ d.at) k.image) turn.kept
  -- the words of each kept image are as they were when it was published
  pub unchanged : All (λ k. All (AgreesWith words) k.image) turn.kept
  -- no kept image meets a chunk that is free
  pub given : All (λ k. All (IsGiven z words) k.image) turn.kept
  -- no pass has seen a version that isn't there yet
  pub not_ahead : (p : ℕ) → p < z.passes → slice_index seen p ≤ turn.version
  -- each pin is as its pass's stage says
  pub pins : (p : ℕ) → p < z.passes → PinFits turn.kept (slice_index seen p) (slice_index words (pin_at p)) (stage_at stages p)
  -- each mark is still true of its pass
  pub marks : (p : ℕ) → p < z.passes → MarkFits turn.kept (slice_index words 0) (slice_index words (pin_at p)) (stage_at stages p) (mark_at turn.marks p)
