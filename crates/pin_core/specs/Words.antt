-- The shared words of an index: where each stands, and what it says.
use Rattle.std.specs.Prelude.{ℕ, ◌+◌, ◌-◌, ◌*◌, ◌/◌, ◌^◌, Option, Some, None}
use Rattle.pin_core.specs.declared.event.Half.{Half}
use Rattle.pin_core.specs.declared.event.Half.TheVariants.{Big, Small}
use Rattle.pin_core.specs.declared.kept.Kept.{Kept}

-- how many passes and chunks there are
pub record Size : Type 0 where
  pub passes : ℕ
  pub chunks : ℕ

-- The places: word 0 is CUR, the current version. A pin for each of at most 64 passes, a status for each of at most
-- 4,096 chunks and two words for each cell follow, each at a place of its own whatever the size is.

-- the pin of a pass
abbrev pub pin_at : ℕ → ℕ
pin_at pass = 1 + pass

-- the status of a chunk
abbrev pub status_at : ℕ → ℕ
status_at chunk = 65 + chunk

-- the big word of a cell; the small one is next
abbrev pub cell_at : ℕ → ℕ
cell_at reference = 4161 + 2 * reference

-- either word of a cell
abbrev pub half_at : ℕ → Half → ℕ
half_at reference Big = cell_at reference
half_at reference Small = cell_at reference + 1

-- how many words a table of so many chunks has
abbrev pub words_for : ℕ → ℕ
words_for chunks = cell_at 0 + 2 * 1024 * chunks

abbrev pub word_count : Size → ℕ
word_count z = words_for z.chunks

-- the chunk in which a cell lies: 1,024 cells make a chunk
abbrev pub chunk_of : ℕ → ℕ
chunk_of reference = reference / 1024

-- a root as a number below 2^24: its reference, or FFFFFD for the empty version
abbrev pub root_number : Option ℕ → ℕ
root_number None = 16777213
root_number (Some reference) = reference

-- what CUR says: a version and its root
abbrev pub current_word : ℕ → Option ℕ → ℕ
current_word version root = version * 2 ^ 24 + root_number root

abbrev pub word_of : Kept → ℕ
word_of k = current_word k.version k.root

-- A pin is 0 for an idle pass and 1 for one that is about to look; any other is a word of CUR plus 2.
abbrev pub pin_of : Kept → ℕ
pin_of k = word_of k + 2

-- the version that such a pin names
abbrev pub version_of : ℕ → ℕ
version_of pin = (pin - 2) / 2 ^ 24

abbrev pub size_of : ℕ → ℕ → Size
size_of passes chunks = record { passes = passes; chunks = chunks }
