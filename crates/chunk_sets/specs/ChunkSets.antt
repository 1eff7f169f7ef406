-- Sets of chunks: as words of 64 bits, and as a list that says of each chunk whether it is in the set.
use Rattle.std.specs.Prelude.{◌≡◌, ℕ, ◌+◌, ◌/◌, ◌%◌, ◌<◌, ◌≤◌, ◌==◌, Bool, true, false, not, ◌&&◌, List, length, map, slice_index, slice_index_or}
use Rattle.std.specs.List.{range_with_len}
use Rattle.std.specs.Int.{bit_at}

-- the chunk's bit is set
unfoldable pub has_bit : List ℕ → ℕ → Bool
has_bit words chunk = bit_at (slice_index words (chunk / 64)) (chunk % 64) == 1

-- of each chunk, whether its bit is set
unfoldable pub flags_of : List ℕ → ℕ → List Bool
flags_of words chunks = map (has_bit words) (range_with_len 0 chunks)

-- there is a word for each 64 chunks, and no bit is set behind the last chunk
pub record AreWords (words : List ℕ) (chunks : ℕ) : Type 0 where
  pub count : length words ≡ (chunks + 63) / 64
  pub few : chunks ≤ 4096
  pub none_past : (k : ℕ) → chunks ≤ k → has_bit words k ≡ false

-- the chunk is in the set
abbrev pub has : List Bool → ℕ → Bool
has flags chunk = slice_index_or flags chunk false

-- the new set is the old one without the chunks that pass the test
pub record Without (old new : List Bool) (taken : ℕ → Bool) : Type 0 where
  pub len : length new ≡ length old
  pub left : (k : ℕ) → has new k ≡ (has old k && not (taken k))

-- the chunk is the first of the set that isn't before a place
pub record IsFirstFrom (flags : List Bool) (from chunk : ℕ) : Type 0 where
  pub at_or_after : from ≤ chunk
  pub within : chunk < length flags
  pub member : has flags chunk ≡ true
  pub none_between : (k : ℕ) → from ≤ k → k < chunk → has flags k ≡ false

-- the bit is the first from a place on that is set
pub record IsFirstBit (words : List ℕ) (from position : ℕ) : Type 0 where
  pub at_or_after : from ≤ position
  pub set : has_bit words position ≡ true
  pub none_between : (k : ℕ) → from ≤ k → k < position → has_bit words k ≡ false
