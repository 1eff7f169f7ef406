-- How many chunks a session's index has.
use Rattle.std.specs.Prelude.{◌≡◌, ◌⊎◌, ◌<◌, ◌≤◌, ◌*◌, ℕ, Option, Some, None}
use Rattle.qp_multi.specs.Openings.{room_in}

-- they have room for four times so many cells
abbrev pub HasRoom : ℕ → ℕ → Type 0
HasRoom cells chunks = 4 * cells ≤ room_in chunks

-- The least number from 64 to 4,096 that has room for four times so many cells, or 4,096 where none has.
pub record IsLeastFor (cells chunks : ℕ) : Type 0 where
  pub some : 64 ≤ chunks
  pub few : chunks ≤ 4096
  pub enough : HasRoom cells chunks ⊎ (chunks ≡ 4096)
  pub least : (fewer : ℕ) → 64 ≤ fewer → fewer < chunks → HasRoom cells fewer → ⊥

-- the number that is asked for, or the least that is enough for a zone of so many cells
abbrev pub ChunksFor : Option ℕ → ℕ → ℕ → Type 0
ChunksFor (Some asked) cells chunks = chunks ≡ asked
ChunksFor None cells chunks = IsLeastFor cells chunks
