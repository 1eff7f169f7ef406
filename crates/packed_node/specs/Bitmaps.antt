-- The positions of a branch's twigs, as the bits of a number.
use Rattle.std.specs.Prelude.{ℕ, Bool, ◌==◌}
use Rattle.std.specs.Int.{bit_at}

abbrev pub has_position : ℕ → ℕ → Bool
has_position bitmap position = bit_at bitmap position == 1
