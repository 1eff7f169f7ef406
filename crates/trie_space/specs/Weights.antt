-- How often a reference is met, as a sum along the tree.
use Rattle.std.specs.Prelude.{ℕ, Bool, ◌==◌, if◌then◌else◌}

-- 1 at one reference
abbrev pub at_place : ℕ → ℕ → ℕ
at_place q x = if x == q then 1 else 0

-- 1 where the test says so
abbrev pub mark : (ℕ → Bool) → ℕ → ℕ
mark test q = if test q then 1 else 0
