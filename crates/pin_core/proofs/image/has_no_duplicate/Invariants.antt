use Rattle.std.proofs.Common.{◌≡◌, drop}
use Rattle.pin_core.specs.Machine.{is_distinct}
use Rattle.pin_core.proofs.image.has_no_duplicate.Given as goal

-- the references so far stand once, so the answer is that for the rest
abbrev pub invariant-loop-i : goal.invariant-loop-i
invariant-loop-i l = is_distinct l.cells ≡ is_distinct (drop l.i l.cells)
