use Rattle.std.proofs.Common.{◌+◌, ◌*◌, refl, arith}
use Rattle.shared_cells.proofs.Copies.{copied_then, may_first, may_then}
use Rattle.shared_cells.proofs.copying.copy_few.Goals as goal

pub copy_four-requires-clause-may : goal.copy_four-requires-clause-may
copy_four-requires-clause-may g c = let t = c.if-cells-gt1.true in may_first 4 (omega arith) c.requires.may.all

pub copy_two-requires-clause-may : goal.copy_two-requires-clause-may
copy_two-requires-clause-may g c = let t = c.if-cells-gt2.true in may_then 2 (omega arith) refl refl c.requires.may.all c.copy_four.ensures.copied

pub returns-then-cells-gt2-clause-copied : goal.returns-then-cells-gt2-clause-copied
returns-then-cells-gt2-clause-copied g c = let t = c.if-cells-gt2.true in copied_then (omega arith) refl refl c.requires.may.all.apart c.copy_four.ensures.copied c.copy_two.ensures.copied
