use Rattle.std.proofs.Common.{refl, arith}
use Rattle.shared_cells.proofs.Copies.{copied_then, may_first, may_then}
use Rattle.shared_cells.proofs.copying.copy_four.Goals as goal

pub copy_two-requires-clause-may : goal.copy_two-requires-clause-may
copy_two-requires-clause-may g c = may_first 2 (omega arith) c.requires.may

pub copy_two-requires-2-clause-may : goal.copy_two-requires-2-clause-may
copy_two-requires-2-clause-may g c = may_then 2 (omega arith) refl refl c.requires.may c.copy_two.ensures.copied

pub returns-clause-copied : goal.returns-clause-copied
returns-clause-copied g c = copied_then (omega arith) refl refl c.requires.may.apart c.copy_two.ensures.copied c.copy_two-2.ensures.copied
