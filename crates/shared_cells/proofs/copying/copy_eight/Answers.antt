use Rattle.std.proofs.Common.{refl, arith}
use Rattle.shared_cells.proofs.Copies.{copied_then, may_first, may_then}
use Rattle.shared_cells.proofs.copying.copy_eight.Goals as goal

pub copy_four-requires-clause-may : goal.copy_four-requires-clause-may
copy_four-requires-clause-may g c = may_first 4 (omega arith) c.requires.may

pub copy_four-requires-2-clause-may : goal.copy_four-requires-2-clause-may
copy_four-requires-2-clause-may g c = may_then 4 (omega arith) refl refl c.requires.may c.copy_four.ensures.copied

pub returns-clause-copied : goal.returns-clause-copied
returns-clause-copied g c = copied_then (omega arith) refl refl c.requires.may.apart c.copy_four.ensures.copied c.copy_four-2.ensures.copied
