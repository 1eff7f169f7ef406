use Rattle.std.proofs.Common.{refl, arith}
use Rattle.shared_cells.proofs.Copies.{copied_then, may_first, may_then}
use Rattle.shared_cells.proofs.copying.copy_two.Goals as goal

pub copy_word-requires-clause-may : goal.copy_word-requires-clause-may
copy_word-requires-clause-may g c = may_first 1 (omega arith) c.requires.may

pub copy_word-requires-2-clause-may : goal.copy_word-requires-2-clause-may
copy_word-requires-2-clause-may g c = may_then 1 (omega arith) refl refl c.requires.may c.copy_word.ensures.copied

pub returns-clause-copied : goal.returns-clause-copied
returns-clause-copied g c = copied_then (omega arith) refl refl c.requires.may.apart c.copy_word.ensures.copied c.copy_word-2.ensures.copied
