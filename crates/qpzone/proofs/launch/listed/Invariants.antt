use Rattle.std.proofs.Common.{◌≡◌, ◌++◌}
use Rattle.std.specs.Vec.Iter.{into_iter_items}
use Rattle.qpzone.proofs.launch.listed.Given as goal

abbrev pub invariant-loop-word : goal.invariant-loop-word
invariant-loop-word l = into_iter_items l.fn.args ≡ l.words.items ++ into_iter_items l.word-iterator
