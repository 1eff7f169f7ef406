use Rattle.std.proofs.Common.{◌≡◌, take}
use Rattle.trie_model.specs.Order.{labels_in}
use Rattle.trie_read.proofs.labels.labels_to.Given as goal

abbrev pub invariant-loop-at : goal.invariant-loop-at
invariant-loop-at l = l.labels ≡ labels_in (take l.at l.key)
