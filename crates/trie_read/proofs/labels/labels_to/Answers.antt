use Rattle.std.proofs.Common.{arith}
use Rattle.trie_model.proofs.NameLaws.{labels_few}
use Rattle.trie_read.proofs.LabelLaws.{labels_front}
use Rattle.trie_read.proofs.labels.labels_to.Goals as goal

pub overflow_add-labels : goal.overflow_add-labels
overflow_add-labels c =
    let few = labels_few c.args.key.now c.len.ensures.key in
    let front = labels_front c.loop-at.at c.args.key.now in
    let here = c.loop-at.invariant in omega arith
