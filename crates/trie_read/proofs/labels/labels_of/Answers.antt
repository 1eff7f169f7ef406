use Rattle.std.proofs.Common.{◌∙◌, sym, ap}
use Rattle.trie_model.specs.Order.{labels_in}
use Rattle.trie_model.proofs.NameLaws.{labels_of}
use Rattle.trie_read.proofs.labels.labels_of.Goals as goal

pub returns : goal.returns
returns c = let k = c.labels.ensures.key in c.labels.ensures.labels k.0 k.1 k.2 ∙ sym (labels_of k.0 k.1.each) ∙ sym (ap labels_in k.2)
