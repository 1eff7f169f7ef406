use Rattle.std.proofs.Common.{sym, ◌∙◌}
use Rattle.zone_model.specs.Keys.{key_of}
use Rattle.zone_model.proofs.KeyLaws.{key_cmp-key_of}
use Rattle.trie_model.proofs.NameLaws.{labels_of}
use Rattle.trie_model.proofs.AboveLaws.{under_begins, begins_under, cmp_before, before_cmp}
use Rattle.trie_model.proofs.keys_are_of_names.Goals as goal

pub returns-clause-order : goal.returns-clause-order
returns-clause-order c a b h k = (λ l. sym (key_cmp-key_of a b h.each k.each) ∙ before_cmp (key_of a) (key_of b) l, λ e. cmp_before (key_of a) (key_of b) (key_cmp-key_of a b h.each k.each ∙ e))

pub returns-clause-above : goal.returns-clause-above
returns-clause-above c top name h k = (begins_under top name h.each k.each, under_begins top name)

pub returns-clause-labels : goal.returns-clause-labels
returns-clause-labels c name h = labels_of name h.each
