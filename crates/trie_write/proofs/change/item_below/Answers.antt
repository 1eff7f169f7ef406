use Rattle.std.proofs.Common.{sym, ◌∙◌}
use Rattle.trie_model.specs.Trees.Tree.{leaf}
use Rattle.trie_model.proofs.NodeLaws.{says_node}
use Rattle.trie_write.proofs.ChangeLaws.{top_item, leaf_never}
use Rattle.trie_write.proofs.change.item_below.Goals as goal

pub extents_of-requires : goal.extents_of-requires
extents_of-requires g c =
    let r = c.requires in let top = r.2 in
    (r.0.item, record { extents = r.1; there = top_item top (c.in-Err.ensures.leaf 0 _ top.tree top.is) })

pub returns-in-Err-clause-len : goal.returns-in-Err-clause-len
returns-in-Err-clause-len g c e x top = c.extents_of.ensures.len ∙ sym (top_item top (c.in-Err.ensures.leaf 0 _ top.tree top.is)).size

pub returns-in-Err-clause-there : goal.returns-in-Err-clause-there
returns-in-Err-clause-there g c e x top = c.extents_of.ensures.there e.item x (top_item top (c.in-Err.ensures.leaf 0 _ top.tree top.is))

pub returns-in-Ok-clause-len : goal.returns-in-Ok-clause-len
returns-in-Ok-clause-len g c e x top = leaf_never (c.in-Ok.ensures.branch 0 _ top.tree top.is)

pub returns-in-Ok-clause-there : goal.returns-in-Ok-clause-there
returns-in-Ok-clause-there g c e x top = leaf_never (c.in-Ok.ensures.branch 0 _ top.tree top.is)

pub top_of-requires : goal.top_of-requires
top_of-requires g c = let top = c.requires.2 in says_node 0 (leaf c.requires.0 c.requires.1) c.args.node top.tree top.is
