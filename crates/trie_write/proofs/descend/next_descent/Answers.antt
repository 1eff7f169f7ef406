use Rattle.trie_model.proofs.NodeLaws.{says_node}
use Rattle.trie_write.proofs.DescentLaws.{no_way, through, key_inside, twig_there, descent_is}
use Rattle.trie_write.proofs.descend.next_descent.Goals as goal

pub key_twig-index-requires : goal.key_twig-index-requires
key_twig-index-requires g c =
    let w = c.requires.way.1 in
    key_inside w.top w.is_way (through c.args.place c.args.key.now c.in_ok-branch.branch w.way w.end w.is_way (c.in_ok-branch.ensures.branch c.requires.way.0 _ w.top.tree w.top.is) c.in_ok-branch.ensures.above)

pub cell-requires : goal.cell-requires
cell-requires g c =
    let w = c.requires.way.1 in
    record { there = (_, twig_there w.top w.is_way (through c.args.place c.args.key.now c.in_ok-branch.branch w.way w.end w.is_way (c.in_ok-branch.ensures.branch c.requires.way.0 _ w.top.tree w.top.is) c.in_ok-branch.ensures.above) c.key_twig-index.result c.key_twig-index.ensures) }

pub returns-clause-on : goal.returns-clause-on
returns-clause-on g c low way end top is_way =
    descent_is top is_way (through c.args.place c.args.key.now c.in_ok-branch.branch way end is_way (c.in_ok-branch.ensures.branch low _ top.tree top.is) c.in_ok-branch.ensures.above) c.key_twig-index.result c.cell.result c.key_twig-index.ensures c.in_ok-branch.ensures.above c.cell.ensures.value

pub returns-in_err-branch-clause-none : goal.returns-in_err-branch-clause-none
returns-in_err-branch-clause-none g c e low way end top is_way = no_way c.args.place c.args.key.now way end is_way (c.branch_above.ensures.none c.in_err-branch.was low _ top.tree top.is)

pub branch_above-requires : goal.branch_above-requires
branch_above-requires g c = let w = c.requires.way in says_node w.0 _ c.args.node w.1.top.tree w.1.top.is
