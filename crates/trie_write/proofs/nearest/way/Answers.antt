use Rattle.std.proofs.Common.{arith}
use Rattle.trie_write.proofs.nearest.way.Goals as goal

pub has_twig-requires : goal.has_twig-requires
has_twig-requires c = let p = c.requires.positions c.args.branch.offset in let e = c.at-position.ensures in omega arith

pub twig_index-requires : goal.twig_index-requires
twig_index-requires c = let p = c.requires.positions c.args.branch.offset in let e = c.at-position.ensures in omega arith
