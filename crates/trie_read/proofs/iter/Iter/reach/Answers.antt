use Rattle.std.proofs.Common.{◌++◌}
use Rattle.trie_read.proofs.MetLaws.{met_nearest}
use Rattle.trie_read.proofs.iter.Iter.reach.Goals as goal

pub returns-in-Some-clause-nearest : goal.returns-in-Some-clause-nearest
returns-in-Some-clause-nearest g c root before after s =
    met_nearest (g.C.CellRead.has c.args.cells.now) c.args.key.now c.in-Some.root c.meet_below-met.new.self.path c.meet_below-met.result (before ++ after) (c.meet_below-met.ensures.meets root before after s)
