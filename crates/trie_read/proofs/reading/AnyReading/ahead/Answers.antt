use Rattle.std.proofs.Common.{◌∷◌}
use Rattle.trie_read.proofs.IterLaws.{ahead_named}
use Rattle.trie_read.proofs.reading.AnyReading.ahead.Goals as goal

pub returns-clause-next : goal.returns-clause-next
returns-clause-next g c before after e s = ahead_named (g.V.CellRead.has c.args.self.now) (g.V.Rooted.root c.args.self.now) c.ahead.new.self.path c.ahead.result before after e (c.ahead.ensures.faces (g.V.Rooted.root c.args.self.now) before (e ∷ after) s) s.told
