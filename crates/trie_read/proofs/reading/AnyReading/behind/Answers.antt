use Rattle.std.proofs.Common.{◌++◌, ◌∷◌, []}
use Rattle.trie_read.proofs.IterLaws.{behind_named}
use Rattle.trie_read.proofs.reading.AnyReading.behind.Goals as goal

pub returns-clause-prev : goal.returns-clause-prev
returns-clause-prev g c before after e s = behind_named (g.V.CellRead.has c.args.self.now) (g.V.Rooted.root c.args.self.now) c.behind.new.self.path c.behind.result before after e (c.behind.ensures.passed (g.V.Rooted.root c.args.self.now) (before ++ (e ∷ [])) after s) s.told
