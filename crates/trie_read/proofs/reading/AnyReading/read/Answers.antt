use Rattle.trie_read.proofs.reading.AnyReading.read.Goals as goal

pub read_item-requires-clause-there : goal.read_item-requires-clause-there
read_item-requires-clause-there g c = (c.requires.there.0.item, c.requires.there.1.0.entry.item, c.requires.there.1.0.item)
