use Rattle.trie_write.specs.Entries.{entries_of_items}
use Rattle.trie_write.proofs.ItemLaws.{items_tell}
use Rattle.trie_tests.proofs.tries.built.Goals as goal

pub returns-in-Ok : goal.returns-in-Ok
returns-in-Ok g c = record { stands = (entries_of_items c.args.items.now, c.in-Ok.ensures.built, items_tell c.args.items.now); ready = c.in-Ok.ensures.takes.ready }
