use Rattle.trie_write.proofs.ItemLaws.{leads_of, entry_is}
use Rattle.trie_write.proofs.item.Item.octets.Goals as goal

pub returns-clause-entry : goal.returns-clause-entry
returns-clause-entry c = entry_is c.args.self.now.octets.items (record { short = c.args.self.now.short; named = c.args.self.now.named; small = c.args.self.now.small })

pub returns-clause-leads : goal.returns-clause-leads
returns-clause-leads c = leads_of c.args.self.now.octets.items (record { short = c.args.self.now.short; named = c.args.self.now.named; small = c.args.self.now.small })
