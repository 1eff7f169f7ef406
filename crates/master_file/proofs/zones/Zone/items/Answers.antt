use Rattle.master_file.proofs.OwnerLemmas.{all_items}
use Rattle.master_file.proofs.zones.Zone.items.Goals as goal

pub new-requires : goal.new-requires
new-requires c = all_items c.self.inside.origin c.self.inside.owned.entries c.self.invariant
