use Rattle.zone_model.proofs.EntryLaws.{entry_without_set}
use Rattle.rr_data.proofs.entry.Entry.del_set.Goals as goal

pub invariant_of-self : goal.invariant_of-self
invariant_of-self c = rw c.remove_set.ensures.value (entry_without_set c.args.rtype _ c.self.invariant)
