use Rattle.zone_model.proofs.EntryLaws.{entry_without}
use Rattle.rr_data.proofs.entry.Entry.del_one.Goals as goal

pub invariant_of-self : goal.invariant_of-self
invariant_of-self c = rw c.remove_from.ensures.value (entry_without c.args.rtype c.octets.result.now _ c.self.invariant)
