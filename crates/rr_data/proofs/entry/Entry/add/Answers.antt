use Rattle.std.proofs.Common.{arith}
use Rattle.zone_model.proofs.EntryLaws.{entry_with}
use Rattle.rr_data.proofs.EntryChanges.{after_either}
use Rattle.rr_data.proofs.entry.Entry.add.Goals as goal

pub invariant_of-self : goal.invariant_of-self
invariant_of-self c =
    after_either c.add_to.result _ _ _ c.add_to.ensures.ok c.add_to.ensures.err c.self.invariant
    (entry_with c.args.rtype c.args.ttl c.args.added _ (omega (arith, c.ranges.rtype)) (omega (arith, c.ranges.ttl)) c.octets-octets.ensures.short c.self.invariant)
