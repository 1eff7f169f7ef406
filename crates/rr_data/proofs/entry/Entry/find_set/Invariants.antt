use Rattle.std.proofs.Common.{◌≡◌, drop}
use Rattle.zone_model.specs.Records.{rrset_of}
use Rattle.rr_data.proofs.entry.Entry.find_set.Given as goal

abbrev pub invariant-loop-set : goal.invariant-loop-set
invariant-loop-set l = rrset_of l.rtype l.set-items ≡ rrset_of l.rtype (drop l.set-index l.set-items)
