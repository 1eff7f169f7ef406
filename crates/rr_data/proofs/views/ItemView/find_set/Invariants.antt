use Rattle.std.proofs.Common.{◌≡◌, length}
use Rattle.zone_model.specs.Records.{rrset_of}
use Rattle.rr_data.proofs.views.ItemView.find_set.Given as goal

abbrev pub invariant-loop-set : goal.invariant-loop-set
invariant-loop-set l = rrset_of l.rtype l.self ≡ rrset_of l.rtype l.rest

abbrev pub decreases-loop-set : goal.decreases-loop-set
decreases-loop-set l = length l.rest
