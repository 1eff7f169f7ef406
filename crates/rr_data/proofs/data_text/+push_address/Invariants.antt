use Rattle.std.proofs.Common.{length}
use Rattle.rr_data.proofs.data_text.+push_address.Given as goal

abbrev pub decreases-push_address : goal.decreases-push_address
decreases-push_address l = length l.address.now
