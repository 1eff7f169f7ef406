use Rattle.std.proofs.Common.{length}
use Rattle.rr_data.proofs.data_text.+push_groups.Given as goal

abbrev pub decreases-push_groups : goal.decreases-push_groups
decreases-push_groups l = length l.octets.now
