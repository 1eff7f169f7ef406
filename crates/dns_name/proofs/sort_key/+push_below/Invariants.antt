use Rattle.std.proofs.Common.{length}
use Rattle.dns_name.proofs.sort_key.+push_below.Given as goal

abbrev pub decreases-push_below : goal.decreases-push_below
decreases-push_below l = length l.bytes.now
