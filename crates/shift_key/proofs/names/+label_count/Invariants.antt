use Rattle.std.proofs.Common.{length}
use Rattle.shift_key.proofs.names.+label_count.Given as goal

abbrev pub decreases-label_count : goal.decreases-label_count
decreases-label_count l = length l.octets.now
