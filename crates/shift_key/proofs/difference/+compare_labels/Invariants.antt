use Rattle.std.proofs.Common.{length}
use Rattle.shift_key.proofs.difference.+compare_labels.Given as goal

abbrev pub decreases-compare_labels : goal.decreases-compare_labels
decreases-compare_labels l = length l.bytes.now
