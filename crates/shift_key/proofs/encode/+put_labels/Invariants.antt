use Rattle.std.proofs.Common.{length}
use Rattle.shift_key.proofs.encode.+put_labels.Given as goal

abbrev pub decreases-put_labels : goal.decreases-put_labels
decreases-put_labels l = length l.bytes.now
