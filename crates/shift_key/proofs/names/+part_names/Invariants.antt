use Rattle.std.proofs.Common.{◌+◌}
use Rattle.shift_key.proofs.names.+part_names.Given as goal

abbrev pub decreases-part_names : goal.decreases-part_names
decreases-part_names l = l.labels + l.others
