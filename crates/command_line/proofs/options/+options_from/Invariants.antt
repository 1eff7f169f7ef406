use Rattle.std.proofs.Common.{length}
use Rattle.command_line.proofs.options.+options_from.Given as goal

abbrev pub decreases-options_from : goal.decreases-options_from
decreases-options_from l = length l.words.now
