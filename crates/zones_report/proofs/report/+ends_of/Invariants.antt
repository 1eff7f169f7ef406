use Rattle.std.proofs.Common.{length}
use Rattle.zones_report.proofs.report.+ends_of.Given as goal

abbrev pub decreases-ends_of : goal.decreases-ends_of
decreases-ends_of l = length l.origins.now
