use Rattle.std.proofs.Common.{◌≡◌, length}
use Rattle.zone_diff.specs.Merges.{records_ahead, reached}
use Rattle.zone_diff.proofs.cursor.RecordCursor.reach.Given as goal

abbrev pub invariant-loop-self : goal.invariant-loop-self
invariant-loop-self l = reached l.octets (records_ahead l.self.ahead l.self.behind) ≡ reached l.octets (records_ahead l.fn.self.ahead l.fn.self.behind)

abbrev pub decreases-loop-self : goal.decreases-loop-self
decreases-loop-self l = length (records_ahead l.self.ahead l.self.behind)
