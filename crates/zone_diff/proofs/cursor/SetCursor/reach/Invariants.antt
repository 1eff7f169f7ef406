use Rattle.std.proofs.Common.{◌≡◌, length}
use Rattle.zone_diff.specs.Walks.{sets_ahead, sets_reached}
use Rattle.zone_diff.proofs.cursor.SetCursor.reach.Given as goal

abbrev pub invariant-loop-self : goal.invariant-loop-self
invariant-loop-self l = sets_reached l.rtype (sets_ahead l.self.ahead l.self.behind) ≡ sets_reached l.rtype (sets_ahead l.fn.self.ahead l.fn.self.behind)

abbrev pub decreases-loop-self : goal.decreases-loop-self
decreases-loop-self l = length (sets_ahead l.self.ahead l.self.behind)
