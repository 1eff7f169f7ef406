use Rattle.zone_diff.proofs.WalkLemmas.{changes_are_walked}
use Rattle.zone_diff.proofs.laws.differences_side_by_side.Goals as goal

pub returns : goal.returns
returns c = changes_are_walked
