use Rattle.std.proofs.Common.{◌≡◌, None}
use Rattle.std.specs.Option.{option_map}
use Rattle.zone_model.specs.Items.{split_sets}
use Rattle.rr_data.specs.Items.{behind_sets}
use Rattle.rr_data.proofs.decoding.read_sets.Given as goal

abbrev pub invariant-loop-left : goal.invariant-loop-left
invariant-loop-left l = split_sets l.count None l.bytes ≡ option_map (behind_sets l.sets.items) (split_sets l.left l.before l.rest)

abbrev pub decreases-loop-left : goal.decreases-loop-left
decreases-loop-left l = l.left
