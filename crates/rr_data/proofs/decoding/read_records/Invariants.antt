use Rattle.std.proofs.Common.{◌≡◌, None}
use Rattle.std.specs.Option.{option_map}
use Rattle.zone_model.specs.Items.{split_records}
use Rattle.rr_data.specs.Items.{behind_records}
use Rattle.rr_data.proofs.decoding.read_records.Given as goal

abbrev pub invariant-loop-left : goal.invariant-loop-left
invariant-loop-left l = split_records l.count None l.bytes ≡ option_map (behind_records l.records.items) (split_records l.left (option_map (λ b. b.now) l.before) l.rest)

abbrev pub decreases-loop-left : goal.decreases-loop-left
decreases-loop-left l = l.left
