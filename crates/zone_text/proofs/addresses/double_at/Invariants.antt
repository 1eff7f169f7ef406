use Rattle.std.proofs.Common.{◌≡◌, ◌+◌, drop}
use Rattle.std.specs.Option.{option_map}
use Rattle.zone_model.specs.Addresses.{double_at}
use Rattle.zone_text.proofs.addresses.double_at.Given as goal

abbrev pub invariant-loop-at : goal.invariant-loop-at
invariant-loop-at l = double_at l.text ≡ option_map (λ n. l.at + n) (double_at (drop l.at l.text))
