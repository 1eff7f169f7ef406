use Rattle.std.proofs.Common.{◌≡◌, map, take}
use Rattle.zone_model.specs.Names.{ancestor}
use Rattle.zone_answer.proofs.found.names_of.Given as goal

abbrev pub invariant-loop-labels : goal.invariant-loop-labels
invariant-loop-labels l = l.names.items ≡ map (λ labels. ancestor labels l.name) (take l.labels-index l.labels-items)
