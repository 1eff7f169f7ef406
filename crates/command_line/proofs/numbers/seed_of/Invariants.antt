use Rattle.std.proofs.Common.{◌≡◌, drop}
use Rattle.zone_model.specs.Texts.{digits_from}
use Rattle.command_line.proofs.numbers.seed_of.Given as goal

abbrev pub invariant-loop-octet : goal.invariant-loop-octet
invariant-loop-octet l = digits_from 0 l.value ≡ digits_from l.seed (drop l.octet-index l.value)
