use Rattle.std.proofs.Common.{◌≡◌, ◌<◌, ◌^◌, drop}
use Rattle.zone_model.specs.Addresses.{hex_from}
use Rattle.zone_text.proofs.addresses.hex.Given as goal

abbrev pub invariant-loop-digit : goal.invariant-loop-digit
invariant-loop-digit l = record {
  small : l.value < 16 ^ l.digit-index;
  goes_on : hex_from 0 l.text ≡ hex_from l.value (drop l.digit-index l.text);
}
