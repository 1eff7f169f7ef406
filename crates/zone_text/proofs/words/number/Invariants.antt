use Rattle.std.proofs.Common.{◌≡◌, ◌≤◌, drop}
use Rattle.zone_model.specs.Texts.{digits_from}
use Rattle.zone_text.proofs.words.number.Given as goal

abbrev pub invariant-loop-digit : goal.invariant-loop-digit
invariant-loop-digit l = record {
  small : l.value ≤ l.most;
  goes_on : digits_from 0 l.text ≡ digits_from l.value (drop l.digit-index l.text);
}
