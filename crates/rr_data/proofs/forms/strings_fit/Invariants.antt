use Rattle.std.proofs.Common.{◌≡◌, ◌≤◌, length}
use Rattle.zone_model.specs.DataForms as says
use Rattle.rr_data.proofs.forms.strings_fit.Given as goal

abbrev pub invariant-loop-left : goal.invariant-loop-left
invariant-loop-left l = record {
  room : length l.rest ≤ l.left;
  goes_on : says.strings_fit (length l.octets) l.octets ≡ says.strings_fit l.left l.rest;
}

abbrev pub decreases-loop-left : goal.decreases-loop-left
decreases-loop-left l = l.left
