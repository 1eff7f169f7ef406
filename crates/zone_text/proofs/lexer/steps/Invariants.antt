use Rattle.std.proofs.Common.{◌≡◌, ◌≤◌, ◌-◌}
use Rattle.std.specs.List.{slice_range}
use Rattle.zone_model.specs.Tokens as says
use Rattle.zone_text.specs.Views.{scan_view, HasScanned}
use Rattle.zone_text.proofs.lexer.steps.Given as goal

abbrev pub invariant-loop-at : goal.invariant-loop-at
invariant-loop-at l = record {
  goes_on : says.steps l.line (slice_range l.bytes l.from l.upto) (scan_view l.bytes l.from l.fn.scan) ≡ says.steps l.line (slice_range l.bytes l.at l.upto) (scan_view l.bytes l.at l.scan);
  scanned : HasScanned l.bytes l.at l.scan;
  inside : l.at ≤ l.upto;
}

abbrev pub decreases-loop-at : goal.decreases-loop-at
decreases-loop-at l = l.upto - l.at
