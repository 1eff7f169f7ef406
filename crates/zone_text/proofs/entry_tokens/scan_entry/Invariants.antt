use Rattle.std.proofs.Common.{◌≡◌, ◌≤◌, ◌+◌, ◌-◌, drop, length}
use Rattle.zone_model.specs.Lines.{lines_of}
use Rattle.zone_model.specs.Tokens.{entry_from, fresh}
use Rattle.zone_text.specs.Views.{scan_view, HasScanned}
use Rattle.zone_text.proofs.entry_tokens.scan_entry.Given as goal

abbrev pub invariant-loop-at : goal.invariant-loop-at
invariant-loop-at l = record {
  goes_on : entry_from l.line (lines_of (drop l.from l.bytes)) fresh ≡ entry_from l.n (lines_of (drop l.at l.bytes)) (scan_view l.bytes l.at l.scan);
  scanned : HasScanned l.bytes l.at l.scan;
  inside : l.at ≤ length l.bytes;
  counted : l.n + l.from ≤ l.line + l.at;
  beyond : l.from ≤ l.at;
}

abbrev pub decreases-loop-at : goal.decreases-loop-at
decreases-loop-at l = length l.bytes - l.at
