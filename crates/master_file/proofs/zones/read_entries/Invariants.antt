use Rattle.std.proofs.Common.{◌≡◌, ◌≤◌, ◌+◌, ◌-◌, drop, length, None}
use Rattle.zone_model.specs.Lines.{lines_of}
use Rattle.zone_model.specs.MasterFile.{zone_from}
use Rattle.master_file.specs.Zones.{reader_view}
use Rattle.master_file.specs.Owners.{AllHeld}
use Rattle.master_file.proofs.zones.read_entries.Given as goal

abbrev pub invariant-loop-at : goal.invariant-loop-at
invariant-loop-at l = record {
  goes_on : zone_from l.apex l.first_line (lines_of l.bytes) None (reader_view l.fn.reader) ≡ zone_from l.apex l.line (lines_of (drop l.at l.bytes)) None (reader_view l.reader);
  counted : l.line + length (lines_of (drop l.at l.bytes)) ≡ length (lines_of l.bytes) + l.first_line;
  held : AllHeld l.apex l.reader.owners.owned.entries;
  inside : l.at ≤ length l.bytes;
  early : l.line ≤ l.first_line + l.at;
}

abbrev pub decreases-loop-at : goal.decreases-loop-at
decreases-loop-at l = length l.bytes - l.at
