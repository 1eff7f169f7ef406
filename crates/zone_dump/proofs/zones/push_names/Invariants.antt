use Rattle.std.proofs.Common.{◌≡◌, ◌+◌, ◌≤◌, length}
use Rattle.zone_model.specs.Dumps.{record_count, version_lines}
use Rattle.zone_dump.specs.Writing.{PassesPart}
use Rattle.zone_dump.proofs.zones.push_names.Given as goal

abbrev pub invariant-names : goal.invariant-names
invariant-names g l = record {
  directives : l.lines.directives ≡ l.fn.lines.directives;
  later : g.K.Sink.faults l.fn.sink ≤ g.K.Sink.faults l.sink;
  quiet : g.K.Sink.faults l.sink ≡ g.K.Sink.faults l.fn.sink;
  part : PassesPart (g.K.Sink.held l.fn.sink) (g.K.Sink.held l.sink) l.fn.lines.text.items l.lines.text.items (version_lines l.fn.lines.directives l.fn.left) (version_lines l.fn.lines.directives l.left);
  number : l.lines.count + record_count l.left ≡ l.fn.lines.count + record_count l.fn.left;
}

abbrev pub decreases-names : goal.decreases-names
decreases-names g l = length l.left
