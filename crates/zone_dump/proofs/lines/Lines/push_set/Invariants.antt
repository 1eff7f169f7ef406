use Rattle.std.proofs.Common.{◌≡◌, ◌≤◌, length}
use Rattle.zone_model.specs.Rows.{rows_of}
use Rattle.zone_dump.specs.Files.{lines_from}
use Rattle.zone_dump.specs.Writing.{PassesPart}
use Rattle.zone_dump.proofs.lines.Lines.push_set.Given as goal

abbrev pub invariant-loop-octets : goal.invariant-loop-octets
invariant-loop-octets g l = record {
  directives : l.self.directives ≡ l.fn.self.directives;
  later : g.K.Sink.faults l.fn.sink ≤ g.K.Sink.faults l.sink;
  quiet : g.K.Sink.faults l.sink ≡ g.K.Sink.faults l.fn.sink;
  part : PassesPart (g.K.Sink.held l.fn.sink) (g.K.Sink.held l.sink) l.fn.self.text.items l.self.text.items (lines_from l.fn.self.directives l.first (rows_of l.owner l.set))
      (lines_from l.fn.self.directives l.is_first (rows_of l.owner (record l.set { records = l.records })));
}

abbrev pub decreases-loop-octets : goal.decreases-loop-octets
decreases-loop-octets g l = length l.records
