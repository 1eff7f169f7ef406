use Rattle.std.proofs.Common.{◌≡◌, ◌+◌, ◌≤◌, true, length}
use Rattle.std.specs.List.{flat_map}
use Rattle.zone_model.specs.Rows.{rows_of}
use Rattle.zone_dump.specs.Writing.{PassesPart}
use Rattle.zone_dump.proofs.LineLaws.{HaveRecords, sets_lines}
use Rattle.zone_dump.proofs.lines.Lines.push_item.Given as goal

abbrev pub invariant-loop-set : goal.invariant-loop-set
invariant-loop-set g l = record {
  directives : l.self.directives ≡ l.fn.self.directives;
  later : g.K.Sink.faults l.fn.sink ≤ g.K.Sink.faults l.sink;
  quiet : g.K.Sink.faults l.sink ≡ g.K.Sink.faults l.fn.sink;
  records : HaveRecords l.sets;
  part : PassesPart (g.K.Sink.held l.fn.sink) (g.K.Sink.held l.sink) l.fn.self.text.items l.self.text.items (sets_lines l.fn.self.directives true l.owner l.initial.sets) (sets_lines l.fn.self.directives l.first l.owner l.sets);
  number : l.self.count + length (flat_map (rows_of l.owner) l.sets) ≡ l.fn.self.count + length (flat_map (rows_of l.owner) l.initial.sets);
}

abbrev pub decreases-loop-set : goal.decreases-loop-set
decreases-loop-set g l = length l.sets
