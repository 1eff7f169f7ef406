use Rattle.std.proofs.Common.{◌≡◌, ◌≤◌}
use Rattle.zone_model.specs.Versions.{Version}
use Rattle.zone_answer.specs.Standing.{Shows}
use Rattle.zone_dump.specs.Walks.{GoesOn}
use Rattle.zone_dump.proofs.dumping.push_all.Given as goal

abbrev pub invariant-names : goal.invariant-names
invariant-names g l = record {
  same : l.version ≡ l.fn.version;
  directives : l.lines.directives ≡ l.fn.lines.directives;
  later : g.K.Sink.faults l.fn.sink ≤ g.K.Sink.faults l.sink;
  quiet : g.K.Sink.faults l.sink ≡ g.K.Sink.faults l.fn.sink;
  goes_on : (zone : Version) → Shows (g.V.Reading.holds l.fn.version) zone
      → GoesOn (g.V.Reading.stands l.fn.version l.iter) (g.K.Sink.held l.fn.sink) (g.K.Sink.held l.sink) l.fn.lines.text.items l.lines.text.items l.fn.lines.count l.lines.count l.fn.lines.directives zone;
}
