use Rattle.std.proofs.Common.{◌≡◌, [], drop}
use Rattle.std.specs.List.{flat_map}
use Rattle.zone_dump.specs.Writing.{PassesPart}
use Rattle.qp_main.proofs.writing.write_each.Given as goal

abbrev pub invariant-loop-text : goal.invariant-loop-text
invariant-loop-text g l = record {
  part : PassesPart (g.K.Sink.held l.fn.sink) (g.K.Sink.held l.sink) [] [] (flat_map (λ text. text.items) l.texts) (flat_map (λ text. text.items) (drop l.text-index l.texts));
  quiet : g.K.Sink.faults l.sink ≡ g.K.Sink.faults l.fn.sink;
}
