use Rattle.std.proofs.Common.{◌≡◌}
use Rattle.zone_model.specs.Versions.{Version}
use Rattle.zone_answer.specs.Parts.{NoneTo}
use Rattle.zone_answer.specs.Standing.{ShowsAbove}
use Rattle.zone_answer.proofs.cut.cut_over.Given as goal

abbrev pub invariant-loop-labels : goal.invariant-loop-labels
invariant-loop-labels g l = record {
  same : l.version ≡ l.fn.version;
  none : (zone : Version) → ShowsAbove (g.V.Reading.holds l.fn.version) (g.V.Reading.lies l.fn.version) l.name l.above zone → NoneTo l.origin l.name zone l.labels;
}
