use Rattle.zone_model.specs.Versions.{Version}
use Rattle.zone_diff.specs.Differences.{difference}
use Rattle.zone_diff.specs.NamesAhead.{Leaves}
use Rattle.zone_diff.proofs.names.push_between.Given as goal

abbrev pub invariant-names : goal.invariant-names
invariant-names g l =
    ((b a : Version) → g.B.Names.shows l.fn.before b → g.A.Names.shows l.fn.after a
    → Leaves l.serial (g.K.OperationSink.has l.fn.sink) (g.K.OperationSink.has l.sink) (difference l.serial b a) (g.B.Names.shows l.before) (g.A.Names.shows l.after))
    × (g.B.Names.stays l.fn.before l.before × g.A.Names.stays l.fn.after l.after)
