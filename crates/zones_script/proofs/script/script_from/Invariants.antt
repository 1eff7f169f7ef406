use Rattle.std.proofs.Common.{◌≡◌, ◌-◌, drop, length}
use Rattle.zone_model.specs.Lines.{lines_of}
use Rattle.job_script.proofs.PhraseLemmas.{IsNumbered}
use Rattle.zones_script.specs.Scripts as zones
use Rattle.zones_script.specs.Views.{script_view}
use Rattle.zones_script.proofs.script.script_from.Given as goal

abbrev pub invariant-loop-at : goal.invariant-loop-at
invariant-loop-at l =
    IsNumbered l.bytes l.first l.at l.line
    × (zones.script_from l.origins l.first (lines_of l.bytes) (script_view l.fn.script) ≡ zones.script_from l.origins l.line (lines_of (drop l.at l.bytes)) (script_view l.script))

abbrev pub decreases-loop-at : goal.decreases-loop-at
decreases-loop-at l = length l.bytes - l.at
