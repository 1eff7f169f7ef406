use Rattle.std.proofs.Common.{◌≡◌, ◌++◌}
use Rattle.zones_model.specs.Reports.{ends_text}
use Rattle.zones_report.proofs.report.push_ends.Given as goal

abbrev pub invariant-loop-origin : goal.invariant-loop-origin
invariant-loop-origin l = l.out.items ++ ends_text l.origin-iterator ≡ l.fn.out.items ++ ends_text l.ends.entries
