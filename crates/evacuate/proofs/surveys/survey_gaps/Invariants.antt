use Rattle.std.proofs.Common.{◌≡◌}
use Rattle.evacuate.proofs.surveys.survey_gaps.Given as goal

abbrev pub invariant-loop-turn : goal.invariant-loop-turn
invariant-loop-turn g l = record {
  cells : l.cells ≡ l.fn.cells;
  usage : l.usage ≡ l.fn.usage;
}
