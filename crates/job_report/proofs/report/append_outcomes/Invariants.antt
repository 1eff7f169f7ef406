use Rattle.std.proofs.Common.{◌≡◌, ◌+◌, ◌++◌, length, vec_len}
use Rattle.std.specs.Vec.Iter.{into_iter_items, into_iter_len}
use Rattle.job_report.specs.Outcomes.{outcomes_text}
use Rattle.job_report.specs.Pieces.{pieces_text}
use Rattle.job_report.proofs.report.append_outcomes.Given as goal

-- with those that are left, it is what is printed of all
abbrev pub invariant-loop-outcome : goal.invariant-loop-outcome
invariant-loop-outcome l = record {
  printed : pieces_text l.out ++ outcomes_text l.worker (l.command + 1) (into_iter_items l.outcome-iterator) ≡ pieces_text l.fn.out ++ outcomes_text l.worker 1 l.fn.list.items;
  left : l.command + into_iter_len l.outcome-iterator ≡ vec_len l.fn.list;
  as_many : into_iter_len l.outcome-iterator ≡ length (into_iter_items l.outcome-iterator);
}
