use Rattle.std.proofs.Common.{◌≡◌, ◌+◌, ◌++◌, length, vec_len}
use Rattle.std.specs.Vec.Iter.{into_iter_items, into_iter_len}
use Rattle.job_report.specs.Outcomes.{all_text}
use Rattle.job_report.specs.Pieces.{pieces_text}
use Rattle.job_report.proofs.report.append_all.Given as goal

-- with those of the workers that are left, it is what is printed of all
abbrev pub invariant-loop-outcomes : goal.invariant-loop-outcomes
invariant-loop-outcomes l = record {
  printed : pieces_text l.out ++ all_text (l.worker + 1) (into_iter_items l.outcomes-iterator) ≡ pieces_text l.fn.out ++ all_text 1 l.fn.workers.items;
  left : l.worker + into_iter_len l.outcomes-iterator ≡ vec_len l.fn.workers;
  as_many : into_iter_len l.outcomes-iterator ≡ length (into_iter_items l.outcomes-iterator);
}
