use Rattle.std.proofs.Common.{◌≡◌, ◌+◌, ◌++◌, length, vec_len}
use Rattle.std.specs.Vec.Iter.{into_iter_items, into_iter_len}
use Rattle.job_report.specs.Feeds.{fed_outcomes_text}
use Rattle.job_report.specs.Pieces.{pieces_text}
use Rattle.job_report.proofs.report.append_fed.Given as goal

-- with those that are left, it is what is printed of all
abbrev pub invariant-loop-ran : goal.invariant-loop-ran
invariant-loop-ran l = record {
  printed : pieces_text l.out ++ fed_outcomes_text (l.command + 1) (into_iter_items l.ran-iterator) ≡ pieces_text l.fn.out ++ fed_outcomes_text 1 l.fn.fed.items;
  left : l.command + into_iter_len l.ran-iterator ≡ vec_len l.fn.fed;
  as_many : into_iter_len l.ran-iterator ≡ length (into_iter_items l.ran-iterator);
}
