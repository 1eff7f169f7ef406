use Rattle.std.proofs.Common.{◌≡◌, ◌+◌, ◌++◌, length, vec_len}
use Rattle.std.specs.Vec.Iter.{into_iter_items, into_iter_len}
use Rattle.job_report.specs.Pieces.{pieces_text}
use Rattle.zones_report.specs.Texts.{all_text}
use Rattle.zones_report.proofs.report.append_all.Given as goal

-- with those of the workers that are left, it is what is printed of all
abbrev pub invariant-loop-dones : goal.invariant-loop-dones
invariant-loop-dones l = record {
  printed : pieces_text l.out ++ all_text l.origins (l.worker + 1) (into_iter_items l.dones-iterator) ≡ pieces_text l.fn.out ++ all_text l.origins 1 l.fn.workers.items;
  left : l.worker + into_iter_len l.dones-iterator ≡ vec_len l.fn.workers;
  as_many : into_iter_len l.dones-iterator ≡ length (into_iter_items l.dones-iterator);
}
