use Rattle.std.proofs.Common.{◌≡◌, ◌+◌, ◌++◌, length, vec_len}
use Rattle.std.specs.Vec.Iter.{into_iter_items, into_iter_len}
use Rattle.job_report.specs.Pieces.{pieces_text}
use Rattle.zones_report.specs.Texts.{dones_text}
use Rattle.zones_report.proofs.report.append_dones.Given as goal

-- with those that are left, it is what is printed of all
abbrev pub invariant-loop-done : goal.invariant-loop-done
invariant-loop-done l = record {
  printed : pieces_text l.out ++ dones_text l.origins l.worker (l.command + 1) (into_iter_items l.done-iterator) ≡ pieces_text l.fn.out ++ dones_text l.origins l.worker 1 l.fn.list.items;
  left : l.command + into_iter_len l.done-iterator ≡ vec_len l.fn.list;
  as_many : into_iter_len l.done-iterator ≡ length (into_iter_items l.done-iterator);
}
