use Rattle.std.proofs.Common.{rules}
use Rattle.session_lines.specs.Printing.{printing}
use Rattle.session_talk.proofs.ServeLaws.{ended_stands, finished, on_err}
use Rattle.session_talk.proofs.serving.end.Goals as goal

pub returns-clause-ends : goal.returns-clause-ends
returns-clause-ends g c = record {
  ok = λ way given w.
      finished way w.done w.written _ _ _ _ (printing c.push_last.new.self) _ c.end-last.result w.so_far c.in_ok-push_left_open.ensures (c.end-last.ensures.ends way.opened _ _ w.so_far.ran) c.in_ok-push_last.ensures
      given _ _ w.gave w.grew (rw c.deref.ensures.value at c.in_ok-write_all.ensures.ok);
  stands = search rules;
}

pub returns-in_err-write_all-clause-ends : goal.returns-in_err-write_all-clause-ends
returns-in_err-write_all-clause-ends g c = record {
  ok = search rules;
  stands = λ way given w st. on_err c.from_residual-in_err-write_all.result
      (ended_stands way w.done w.written _ _ _ _ (printing c.push_last.new.self) _ c.end-last.result w.so_far c.in_ok-push_left_open.ensures (c.end-last.ensures.ends way.opened _ _ w.so_far.ran) c.in_ok-push_last.ensures
      given _ _ w.gave w.grew (rw c.deref.ensures.value at c.in_err-write_all.ensures.err));
}
