use Rattle.std.proofs.Common.{rules}
use Rattle.session_talk.proofs.ServeLaws.{grows_front, put_stands, put_work}
use Rattle.session_talk.proofs.serving.flush.Goals as goal

pub returns-clause-stays : goal.returns-clause-stays
returns-clause-stays g c = record {
  ok = λ way given pending w.
      put_work way given _ _ _ _ _ _ pending w _ _ _ _ c.in_ok-put.ensures.writes.ok (c.in_ok-put.ensures.puts.so_far way.opened way.first w.done w.written w.so_far);
  stands = λ way given pending w st.
      put_stands way given _ _ _ _ _ _ pending w (c.in_ok-put.ensures.puts.answers way.opened way.first w.done w.written w.so_far) (grows_front _ _ _ c.in_ok-put.ensures.writes.ok);
}

pub returns-in_err-put-clause-stays : goal.returns-in_err-put-clause-stays
returns-in_err-put-clause-stays g c = record {
  ok = search rules;
  stands = λ way given pending w st.
      put_stands way given _ _ _ _ _ _ pending w (c.in_err-put.ensures.puts.answers way.opened way.first w.done w.written w.so_far) c.in_err-put.ensures.writes.err;
}
