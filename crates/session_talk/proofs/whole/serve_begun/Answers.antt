use Rattle.std.proofs.Common.{rules, ◌∙◌, Err, sym, ap}
use Rattle.session_talk.proofs.ServeLaws.{on_err, passed_as, same_error}
use Rattle.session_talk.specs.declared.serving.Stop.TheVariants as stop
use Rattle.session_talk.proofs.whole.serve_begun.Goals as goal

pub returns-clause-serves : goal.returns-clause-serves
returns-clause-serves g c = record {
  ok = λ way same w. c.end_session-2.ensures.ends.ok way _ (same ∙ sym (ap (λ b. b.now) c.in_ok-serve_lines.ensures.goes_on.origin)) (c.in_ok-serve_lines.ensures.serves.ok way same w);
  stands = λ way same w st.
      c.end_session-2.ensures.ends.stands way _ (same ∙ sym (ap (λ b. b.now) c.in_ok-serve_lines.ensures.goes_on.origin)) (c.in_ok-serve_lines.ensures.serves.ok way same w) (c.in_ok-serve_lines.ensures.serves.stands way same w st);
  settled = search rules;
  too_long = λ is way same w. c.end_session-2.ensures.ends.too_long way _ (same ∙ sym (ap (λ b. b.now) c.in_ok-serve_lines.ensures.goes_on.origin)) (c.in_ok-serve_lines.ensures.serves.ok way same w) is;
}

pub returns-in_err-serve_lines-clause-serves : goal.returns-in_err-serve_lines-clause-serves
returns-in_err-serve_lines-clause-serves g c = record {
  ok = search rules;
  stands = λ way same w st. on_err c.from_residual.result (c.in_err-serve_lines.ensures.serves.stands way same w st);
  settled = λ is way same w.
      c.in_err-serve_lines.ensures.serves.settled (ap Err (sym (same_error c.from_residual.result _ _ c.from_residual.ensures.1 is))) way same w;
  too_long = λ is way same w.
      c.in_err-serve_lines.ensures.serves.too_long (ap Err (sym (same_error c.from_residual.result _ _ c.from_residual.ensures.1 is))) way same w;
}

pub returns-then-has_ended-clause-serves : goal.returns-then-has_ended-clause-serves
returns-then-has_ended-clause-serves g c = record {
  ok = search rules;
  stands = search rules;
  settled = search rules;
  too_long = λ is way same w. c.end_session.ensures.ends.too_long way _ same w is;
}

pub returns-in_err-serve_lines-clause-faults : goal.returns-in_err-serve_lines-clause-faults
returns-in_err-serve_lines-clause-faults g c = record {
  sink = record { quiet = λ h. c.in_err-serve_lines.ensures.faults.sink.quiet (λ k. h (passed_as c.from_residual.result _ stop.Sink c.from_residual.ensures.1 k)); failed = search rules };
  talk = record { quiet = λ h. c.in_err-serve_lines.ensures.faults.talk.quiet (λ k. h (passed_as c.from_residual.result _ stop.Fault c.from_residual.ensures.1 k)); failed = search rules };
}

pub returns-in_err-serve_lines-clause-memory : goal.returns-in_err-serve_lines-clause-memory
returns-in_err-serve_lines-clause-memory g c = λ is. c.in_err-serve_lines.ensures.memory (ap Err (sym (same_error c.from_residual.result _ _ c.from_residual.ensures.1 is)))
