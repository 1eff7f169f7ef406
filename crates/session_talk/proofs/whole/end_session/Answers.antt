use Rattle.std.proofs.Common.{rules, ◌∙◌, Err, refl, sym, ap}
use Rattle.session_talk.proofs.ServeLaws.{few_bytes, on_err, same_error}
use Rattle.session_talk.proofs.whole.end_session.Goals as goal

pub returns-clause-ends : goal.returns-clause-ends
returns-clause-ends g c = record {
  ok = λ way given same w. c.finish.ensures.ends.ok way given (same ∙ sym (ap (λ b. b.now) c.in_ok-answer_due.ensures.goes_on.origin)) (c.in_ok-answer_due.ensures.answers.ok way given same w);
  stands = λ way given same w st.
      c.finish.ensures.ends.stands way given (same ∙ sym (ap (λ b. b.now) c.in_ok-answer_due.ensures.goes_on.origin)) (c.in_ok-answer_due.ensures.answers.ok way given same w) (c.in_ok-answer_due.ensures.answers.stands way given same w st);
  too_long = λ way given same w is.
      c.finish.ensures.ends.too_long way given (same ∙ sym (ap (λ b. b.now) c.in_ok-answer_due.ensures.goes_on.origin)) (c.in_ok-answer_due.ensures.answers.ok way given same w) is;
}

pub returns-in_err-answer_due-clause-ends : goal.returns-in_err-answer_due-clause-ends
returns-in_err-answer_due-clause-ends g c = record {
  ok = search rules;
  stands = λ way given same w st. on_err c.from_residual.result (c.in_err-answer_due.ensures.answers.stands way given same w st);
  too_long = λ way given same w is.
      c.in_err-answer_due.ensures.answers.too_long way given same w (ap Err (sym (same_error c.from_residual.result _ _ c.from_residual.ensures.1 is)));
}

pub returns-clause-memory : goal.returns-clause-memory
returns-clause-memory g c = λ is. few_bytes c.answer_due.new.intake.bytes _ refl (c.finish.ensures.memory is)

pub returns-in_err-answer_due-clause-memory : goal.returns-in_err-answer_due-clause-memory
returns-in_err-answer_due-clause-memory g c = λ is. c.in_err-answer_due.ensures.takes.memory (ap Err (sym (same_error c.from_residual.result _ _ c.from_residual.ensures.1 is)))

pub answer_due-requires : goal.answer_due-requires
answer_due-requires g c = c.requires
