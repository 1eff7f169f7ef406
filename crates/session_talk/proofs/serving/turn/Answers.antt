use Rattle.std.proofs.Common.{rules, ◌∙◌, Err, sym, ap}
use Rattle.session_talk.proofs.ServeLaws.{few_bytes, fault_of, memory_of, more_stands, more_work, same_error, too_long_of}
use Rattle.session_talk.proofs.serving.turn.Goals as goal

pub take-requires : goal.take-requires
take-requires g c = record { settled = c.requires.may.may _ _ (c.in_ok-answer_due.ensures.answers.settled c.requires.may.way _ c.requires.may.same c.requires.may.at_work) }

pub returns-clause-serves : goal.returns-clause-serves
returns-clause-serves g c = record {
  ok = λ way same w.
      let m = c.in_ok-take.ensures.grows in
      rw (m.2, m.4) (more_work way _ (g.K.Sink.held c.answer_due.new.sink) (g.K.Sink.held c.answer_due.new.sink) _ _ _ _ c.answer_due.new.intake.bytes (c.in_ok-answer_due.ensures.answers.ok way _ same w) m.0);
  stands = λ way same w st.
      let m = c.in_ok-take.ensures.grows in
      rw m.2 (more_stands way _ m.0 _ (c.in_ok-answer_due.ensures.answers.stands way _ same w st));
  settled = search rules;
  too_long = search rules;
}

pub returns-clause-may : goal.returns-clause-may
returns-clause-may g c =
    let m = c.in_ok-take.ensures.grows in
    let r = c.requires.may in
    record {
      way = r.way;
      same = r.same ∙ sym (ap (λ b. b.now) c.in_ok-answer_due.ensures.goes_on.origin);
      at_work = rw (m.2, m.4) (more_work r.way _ (g.K.Sink.held c.answer_due.new.sink) (g.K.Sink.held c.answer_due.new.sink) _ _ _ _ c.answer_due.new.intake.bytes (c.in_ok-answer_due.ensures.answers.ok r.way _ r.same r.at_work) m.0);
      may = r.may;
    }

pub returns-in_err-take-clause-serves : goal.returns-in_err-take-clause-serves
returns-in_err-take-clause-serves g c = record {
  ok = search rules;
  stands = λ way same w st.
      let m = c.in_err-take.ensures.grows in
      rw m.2 (more_stands way _ m.0 _ (c.in_ok-answer_due.ensures.answers.stands way _ same w st));
  settled = λ is way same w.
      let n = fault_of _ (same_error c.from_residual-in_err-take.result _ _ c.from_residual-in_err-take.ensures.1 is) in
      rw (c.in_err-take.ensures.stops.unmoved (ap Err n)) (c.in_ok-answer_due.ensures.answers.settled way _ same w);
  too_long = λ is way same w.
      let n = too_long_of _ (same_error c.from_residual-in_err-take.result _ _ c.from_residual-in_err-take.ensures.1 is) in
      let l = c.in_err-take.ensures.stops.too_long (ap Err n) in
      rw l.2 (c.in_ok-answer_due.ensures.answers.long way _ same w l.0);
}

pub returns-in_err-answer_due-clause-serves : goal.returns-in_err-answer_due-clause-serves
returns-in_err-answer_due-clause-serves g c = record {
  ok = search rules;
  stands = search rules;
  settled = search rules;
  too_long = λ is way same w.
      let n = same_error c.from_residual.result _ _ c.from_residual.ensures.1 is in
      c.in_err-answer_due.ensures.answers.too_long way _ same w (ap Err (sym n));
}

pub returns-in_err-take-clause-told : goal.returns-in_err-take-clause-told
returns-in_err-take-clause-told g c = record {
  over = search rules;
  more = search rules;
  begun = search rules;
  ended = search rules;
  memory = λ is.
      let n = memory_of _ (same_error c.from_residual-in_err-take.result _ _ c.from_residual-in_err-take.ensures.1 is) in
      let m = c.in_err-take.ensures.stops.memory (ap Err n) in
      few_bytes c.answer_due.new.intake.bytes _ (ap (λ i. i.bytes) m.1) m.0;
  sink = search rules;
  talk = search rules;
}

pub returns-in_err-answer_due-clause-told : goal.returns-in_err-answer_due-clause-told
returns-in_err-answer_due-clause-told g c = record {
  over = search rules;
  more = search rules;
  begun = search rules;
  ended = search rules;
  memory = λ is. c.in_err-answer_due.ensures.takes.memory (ap Err (sym (same_error c.from_residual.result _ _ c.from_residual.ensures.1 is)));
  sink = search rules;
  talk = search rules;
}

pub answer_due-requires : goal.answer_due-requires
answer_due-requires g c = record { sound = c.requires.sound; few = c.requires.few }
