use Rattle.std.proofs.Common.{rules, ◌≡◌, ◌∙◌, ◌<◌, ◌^◌, length, take, arith, ◌≤◌, sym}
use Rattle.std.proofs.lemmas.List.{take_all}
use Rattle.session_talk.proofs.FedLaws.{last_one}
use Rattle.session_talk.proofs.ServeLaws.{front_unbroken, grows_front, last_done, none_left, on_err, put_stands, same_error, too_long_by}
use Rattle.session_talk.specs.declared.serving.Stop.TheVariants.{Memory, Sink, TooLong}
use Rattle.session_talk.proofs.serving.finish.Goals as goal

pub answer-requires : goal.answer-requires
answer-requires g c = record {
  sound = c.requires.sound;
  few = c.requires.few;
  some = let all : take c.len-rest.result c.args.intake.now.bytes ≡ c.args.intake.now.bytes = take_all c.len-rest.result c.args.intake.now.bytes (omega (arith, c.len-rest.ensures)) in
      rw (c.front.ensures, all) (let l : 0 < length c.args.intake.now.bytes = omega (arith, c.len-rest.ensures) in l);
  short = let all : take c.len-rest.result c.args.intake.now.bytes ≡ c.args.intake.now.bytes = take_all c.len-rest.result c.args.intake.now.bytes (omega (arith, c.len-rest.ensures)) in
      rw (c.front.ensures, all) (let l : length c.args.intake.now.bytes ≤ 2 ^ 24 = omega (arith, c.len-rest.ensures) in l);
  one =
      let all : take c.len-rest.result c.args.intake.now.bytes ≡ c.args.intake.now.bytes = take_all c.len-rest.result c.args.intake.now.bytes (omega (arith, c.len-rest.ensures)) in
      rw (c.front.ensures, all) (last_one c.args.intake.now.bytes (omega (arith, c.len-rest.ensures)) c.requires.rest);
}

pub returns-clause-ends : goal.returns-clause-ends
returns-clause-ends g c = record {
  ok = λ way given same w.
      let all : take c.len-rest.result c.args.intake.now.bytes ≡ c.args.intake.now.bytes = take_all c.len-rest.result c.args.intake.now.bytes (omega (arith, c.len-rest.ensures)) in
      let so_far = c.in_ok-answer.ensures.so_far way.opened way.first w.done w.written same w.fed w.so_far in
      c.end-2.ensures.ends.ok way given (last_done way given _ _ (g.W.Worker.has_run c.answer.new.self.worker way.opened) _ _ _ _ _ _ c.args.intake.now.bytes w (rw (c.front.ensures, all) at so_far));
  stands = λ way given same w st.
      let all : take c.len-rest.result c.args.intake.now.bytes ≡ c.args.intake.now.bytes = take_all c.len-rest.result c.args.intake.now.bytes (omega (arith, c.len-rest.ensures)) in
      let so_far = c.in_ok-answer.ensures.so_far way.opened way.first w.done w.written same w.fed w.so_far in
      c.end-2.ensures.ends.stands way given (last_done way given _ _ (g.W.Worker.has_run c.answer.new.self.worker way.opened) _ _ _ _ _ _ c.args.intake.now.bytes w (rw (c.front.ensures, all) at so_far)) st;
  too_long = λ way given same w is. absurd (c.end-2.ensures.others.1 is);
}

pub returns-then-rest-gt-LONGEST-clause-ends : goal.returns-then-rest-gt-LONGEST-clause-ends
returns-then-rest-gt-LONGEST-clause-ends g c = record {
  ok = search rules;
  stands = λ way given same w st.
      put_stands way given _ _ _ _ _ _ c.args.intake.now.bytes w (c.in_ok-put.ensures.puts.answers way.opened way.first w.done w.written w.so_far) (grows_front _ _ _ c.in_ok-put.ensures.writes.ok);
  too_long = λ way given same w is.
      let over : 2 ^ 24 < length c.args.intake.now.bytes = omega (arith, c.len-rest.ensures) in
      too_long_by way given _ _ _ _ _ _ c.args.intake.now.bytes w (front_unbroken (2 ^ 24) c.args.intake.now.bytes (omega arith) c.requires.rest) over (c.in_ok-put.ensures.puts.answers way.opened way.first w.done w.written w.so_far) c.in_ok-put.ensures.writes.ok;
}

pub returns-in_err-put-clause-ends : goal.returns-in_err-put-clause-ends
returns-in_err-put-clause-ends g c = record {
  ok = search rules;
  stands = λ way given same w st. on_err c.from_residual.result
      (put_stands way given _ _ _ _ _ _ c.args.intake.now.bytes w (c.in_err-put.ensures.puts.answers way.opened way.first w.done w.written w.so_far) c.in_err-put.ensures.writes.err);
  too_long = λ way given same w is. absurd (let n : TooLong ≡ Sink = same_error c.from_residual.result _ _ c.from_residual.ensures.1 is in cc);
}

pub returns-then-rest-eq0-clause-ends : goal.returns-then-rest-eq0-clause-ends
returns-then-rest-eq0-clause-ends g c = record {
  ok = λ way given same w. c.end.ensures.ends.ok way given (none_left way given _ _ _ _ _ c.args.intake.now.bytes w (sym c.len-rest.ensures ∙ c.if-rest-eq0.true));
  stands = λ way given same w st.
      c.end.ensures.ends.stands way given (none_left way given _ _ _ _ _ c.args.intake.now.bytes w (sym c.len-rest.ensures ∙ c.if-rest-eq0.true)) st;
  too_long = λ way given same w is. absurd (c.end.ensures.others.1 is);
}

pub returns-in_err-answer-clause-ends : goal.returns-in_err-answer-clause-ends
returns-in_err-answer-clause-ends g c = record {
  ok = search rules;
  stands = search rules;
  too_long = λ way given same w is. absurd (let n : TooLong ≡ Memory = same_error c.from_residual-in_err-answer.result _ _ c.from_residual-in_err-answer.ensures.1 is in cc);
}
