use Rattle.std.proofs.Common.{rules, ◌≡◌, ◌<◌, ◌^◌, ◌∙◌, ℕ, length, refl, subst, sym, ap, arith}
use Rattle.session_lines.specs.Taking.{IsUnbroken, Pending}
use Rattle.session_talk.proofs.ServeLaws.{front_unbroken, grows_front, long_line, not_ok, put_stands, put_work, same_error, settled_by, too_long_by}
use Rattle.session_talk.specs.declared.serving.Stop.TheVariants.{Sink, TooLong}
use Rattle.session_talk.proofs.serving.answer_due.Goals as goal

pub lines-init : goal.lines-init
lines-init g c = record { sound = c.requires.sound; few = omega arith; origin = refl; ended = refl; quiet = refl; work = λ way given same w. w; stands = λ way given same w st. st }

pub lines-preserved : goal.lines-preserved
lines-preserved g c =
    let i = c.lines.invariant in
    let n = c.in_ok-answer_next.ensures in
    let e = c.next_line.ensures.same in
    let long = ap {B = ℕ} (λ x. length x.bytes) e in
    record {
      sound = n.goes_on.sound;
      few = omega (arith, i.few, n.goes_on.lines, n.takes.rest, long);
      origin = n.goes_on.origin ∙ i.origin;
      ended = n.takes.ended ∙ ap (λ x. x.ended) e ∙ i.ended;
      quiet = n.sink.quiet (λ h. cc) ∙ i.quiet;
      work = λ way given same w. n.answers.ok way given (same ∙ sym (ap (λ b. b.now) i.origin)) (rw e (i.work way given same w));
      stands = λ way given same w st. n.answers.stands way given (same ∙ sym (ap (λ b. b.now) i.origin)) (rw e (i.work way given same w)) (i.stands way given same w st);
    }

-- ---- a line that is too long

pub returns-then-count-gt-LONGEST-clause-answers : goal.returns-then-count-gt-LONGEST-clause-answers
returns-then-count-gt-LONGEST-clause-answers g c = record {
  ok = search rules;
  settled = search rules;
  long = search rules;
  stands = λ way given same w st.
      let work = c.lines.invariant.work way given same w in
      put_stands way given _ _ _ _ _ _ c.lines.intake.bytes work (c.in_ok-put.ensures.puts.answers way.opened way.first work.done work.written work.so_far) (grows_front _ _ _ c.in_ok-put.ensures.writes.ok);
  too_long = λ way given same w is.
      let work = c.lines.invariant.work way given same w in
      let long = long_line c.lines.intake.bytes _ (sym c.next_line.ensures.found ∙ c.in-Some.is) c.if-count-gt-LONGEST.true in
      too_long_by way given _ _ _ _ _ _ c.lines.intake.bytes work long.0 long.1 (c.in_ok-put.ensures.puts.answers way.opened way.first work.done work.written work.so_far) c.in_ok-put.ensures.writes.ok;
}

pub returns-in_err-put-clause-answers : goal.returns-in_err-put-clause-answers
returns-in_err-put-clause-answers g c = record {
  ok = search rules;
  settled = search rules;
  long = λ way given same w. not_ok c.from_residual.result _ _ c.from_residual.ensures.1;
  stands = λ way given same w st.
      let work = c.lines.invariant.work way given same w in
      put_stands way given _ _ _ _ _ _ c.lines.intake.bytes work (c.in_err-put.ensures.puts.answers way.opened way.first work.done work.written work.so_far) c.in_err-put.ensures.writes.err;
  too_long = λ way given same w is. absurd (let n : TooLong ≡ Sink = same_error c.from_residual.result _ _ c.from_residual.ensures.1 is in cc);
}

-- ---- all of them

pub returns-clause-answers : goal.returns-clause-answers
returns-clause-answers g c = record {
  ok = λ way given same w.
      let work = c.lines.invariant.work way given same w in
      rw c.next_line.ensures.same (put_work way given _ _ _ _ _ _ c.lines.intake.bytes work _ _ _ _ c.in_ok-put-2.ensures.writes.ok (c.in_ok-put-2.ensures.puts.so_far way.opened way.first work.done work.written work.so_far));
  settled = λ way given same w.
      let work = c.lines.invariant.work way given same w in
      let rest : IsUnbroken c.lines.intake.bytes = search rules in
      settled_by way given _ _ _ _ _ _ c.lines.intake.bytes work rest (c.in_ok-put-2.ensures.puts.answers way.opened way.first work.done work.written work.so_far) c.in_ok-put-2.ensures.writes.ok;
  long = λ way given same w over.
      let work = c.lines.invariant.work way given same w in
      let rest : IsUnbroken c.lines.intake.bytes = search rules in
      let long : 2 ^ 24 < length c.lines.intake.bytes = subst (λ (x : Pending). 2 ^ 24 < length x.bytes) c.next_line.ensures.same over in
      too_long_by way given _ _ _ _ _ _ c.lines.intake.bytes work (front_unbroken (2 ^ 24) c.lines.intake.bytes (omega (arith, long)) rest) long
      (c.in_ok-put-2.ensures.puts.answers way.opened way.first work.done work.written work.so_far) c.in_ok-put-2.ensures.writes.ok;
  stands = λ way given same w st.
      let work = c.lines.invariant.work way given same w in
      put_stands way given _ _ _ _ _ _ c.lines.intake.bytes work (c.in_ok-put-2.ensures.puts.answers way.opened way.first work.done work.written work.so_far) (grows_front _ _ _ c.in_ok-put-2.ensures.writes.ok);
  too_long = search rules;
}

pub returns-in_err-put-2-clause-answers : goal.returns-in_err-put-2-clause-answers
returns-in_err-put-2-clause-answers g c = record {
  ok = search rules;
  settled = search rules;
  long = λ way given same w. not_ok c.from_residual-in_err-put-2.result _ _ c.from_residual-in_err-put-2.ensures.1;
  stands = λ way given same w st.
      let work = c.lines.invariant.work way given same w in
      put_stands way given _ _ _ _ _ _ c.lines.intake.bytes work (c.in_err-put-2.ensures.puts.answers way.opened way.first work.done work.written work.so_far) c.in_err-put-2.ensures.writes.err;
  too_long = λ way given same w is. absurd (let n : TooLong ≡ Sink = same_error c.from_residual-in_err-put-2.result _ _ c.from_residual-in_err-put-2.ensures.1 is in cc);
}
