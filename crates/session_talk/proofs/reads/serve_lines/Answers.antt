use Rattle.std.proofs.Common.{rules, ◌∙◌, Ok, Err, refl, sym, ap, arith, inl}
use Rattle.session_talk.proofs.ServeLaws.{either_end, passed_as, same_error}
use Rattle.session_talk.specs.declared.serving.Stop.TheVariants as stop
use Rattle.session_talk.proofs.reads.serve_lines.Goals as goal

pub reads-init : goal.reads-init
reads-init g c = record {
  sound = c.requires.sound;
  few = omega (arith, c.requires.few);
  origin = refl;
  ended = c.requires.ended;
  many = λ e. omega arith;
  quiet_sink = refl;
  quiet_talk = refl;
  may = c.requires.may;
  work = λ way same w. w;
  stands = λ way same w st. st;
}

pub reads-preserved : goal.reads-preserved
reads-preserved g c =
    let i = c.reads.invariant in
    let n = c.in_ok-goes_on.ensures in
    let t = ap Ok c.if-not-goes_on.false in
    record {
      sound = n.goes_on.sound;
      few = omega (arith, i.few, n.goes_on.few);
      origin = n.goes_on.origin ∙ i.origin;
      ended = n.told.ended (n.told.begun t);
      many = λ e. omega (arith, i.many (n.told.begun t), n.told.more t e);
      quiet_sink = n.told.sink.quiet (λ h. cc) ∙ i.quiet_sink;
      quiet_talk = n.told.talk.quiet (λ h. cc) ∙ i.quiet_talk;
      may = n.may;
      work = λ way same w. n.serves.ok way (same ∙ sym (ap (λ b. b.now) i.origin)) (i.work way same w);
      stands = λ way same w st. n.serves.stands way (same ∙ sym (ap (λ b. b.now) i.origin)) (i.work way same w) (i.stands way same w st);
    }

pub returns-then-not-goes_on-clause-serves : goal.returns-then-not-goes_on-clause-serves
returns-then-not-goes_on-clause-serves g c = record {
  ok = λ way same w. c.in_ok-goes_on.ensures.serves.ok way (same ∙ sym (ap (λ b. b.now) c.reads.invariant.origin)) (c.reads.invariant.work way same w);
  stands = λ way same w st.
      c.in_ok-goes_on.ensures.serves.stands way (same ∙ sym (ap (λ b. b.now) c.reads.invariant.origin)) (c.reads.invariant.work way same w) (c.reads.invariant.stands way same w st);
  settled = search rules;
  too_long = search rules;
}

pub returns-then-not-goes_on-clause-goes_on : goal.returns-then-not-goes_on-clause-goes_on
returns-then-not-goes_on-clause-goes_on g c = record {
  sound = search rules;
  few = search rules;
  origin = search rules;
  ended = let o = c.in_ok-goes_on.ensures.told.over (ap Ok c.if-not-goes_on.true) in inl (rw o.2 (c.reads.invariant.ended o.1));
}

pub returns-in_err-goes_on-clause-serves : goal.returns-in_err-goes_on-clause-serves
returns-in_err-goes_on-clause-serves g c = record {
  ok = search rules;
  stands = λ way same w st.
      c.in_err-goes_on.ensures.serves.stands way (same ∙ sym (ap (λ b. b.now) c.reads.invariant.origin)) (c.reads.invariant.work way same w) (c.reads.invariant.stands way same w st);
  settled = λ is way same w.
      c.in_err-goes_on.ensures.serves.settled (ap Err (sym (same_error c.from_residual.result _ _ c.from_residual.ensures.1 is))) way (same ∙ sym (ap (λ b. b.now) c.reads.invariant.origin)) (c.reads.invariant.work way same w);
  too_long = λ is way same w.
      c.in_err-goes_on.ensures.serves.too_long (ap Err (sym (same_error c.from_residual.result _ _ c.from_residual.ensures.1 is))) way (same ∙ sym (ap (λ b. b.now) c.reads.invariant.origin)) (c.reads.invariant.work way same w);
}

pub returns-in_err-goes_on-clause-faults : goal.returns-in_err-goes_on-clause-faults
returns-in_err-goes_on-clause-faults g c = record {
  sink = record {
    quiet = λ h.
        c.in_err-goes_on.ensures.told.sink.quiet (λ k. h (passed_as c.from_residual.result _ stop.Sink c.from_residual.ensures.1 k)) ∙ c.reads.invariant.quiet_sink;
    failed = search rules;
  };
  talk = record {
    quiet = λ h.
        c.in_err-goes_on.ensures.told.talk.quiet (λ k. h (passed_as c.from_residual.result _ stop.Fault c.from_residual.ensures.1 k)) ∙ c.reads.invariant.quiet_talk;
    failed = search rules;
  };
}

pub returns-clause-goes_on : goal.returns-clause-goes_on
returns-clause-goes_on g c = record {
  sound = search rules;
  few = search rules;
  origin = search rules;
  ended = either_end c.reads.intake.ended _ _ c.reads.counter _ c.reads.invariant.ended c.reads.invariant.many c.reads-test.false;
}

pub returns-in_err-goes_on-clause-memory : goal.returns-in_err-goes_on-clause-memory
returns-in_err-goes_on-clause-memory g c = λ is. c.in_err-goes_on.ensures.told.memory (ap Err (sym (same_error c.from_residual.result _ _ c.from_residual.ensures.1 is)))

pub turn-requires : goal.turn-requires
turn-requires g c = record { sound = c.reads.invariant.sound; few = omega (arith, c.reads.invariant.few); may = c.reads.invariant.may }
