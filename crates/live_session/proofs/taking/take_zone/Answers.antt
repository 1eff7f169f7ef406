use Rattle.std.proofs.Common.{rules, ◌≡◌, ◌∙◌, ◌≤◌, ◌+◌, ◌^◌, ◌++◌, List, ℕ, Ok, Err, length, refl, sym, ap, arith, subst, length-append}
use Rattle.live_session.proofs.ErrorLaws.{same_error}
use Rattle.live_session.proofs.TakingLaws.{long_rest, took_cut, wants_for_line, wants_for_read, within_zone}
use Rattle.live_session.proofs.taking.take_zone.Goals as goal

pub returns-then-came-clause-took : goal.returns-then-came-clause-took
returns-then-came-clause-took g c =
    let i = c.reads.invariant in
    let size : length (c.reads.zone.bytes.items ++ c.reads.intake.bytes) ≡ length c.reads.zone.bytes.items + length c.reads.intake.bytes = length-append c.reads.zone.bytes.items c.reads.intake.bytes in
    took_cut _ _ (c.reads.zone.bytes.items ++ c.reads.intake.bytes) _ c.take_lines.new.intake c.take_lines.new.zone (c.in_ok-came.ensures.came (ap Ok c.if-came.true)) i.gave (omega (arith, size, i.zone.short, i.most))
    (λ h. i.told (sym c.in_ok-came.ensures.ended ∙ h))

pub take-requires : goal.take-requires
take-requires g c =
    let i = c.reads.invariant in
    let n = c.in_ok-came.ensures.not_yet (ap Ok c.if-came.false) in
    let bytes = c.take_lines.new.zone.bytes.items ++ c.take_lines.new.intake.bytes in
    record {
      settled = subst (λ (l : List ℕ). g.T.Talk.is_settled l (g.K.Sink.held c.args.sink.now).taken) (sym (i.gave ∙ ap (λ (l : List ℕ). g.T.Talk.given c.args.talk.now ++ l) (sym n.2)))
          (c.requires.may bytes (within_zone c.take_lines.new.zone c.take_lines.new.intake.bytes n.0 n.1));
    }

pub returns-in_err-take-clause-stops : goal.returns-in_err-take-clause-stops
returns-in_err-take-clause-stops g c = record {
  within = search rules;
  too_long = λ is.
      let i = c.reads.invariant in
      let n = c.in_ok-came.ensures.not_yet (ap Ok c.if-came.false) in
      let t = c.in_err-take.ensures.stops.too_long (ap Err (sym (same_error c.from_residual-in_err-take.result _ _ c.from_residual-in_err-take.ensures.1 is))) in
      (c.take_lines.new.zone.bytes.items ++ c.take_lines.new.intake.bytes, t.2 ∙ i.gave ∙ ap (λ (l : List ℕ). g.T.Talk.given c.args.talk.now ++ l) (sym n.2), long_rest c.take_lines.new.zone c.take_lines.new.intake.bytes n.0 n.1 t.0);
  memory = λ is.
      let i = c.reads.invariant in
      let n = c.in_ok-came.ensures.not_yet (ap Ok c.if-came.false) in
      let m = c.in_err-take.ensures.stops.memory (ap Err (sym (same_error c.from_residual-in_err-take.result _ _ c.from_residual-in_err-take.ensures.1 is))) in
      let grows = c.in_err-take.ensures.grows in
      wants_for_read _ _ _ c.take_lines.new.intake.bytes _ grows.0 c.take_lines.new.zone (i.gave ∙ ap (λ (l : List ℕ). g.T.Talk.given c.args.talk.now ++ l) (sym n.2)) grows.2 (ap (λ p. p.bytes) m.1) n.0 m.0 m.2;
}

pub returns-in_err-came-clause-stops : goal.returns-in_err-came-clause-stops
returns-in_err-came-clause-stops g c = record {
  within = search rules;
  too_long = search rules;
  memory = λ is.
      wants_for_line _ _ c.take_lines.new.zone.bytes.items _ _ _ c.reads.invariant.gave refl (c.in_err-came.ensures.stops.memory (ap Err (sym (same_error c.from_residual.result _ _ c.from_residual.ensures.1 is))));
}

pub returns-in_err-take_rest-clause-stops : goal.returns-in_err-take_rest-clause-stops
returns-in_err-take_rest-clause-stops g c = record {
  within = search rules;
  too_long = search rules;
  memory = λ is.
      let n = c.in_ok-came.ensures.not_yet (ap Ok c.if-came.false) in
      wants_for_line _ _ c.take_rest.new.zone.bytes.items _ _ _ c.reads.invariant.gave n.2 (c.in_err-take_rest.ensures.stops.memory (ap Err (sym (same_error c.from_residual-in_err-take_rest.result _ _ c.from_residual-in_err-take_rest.ensures.1 is))));
}
