use Rattle.std.proofs.Common.{rules, ◌≡◌, ◌∙◌, ◌++◌, Ok, Err, Some, sym, ap, inl}
use Rattle.session_lines.specs.Taking.{line_end}
use Rattle.session_talk.proofs.FedLaws.{one_line, count_inside}
use Rattle.live_session.proofs.ErrorLaws.{same_error}
use Rattle.live_session.proofs.ZoneLaws.{cut_by, long_by, one_more_by, same_by, wants_line}
use Rattle.live_session.proofs.zone.take_lines.Goals as goal

pub take_line-requires : goal.take_line-requires
take_line-requires c = record {
  some = let found : line_end c.next_line.new.self.bytes ≡ Some c.in-Some.count = ap (λ i. line_end i.bytes) c.next_line.ensures.same ∙ sym c.next_line.ensures.found ∙ c.in-Some.is in
      (count_inside c.next_line.new.self.bytes c.in-Some.count found).0;
  inside = let found : line_end c.next_line.new.self.bytes ≡ Some c.in-Some.count = ap (λ i. line_end i.bytes) c.next_line.ensures.same ∙ sym c.next_line.ensures.found ∙ c.in-Some.is in
      (count_inside c.next_line.new.self.bytes c.in-Some.count found).1;
  one =
      let found : line_end c.next_line.new.self.bytes ≡ Some c.in-Some.count = ap (λ i. line_end i.bytes) c.next_line.ensures.same ∙ sym c.next_line.ensures.found ∙ c.in-Some.is in
      one_line c.next_line.new.self.bytes c.in-Some.count found;
  zone = c.lines.invariant.zone;
}

pub lines-preserved : goal.lines-preserved
lines-preserved c =
    let i = c.lines.invariant in
    let bytes = c.next_line.new.self.bytes in
    let found : line_end c.next_line.new.self.bytes ≡ Some c.in-Some.count = ap (λ i. line_end i.bytes) c.next_line.ensures.same ∙ sym c.next_line.ensures.found ∙ c.in-Some.is in
    record {
      zone = one_more_by c.lines.zone c.take_line.new.zone bytes c.in-Some.count c.in_ok-cuts.cuts i.zone found c.if-cuts.false c.in_ok-cuts.ensures.went;
      same = same_by c.lines.zone c.take_line.new.zone bytes c.take_line.new.intake.bytes _ c.in-Some.count c.in_ok-cuts.cuts c.if-cuts.false c.in_ok-cuts.ensures.went c.in_ok-cuts.ensures.lets_go.rest
          (ap (λ i. c.lines.zone.bytes.items ++ i.bytes) c.next_line.ensures.same ∙ i.same);
      ended = c.in_ok-cuts.ensures.lets_go.ended ∙ ap (λ i. i.ended) c.next_line.ensures.same ∙ i.ended;
    }

pub returns-in_err-cuts-clause-stops : goal.returns-in_err-cuts-clause-stops
returns-in_err-cuts-clause-stops c = record {
  too_long = λ is.
      long_by c.lines.zone c.next_line.new.self.bytes _ c.in-Some.count c.lines.invariant.zone (ap (λ i. c.lines.zone.bytes.items ++ i.bytes) c.next_line.ensures.same ∙ c.lines.invariant.same)
      (c.in_err-cuts.ensures.stops.too_long (ap Err (sym (same_error c.from_residual.result _ _ c.from_residual.ensures.1 is))));
  memory = λ is.
      let found : line_end c.next_line.new.self.bytes ≡ Some c.in-Some.count = ap (λ i. line_end i.bytes) c.next_line.ensures.same ∙ sym c.next_line.ensures.found ∙ c.in-Some.is in
      let kept = c.in_err-cuts.ensures.stops.kept in
      wants_line c.lines.zone.bytes.items _ c.next_line.new.self.bytes _ _ c.in-Some.count kept.0 (ap (λ i. i.bytes) kept.1) c.lines.invariant.zone.uncut
      (sym (ap (λ i. c.lines.zone.bytes.items ++ i.bytes) c.next_line.ensures.same ∙ c.lines.invariant.same)) (inl found)
      (c.in_err-cuts.ensures.stops.memory (ap Err (sym (same_error c.from_residual.result _ _ c.from_residual.ensures.1 is))));
  others = search rules;
}

pub returns-then-cuts-clause-came : goal.returns-then-cuts-clause-came
returns-then-cuts-clause-came c = λ is.
    let found : line_end c.next_line.new.self.bytes ≡ Some c.in-Some.count = ap (λ i. line_end i.bytes) c.next_line.ensures.same ∙ sym c.next_line.ensures.found ∙ c.in-Some.is in
    cut_by c.lines.zone c.take_line.new.zone c.next_line.new.self.bytes c.take_line.new.intake.bytes _ c.in-Some.count c.in_ok-cuts.cuts c.lines.invariant.zone found c.if-cuts.true c.in_ok-cuts.ensures.went c.in_ok-cuts.ensures.lets_go.rest
    (ap (λ i. c.lines.zone.bytes.items ++ i.bytes) c.next_line.ensures.same ∙ c.lines.invariant.same)
