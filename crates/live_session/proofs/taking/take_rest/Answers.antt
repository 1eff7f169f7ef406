use Rattle.std.proofs.Common.{rules, ◌≡◌, ◌∙◌, ◌<◌, List, ℕ, Err, length, take, refl, sym, ap, arith, inr, subst}
use Rattle.std.proofs.lemmas.List.{take_all, nil_from_length}
use Rattle.zone_model.specs.Lines.{lines_of}
use Rattle.session_talk.proofs.FedLaws.{last_one}
use Rattle.live_session.specs.Zones.{HasTaken}
use Rattle.live_session.proofs.ErrorLaws.{same_error}
use Rattle.live_session.proofs.ZoneLaws.{ends_alone, ends_line, long_by, wants_line}
use Rattle.live_session.proofs.taking.take_rest.Goals as goal

pub returns-then-rest-eq0-clause-whole : goal.returns-then-rest-eq0-clause-whole
returns-then-rest-eq0-clause-whole c = ends_alone c.args.zone.now c.args.intake.now.bytes (nil_from_length c.args.intake.now.bytes (sym c.len-rest.ensures ∙ c.if-rest-eq0.true)) c.requires.zone

pub take_line-requires : goal.take_line-requires
take_line-requires c = record {
  some = omega arith;
  inside = omega (arith, c.len-rest.ensures);
  one =
      let bytes = c.args.intake.now.bytes in
      let all : take c.len-rest.result bytes ≡ bytes = take_all c.len-rest.result bytes (omega (arith, c.len-rest.ensures)) in
      let some : 0 < length bytes = omega (arith, c.len-rest.ensures) in
      let one = last_one bytes some c.requires.rest in (one.0, ap lines_of all ∙ one.1);
  zone = c.requires.zone;
}

pub returns-in_err-take_line-clause-stops : goal.returns-in_err-take_line-clause-stops
returns-in_err-take_line-clause-stops c = record {
  too_long = λ is.
      long_by c.args.zone.now c.args.intake.now.bytes _ c.len-rest.result c.requires.zone refl (c.in_err-take_line.ensures.stops.too_long (ap Err (sym (same_error c.from_residual.result _ _ c.from_residual.ensures.1 is))));
  memory = λ is.
      let kept = c.in_err-take_line.ensures.stops.kept in
      wants_line c.args.zone.now.bytes.items _ c.args.intake.now.bytes _ _ c.len-rest.result kept.0 (ap (λ i. i.bytes) kept.1) c.requires.zone.uncut refl (inr (sym c.len-rest.ensures))
      (c.in_err-take_line.ensures.stops.memory (ap Err (sym (same_error c.from_residual.result _ _ c.from_residual.ensures.1 is))));
  others = search rules;
}

pub returns-clause-whole : goal.returns-clause-whole
returns-clause-whole c =
    let bytes = c.args.intake.now.bytes in
    let all : take c.len-rest.result bytes ≡ bytes = take_all c.len-rest.result bytes (omega (arith, c.len-rest.ensures)) in
    let some : 0 < length bytes = omega (arith, c.len-rest.ensures) in
    let one = last_one bytes some c.requires.rest in
    ends_line c.args.zone.now c.take_line.new.zone bytes one.0 c.in_ok-take_line.field-0 c.requires.zone one.1
    (subst (λ (l : List ℕ). HasTaken c.args.zone.now c.take_line.new.zone l c.in_ok-take_line.field-0) all c.in_ok-take_line.ensures.went)
