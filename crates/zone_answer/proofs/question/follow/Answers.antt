use Rattle.std.proofs.Common.{◌≡◌, ◌∙◌, ℕ, suc, ◌-◌, ◌+◌, ◌++◌, Option, refl, sym, ap, subst, arith}
use Rattle.zone_model.specs.Names.{Name}
use Rattle.zone_answer.specs.Answers.{LeadsTo, behind, followed, going_on, step}
use Rattle.zone_answer.specs.Standing.{Shows, ShowsSome}
use Rattle.zone_answer.specs.Parts.{next_view}
use Rattle.zone_answer.specs.declared.kind.Kind.TheVariants.{Answered}
use Rattle.zone_answer.proofs.AnswerLaws.{leads, leads_nowhere, ends, last_alias, leads_out, is_given}
use Rattle.zone_answer.proofs.question.follow.Goals as goal

pub returns-in_default-clause-answer : goal.returns-in_default-clause-answer
returns-in_default-clause-answer g c zone given shows has =
    let whole = behind given (going_on (followed 15 c.args.origin.now zone c.args.rtype) (LeadsTo c.args.walker.now.target)) in
    let so = c.loop.invariant.so_far zone given shows has in
    is_given (g.S.RowSink.has c.loop.rows) whole Answered so.0 so.1
    (leads_nowhere whole (16 - c.loop.counter) c.args.origin.now zone c.args.rtype so.0
    (so.2 ∙ ap (λ (t : Option Name). behind so.0 (going_on (followed (16 - c.loop.counter) c.args.origin.now zone c.args.rtype) (LeadsTo t))) c.in_default.is))

pub returns-then-not-is_under-clause-answer : goal.returns-then-not-is_under-clause-answer
returns-then-not-is_under-clause-answer g c zone given shows has =
    let whole = behind given (going_on (followed 15 c.args.origin.now zone c.args.rtype) (LeadsTo c.args.walker.now.target)) in
    let so = c.loop.invariant.so_far zone given shows has in
    is_given (g.S.RowSink.has c.loop.rows) whole Answered so.0 so.1
    (leads_out whole (16 - c.loop.counter) c.args.origin.now zone c.args.rtype c.in-Some.target so.0
    (so.2 ∙ ap (λ (t : Option Name). behind so.0 (going_on (followed (16 - c.loop.counter) c.args.origin.now zone c.args.rtype) (LeadsTo t))) c.in-Some.is)
    (sym c.is_under.ensures ∙ c.if-not-is_under.true))

pub returns-in-Ends-clause-answer : goal.returns-in-Ends-clause-answer
returns-in-Ends-clause-answer g c zone given shows has =
    let whole = behind given (going_on (followed 15 c.args.origin.now zone c.args.rtype) (LeadsTo c.args.walker.now.target)) in
    let now = subst (λ s. Shows (g.V.Reading.holds s) zone) (sym c.loop.invariant.same) shows in
    let left : 16 - c.loop.counter ≡ suc (15 - c.loop.counter) = omega arith in
    let so = c.loop.invariant.so_far zone given shows has in
    let so_far = so.2 ∙ ap (λ (t : Option Name). behind so.0 (going_on (followed (16 - c.loop.counter) c.args.origin.now zone c.args.rtype) (LeadsTo t))) c.in-Some.is
    ∙ ap (λ (n : ℕ). behind so.0 (followed n c.args.origin.now zone c.args.rtype c.in-Some.target)) left in
    let gives = c.in_ok-kind.ensures.gives zone now in
    let rows = so.0 ++ (step c.args.origin.now zone c.args.rtype c.in-Some.target).rows in
    is_given (g.S.RowSink.has c.step.new.rows) whole c.in-Ends.kind rows (gives.1 so.0 so.1)
    (ends whole (15 - c.loop.counter) c.args.origin.now zone c.args.rtype c.in-Some.target so.0 rows so_far (sym c.is_under.ensures ∙ c.if-not-is_under.false) refl
    c.in-Ends.kind (sym (ap (next_view c.step.new.walker.target) c.in-Ends.is) ∙ gives.0))

pub loop-preserved : goal.loop-preserved
loop-preserved g c = record {
  shown = subst (λ s. ShowsSome (g.V.Reading.holds s)) (sym c.in_ok-kind.ensures.same) c.loop.invariant.shown;
  same = c.in_ok-kind.ensures.same ∙ c.loop.invariant.same;
  some = omega arith;
  so_far = λ zone given shows has.
      let whole = behind given (going_on (followed 15 c.args.origin.now zone c.args.rtype) (LeadsTo c.args.walker.now.target)) in
      let now = subst (λ s. Shows (g.V.Reading.holds s) zone) (sym c.loop.invariant.same) shows in
      let left : 16 - c.loop.counter ≡ suc (15 - c.loop.counter) = omega arith in
      let next : 15 - c.loop.counter ≡ 16 - (c.loop.counter + 1) = omega arith in
      let so = c.loop.invariant.so_far zone given shows has in
      let so_far = so.2 ∙ ap (λ (t : Option Name). behind so.0 (going_on (followed (16 - c.loop.counter) c.args.origin.now zone c.args.rtype) (LeadsTo t))) c.in-Some.is
      ∙ ap (λ (n : ℕ). behind so.0 (followed n c.args.origin.now zone c.args.rtype c.in-Some.target)) left in
      let gives = c.in_ok-kind.ensures.gives zone now in
      let rows = so.0 ++ (step c.args.origin.now zone c.args.rtype c.in-Some.target).rows in (
        rows,
        gives.1 so.0 so.1,
        leads whole (15 - c.loop.counter) c.args.origin.now zone c.args.rtype c.in-Some.target so.0 rows so_far (sym c.is_under.ensures ∙ c.if-not-is_under.false) refl
            c.step.new.walker.target (sym (ap (next_view c.step.new.walker.target) c.in_default-2.is) ∙ gives.0)
            ∙ ap (λ (n : ℕ). behind rows (going_on (followed n c.args.origin.now zone c.args.rtype) (LeadsTo c.step.new.walker.target))) next,
      );
}

pub returns-clause-answer : goal.returns-clause-answer
returns-clause-answer g c zone given shows has =
    let whole = behind given (going_on (followed 15 c.args.origin.now zone c.args.rtype) (LeadsTo c.args.walker.now.target)) in
    let none : 16 - c.loop.counter ≡ 0 = omega arith in
    let so = c.loop.invariant.so_far zone given shows has in
    is_given (g.S.RowSink.has c.loop.rows) whole Answered so.0 so.1
    (last_alias whole c.args.origin.now zone c.args.rtype c.loop.walker.target so.0
    (so.2 ∙ ap (λ (n : ℕ). behind so.0 (going_on (followed n c.args.origin.now zone c.args.rtype) (LeadsTo c.loop.walker.target))) none))
