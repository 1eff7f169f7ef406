use Rattle.std.proofs.Common.{rules, ◌∙◌, [], ◌∷◌, Result, Ok, Err, refl, sym, ap, subst, arith}
use Rattle.std.specs.Prelude.{OnOk}
use Rattle.std.proofs.lemmas.Result.{on_ok_weaker}
use Rattle.session_lines.specs.Printing.{Printing, with_given_up}
use Rattle.std.specs.Option.{option_copied}
use Rattle.session_lines.specs.Views.{said_view}
use Rattle.session_lines.specs.Well.{RunsWell}
use Rattle.session_lines.proofs.FirstLaws.{runs_first, runs_none}
use Rattle.session_talk.specs.Entries.{Came, Refused, Gave}
use Rattle.session_talk.specs.Prelude.{command_view}
use Rattle.session_talk.proofs.EntryLaws.{on_replied, ran-push, ran-same}
use Rattle.session_talk.proofs.answering.reply.Goals as goal

whenever : {A E : Type 0} (r : Result A E) (fact : Type 0) → fact → OnOk r fact
whenever (Ok x) fact holds = holds
whenever (Err e) fact holds = tt

pub run-requires : goal.run-requires
run-requires g c = record {
  ready = c.requires.ready;
  may =
      let first = sym (ap option_copied c.in-Some.is) ∙ c.first.ensures.value in
      (subst (RunsWell (g.W.Worker.origin c.args.worker.now) (g.W.Worker.holds c.args.worker.now) c.requires.well.0) (ap (said_view c.args.line c.args.commands.now) c.in-Runs.is ∙ runs_first c.args.commands.now c.in-Some.command.now first) c.requires.well.1).0;
  asked =
      let first = sym (ap option_copied c.in-Some.is) ∙ c.first.ensures.value in
      (subst (RunsWell (g.W.Worker.origin c.args.worker.now) (g.W.Worker.holds c.args.worker.now) c.requires.well.0) (ap (said_view c.args.line c.args.commands.now) c.in-Runs.is ∙ runs_first c.args.commands.now c.in-Some.command.now first) c.requires.well.1).1;
}

pub returns-in_ok-outcome-in-Some-clause-answers : goal.returns-in_ok-outcome-in-Some-clause-answers
returns-in_ok-outcome-in-Some-clause-answers g c = record {
  held = λ now well.
      let first = sym (ap option_copied c.in-Some.is) ∙ c.first.ensures.value in
      let runs = subst (RunsWell (g.W.Worker.origin c.args.worker.now) (g.W.Worker.holds c.args.worker.now) now) (ap (said_view c.args.line c.args.commands.now) c.in-Runs.is ∙ runs_first c.args.commands.now c.in-Some.command.now first) well in
      whenever c.push_ran.result _ (c.in_ok-outcome-in-Some.ensures.held ∙ sym runs.2);
  replied = λ o entries h.
      let first = sym (ap option_copied c.in-Some.is) ∙ c.first.ensures.value in
      on_replied c.push_ran.result (g.W.Worker.has_run c.run.new.self o) entries (Came (command_view c.in-Some.command.now) c.in_ok-outcome-in-Some.outcome ∷ []) _ _ _
      (sym (ap (said_view c.args.line c.args.commands.now) c.in-Runs.is ∙ runs_first c.args.commands.now c.in-Some.command.now first))
      (ran-push (g.W.Worker.has_run c.run.new.self o) entries _ _ (c.in_ok-outcome-in-Some.ensures.ran o _ _ h)) c.push_ran.ensures;
}

pub returns-in-None-clause-answers : goal.returns-in-None-clause-answers
returns-in-None-clause-answers g c = record {
  held = λ now well.
      let none = ap (said_view c.args.line c.args.commands.now) c.in-Runs.is ∙ runs_none c.args.commands.now (sym (ap option_copied c.in-None.is) ∙ c.first.ensures.value) in
      sym (subst (RunsWell (g.W.Worker.origin c.args.worker.now) (g.W.Worker.holds c.args.worker.now) now) none well);
  replied = λ o entries h.
      let none = ap (said_view c.args.line c.args.commands.now) c.in-Runs.is ∙ runs_none c.args.commands.now (sym (ap option_copied c.in-None.is) ∙ c.first.ensures.value) in
      record { more = []; same = sym none; ran = ran-same (g.W.Worker.has_run c.args.worker.now o) entries [] refl refl h; printed = refl };
}

pub returns-in-Refuses-clause-answers : goal.returns-in-Refuses-clause-answers
returns-in-Refuses-clause-answers g c = record {
  held = search rules;
  replied = λ o entries h.
      on_replied c.push_refused.result (g.W.Worker.has_run c.args.worker.now o) entries (Refused c.args.line c.in-Refuses.kind ∷ []) _ _ _ (sym (ap (said_view c.args.line c.args.commands.now) c.in-Refuses.is))
      (ran-same (g.W.Worker.has_run c.args.worker.now o) entries _ refl refl h) c.push_refused.ensures;
}

pub returns-in-GivesUp-clause-answers : goal.returns-in-GivesUp-clause-answers
returns-in-GivesUp-clause-answers g c = record {
  held = search rules;
  replied = λ o entries h.
      on_replied c.push_given_up.result (g.W.Worker.has_run c.args.worker.now o) entries (Gave ∷ []) _ _ _ (sym (ap (said_view c.args.line c.args.commands.now) c.in-GivesUp.is))
      (ran-same (g.W.Worker.has_run c.args.worker.now o) entries _ refl refl h) c.push_given_up.ensures;
}

pub returns-in_ok-push_refused-in-RefusesLastWord-clause-answers : goal.returns-in_ok-push_refused-in-RefusesLastWord-clause-answers
returns-in_ok-push_refused-in-RefusesLastWord-clause-answers g c = record {
  held = search rules;
  replied = λ o entries h.
      on_replied c.push_given_up-in-RefusesLastWord.result (g.W.Worker.has_run c.args.worker.now o) entries (Refused c.args.line c.in-RefusesLastWord.kind ∷ Gave ∷ []) _ _ _ (sym (ap (said_view c.args.line c.args.commands.now) c.in-RefusesLastWord.is))
      (ran-same (g.W.Worker.has_run c.args.worker.now o) entries _ refl refl h)
      (on_ok_weaker c.push_given_up-in-RefusesLastWord.result (λ e. e ∙ ap with_given_up c.in_ok-push_refused-in-RefusesLastWord.ensures) c.push_given_up-in-RefusesLastWord.ensures);
}

pub returns-in_ok-outcome-in-Some-clause-goes_on : goal.returns-in_ok-outcome-in-Some-clause-goes_on
returns-in_ok-outcome-in-Some-clause-goes_on g c =
    on_ok_weaker c.push_ran.result (λ e. record { ready = c.in_ok-outcome-in-Some.ensures.ready; origin = c.in_ok-outcome-in-Some.ensures.origin; few = omega (arith, ap (λ (p : Printing). p.next) e) }) c.push_ran.ensures

pub returns-in-Refuses-clause-goes_on : goal.returns-in-Refuses-clause-goes_on
returns-in-Refuses-clause-goes_on g c =
    on_ok_weaker c.push_refused.result (λ e. record { ready = c.requires.ready; origin = refl; few = omega (arith, ap (λ (p : Printing). p.next) e) }) c.push_refused.ensures

pub returns-in-GivesUp-clause-goes_on : goal.returns-in-GivesUp-clause-goes_on
returns-in-GivesUp-clause-goes_on g c =
    on_ok_weaker c.push_given_up.result (λ e. record { ready = c.requires.ready; origin = refl; few = omega (arith, ap (λ (p : Printing). p.next) e) }) c.push_given_up.ensures

pub returns-in_ok-push_refused-in-RefusesLastWord-clause-goes_on : goal.returns-in_ok-push_refused-in-RefusesLastWord-clause-goes_on
returns-in_ok-push_refused-in-RefusesLastWord-clause-goes_on g c =
    on_ok_weaker c.push_given_up-in-RefusesLastWord.result
    (λ e. record { ready = c.requires.ready; origin = refl; few = omega (arith, ap (λ (p : Printing). p.next) e, ap (λ (p : Printing). p.next) c.in_ok-push_refused-in-RefusesLastWord.ensures) }) c.push_given_up-in-RefusesLastWord.ensures
