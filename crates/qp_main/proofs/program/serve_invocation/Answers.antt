use Rattle.std.proofs.Common.{rules, ℕ, List, [], Option, Some, sym, subst}
use Rattle.zone_model.specs.Names.{Name}
use Rattle.command_line.specs.Views.{invocation_view, verb_view}
use Rattle.command_line.specs.declared.invocation.Verb.{Verb}
use Rattle.qp_main.specs.Due.{AnswersLines, CutShort, Due, MakesInput, Written, is_streamed}
use Rattle.qp_main.specs.Heard.{Heard}
use Rattle.qp_main.specs.Sessions.{SaysOf, SessionRan}
use Rattle.qp_main.proofs.DueLemmas.{short_is}
use Rattle.qp_main.proofs.GivenLemmas.{unread_given}
use Rattle.qp_main.proofs.SessionLemmas.{by_sink, ran_given, ran_short, ran_written, some_not_none, unheard, unsaid}
use Rattle.qp_main.proofs.program.serve_invocation.Goals as goal

-- A load's text is made, and nothing is read.

pub returns-in-Make-clause-due : goal.returns-in-Make-clause-due
returns-in-Make-clause-due g c = record {
  written = search rules;
  given = λ w. unread_given _ _ _ _ (λ reads. reads.0 (subst (λ (v : Verb). MakesInput (verb_view v)) (sym c.in-Make.is) tt)) (c.serve_made.ensures.due.written (Some []) w);
}

pub returns-in-Make-clause-ends : goal.returns-in-Make-clause-ends
returns-in-Make-clause-ends g c = record {
  short = record {
    cut_short = search rules;
    given_short = λ short some. unread_given _ _ _ _ (λ reads. reads.0 (subst (λ (v : Verb). MakesInput (verb_view v)) (sym c.in-Make.is) tt)) (c.serve_made.ensures.due.cut_short (Some []) (short_is (is_streamed (verb_view c.args.invocation.now.verb)) c.serve_made.result short (λ e. some (c.serve_made.ensures.due.unwritten e))));
  };
  sink = search rules;
  source = search rules;
  unwritten = search rules;
  unread = λ none. absurd (some_not_none _ none);
  words = search rules;
  made = search rules;
  load = search rules;
  taken = search rules;
}

pub returns-in-Make-clause-heard : goal.returns-in-Make-clause-heard
returns-in-Make-clause-heard g c = λ ran. unread_given _ _ _ _ (λ reads. reads.0 (subst (λ (v : Verb). MakesInput (verb_view v)) (sym c.in-Make.is) tt)) (c.serve_made.ensures.heard (Some []) ran)

-- ---- a session has no input that is read before its answers

pub returns-in-Live-clause-due : goal.returns-in-Live-clause-due
returns-in-Live-clause-due g c = record {
  written = λ w.
      let i = invocation_view c.args.invocation.now in
      let lines = subst (λ (v : Verb). AnswersLines (verb_view v)) (sym c.in-Live.is) tt in
      let left = g.S.Source.left c.args.source.now in
      ran_written _ _ _ _ _ _ _ _ c.serve_session.ensures.ran (Due (Some i) left) (λ text. unsaid i lines left c.serve_session.result text) w;
  given = λ w.
      let i = invocation_view c.args.invocation.now in
      let lines = subst (λ (v : Verb). AnswersLines (verb_view v)) (sym c.in-Live.is) tt in
      ran_given _ _ _ _ _ _ _ _ c.serve_session.ensures.ran i lines (λ (left : Option (List ℕ)). Written (Due (Some i) left) (g.K.Sink.held c.args.sink.now) (g.K.Sink.held c.serve_session.new.sink) c.serve_session.result)
      (λ left. ran_written _ _ _ _ _ _ _ _ c.serve_session.ensures.ran (Due (Some i) left) (λ text. unsaid i lines left c.serve_session.result text) w);
}

pub returns-in-Live-clause-ends : goal.returns-in-Live-clause-ends
returns-in-Live-clause-ends g c = record {
  short = record {
    cut_short = λ short.
        let i = invocation_view c.args.invocation.now in
        let lines = subst (λ (v : Verb). AnswersLines (verb_view v)) (sym c.in-Live.is) tt in
        let left = g.S.Source.left c.args.source.now in
        ran_short _ _ _ _ _ _ _ _ c.serve_session.ensures.ran (Due (Some i) left) (λ s text. unsaid i lines left s text) (by_sink i.verb c.serve_session.result lines short);
    given_short = λ short some.
        let i = invocation_view c.args.invocation.now in
        let lines = subst (λ (v : Verb). AnswersLines (verb_view v)) (sym c.in-Live.is) tt in
        ran_given _ _ _ _ _ _ _ _ c.serve_session.ensures.ran i lines (λ (left : Option (List ℕ)). CutShort (Due (Some i) left) (g.K.Sink.held c.args.sink.now) (g.K.Sink.held c.serve_session.new.sink))
        (λ left. ran_short _ _ _ _ _ _ _ _ c.serve_session.ensures.ran (Due (Some i) left) (λ s text. unsaid i lines left s text) (by_sink i.verb c.serve_session.result lines short));
  };
  sink = search rules;
  source = search rules;
  unwritten = λ other. absurd (other (subst (λ (v : Verb). AnswersLines (verb_view v)) (sym c.in-Live.is) tt));
  unread = λ none. absurd (some_not_none _ none);
  words = search rules;
  made = search rules;
  load = search rules;
  taken = λ other. absurd (other (subst (λ (v : Verb). AnswersLines (verb_view v)) (sym c.in-Live.is) tt));
}

pub returns-in-Live-clause-heard : goal.returns-in-Live-clause-heard
returns-in-Live-clause-heard g c = λ ran.
    let i = invocation_view c.args.invocation.now in
    let lines = subst (λ (v : Verb). AnswersLines (verb_view v)) (sym c.in-Live.is) tt in
    let hears = g.G.Gate.hears c.args.gate.now in
    ran_given _ _ _ _ _ _ _ _ c.serve_session.ensures.ran i lines (λ (left : Option (List ℕ)). Heard hears (Some i) left) (λ left. unheard hears i lines left)

pub returns-in-Live-clause-session : goal.returns-in-Live-clause-session
returns-in-Live-clause-session g c =
    subst (λ (v : Verb). SaysOf (verb_view v) c.args.invocation.now.origin (λ (asked : Option ℕ) (origin : Name). SessionRan asked origin (g.S.Source.given c.args.source.now) (g.S.Source.given c.serve_session.new.source) (g.S.Source.ended c.serve_session.new.source) (g.K.Sink.held c.args.sink.now) (g.K.Sink.held c.serve_session.new.sink) c.serve_session.result)) (sym c.in-Live.is) c.serve_session.ensures.ran
