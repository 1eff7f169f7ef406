use Rattle.std.proofs.Common.{rules, subst, sym}
use Rattle.command_line.specs.Views.{verb_view}
use Rattle.command_line.specs.declared.invocation.Verb.{Verb}
use Rattle.job_report.specs.Pieces.{pieces_text}
use Rattle.qp_main.specs.Due.{AnswersLines, DueInput, is_streamed}
use Rattle.qp_main.specs.Heard.{HasRun, HeardInput, WhereRun}
use Rattle.qp_main.proofs.HeardLemmas.{run_written}
use Rattle.qp_main.proofs.DueLemmas.{answer_written, due_answer, short_is}
use Rattle.qp_main.proofs.program.serve_input.Goals as goal

pub unreachable-requires : goal.unreachable-requires
unreachable-requires g c = c.requires.whole (subst (λ (v : Verb). AnswersLines (verb_view v)) (sym c.in-Live.is) tt)

pub write_answer-requires : goal.write_answer-requires
write_answer-requires g c =
    let i = c.args.invocation.now in
    let due : DueInput (verb_view c.args.invocation.now.verb) c.args.invocation.now.chunks c.args.invocation.now.origin c.args.bytes.items c.in-Ok.status (pieces_text c.in-Ok.text) = search rules in
    answer_written c.in-Ok.status (due_answer (verb_view i.verb) i.chunks i.origin c.args.bytes.items c.in-Ok.status (pieces_text c.in-Ok.text) due)

pub returns-in-Ok-clause-due : goal.returns-in-Ok-clause-due
returns-in-Ok-clause-due g c =
    record {
      written = search rules;
      cut_short = λ short. record {
        status = c.in-Ok.status;
        text = pieces_text c.in-Ok.text;
        is_due = search rules;
        grew = search (rules, c.write_answer.ensures.front (short_is (is_streamed (verb_view c.args.invocation.now.verb)) c.write_answer.result short c.write_answer.ensures.only.1));
      };
      others = search rules;
    }

pub write_due-requires : goal.write_due-requires
write_due-requires g c =
    let i = c.args.invocation.now in
    let due : DueInput (verb_view c.args.invocation.now.verb) c.args.invocation.now.chunks c.args.invocation.now.origin c.args.bytes.items c.in-Err-Refused.status c.in-Err-Refused.line = search rules in
    answer_written c.in-Err-Refused.status (due_answer (verb_view i.verb) i.chunks i.origin c.args.bytes.items c.in-Err-Refused.status c.in-Err-Refused.line due)

pub returns-in-Err-Refused-clause-due : goal.returns-in-Err-Refused-clause-due
returns-in-Err-Refused-clause-due g c =
    record {
      written = search rules;
      cut_short = λ short. record {
        status = c.in-Err-Refused.status;
        text = c.in-Err-Refused.line;
        is_due = search rules;
        grew = search (rules, c.as_slice.ensures, c.write_due.ensures.front (short_is (is_streamed (verb_view c.args.invocation.now.verb)) c.write_due.result short c.write_due.ensures.only.1));
      };
      others = search rules;
    }

-- ---- what the gate was told of

pub returns-in-Ok-clause-heard : goal.returns-in-Ok-clause-heard
returns-in-Ok-clause-heard g c = λ ran.
    let i = c.args.invocation.now in
    let told : WhereRun (HeardInput (g.G.Gate.hears c.args.gate.now) (verb_view c.args.invocation.now.verb) c.args.invocation.now.origin c.args.bytes.items) c.in-Ok.status (pieces_text c.in-Ok.text) = search rules in
    told (subst HasRun (c.write_answer.ensures.whole (run_written c.write_answer.result ran)).0 ran)

pub returns-in-Err-Refused-clause-heard : goal.returns-in-Err-Refused-clause-heard
returns-in-Err-Refused-clause-heard g c = λ ran.
    let i = c.args.invocation.now in
    let told : WhereRun (HeardInput (g.G.Gate.hears c.args.gate.now) (verb_view c.args.invocation.now.verb) c.args.invocation.now.origin c.args.bytes.items) c.in-Err-Refused.status c.in-Err-Refused.line = search rules in
    told (subst HasRun (c.write_due.ensures.whole (run_written c.write_due.result ran)).0 ran)
