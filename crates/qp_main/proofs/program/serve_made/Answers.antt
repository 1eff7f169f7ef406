use Rattle.std.proofs.Common.{rules, ℕ, List, Option, Some, subst, sym}
use Rattle.job_make.specs.Views.{load_view}
use Rattle.command_line.specs.Views.{invocation_view, verb_view}
use Rattle.qp_main.specs.Due.{AnswersLines, Due, DueInput, MayBeShort, is_streamed}
use Rattle.qp_main.specs.Serving.{IsInput}
use Rattle.qp_main.specs.declared.status.Status.{Status}
use Rattle.qp_main.proofs.DueLemmas.{cut_as, load_answer, load_ended, made_due, written_as}
use Rattle.qp_main.proofs.HeardLemmas.{made_heard}
use Rattle.qp_main.proofs.program.serve_made.Goals as goal

pub serve_input-requires : goal.serve_input-requires
serve_input-requires g c =
    let input : IsInput (verb_view c.args.invocation.now.verb) c.in-Ok.bytes.items = record {
      short = search rules;
      whole = λ (a : AnswersLines (verb_view c.args.invocation.now.verb)). subst AnswersLines c.requires.made a;
    } in
    search (rules, input)

pub returns-clause-due : goal.returns-clause-due
returns-clause-due g c =
    let i = invocation_view c.args.invocation.now in
    let due = λ (left : Option (List ℕ)) (s : Status) (text : List ℕ). made_due i (load_view c.args.load.now) c.in-Ok.bytes.items s text left c.requires.made c.in-Ok.ensures.text c.in-Ok.ensures.short in
    record {
      written = λ left w. written_as (DueInput i.verb i.chunks i.origin c.in-Ok.bytes.items) (Due (Some i) left) _ _ c.serve_input.result (due left) (c.serve_input.ensures.due.written w);
      cut_short = λ left failed.
          cut_as (DueInput i.verb i.chunks i.origin c.in-Ok.bytes.items) (Due (Some i) left) _ _ (due left) (c.serve_input.ensures.due.cut_short (subst (MayBeShort (is_streamed i.verb)) (sym failed) tt));
      unwritten = search rules;
    }

pub returns-clause-load : goal.returns-clause-load
returns-clause-load g c =
    let i = c.args.invocation.now in
    load_ended c.serve_input.result
    (λ w.
    let d = c.serve_input.ensures.due.written w in
    load_answer (load_view c.args.load.now) (verb_view i.verb) i.chunks i.origin c.in-Ok.bytes.items c.in-Ok.ensures.job.0 c.serve_input.result d.text c.requires.made c.requires.under c.in-Ok.ensures.job.1 d.is_due)
    c.serve_input.ensures.due.others

pub returns-clause-heard : goal.returns-clause-heard
returns-clause-heard g c left = λ ran.
    let i = invocation_view c.args.invocation.now in
    made_heard (g.G.Gate.hears c.args.gate.now) i (load_view c.args.load.now) c.in-Ok.bytes.items left c.requires.made c.in-Ok.ensures.text (c.serve_input.ensures.heard ran)
