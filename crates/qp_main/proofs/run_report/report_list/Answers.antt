use Rattle.std.proofs.Common.{◌≡◌, ◌∙◌, ℕ, IfOk, List, Ok, [], ap, arith, length, map, rules, subst, sym, vec_len}
use Rattle.std.proofs.lemmas.List.{length-map, nil_from_length}
use Rattle.job_model.specs.Commands.{Command}
use Rattle.job_report.specs.Pieces.{pieces_text}
use Rattle.job_script.specs.Views.{command_view, list_view}
use Rattle.feed_threads.specs.Feeds.{AllFedHeard}
use Rattle.feed_threads.specs.Zones.{FedHeardOn, FedRanOn}
use Rattle.feed_threads.specs.declared.zone.FedRan.TheVariants as fed
use Rattle.qp_main.specs.Due.{FedAnswers, IsAnswerDue}
use Rattle.qp_main.specs.Heard.{ListHeard, WhereRun}
use Rattle.qp_main.specs.Jobs.{fed_job_on}
use Rattle.qp_main.proofs.HeardLemmas.{list_heard, none_heard}
use Rattle.qp_main.proofs.ReportingLemmas.{list_told}
use Rattle.qp_main.proofs.run_report.report_list.Goals as goal

pub returns-in_ok-text-in-Finished-clause-told : goal.returns-in_ok-text-in-Finished-clause-told
returns-in_ok-text-in-Finished-clause-told g c = λ zone workers stands dumped same.
    let i = c.args.invocation.now in
    let commands = list_view c.args.commands.now in
    let f = c.in-Finished.finished in
    let r : FedRanOn i.chunks c.args.crew i.origin zone commands (fed.Finished f) = search (rules, c.in_ok-finished.ensures.ran zone stands) in
    list_told workers i.chunks i.origin zone commands f (pieces_text c.in_ok-text-in-Finished.text) c.any_fed_refused.result c.status_of-status.result
    (subst (λ (n : ℕ). FedRanOn i.chunks n i.origin zone commands (fed.Finished f)) (sym (same (search rules))) r)
    (search (rules, c.in_ok-text-in-Finished.ensures))
    (search (rules, c.any_fed_refused.ensures))
    c.status_of-status.ensures (record { zone = dumped; commands = c.requires.can.said })

pub returns-then-is_empty-clause-told : goal.returns-then-is_empty-clause-told
returns-then-is_empty-clause-told g c = λ zone workers stands dumped same.
    let i = c.args.invocation.now in
    let empty : vec_len c.args.commands.now ≡ 0 = search rules in
    let held = c.args.commands.now.ok.0 in
    let none : [] ≡ list_view c.args.commands.now = sym (ap (map command_view) (nil_from_length c.args.commands.now.items (omega arith))) in
    subst (λ (cs : List Command). IfOk c.report_none.result (IsAnswerDue (FedAnswers workers i.chunks (Ok (fed_job_on i.origin zone cs))))) none (c.report_none.ensures zone workers stands)

pub returns-in_ok-text-in-Finished-clause-heard : goal.returns-in_ok-text-in-Finished-clause-heard
returns-in_ok-text-in-Finished-clause-heard g c = λ has_run.
    let hears = g.G.Gate.hears c.args.gate.now in
    let f = c.in-Finished.finished in
    let told : FedHeardOn hears c.args.crew (length c.args.commands.now.items) (fed.Finished f) = search (rules, c.in_ok-finished.ensures.heard) in
    list_heard hears c.args.crew (length (list_view c.args.commands.now)) f.outcomes.items (subst (λ n. AllFedHeard hears c.args.crew n f.outcomes.items) (sym (length-map c.args.commands.now.items command_view)) told)

pub returns-then-is_empty-clause-heard : goal.returns-then-is_empty-clause-heard
returns-then-is_empty-clause-heard g c =
    let hears = g.G.Gate.hears c.args.gate.now in
    let empty : vec_len c.args.commands.now ≡ 0 = search rules in
    let held = c.args.commands.now.ok.0 in
    let none : length (list_view c.args.commands.now) ≡ 0 = length-map c.args.commands.now.items command_view ∙ omega arith in
    subst (λ (n : ℕ). IfOk c.report_none.result (IsAnswerDue (WhereRun (ListHeard hears c.args.crew n)))) (sym none) (none_heard hears c.args.crew c.report_none.result)
