use Rattle.std.proofs.Common.{rules, ◌≤◌, length}
use Rattle.zone_model.specs.MasterFile.{zone_of}
use Rattle.job_model.specs.Jobs.{fed_job_of, zone_lines}
use Rattle.job_script.specs.Views.{list_view}
use Rattle.job_commands.specs.Histories.{StandsAs}
use Rattle.trie_write.specs.Entries.{entries_of_items}
use Rattle.qp_main.proofs.DueLemmas.{list_answers}
use Rattle.qp_main.specs.Heard.{FedJobHeard}
use Rattle.qp_main.proofs.HeardLemmas.{fed_job_heard, heard_by_more, job_unrun, zone_unrun}
use Rattle.qp_main.proofs.StopLemmas.{fed_answers_stop, fed_zone_stops}
use Rattle.qp_main.proofs.feeding.answer_list.Goals as goal

pub report_list-requires-clause-can : goal.report_list-requires-clause-can
report_list-requires-clause-can g c = λ κs bounds. record {
  passes = search rules;
  zone = record { version = c.in_ok-zone.zone.pairs; stands = search (rules, c.in_ok-items.ensures, c.deref.ensures.value); zone = c.in_ok-zone.ensures.of_origin };
  workers = search rules;
  count = search rules;
  no_snapshots = search rules;
  said = search rules;
}

pub returns-clause-told : goal.returns-clause-told
returns-clause-told g c =
    let i = c.args.invocation.now in
    let stands : StandsAs (entries_of_items c.deref.result.now) c.in_ok-zone.zone.pairs = search (rules, c.in_ok-items.ensures, c.deref.ensures.value) in
    list_answers c.args.workers i.chunks i.origin c.args.input c.in_ok-zone.zone.pairs (list_view c.in_ok-commands.commands) c.in_ok-zone.ensures.zone c.in_ok-commands.ensures.list _ _ (c.in_ok-answer.ensures.told c.in_ok-zone.zone.pairs c.args.workers stands c.in_ok-zone.ensures.of_origin (search rules))

pub returns-in_err-commands-clause-stops : goal.returns-in_err-commands-clause-stops
returns-in_err-commands-clause-stops g c =
    let i = c.args.invocation.now in
    let told = fed_answers_stop c.args.workers i.chunks (fed_job_of i.origin c.args.input) _ c.in_err-commands.ensures.stops in search (rules, told)

pub returns-in_err-zone-clause-stops : goal.returns-in_err-zone-clause-stops
returns-in_err-zone-clause-stops g c =
    let i = c.args.invocation.now in
    let told = fed_answers_stop c.args.workers i.chunks (fed_job_of i.origin c.args.input) _ (fed_zone_stops i.origin c.args.input _ c.in_err-zone.ensures.stops) in search (rules, told)

-- ---- what the gate was told of

pub returns-clause-heard : goal.returns-clause-heard
returns-clause-heard g c = λ ran.
    let hears = g.G.Gate.hears c.args.gate.now in
    let commands = list_view c.in_ok-commands.commands in
    let few : c.if-is_empty.crew ≤ c.args.workers = search rules in
    fed_job_heard hears c.args.workers c.args.invocation.now.origin c.args.input c.in_ok-zone.zone.pairs commands c.in_ok-zone.ensures.zone c.in_ok-commands.ensures.list
    (heard_by_more hears c.if-is_empty.crew c.args.workers (length commands) few (c.in_ok-answer.ensures.heard ran))

pub returns-in_err-commands-clause-unheard : goal.returns-in_err-commands-clause-unheard
returns-in_err-commands-clause-unheard g c =
    let origin = c.args.invocation.now.origin in
    let told = job_unrun (FedJobHeard (g.G.Gate.hears c.args.gate.now) c.args.workers (fed_job_of origin c.args.input)) (fed_job_of origin c.args.input) _ c.in_err-commands.ensures.stops in search (rules, told)

pub returns-in_err-zone-clause-unheard : goal.returns-in_err-zone-clause-unheard
returns-in_err-zone-clause-unheard g c =
    let origin = c.args.invocation.now.origin in
    let told = zone_unrun (FedJobHeard (g.G.Gate.hears c.args.gate.now) c.args.workers (fed_job_of origin c.args.input)) (zone_of origin (zone_lines c.args.input)) _ c.in_err-zone.ensures.stops in search (rules, told)
