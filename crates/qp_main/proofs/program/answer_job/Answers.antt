use Rattle.std.proofs.Common.{rules}
use Rattle.zone_model.specs.MasterFile.{zone_of}
use Rattle.job_model.specs.Jobs.{job_of, zone_lines}
use Rattle.job_script.specs.Views.{job_view}
use Rattle.job_commands.specs.Histories.{StandsAs}
use Rattle.trie_write.specs.Entries.{entries_of_items}
use Rattle.qp_main.proofs.DueLemmas.{job_answers}
use Rattle.qp_main.specs.Heard.{JobHeard}
use Rattle.qp_main.proofs.HeardLemmas.{job_heard, job_unrun, zone_unrun}
use Rattle.qp_main.proofs.StopLemmas.{answers_stop, job_zone_stops}
use Rattle.qp_main.proofs.program.answer_job.Goals as goal

pub report_job-requires-clause-can : goal.report_job-requires-clause-can
report_job-requires-clause-can g c = λ κs bounds. record {
  passes = search rules;
  zone = record { version = c.in_ok-zone.zone.pairs; stands = search (rules, c.in_ok-items.ensures, c.deref.ensures.value); zone = c.in_ok-zone.ensures.of_origin };
  in_turn = search rules;
  said = search rules;
}

pub returns-clause-told : goal.returns-clause-told
returns-clause-told g c =
    let i = c.args.invocation.now in
    let stands : StandsAs (entries_of_items c.deref.result.now) c.in_ok-zone.zone.pairs = search (rules, c.in_ok-items.ensures, c.deref.ensures.value) in
    job_answers c.args.telling i.chunks i.origin c.args.input c.in_ok-zone.zone.pairs (job_view c.in_ok-job.job) c.in_ok-zone.ensures.zone c.in_ok-job.ensures.script _ _ (c.in_ok-answer.ensures.told c.in_ok-zone.zone.pairs stands c.in_ok-zone.ensures.of_origin)

pub returns-in_err-job-clause-stops : goal.returns-in_err-job-clause-stops
returns-in_err-job-clause-stops g c =
    let i = c.args.invocation.now in
    let told = answers_stop c.args.telling i.chunks (job_of i.origin c.args.input) _ c.in_err-job.ensures.stops in search (rules, told)

pub returns-in_err-zone-clause-stops : goal.returns-in_err-zone-clause-stops
returns-in_err-zone-clause-stops g c =
    let i = c.args.invocation.now in
    let told = answers_stop c.args.telling i.chunks (job_of i.origin c.args.input) _ (job_zone_stops i.origin c.args.input _ c.in_err-zone.ensures.stops) in search (rules, told)

-- ---- what the gate was told of

pub returns-clause-heard : goal.returns-clause-heard
returns-clause-heard g c = λ ran.
    let hears = g.G.Gate.hears c.args.gate.now in
    job_heard hears c.args.invocation.now.origin c.args.input c.in_ok-zone.zone.pairs (job_view c.in_ok-job.job) c.in_ok-zone.ensures.zone c.in_ok-job.ensures.script (c.in_ok-answer.ensures.heard ran)

pub returns-in_err-job-clause-unheard : goal.returns-in_err-job-clause-unheard
returns-in_err-job-clause-unheard g c =
    let origin = c.args.invocation.now.origin in
    let told = job_unrun (JobHeard (g.G.Gate.hears c.args.gate.now) (job_of origin c.args.input)) (job_of origin c.args.input) _ c.in_err-job.ensures.stops in search (rules, told)

pub returns-in_err-zone-clause-unheard : goal.returns-in_err-zone-clause-unheard
returns-in_err-zone-clause-unheard g c =
    let origin = c.args.invocation.now.origin in
    let told = zone_unrun (JobHeard (g.G.Gate.hears c.args.gate.now) (job_of origin c.args.input)) (zone_of origin (zone_lines c.args.input)) _ c.in_err-zone.ensures.stops in search (rules, told)
