use Rattle.std.proofs.Common.{◌≡◌, ◌∙◌, length, rules}
use Rattle.job_model.specs.Jobs.{job_of}
use Rattle.job_script.specs.Views.{job_view, worker_view}
use Rattle.std.proofs.lemmas.List.{length-map}
use Rattle.qp_main.proofs.DueLemmas.{job_sizes}
use Rattle.live_session.proofs.ReadingLaws.{entries_rise}
use Rattle.qp_main.proofs.StopLemmas.{job_zone_stops, sizes_stop}
use Rattle.qp_main.proofs.needs.size_job.Goals as goal

pub zone_size-requires : goal.zone_size-requires
zone_size-requires c = entries_rise c.args.invocation.now.origin c.in_ok-zone.zone.pairs c.in_ok-zone.ensures.of_origin

pub returns-clause-told : goal.returns-clause-told
returns-clause-told c =
    let i = c.args.invocation.now in
    let job = c.in_ok-job.job in
    let workers : length job.workers.items ≡ c.len.result = search rules in
    job_sizes i.origin c.args.input c.in_ok-zone.zone.pairs (job_view job) c.in_ok-zone.ensures.zone c.in_ok-job.ensures.script _ _
    (c.in_ok-answer.ensures (record { origin = i.origin; zone = c.in_ok-zone.zone.pairs; workers = job_view job }) c.in_ok-size.ensures (length-map job.workers.items worker_view ∙ workers) (c.in_ok-needs.ensures.cells, c.in_ok-needs.ensures.operations))

pub returns-in_err-job-clause-stops : goal.returns-in_err-job-clause-stops
returns-in_err-job-clause-stops c =
    let told = sizes_stop (job_of c.args.invocation.now.origin c.args.input) _ c.in_err-job.ensures.stops in search (rules, told)

pub returns-in_err-zone-clause-stops : goal.returns-in_err-zone-clause-stops
returns-in_err-zone-clause-stops c =
    let i = c.args.invocation.now in
    let told = sizes_stop (job_of i.origin c.args.input) _ (job_zone_stops i.origin c.args.input _ c.in_err-zone.ensures.stops) in search (rules, told)
