use Rattle.std.proofs.Common.{rules}
use Rattle.zone_model.specs.MasterFile.{zone_of}
use Rattle.job_model.specs.Jobs.{zone_lines}
use Rattle.live_session.proofs.ReadingLaws.{entries_rise}
use Rattle.qp_main.proofs.StopLemmas.{check_stops}
use Rattle.qp_main.proofs.program.check_zone.Goals as goal

pub zone_size-requires : goal.zone_size-requires
zone_size-requires c = entries_rise c.args.invocation.now.origin c.in_ok-zone.zone.pairs c.in_ok-zone.ensures.of_origin

pub returns-in_err-zone-clause-stops : goal.returns-in_err-zone-clause-stops
returns-in_err-zone-clause-stops c =
    let i = c.args.invocation.now in
    let told = check_stops i.chunks (zone_of i.origin (zone_lines c.args.input)) _ c.in_err-zone.ensures.stops in search (rules, told)
