use Rattle.zone_model.specs.Lines.{lines_of}
use Rattle.job_model.specs.Jobs.{zone_lines}
use Rattle.qp_main.proofs.StopLemmas.{zone_is_refused}
use Rattle.qp_main.proofs.input.Input.zone.Goals as goal

pub returns-in-Err-clause-stops : goal.returns-in-Err-clause-stops
returns-in-Err-clause-stops c =
    zone_is_refused c.args.origin.now (lines_of c.zone_bytes.result.now) (zone_lines c.args.self.now) c.in-Err.refusal c.zone_stop.result c.zone_bytes.ensures.lines c.in-Err.ensures.zone c.zone_stop.ensures
