use Rattle.zone_model.specs.Lines.{lines_of}
use Rattle.job_model.specs.Jobs.{script_lines, script_start}
use Rattle.qp_main.proofs.StopLemmas.{zone_from_is_refused}
use Rattle.qp_main.proofs.input.Input.second_zone.Goals as goal

pub returns-in-Err-clause-stops : goal.returns-in-Err-clause-stops
returns-in-Err-clause-stops c =
    zone_from_is_refused c.first_line.result (script_start c.args.self.now) c.args.origin.now (lines_of c.script_bytes.result.now) (script_lines c.args.self.now) c.in-Err.refusal c.zone_stop.result c.first_line.ensures.first c.script_bytes.ensures.lines c.in-Err.ensures.zone c.zone_stop.ensures
