use Rattle.zone_model.specs.Lines.{lines_of}
use Rattle.qp_main.proofs.DueLemmas.{script_stopped}
use Rattle.qp_main.proofs.input.Input.refuse.Goals as goal

pub returns : goal.returns
returns c =
    script_stopped c.args.origin.now c.args.self.now (lines_of c.zone_bytes.result.now) c.read_zone.result (record { line = c.args.line; kind = c.args.kind }) c.script_stop.result c.zone_bytes.ensures.lines c.read_zone.ensures.zone c.script_stop.ensures
