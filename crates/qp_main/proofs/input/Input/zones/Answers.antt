use Rattle.std.proofs.Common.{Global, Vec}
use Rattle.master_file.specs.declared.zones.Zone.{Zone}
use Rattle.zone_model.specs.Lines.{lines_of}
use Rattle.job_model.specs.Jobs.{zone_lines}
use Rattle.qp_main.proofs.SeveralLemmas.{list_is_refused}
use Rattle.qp_main.proofs.input.Input.zones.Goals as goal

pub returns-in-Err-clause-stops : goal.returns-in-Err-clause-stops
returns-in-Err-clause-stops c =
    list_is_refused {R = Vec Zone Global} (λ v. v.items) (lines_of c.zone_bytes.result.now) (zone_lines c.args.self.now) c.in-Err.refusal c.zone_stop.result c.zone_bytes.ensures.lines c.in-Err.ensures.zones c.zone_stop.ensures
