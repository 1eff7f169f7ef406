use Rattle.std.proofs.Common.{rules}
use Rattle.zone_model.specs.Lines.{lines_of}
use Rattle.job_script.specs.Scripts.{Says}
use Rattle.zones_script.specs.Scripts as zones
use Rattle.zones_script.specs.Views.{workers_view}
use Rattle.zones_script.proofs.ReadLemmas.{read_told}
use Rattle.zones_script.proofs.script.read_script.Goals as goal

pub returns-clause-told : goal.returns-clause-told
unfolding zones.script_of
returns-clause-told c = λ first.
    let reads : Says c.finished.result workers_view (zones.script_of c.args.origins.now c.args.first_line (lines_of c.args.bytes.now)) = search rules in
    read_told c.args.origins.now c.args.first_line (lines_of c.args.bytes.now) c.finished.result reads first
