use Rattle.std.proofs.Common.{◌<◌, arith, get_or}
use Rattle.std.proofs.lemmas.List.{length-map}
use Rattle.zone_model.specs.Lines.{lines_of}
use Rattle.job_report.proofs.ReportLemmas.{if_ok}
use Rattle.report_laws.proofs.VersionLemmas.{lines_are}
use Rattle.zones_script.specs.Told.{AreLists}
use Rattle.zones_script.specs.Views.{worker_view, workers_view}
use Rattle.zones_script.specs.declared.commands.ZonesScript.{ZonesScript}
use Rattle.qp_main.proofs.BlockLemmas.{lists_said}
use Rattle.qp_main.proofs.ReadingLemmas.{octets_of}
use Rattle.qp_main.proofs.reading.zones_script_in.Goals as goal

pub returns-clause-script : goal.returns-clause-script
returns-clause-script c =
    let octets = lines_are c.args.bytes.now (octets_of c.args.bytes.now (λ i. let k : get_or c.args.bytes.now i 0 < 256 = omega (arith, c.type_inv.bytes i) in k)) in
    if_ok c.read_script.result
    (λ (s : ZonesScript) (told : AreLists c.args.origins.now (lines_of c.args.bytes.now) (workers_view s)). record {
      few_workers = omega (arith, told.few, length-map s.workers.items worker_view);
      said = lists_said c.args.origins.now (lines_of c.args.bytes.now) c.requires.origins.names octets (workers_view s) told;
    }) (c.read_script.ensures.told c.requires.first)
