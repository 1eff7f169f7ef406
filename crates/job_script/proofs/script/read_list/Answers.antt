use Rattle.std.proofs.Common.{rules}
use Rattle.zone_model.specs.Lines.{lines_of}
use Rattle.job_model.specs.Jobs as jobs
use Rattle.job_script.specs.Scripts.{Says}
use Rattle.job_script.specs.Views.{list_view}
use Rattle.job_script.proofs.ScriptLemmas.{read_list_plain, read_list_few}
use Rattle.job_script.proofs.script.read_list.Goals as goal

pub returns-in-Ok-clause-no_snapshots : goal.returns-in-Ok-clause-no_snapshots
unfolding jobs.list_of
returns-in-Ok-clause-no_snapshots c =
    let reads : Says c.list_finished.result list_view (jobs.list_of c.args.origin.now c.args.first_line (lines_of c.args.bytes.now)) = search rules in
    read_list_plain c.args.origin.now c.args.first_line (lines_of c.args.bytes.now) c.list_finished.result reads

pub returns-in-Ok-clause-few_commands : goal.returns-in-Ok-clause-few_commands
unfolding jobs.list_of
returns-in-Ok-clause-few_commands c =
    let reads : Says c.list_finished.result list_view (jobs.list_of c.args.origin.now c.args.first_line (lines_of c.args.bytes.now)) = search rules in
    read_list_few c.args.origin.now c.args.first_line (lines_of c.args.bytes.now) c.list_finished.result reads
