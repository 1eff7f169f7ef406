use Rattle.std.proofs.Common.{rules}
use Rattle.zone_model.specs.Lines.{lines_of}
use Rattle.job_model.specs.Jobs as jobs
use Rattle.job_script.specs.Scripts.{Says}
use Rattle.job_script.specs.Views.{job_view}
use Rattle.job_script.proofs.ScriptLemmas.{read_turn, read_few}
use Rattle.job_script.proofs.script.read_job.Goals as goal

pub returns-clause-in_turn : goal.returns-clause-in_turn
unfolding jobs.script_of
returns-clause-in_turn c =
    let reads : Says c.finished.result job_view (jobs.script_of c.args.origin.now c.args.first_line (lines_of c.args.bytes.now)) = search rules in
    read_turn c.args.origin.now c.args.first_line (lines_of c.args.bytes.now) c.finished.result reads

pub returns-clause-few_workers : goal.returns-clause-few_workers
unfolding jobs.script_of
returns-clause-few_workers c =
    let reads : Says c.finished.result job_view (jobs.script_of c.args.origin.now c.args.first_line (lines_of c.args.bytes.now)) = search rules in
    read_few c.args.origin.now c.args.first_line (lines_of c.args.bytes.now) c.finished.result reads
