use Rattle.std.proofs.Common.{subst}
use Rattle.std.specs.Prelude.{IfOk}
use Rattle.job_script.specs.Views.{command_view}
use Rattle.job_commands.specs.Steps.{Step}
use Rattle.job_commands.proofs.ShowLaws.{seat_told}
use Rattle.job_commands.proofs.SittingLaws.{sits_on}
use Rattle.job_commands.proofs.WorkerPassesLaws.{if_both}
use Rattle.job_threads.specs.Passes.{worker_passes_of}
use Rattle.job_threads.proofs.sitting.run_next.Goals as goal

pub returns-clause-sits : goal.returns-clause-sits
returns-clause-sits g c = λ s commands os index w.
    let was = worker_passes_of c.args.passes.now in
    let now = worker_passes_of c.run_command.new.passes in
    let steps = subst (λ command. IfOk c.run_command.result (λ o. Step s (command_view command) o was now)) c.new-entered.ensures
    (c.run_command.ensures.steps s (record { index = index; opening = w.work.ran.work.opened }) w.work.under) in
    let told = seat_told c.args.passes.now.asks.seat c.requires.can.at.here in
    if_both c.run_command.result (λ o step same. sits_on s was now commands os (command_view c.args.command.now) o told c.requires.may w step) steps steps
