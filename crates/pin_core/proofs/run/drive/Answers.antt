use Rattle.pin_core.specs.Runs.{EveryRunHolds}
use Rattle.pin_core.proofs.Histories.{always_sound, each_reads_its_version, rounds_keep_few, no_pass_goes_back}
use Rattle.pin_core.proofs.run.drive.Goals as goal

every_run : EveryRunHolds
every_run = record { sound = always_sound; reads = each_reads_its_version; rounds = rounds_keep_few; forward = no_pass_goes_back }

pub returns-in_err-state-clause-every_run : goal.returns-in_err-state-clause-every_run
returns-in_err-state-clause-every_run c = every_run

pub returns-clause-every_run : goal.returns-clause-every_run
returns-clause-every_run c = every_run
