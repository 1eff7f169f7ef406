-- The exit status of each way to end.
use Rattle.std.specs.Prelude.{ℕ}
use Rattle.qp_main.specs.declared.status.Status.{Status}
use Rattle.qp_main.specs.declared.status.Status.TheVariants.{Done, SomeRefused, WordsRefused, ZoneRefused, ScriptRefused, SourceFault, SinkFault, NoMemory, TooLong, DoesNotFit, Differ}

abbrev pub code_of : Status → ℕ
code_of Done = 0
code_of SomeRefused = 1
code_of WordsRefused = 2
code_of ZoneRefused = 3
code_of ScriptRefused = 4
code_of SourceFault = 5
code_of SinkFault = 6
code_of NoMemory = 7
code_of TooLong = 8
code_of DoesNotFit = 9
code_of Differ = 1
