-- Why a session ends, by why no more is taken.
use Rattle.session_lines.specs.declared.intake.NoMore.{NoMore}
use Rattle.session_lines.specs.declared.intake.NoMore.TheVariants as no_more
use Rattle.session_talk.specs.declared.serving.Stop.{Stop}
use Rattle.session_talk.specs.declared.serving.Stop.TheVariants as stop

abbrev pub stop_of : NoMore → Stop
stop_of no_more.Fault = stop.Fault
stop_of no_more.TooLong = stop.TooLong
stop_of no_more.Memory = stop.Memory
