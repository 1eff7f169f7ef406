use Rattle.report_laws.proofs.ScriptLemmas.{scripts_ask, lists_ask}
use Rattle.report_laws.proofs.scripts_say_operations.Goals as goal

pub returns : goal.returns
returns c = record { workers = scripts_ask; one_list = lists_ask }
