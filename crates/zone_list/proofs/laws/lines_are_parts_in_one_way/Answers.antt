use Rattle.zone_list.proofs.PartLemmas.{parts_whole, parts_only}
use Rattle.zone_list.proofs.laws.lines_are_parts_in_one_way.Goals as goal

pub returns-clause-all : goal.returns-clause-all
returns-clause-all c = parts_whole

pub returns-clause-only : goal.returns-clause-only
returns-clause-only c = parts_only
