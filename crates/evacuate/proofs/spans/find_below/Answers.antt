use Rattle.std.proofs.Common.{◌∙◌}
use Rattle.evacuate.proofs.DescentLaws.{is_stood_same}
use Rattle.evacuate.proofs.spans.find_below.Goals as goal

pub survey_gap-requires : goal.survey_gap-requires
survey_gap-requires g c = record { stood = is_stood_same (c.reach_below.ensures.cells ∙ c.cell-top.ensures.same) c.reach_below.ensures.usage c.requires.stood }
