use Rattle.evacuate.proofs.DescentLaws.{is_stood_same}
use Rattle.evacuate.proofs.surveys.survey_gaps.Goals as goal

pub survey_gap-requires : goal.survey_gap-requires
survey_gap-requires g c = record { stood = is_stood_same c.loop-turn.invariant.cells c.loop-turn.invariant.usage c.requires.stood }
