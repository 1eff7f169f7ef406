use Rattle.std.proofs.Common.{sym, subst}
use Rattle.evacuate.specs.Fillings.{Fills}
use Rattle.evacuate.proofs.RearrangeLaws.{rearranged_same, rearranged_then, can_again, can_read}
use Rattle.evacuate.proofs.evacuation.empty_listed.Goals as goal

pub survey-requires : goal.survey-requires
survey-requires g c = record { stood = (can_again c.known_lists.ensures.rearranged c.requires).stands }

pub try_lists-requires : goal.try_lists-requires
try_lists-requires g c = can_read c.survey.ensures.cells c.survey.ensures.usage (can_again c.known_lists.ensures.rearranged c.requires)

pub returns-in-None-clause-rearranged : goal.returns-in-None-clause-rearranged
returns-in-None-clause-rearranged g c = rearranged_then c.known_lists.ensures.rearranged (rearranged_then (rearranged_same c.survey.ensures.cells c.survey.ensures.usage c.known_lists.ensures.rearranged.cells.ready) c.try_lists.ensures.rearranged)

pub returns-in-None-clause-ended : goal.returns-in-None-clause-ended
returns-in-None-clause-ended g c =
    let end = c.try_lists.ensures.ended in
    record { whole = end.whole; full = end.full; left = λ e given fills. end.left e given (subst (Fills given) (sym c.survey.ensures.usage) (c.known_lists.ensures.rearranged.cells.moves given fills).fills) }
