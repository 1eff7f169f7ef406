use Rattle.std.proofs.Common.{subst, sym}
use Rattle.evacuate.specs.Fillings.{Fills}
use Rattle.evacuate.proofs.RearrangeLaws.{can_read, rearranged_same, rearranged_then}
use Rattle.evacuate.proofs.evacuation.known_lists.Goals as goal

pub is_still_lacking-requires : goal.is_still_lacking-requires
is_still_lacking-requires g c = record { stood = c.requires.stands }

pub returns-then-is_still_lacking-clause-rearranged : goal.returns-then-is_still_lacking-clause-rearranged
returns-then-is_still_lacking-clause-rearranged g c = rearranged_same c.is_still_lacking.ensures.cells c.is_still_lacking.ensures.usage c.requires.ready

pub try_lists-requires : goal.try_lists-requires
try_lists-requires g c = can_read c.is_still_lacking.ensures.cells c.is_still_lacking.ensures.usage c.requires

pub returns-clause-rearranged : goal.returns-clause-rearranged
returns-clause-rearranged g c = rearranged_then (rearranged_same c.is_still_lacking.ensures.cells c.is_still_lacking.ensures.usage c.requires.ready) c.try_lists.ensures.rearranged

pub returns-clause-ended : goal.returns-clause-ended
returns-clause-ended g c =
    let end = c.try_lists.ensures.ended in
    record { whole = end.whole; full = end.full; left = λ e given fills. end.left e given (subst (Fills given) (sym c.is_still_lacking.ensures.usage) fills) }
