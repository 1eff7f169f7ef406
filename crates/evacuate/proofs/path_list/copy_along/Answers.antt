use Rattle.std.proofs.Common.{refl, ◌∙◌}
use Rattle.evacuate.proofs.AlongLaws.{top_at}
use Rattle.evacuate.proofs.RearrangeLaws.{rearranged_same}
use Rattle.evacuate.proofs.path_list.copy_along.Goals as goal

pub last_along-requires : goal.last_along-requires
last_along-requires g c = top_at (c.descend-from.ensures.walks_on.hangs _ _ c.requires.stands.stood) c.descend-from.ensures.same

pub returns-in-None-clause-rearranged : goal.returns-in-None-clause-rearranged
returns-in-None-clause-rearranged g c = rearranged_same (c.last_along.ensures ∙ c.descend-from.ensures.same) refl c.requires.ready
