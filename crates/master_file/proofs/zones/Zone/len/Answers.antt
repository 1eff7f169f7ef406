use Rattle.std.proofs.Common.{subst}
use Rattle.std.specs.Map.{keys_of}
use Rattle.std.specs.List.Sorted.{IsStrictlySortedBy}
use Rattle.zone_model.specs.Names.{name_cmp}
use Rattle.zone_model.specs.MasterFile as says
use Rattle.master_file.proofs.OwnerLemmas.{names_rise}
use Rattle.master_file.proofs.zones.Zone.len.Goals as goal

pub returns-clause-ordered : goal.returns-clause-ordered
returns-clause-ordered c =
    subst (λ (z : says.Zone). IsStrictlySortedBy name_cmp (keys_of z.pairs)) c.self.view_is
    (names_rise c.self.inside.origin c.self.inside.owned.entries c.self.invariant c.len.ensures.ordered)
