use Rattle.std.proofs.Common.{◌∙◌, take, ap, sym, subst}
use Rattle.zone_model.specs.Names.{wire, IsName}
use Rattle.dns_name.proofs.OwnedLemmas.{labels_said}
use Rattle.shift_key.proofs.spelled.SpelledName.wire.Goals as goal

pub returns-clause-wire : goal.returns-clause-wire
returns-clause-wire c =
    let inv = c.self.invariant in
    inv.2 ∙ ap wire (sym (labels_said (take c.self.inside.len c.self.inside.octets) inv.0 inv.1 inv.2) ∙ c.self.view_is)

pub returns-clause-name : goal.returns-clause-name
returns-clause-name c =
    let inv = c.self.invariant in
    subst IsName (sym (labels_said (take c.self.inside.len c.self.inside.octets) inv.0 inv.1 inv.2) ∙ c.self.view_is) inv.1
