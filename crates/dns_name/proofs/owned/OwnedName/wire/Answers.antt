use Rattle.std.proofs.Common.{◌∙◌, ap, sym, subst}
use Rattle.zone_model.specs.Names.{wire, IsName}
use Rattle.dns_name.proofs.OwnedLemmas.{labels_said}
use Rattle.dns_name.proofs.owned.OwnedName.wire.Goals as goal

pub returns-clause-wire : goal.returns-clause-wire
returns-clause-wire c =
    let inv = c.self.invariant in
    c.deref.ensures.value ∙ inv.2 ∙ ap wire (sym (labels_said c.self.inside.octets.items inv.0 inv.1 inv.2) ∙ c.self.view_is)

pub returns-clause-name : goal.returns-clause-name
returns-clause-name c =
    let inv = c.self.invariant in
    subst IsName (sym (labels_said c.self.inside.octets.items inv.0 inv.1 inv.2) ∙ c.self.view_is) inv.1
