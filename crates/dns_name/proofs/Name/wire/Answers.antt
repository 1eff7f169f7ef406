use Rattle.std.proofs.Common.{◌∙◌, ap, sym, subst}
use Rattle.zone_model.specs.Names.{wire, IsName}
use Rattle.dns_name.specs.Inside.{view-stored, take-stored}
use Rattle.dns_name.proofs.Name.wire.Goals as goal

pub returns-clause-wire : goal.returns-clause-wire
returns-clause-wire c =
    let inv = c.self.invariant in
    take-stored c.self.inside inv.0 inv.1 ∙ ap wire (sym (view-stored c.self.inside inv.0 inv.1) ∙ c.self.view_is)

pub returns-clause-name : goal.returns-clause-name
returns-clause-name c =
    let inv = c.self.invariant in
    subst IsName (sym (view-stored c.self.inside inv.0 inv.1) ∙ c.self.view_is) inv.1.name
