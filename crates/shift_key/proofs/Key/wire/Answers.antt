use Rattle.std.proofs.Common.{◌∙◌, ap}
use Rattle.zone_model.specs.Names.{wire}
use Rattle.zone_model.proofs.KeyLaws.{key_once}
use Rattle.shift_key.proofs.Key.wire.Goals as goal

pub returns-clause-wire : goal.returns-clause-wire
returns-clause-wire c name is e = c.wire.ensures.wire ∙ ap wire (key_once c.self.inside.name name c.self.invariant.name.each is.each (c.self.view_is ∙ e))
