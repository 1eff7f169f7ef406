use Rattle.std.proofs.Common.{◌∙◌}
use Rattle.dns_name.proofs.OwnedLemmas.{labels_said}
use Rattle.dns_name.proofs.owned.OwnedName.of.Goals as goal

pub returns : goal.returns
returns c = labels_said c.in_ok-from_slice.field-0.items c.args.name.now c.wire.ensures.name (c.in_ok-from_slice.ensures.items ∙ c.wire.ensures.wire)
