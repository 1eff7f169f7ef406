use Rattle.std.proofs.Common.{refl}
use Rattle.master_file.proofs.OwnedLemmas.{begins_with_owner, owner_is}
use Rattle.zone_diff.proofs.names.owner_of.Goals as goal

pub unreachable-requires : goal.unreachable-requires
unreachable-requires c = let item = c.requires in let is = item.2 in c.in_default.ensures.none refl item.0 is.name (begins_with_owner c.args.item.now item.0 item.1 is)

pub returns : goal.returns
returns c owner entry is = owner_is c.args.item.now c.in-Some.owner owner entry is c.in-Some.ensures.name c.in-Some.ensures.found
