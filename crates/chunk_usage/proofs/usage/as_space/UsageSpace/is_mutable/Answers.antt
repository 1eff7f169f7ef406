use Rattle.std.proofs.Common.{◌/◌}
use Rattle.chunk_sets.proofs.FlagLemmas.{get_set}
use Rattle.chunk_usage.proofs.SpaceLaws.{used_given}
use Rattle.chunk_usage.proofs.usage.as_space.UsageSpace.is_mutable.Goals as goal

pub returns-clause-given : goal.returns-clause-given
returns-clause-given c used = get_set c.args.self.now.given (c.args.at / 1024) (used_given c.args.self.now c.known.ensures c.args.at used)
