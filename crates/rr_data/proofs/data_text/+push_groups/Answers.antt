use Rattle.std.proofs.Common.{subst}
use Rattle.std.specs.Io.{StartsWith}
use Rattle.rr_data.proofs.StartsLemmas.{starts_front, starts_chain}
use Rattle.rr_data.proofs.data_text.+push_groups.Goals as goal

pub returns-clause-kept : goal.returns-clause-kept
returns-clause-kept t c =
    starts_chain c.push_groups.new.out.items c.push_group.new.out.items c.args.out.now.items
    (starts_front _ _ _ (subst (StartsWith c.push_groups.new.out.items) c.in_ok-push.ensures.items c.push_groups.ensures.kept))
    c.push_group.ensures.kept
