use Rattle.std.proofs.Common.{sym}
use Rattle.trie_model.proofs.ReachLaws.{weighed, live_is, tests, tested}
use Rattle.trie_model.proofs.reach_is_a_list.Goals as goal

pub returns-clause-weighed : goal.returns-clause-weighed
returns-clause-weighed c w t = sym (weighed w t)

pub returns-clause-tested : goal.returns-clause-tested
returns-clause-tested c P t = (tests P t, tested P t)

pub returns-clause-live : goal.returns-clause-live
returns-clause-live c = live_is
