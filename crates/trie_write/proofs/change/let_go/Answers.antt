use Rattle.std.proofs.Common.{arith, ◌∙◌, ap}
use Rattle.chunk_usage.specs.Rooms.{Account}
use Rattle.trie_write.proofs.change.let_go.Goals as goal

pub returns : goal.returns
returns g c = record {
  counts = λ k. let a = c.release.ensures.counts k in let b = c.release_item.ensures.counts k in omega arith;
  rest = c.release_item.ensures.rest ∙ ap (λ (z : Account). record z { live = (g.U.Space.account c.release_item.new.usage).live }) c.release.ensures.rest;
  lack = λ f h. c.release_item.ensures.lack f (c.release.ensures.lacks f h);
}
