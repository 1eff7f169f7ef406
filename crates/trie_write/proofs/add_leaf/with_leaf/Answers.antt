use Rattle.std.proofs.Common.{suc, map, sym, arith}
use Rattle.trie_model.proofs.NodeLaws.{says_node}
use Rattle.trie_write.specs.Paths.{branches_on_path}
use Rattle.trie_write.proofs.AskLaws.{first_of}
use Rattle.trie_space.proofs.SpaceLaws.{ok_map, err_map}
use Rattle.trie_write.proofs.WithLaws.{among_path, among_asked, among_few}
use Rattle.trie_write.proofs.add_leaf.with_leaf.Goals as goal

pub pair_with-requires : goal.pair_with-requires
pair_with-requires g c =
    let a = c.requires.asks in
    record { asks = record { item = a.item; end = a.end; asks = a.asks; deep = c.branch_at.ensures.deep c.in-None.is 0 a.end a.asks.top.tree a.asks.top.is a.asks.ends }; ready = c.requires.ready }

pub join_twigs-requires : goal.join_twigs-requires
join_twigs-requires g c =
    let a = c.requires.asks in
    record { asks = record { node = c.args.node; item = a.item; end = a.end; asks = a.asks; top = c.in-Some.ensures.branch 0 a.end a.asks.top.tree a.asks.top.is; here = c.in-Some.ensures.at }; ready = c.requires.ready }

pub returns-in-None : goal.returns-in-None
returns-in-None g c = record {
  added = ok_map c.pair_with.result (λ change added. record { with = λ item end x. added.with item end (x, c.branch_at.ensures.deep c.in-None.is 0 end x.top.tree x.top.is x.ends); handed = added.handed; item = added.item }) c.pair_with.ensures.added;
  consumes = λ item end x. let s = c.pair_with.ensures.takes.consumes in omega arith;
  lacks = err_map c.pair_with.result (λ full lacks. record { refused = lacks.refused; asked = λ item end x. first_of 2 full.needed (map suc (branches_on_path c.args.key.now end)) (sym lacks.asked) }) c.pair_with.ensures.lacks;
  takes = record { consumes = (let s = c.pair_with.ensures.takes.consumes in omega arith); frame = c.pair_with.ensures.takes.frame; ready = c.pair_with.ensures.takes.ready };
}

pub returns-in-Some : goal.returns-in-Some
returns-in-Some g c = record {
  added = ok_map c.join_twigs.result (λ change added. record { with = λ item end x. added.with item end (c.args.node, x, c.in-Some.ensures.branch 0 end x.top.tree x.top.is); handed = added.handed; item = added.item }) c.join_twigs.ensures.added;
  consumes = λ item end x. let p = among_path x (c.in-Some.ensures.branch 0 end x.top.tree x.top.is) c.in-Some.ensures.at in let s = c.join_twigs.ensures.takes.consumes in omega arith;
  lacks = err_map c.join_twigs.result (λ full lacks. record { refused = lacks.refused; asked = λ item end x. among_asked x (c.in-Some.ensures.branch 0 end x.top.tree x.top.is) c.in-Some.ensures.at full.needed lacks.asked }) c.join_twigs.ensures.lacks;
  takes = record {
    consumes = let a = c.requires.asks in let x = a.asks in
        let p = among_few x (c.in-Some.ensures.branch 0 a.end x.top.tree x.top.is) c.in-Some.ensures.at in let s = c.join_twigs.ensures.takes.consumes in omega arith;
    frame = c.join_twigs.ensures.takes.frame;
    ready = c.join_twigs.ensures.takes.ready;
  };
}

pub branch_at-requires : goal.branch_at-requires
branch_at-requires g c = let a = c.requires.asks in says_node 0 a.end c.args.node a.asks.top.tree a.asks.top.is
