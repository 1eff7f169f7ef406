use Rattle.std.proofs.Common.{map, arith}
use Rattle.trie_write.specs.Paths.{branches_on_path}
use Rattle.trie_space.specs.Ways.{twigs_of}
use Rattle.trie_write.proofs.AskLaws.{insert_opens, insert_puts}
use Rattle.trie_write.proofs.ChangeLaws.{put_asks, refused_back, outside_put}
use Rattle.trie_write.proofs.InsertLaws.{lacks_path, lacks_branches, inserted}
use Rattle.trie_write.proofs.PathLaws.{copied_way, copied_most}
use Rattle.trie_space.proofs.SpaceLaws.{err_on, fenced_of, fenced_then, ok_map, err_map}
use Rattle.trie_write.proofs.insertion.insert_further.Goals as goal

pub put_change-requires-clause-asks : goal.put_change-requires-clause-asks
put_change-requires-clause-asks g c =
    let h = c.requires.missing.asks in let w = c.in_ok-change.ensures.new.with _ _ h in
    record { way = h.way; end = h.end; u = w.new; asks = put_asks h.stands h.way h.end h.is h.is_way c.in_ok-change.ensures.takes.frame c.in_ok-change.ensures.new.taken w.makes }

pub returns-in_err-change-clause-changes : goal.returns-in_err-change-clause-changes
returns-in_err-change-clause-changes g c = record {
  outside = λ t version h q x used out there. c.new_leaf.ensures.takes.frame.stays q x used there;
  consumes = λ t version h. let s = c.new_leaf.ensures.consumes t version h in let p = lacks_path h in omega arith;
  copies = λ t version h. let s = c.new_leaf.ensures.takes.consumes in omega arith;
  frame = fenced_of c.new_leaf.ensures.takes.frame;
  ready = c.new_leaf.ensures.takes.ready;
}

pub returns-in_err-change-clause-lacks : goal.returns-in_err-change-clause-lacks
returns-in_err-change-clause-lacks g c = err_on _ c.from_residual.result c.from_residual.ensures.1 (record {
  refused = c.in_err-change.ensures.lacks.refused;
  asked = λ t version h. insert_puts (branches_on_path c.args.key.now t) (map twigs_of h.way) (branches_on_path c.args.key.now h.end) _ (lacks_branches h) c.args.item.now (c.in_err-change.ensures.lacks.asked t version h);
})

pub returns : goal.returns
returns g c = record {
  stands = ok_map c.put_change.result (λ new put t version h. let w = c.in_ok-change.ensures.new.with t version h in
      inserted h w (put h.way h.end w.new (put_asks h.stands h.way h.end h.is h.is_way c.in_ok-change.ensures.takes.frame c.in_ok-change.ensures.new.taken w.makes))) c.put_change.ensures.put;
  lacks = err_map c.put_change.result (λ full b. record {
    refused = refused_back c.in_ok-change.ensures.takes.frame c.in_ok-change.ensures.new.taken b;
    asked = λ t version h. let w = c.in_ok-change.ensures.new.with t version h in
        insert_opens (branches_on_path c.args.key.now t) (map twigs_of h.way) (branches_on_path c.args.key.now h.end) full.needed (lacks_branches h) c.args.item.now
        (b.asked h.way h.end w.new (put_asks h.stands h.way h.end h.is h.is_way c.in_ok-change.ensures.takes.frame c.in_ok-change.ensures.new.taken w.makes));
  }) c.put_change.ensures.given_back;
  changes = record {
    outside = λ t version h. let w = c.in_ok-change.ensures.new.with t version h in
        outside_put c.args.root h.way h.end c.in_ok-change.ensures.takes.frame
        (c.put_change.ensures.changes.outside h.way h.end w.new (put_asks h.stands h.way h.end h.is h.is_way c.in_ok-change.ensures.takes.frame c.in_ok-change.ensures.new.taken w.makes)) h.is;
    consumes = λ t version h. let w = c.in_ok-change.ensures.new.with t version h in
        let s = c.new_leaf.ensures.consumes t version h in
        let p = c.put_change.ensures.changes.consumes h.way h.end w.new (put_asks h.stands h.way h.end h.is h.is_way c.in_ok-change.ensures.takes.frame c.in_ok-change.ensures.new.taken w.makes) in
        let m = copied_most (g.U.Space.account c.new_leaf.new.usage).mutable 1 c.args.root h.way in let q = lacks_path h in omega arith;
    copies = λ t version h. let w = c.in_ok-change.ensures.new.with t version h in
        let s = c.new_leaf.ensures.takes.consumes in
        let p = c.put_change.ensures.changes.consumes h.way h.end w.new (put_asks h.stands h.way h.end h.is h.is_way c.in_ok-change.ensures.takes.frame c.in_ok-change.ensures.new.taken w.makes) in
        let v = copied_way (g.U.Space.account c.args.usage.now).mutable (g.U.Space.account c.new_leaf.new.usage).mutable c.args.first.place c.args.key.now c.args.root t h.way h.end h.stands.trie.shape h.is h.is_way.along c.in_ok-change.ensures.takes.frame.grows.fresher in omega arith;
    frame = fenced_then (fenced_of c.in_ok-change.ensures.takes.frame) c.put_change.ensures.changes.frame;
    ready = c.put_change.ensures.changes.ready;
  };
}
