use Rattle.std.proofs.Common.{map, count_ones, arith}
use Rattle.trie_write.specs.Paths.{branches_on_path}
use Rattle.trie_space.specs.Ways.{plug, twigs_of}
use Rattle.trie_write.proofs.AskLaws.{delete_opens, delete_puts}
use Rattle.trie_write.proofs.ChangeLaws.{put_asks, refused_back, outside_put}
use Rattle.trie_write.proofs.PathLaws.{copied_way, copied_most}
use Rattle.trie_write.proofs.RemoveLaws.{key_leaf, parts_is, leaf_descent, upper_way, path_parts, parts_branches, last_branch, removed}
use Rattle.trie_space.proofs.SpaceLaws.{err_on, fenced_of, fenced_then, ok_map, err_map}
use Rattle.trie_write.proofs.WithoutLaws.{last_n, last_known}
use Rattle.trie_write.proofs.deletion.drop_leaf.Goals as goal

pub without_leaf-requires : goal.without_leaf-requires
without_leaf-requires g c = let d = c.requires.there.asks in record { last = record { lower = d.last.lower; entry = d.there.entry; first = d.there.first; last = leaf_descent d }; ready = c.requires.ready }

pub returns-in_err-change-clause-changes : goal.returns-in_err-change-clause-changes
returns-in_err-change-clause-changes g c = let s = c.without_leaf.ensures.consumes in record {
  outside = λ t version d q x used out there. c.without_leaf.ensures.adds.frame.stays q x used there;
  consumes = λ t version d. let p = path_parts d in omega arith;
  copies = λ t version d. let n = last_n (leaf_descent d) in let k = (last_known (leaf_descent d)).few in omega arith;
  frame = fenced_of c.without_leaf.ensures.adds.frame;
  ready = c.without_leaf.ensures.adds.ready;
}

pub returns-in_err-change-clause-lacks : goal.returns-in_err-change-clause-lacks
returns-in_err-change-clause-lacks g c = err_on _ c.from_residual.result c.from_residual.ensures.1 (record {
  refused = c.in_err-change.ensures.lacks.refused;
  asked = λ t version d.
      delete_puts (branches_on_path c.args.key.now t) (map twigs_of d.last.upper) (branches_on_path c.args.key.now (plug d.last.lower (key_leaf d))) _ (parts_branches d)
      (count_ones c.args.descent.branch.bitmap) c.in_err-change.ensures.lacks.asked (last_branch d);
})

pub put_change-requires-clause-asks : goal.put_change-requires-clause-asks
put_change-requires-clause-asks g c =
    let d = c.requires.there.asks in let w = c.in_ok-change.ensures.takes.without _ _ _ (leaf_descent d) in
    record { way = d.last.upper; end = _; u = w.new; asks = put_asks d.there.stands d.last.upper _ (parts_is d) (upper_way d) c.in_ok-change.ensures.adds.frame c.in_ok-change.ensures.takes.taken w.makes }

pub returns : goal.returns
returns g c = record {
  stands = ok_map c.put_change.result (λ new put t version d. let w = c.in_ok-change.ensures.takes.without _ _ _ (leaf_descent d) in
      removed d w (put d.last.upper _ w.new (put_asks d.there.stands d.last.upper _ (parts_is d) (upper_way d) c.in_ok-change.ensures.adds.frame c.in_ok-change.ensures.takes.taken w.makes))) c.put_change.ensures.put;
  lacks = err_map c.put_change.result (λ full b. record {
    refused = refused_back c.in_ok-change.ensures.adds.frame c.in_ok-change.ensures.takes.taken b;
    asked = λ t version d. let w = c.in_ok-change.ensures.takes.without _ _ _ (leaf_descent d) in
        delete_opens (branches_on_path c.args.key.now t) (map twigs_of d.last.upper) (branches_on_path c.args.key.now (plug d.last.lower (key_leaf d))) full.needed (parts_branches d)
        (b.asked d.last.upper _ w.new (put_asks d.there.stands d.last.upper _ (parts_is d) (upper_way d) c.in_ok-change.ensures.adds.frame c.in_ok-change.ensures.takes.taken w.makes));
  }) c.put_change.ensures.given_back;
  changes = record {
    outside = λ t version d. let w = c.in_ok-change.ensures.takes.without _ _ _ (leaf_descent d) in
        outside_put c.args.root d.last.upper _ c.in_ok-change.ensures.adds.frame
        (c.put_change.ensures.changes.outside d.last.upper _ w.new (put_asks d.there.stands d.last.upper _ (parts_is d) (upper_way d) c.in_ok-change.ensures.adds.frame c.in_ok-change.ensures.takes.taken w.makes)) (parts_is d);
    consumes = λ t version d. let w = c.in_ok-change.ensures.takes.without _ _ _ (leaf_descent d) in
        let s = c.without_leaf.ensures.consumes in
        let p = c.put_change.ensures.changes.consumes d.last.upper _ w.new (put_asks d.there.stands d.last.upper _ (parts_is d) (upper_way d) c.in_ok-change.ensures.adds.frame c.in_ok-change.ensures.takes.taken w.makes) in
        let m = copied_most (g.U.Space.account c.without_leaf.new.usage).mutable 1 c.args.root d.last.upper in let q = path_parts d in omega arith;
    copies = λ t version d. let w = c.in_ok-change.ensures.takes.without _ _ _ (leaf_descent d) in
        let s = c.without_leaf.ensures.consumes in
        let p = c.put_change.ensures.changes.consumes d.last.upper _ w.new (put_asks d.there.stands d.last.upper _ (parts_is d) (upper_way d) c.in_ok-change.ensures.adds.frame c.in_ok-change.ensures.takes.taken w.makes) in
        let n = last_n (leaf_descent d) in let k = (last_known (leaf_descent d)).few in
        let v = copied_way (g.U.Space.account c.args.usage.now).mutable (g.U.Space.account c.without_leaf.new.usage).mutable c.args.descent.branch.offset c.args.key.now c.args.root t d.last.upper _ d.there.stands.trie.shape (parts_is d) (upper_way d).along c.in_ok-change.ensures.adds.frame.grows.fresher in omega arith;
    frame = fenced_then (fenced_of c.in_ok-change.ensures.adds.frame) c.put_change.ensures.changes.frame;
    ready = c.put_change.ensures.changes.ready;
  };
}
