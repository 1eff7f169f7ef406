use Rattle.std.proofs.Common.{w8, ◌∷◌, length, map, arith}
use Rattle.std.proofs.Math.Facts.{Fits-lt-pow}
use Rattle.std.proofs.lemmas.List.Elements.{Contains-append_left}
use Rattle.trie_model.specs.Trees.Tree.{leaf}
use Rattle.trie_write.specs.Paths.{branches_on_path}
use Rattle.trie_space.specs.Ways.{twigs_of}
use Rattle.trie_write.proofs.AskLaws.{replace_opens}
use Rattle.trie_write.specs.Laid.{extent_sizes}
use Rattle.trie_write.proofs.ChangeLaws.{put_asks, refused_back, outside_put}
use Rattle.trie_write.proofs.PathLaws.{copied_way, to_copy_few}
use Rattle.trie_write.proofs.RootLaws.{leads_entry}
use Rattle.trie_write.proofs.ReplaceLaws.{key_branches, replaced}
use Rattle.trie_space.proofs.SpaceLaws.{err_on, fenced_of, fenced_then, ok_map, err_map}
use Rattle.trie_write.proofs.replacement.replace_item.Goals as goal

pub put_change-requires-clause-asks : goal.put_change-requires-clause-asks
put_change-requires-clause-asks g c =
    let h = c.requires.there.asks in
    record { way = h.way; end = leaf h.entry h.first; u = _; asks = put_asks h.stands h.way (leaf h.entry h.first) h.is h.is_way c.in_ok-change.ensures.takes.frame c.in_ok-change.ensures.other.taken (c.in_ok-change.ensures.other.makes _ _ h) }

pub returns-in_err-change-clause-changes : goal.returns-in_err-change-clause-changes
returns-in_err-change-clause-changes g c = let s = c.other_leaf.ensures.takes.consumes in record {
  outside = λ t version h q x used out there. c.other_leaf.ensures.takes.frame.stays q x used there;
  consumes = λ t version h. omega arith;
  copies = λ t version h. omega arith;
  frame = fenced_of c.other_leaf.ensures.takes.frame;
  ready = c.other_leaf.ensures.takes.ready;
}

pub returns-in_err-change-clause-lacks : goal.returns-in_err-change-clause-lacks
returns-in_err-change-clause-lacks g c = err_on _ c.from_residual.result c.from_residual.ensures.1 (record {
  refused = c.in_err-change.ensures.lacks.refused;
  asked = λ t version h. Contains-append_left (extent_sizes (length c.args.item.now)) (1 ∷ branches_on_path c.args.key.now t) _ c.in_err-change.ensures.lacks.asked;
})

pub returns : goal.returns
returns g c = record {
  stands = ok_map c.put_change.result (λ new put t version h. replaced h (leads_entry c.requires.leads (λ i. Fits-lt-pow {w = w8} (c.type_inv.item i))) c.in_ok-change.ensures.other.extents
      (put h.way _ _ (put_asks h.stands h.way (leaf h.entry h.first) h.is h.is_way c.in_ok-change.ensures.takes.frame c.in_ok-change.ensures.other.taken (c.in_ok-change.ensures.other.makes t version h)))) c.put_change.ensures.put;
  lacks = err_map c.put_change.result (λ full b. record {
    refused = refused_back c.in_ok-change.ensures.takes.frame c.in_ok-change.ensures.other.taken b;
    asked = λ t version h. replace_opens (branches_on_path c.args.key.now t) (map twigs_of h.way) (branches_on_path c.args.key.now (leaf h.entry h.first)) full.needed (key_branches h) c.args.item.now
        (b.asked h.way _ _ (put_asks h.stands h.way (leaf h.entry h.first) h.is h.is_way c.in_ok-change.ensures.takes.frame c.in_ok-change.ensures.other.taken (c.in_ok-change.ensures.other.makes t version h)));
  }) c.put_change.ensures.given_back;
  changes = record {
    outside = λ t version h. outside_put c.args.root h.way (leaf h.entry h.first) c.in_ok-change.ensures.takes.frame
        (c.put_change.ensures.changes.outside h.way _ _ (put_asks h.stands h.way (leaf h.entry h.first) h.is h.is_way c.in_ok-change.ensures.takes.frame c.in_ok-change.ensures.other.taken (c.in_ok-change.ensures.other.makes t version h))) h.is;
    consumes = λ t version h.
        let s = c.other_leaf.ensures.takes.consumes in
        let p = c.put_change.ensures.changes.consumes h.way _ _ (put_asks h.stands h.way (leaf h.entry h.first) h.is h.is_way c.in_ok-change.ensures.takes.frame c.in_ok-change.ensures.other.taken (c.in_ok-change.ensures.other.makes t version h)) in
        let w = copied_way (g.U.Space.account c.args.usage.now).mutable (g.U.Space.account c.other_leaf.new.usage).mutable 65535 c.args.key.now c.args.root t h.way (leaf h.entry h.first) h.stands.trie.shape h.is h.is_way.along c.in_ok-change.ensures.takes.frame.grows.fresher in let f = to_copy_few (g.U.Space.account c.args.usage.now).mutable c.args.key.now c.args.root t in omega arith;
    copies = λ t version h.
        let s = c.other_leaf.ensures.takes.consumes in
        let p = c.put_change.ensures.changes.consumes h.way _ _ (put_asks h.stands h.way (leaf h.entry h.first) h.is h.is_way c.in_ok-change.ensures.takes.frame c.in_ok-change.ensures.other.taken (c.in_ok-change.ensures.other.makes t version h)) in
        let w = copied_way (g.U.Space.account c.args.usage.now).mutable (g.U.Space.account c.other_leaf.new.usage).mutable 65535 c.args.key.now c.args.root t h.way (leaf h.entry h.first) h.stands.trie.shape h.is h.is_way.along c.in_ok-change.ensures.takes.frame.grows.fresher in omega arith;
    frame = fenced_then (fenced_of c.in_ok-change.ensures.takes.frame) c.put_change.ensures.changes.frame;
    ready = c.put_change.ensures.changes.ready;
  };
}
