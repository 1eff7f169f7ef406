use Rattle.std.proofs.Common.{Some, sym, ap, subst}
use Rattle.trie_read.specs.Reads.{IsLeafOf}
use Rattle.trie_read.specs.Walks.{StandsBetween}
use Rattle.trie_read.proofs.IterLaws.{some_none, with_last}
use Rattle.trie_read.proofs.iter.Iter.prev.Goals as goal

pub key_at-requires : goal.key_at-requires
key_at-requires g c =
    let h = c.requires in
    let x = with_last h.before (λ none. some_none c.in-Some.leaf (c.in-Some.ensures.step.beginning h.root h.after (subst (λ es. StandsBetween (g.C.CellRead.has c.args.cells.now) h.root c.args.self.now es h.after) none h.standing))) in
    let named = c.in-Some.ensures.step.prev h.root x.rest h.after x.entry (subst (λ es. StandsBetween (g.C.CellRead.has c.args.cells.now) h.root c.args.self.now es h.after) x.is h.standing) in
    (x.entry, subst (λ s. IsLeafOf (g.C.CellRead.has s) x.entry c.in-Some.leaf) (sym c.prev_leaf.ensures.same) named.0, named.1)

pub returns-in-Some-clause-step : goal.returns-in-Some-clause-step
returns-in-Some-clause-step g c = record {
  prev = λ root before after e s.
      let named = c.in-Some.ensures.step.prev root before after e s in
      ap (λ k. Some k) (c.key_at.ensures.key e (subst (λ t. IsLeafOf (g.C.CellRead.has t) e c.in-Some.leaf) (sym c.prev_leaf.ensures.same) named.0) named.1);
  passed = c.in-Some.ensures.step.passed;
  beginning = λ root after s. absurd (some_none c.in-Some.leaf (c.in-Some.ensures.step.beginning root after s));
  stays = c.in-Some.ensures.step.stays;
}
