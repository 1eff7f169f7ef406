use Rattle.std.proofs.Common.{Some, sym, ap, subst}
use Rattle.trie_read.specs.Reads.{IsLeafOf}
use Rattle.trie_read.specs.Walks.{StandsBetween}
use Rattle.trie_read.proofs.IterLaws.{some_none, with_first}
use Rattle.trie_read.proofs.iter.Iter.next.Goals as goal

pub key_at-requires : goal.key_at-requires
key_at-requires g c =
    let h = c.requires in
    let x = with_first h.after (λ none. some_none c.in-Some.leaf (c.in-Some.ensures.step.end h.root h.before (subst (λ es. StandsBetween (g.C.CellRead.has c.args.cells.now) h.root c.args.self.now h.before es) none h.standing))) in
    let named = c.in-Some.ensures.step.next h.root h.before x.rest x.entry (subst (λ es. StandsBetween (g.C.CellRead.has c.args.cells.now) h.root c.args.self.now h.before es) x.is h.standing) in
    (x.entry, subst (λ s. IsLeafOf (g.C.CellRead.has s) x.entry c.in-Some.leaf) (sym c.next_leaf.ensures.same) named.0, named.1)

pub returns-in-Some-clause-step : goal.returns-in-Some-clause-step
returns-in-Some-clause-step g c = record {
  next = λ root before after e s.
      let named = c.in-Some.ensures.step.next root before after e s in
      ap (λ k. Some k) (c.key_at.ensures.key e (subst (λ t. IsLeafOf (g.C.CellRead.has t) e c.in-Some.leaf) (sym c.next_leaf.ensures.same) named.0) named.1);
  passed = c.in-Some.ensures.step.passed;
  end = λ root before s. absurd (some_none c.in-Some.leaf (c.in-Some.ensures.step.end root before s));
  stays = c.in-Some.ensures.step.stays;
}
