use Rattle.std.proofs.Common.{◌∷◌, inl, refl, rules}
use Rattle.trie_model.proofs.KeyLaws.{in_right}
use Rattle.trie_read.proofs.IterLaws.{faced, stepped_over}
use Rattle.trie_read.proofs.iter.Iter.next_leaf.Goals as goal

pub returns-clause-step : goal.returns-clause-step
returns-clause-step g c =
    let has = g.C.CellRead.has c.args.cells.now in
    record {
      next = λ root before after e s.
          let on = faced has root c.ahead.new.self.path c.in_ok-leaf.leaf before after e (c.in_ok-leaf.ensures.faces root before (e ∷ after) s) in
          (on.leaf.leaf_of, s.told e (in_right e before (e ∷ after) (inl refl)));
      passed = λ root before after e s.
          let on = faced has root c.ahead.new.self.path c.in_ok-leaf.leaf before after e (c.in_ok-leaf.ensures.faces root before (e ∷ after) s) in
          stepped_over has root c.ahead.new.self _ before after e c.in_ok-leaf.leaf (c.in_ok-leaf.ensures.stays root before (e ∷ after) s) refl refl on;
      end = search rules;
      stays = search rules;
    }
