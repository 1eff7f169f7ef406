use Rattle.std.proofs.Common.{◌∷◌, ◌++◌, [], refl, sym, rules}
use Rattle.trie_read.proofs.IterLaws.{was_passed, stepped_back, last_told, no_last}
use Rattle.trie_read.proofs.iter.Iter.prev_leaf.Goals as goal

pub returns-clause-step : goal.returns-clause-step
returns-clause-step g c =
    let has = g.C.CellRead.has c.args.cells.now in
    record {
      prev = λ root before after e s.
          let on = was_passed has root c.behind.new.self.path c.in_ok-leaf.leaf before after e (c.in_ok-leaf.ensures.passed root (before ++ (e ∷ [])) after s) in
          (on.leaf.leaf_of, last_told (before ++ (e ∷ [])) after e before refl s.told);
      passed = λ root before after e s.
          let on = was_passed has root c.behind.new.self.path c.in_ok-leaf.leaf before after e (c.in_ok-leaf.ensures.passed root (before ++ (e ∷ [])) after s) in
          stepped_back has root c.behind.new.self _ before after e c.in_ok-leaf.leaf (c.in_ok-leaf.ensures.stays root (before ++ (e ∷ [])) after s) refl refl on;
      beginning = λ root after s. let on = c.in_ok-leaf.ensures.passed root [] after s in absurd (no_last on.entry on.rest (sym on.is));
      stays = λ root after s. let on = c.in_ok-leaf.ensures.passed root [] after s in absurd (no_last on.entry on.rest (sym on.is));
    }
