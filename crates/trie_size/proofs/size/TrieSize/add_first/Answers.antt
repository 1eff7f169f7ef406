use Rattle.std.proofs.Common.{◌+◌, [], ◌∷◌, ◌++◌, List, ℕ, length, length-append, take, arith, inr, sym, ap, subst}
use Rattle.trie_model.specs.Extents.{content_cells, links}
use Rattle.trie_model.specs.Keys.{Entry}
use Rattle.trie_model.specs.Shape.{nodes, keys_of, cells}
use Rattle.trie_size.specs.Sizes.{EndsAt}
use Rattle.trie_size.proofs.SizeLaws.{first, none_sized, none_yet}
use Rattle.trie_size.proofs.size.TrieSize.add_first.Goals as goal

pub returns : goal.returns
returns c = λ es e follows.
    let none = none_yet follows.counted c.requires.first in
    let f = first follows (λ i. omega (arith, c.type_inv.item i)) in
    let front = c.keep_front-self.ensures.front in
    let last = take c.keep_front-self.result c.keep_front-self.new.last in
    record {
      names = (let n = follows.counted.names in let l = length-append es (e ∷ []) in omega arith);
      nodes = (let n = follows.counted.nodes in let z = ap (λ (xs : List Entry). nodes (keys_of xs)) none.0 in let k = none_sized.0 in let m = f.nodes_are_one in let all = ap (λ (xs : List Entry). nodes (keys_of (xs ++ e ∷ []))) none.0 in omega arith);
      cells = (let n = follows.counted.cells in let z = ap (λ (xs : List Entry). cells xs) none.0 in let k = none_sized.1 in let m = f.cells_are in let all = ap (λ (xs : List Entry). cells (xs ++ e ∷ [])) none.0 in let l = ap (λ (xs : List ℕ). content_cells (length xs) + links (length xs)) follows.item in omega arith);
      ends = inr (subst (λ (os : List ℕ). EndsAt last os (es ++ e ∷ [])) (sym none.1) (subst (λ (xs : List Entry). EndsAt last [] (xs ++ e ∷ [])) (sym none.0) (f.ends last front)));
    }
