use Rattle.std.proofs.Common.{◌≡◌, ◌∙◌, sym, subst, true≢false}
use Rattle.trie_model.specs.Memory.{Stands}
use Rattle.trie_read.specs.Reads.{IsLeafOf}
use Rattle.trie_read.proofs.look_up.get_counted.Goals as goal

pub is_of_key-requires : goal.is_of_key-requires
is_of_key-requires g c =
    let h = c.requires in
    let x = c.in-Some-leaf_for.ensures.leaf h.0 (subst (λ r. Stands (g.C.CellRead.has c.args.cells.now) r h.0) c.in-Some.is h.1) in
    (x.0, subst (λ s. IsLeafOf (g.C.CellRead.has s) x.0 c.in-Some-leaf_for.leaf) (sym c.leaf_for.ensures.same) x.2, h.2 x.0 x.1)

pub returns-then-is_of_key-clause-value : goal.returns-then-is_of_key-clause-value
returns-then-is_of_key-clause-value g c version stands tells =
    let x = c.in-Some-leaf_for.ensures.leaf version (subst (λ r. Stands (g.C.CellRead.has c.args.cells.now) r version) c.in-Some.is stands) in
    let is = c.is_of_key.ensures.value x.0 (subst (λ s. IsLeafOf (g.C.CellRead.has s) x.0 c.in-Some-leaf_for.leaf) (sym c.leaf_for.ensures.same) x.2) (tells x.0 x.1) in
    (x.0, x.1, is.0 c.if-is_of_key.true, x.2)

pub returns-else-is_of_key-clause-value : goal.returns-else-is_of_key-clause-value
returns-else-is_of_key-clause-value g c version stands tells e i same =
    let x = c.in-Some-leaf_for.ensures.leaf version (subst (λ r. Stands (g.C.CellRead.has c.args.cells.now) r version) c.in-Some.is stands) in
    let is = c.is_of_key.ensures.value x.0 (subst (λ s. IsLeafOf (g.C.CellRead.has s) x.0 c.in-Some-leaf_for.leaf) (sym c.leaf_for.ensures.same) x.2) (tells x.0 x.1) in
    true≢false (sym (is.1 (subst (λ y. y.key ≡ c.args.key.now) (x.3 e i same) same)) ∙ c.if-is_of_key.false)
