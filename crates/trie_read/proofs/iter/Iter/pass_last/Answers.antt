use Rattle.std.proofs.Common.{◌++◌, subst}
use Rattle.trie_model.specs.Trees.{entries_of}
use Rattle.trie_read.specs.Walks.{AnyStep, LeadsToLast}
use Rattle.trie_read.proofs.PathLaws.{leads_in}
use Rattle.trie_read.proofs.IterLaws.{passed_of}
use Rattle.trie_read.proofs.iter.Iter.pass_last.Goals as goal

pub returns-clause-passed : goal.returns-clause-passed
returns-clause-passed g c version whole t before after trie leads =
    let is = c.node-cell.ensures.value whole t before after (record { top = trie.top; shape = leads.shape; beneath = leads.beneath; hangs = leads.hangs }) in
    let there = leads_in g.C.CellRead.has c.args.cells.now c.node-cell.new.cells AnyStep c.args.self.now.path whole t before after c.node-cell.ensures.same leads in
    let last = subst (λ s. LeadsToLast (g.C.CellRead.has s) c.enter_last-leaf.new.self whole c.enter_last-leaf.result (before ++ entries_of t) after) c.node-cell.ensures.same (c.enter_last-leaf.ensures.last whole t before after there is) in
    passed_of (g.C.CellRead.has c.args.cells.now) c.args.root version whole t before after c.args.self.now.path c.enter_last-leaf.new.self c.enter_last-leaf.result trie leads last
