use Rattle.std.proofs.Common.{◌++◌, subst}
use Rattle.trie_model.specs.Trees.{entries_of}
use Rattle.trie_read.specs.Walks.{AnyStep, LeadsToFirst}
use Rattle.trie_read.proofs.PathLaws.{leads_in}
use Rattle.trie_read.proofs.IterLaws.{faces_of}
use Rattle.trie_read.proofs.iter.Iter.face_first.Goals as goal

pub returns-clause-faces : goal.returns-clause-faces
returns-clause-faces g c version whole t before after trie leads =
    let is = c.node-cell.ensures.value whole t before after (record { top = trie.top; shape = leads.shape; beneath = leads.beneath; hangs = leads.hangs }) in
    let there = leads_in g.C.CellRead.has c.args.cells.now c.node-cell.new.cells AnyStep c.args.self.now.path whole t before after c.node-cell.ensures.same leads in
    let first = subst (λ s. LeadsToFirst (g.C.CellRead.has s) c.enter_first-leaf.new.self whole c.enter_first-leaf.result before (entries_of t ++ after)) c.node-cell.ensures.same (c.enter_first-leaf.ensures.first whole t before after there is) in
    faces_of (g.C.CellRead.has c.args.cells.now) c.args.root version whole t before after c.args.self.now.path c.enter_first-leaf.new.self c.enter_first-leaf.result trie leads first
