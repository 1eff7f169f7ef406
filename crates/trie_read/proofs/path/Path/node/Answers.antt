use Rattle.std.proofs.Common.{arith}
use Rattle.trie_model.specs.Memory.{top_cell}
use Rattle.trie_read.specs.Walks.{AnyStep}
use Rattle.trie_read.proofs.PathLaws.{depth_few, node_above, step_fits}
use Rattle.trie_read.proofs.path.Path.node.Goals as goal

pub bounds-self-level : goal.bounds-self-level
bounds-self-level g c =
    let h = c.requires in let few = depth_few AnyStep c.args.self.now.steps h.whole h.at.shape c.args.level h.tree h.before h.after h.at.hangs in
    let s = c.if-level-eq0.false in omega arith

pub overflow_add-step : goal.overflow_add-step
overflow_add-step g c =
    let h = c.requires in
    let fits = step_fits AnyStep c.args.self.now.steps h.whole h.tree c.args.level h.before h.after (record { twigs = 0; offset = 0; index = 0; count = 0 }) (let s = c.if-level-eq0.false in omega arith) h.at.shape h.at.hangs in
    omega arith

pub cell-requires-2 : goal.cell-requires-2
cell-requires-2 g c =
    let h = c.requires in
    record { there = (top_cell h.tree, node_above AnyStep (g.C.CellRead.has c.args.cells.now) c.args.self.now.steps h.whole h.tree c.args.level h.before h.after _ (let s = c.if-level-eq0.false in omega arith) h.at.shape h.at.beneath h.at.hangs) }

pub returns-clause-value : goal.returns-clause-value
returns-clause-value g c whole t before after at =
    c.cell-2.ensures.value (top_cell t) (node_above AnyStep (g.C.CellRead.has c.args.cells.now) c.args.self.now.steps whole t c.args.level before after _ (let s = c.if-level-eq0.false in omega arith) at.shape at.beneath at.hangs)
