use Rattle.std.proofs.Common.{◌+◌, ◌∙◌, arith, refl, sym, subst}
use Rattle.trie_model.specs.Memory.{top_cell}
use Rattle.trie_model.proofs.NameLaws.{name_key}
use Rattle.trie_model.proofs.NodeLaws.{says_node}
use Rattle.trie_read.specs.Walks.{Guided}
use Rattle.trie_read.proofs.TwigLaws.{ith_of}
use Rattle.trie_read.proofs.PathLaws.{node_there, says_there, came_to_branch, came_to_leaf, comes_further, leads_to_leaf}
use Rattle.trie_read.proofs.GuideLaws.{guided_step, nearest_inside}
use Rattle.trie_read.proofs.path.Path.approach.Goals as goal

pub of-node-requires : goal.of-node-requires
of-node-requires g c = says_there (Guided c.args.key.now) (g.C.CellRead.has c.args.cells.now) c.args.self.now c.args.cell c.requires

pub loop-node-init : goal.loop-node-init
loop-node-init g c = record {
  same = refl;
  way = λ whole t before after leads is. record { tree = t; before = before; after = after; leads = leads; is = node_there (Guided c.args.key.now) (g.C.CellRead.has c.args.cells.now) c.args.self.now whole t before after c.args.cell c.of-node.result leads is c.of-node.ensures.back };
}

pub push_fields-requires-clause-room : goal.push_fields-requires-clause-room
push_fields-requires-clause-room g c =
    let h = c.requires in
    (came_to_branch (Guided c.args.key.now) (g.C.CellRead.has c.args.cells.now) c.loop-node.self h.whole c.loop-node.node c.in-Branch.branch (c.loop-node.invariant.way h.whole h.tree h.before h.after h.leads h.is) c.in-Branch.is).room

pub push_fields-requires-clause-inside : goal.push_fields-requires-clause-inside
push_fields-requires-clause-inside g c =
    let has = g.C.CellRead.has c.args.cells.now in let k = c.args.key.now in let b = c.in-Branch.branch in let h = c.requires in
    let is = name_key k c.nearest-index.ensures.key in
    let w = c.loop-node.invariant.way h.whole h.tree h.before h.after h.leads h.is in
    let a = came_to_branch (Guided k) has c.loop-node.self h.whole c.loop-node.node b w c.in-Branch.is in
    let i = nearest_inside has k b a.below c.nearest-index.result a.of is c.nearest-index.ensures.there c.nearest-index.ensures.absent in
    let n = a.counted in omega arith

pub overflow_add-branch : goal.overflow_add-branch
overflow_add-branch g c =
    let has = g.C.CellRead.has c.args.cells.now in let k = c.args.key.now in let b = c.in-Branch.branch in let h = c.requires in
    let is = name_key k c.nearest-index.ensures.key in
    let w = c.loop-node.invariant.way h.whole h.tree h.before h.after h.leads h.is in
    let a = came_to_branch (Guided k) has c.loop-node.self h.whole c.loop-node.node b w c.in-Branch.is in
    let i = nearest_inside has k b a.below c.nearest-index.result a.of is c.nearest-index.ensures.there c.nearest-index.ensures.absent in
    let row = a.of.tree.2.inside in omega arith

pub cell-requires : goal.cell-requires
cell-requires g c =
    let has = g.C.CellRead.has c.args.cells.now in let k = c.args.key.now in let b = c.in-Branch.branch in let h = c.requires in
    let is = name_key k c.nearest-index.ensures.key in
    let w = c.loop-node.invariant.way h.whole h.tree h.before h.after h.leads h.is in
    let a = came_to_branch (Guided k) has c.loop-node.self h.whole c.loop-node.node b w c.in-Branch.is in
    let i = nearest_inside has k b a.below c.nearest-index.result a.of is c.nearest-index.ensures.there c.nearest-index.ensures.absent in
    let x = ith_of has b a.below c.nearest-index.result a.of i in
    record { there = (top_cell x.tree, subst (λ s. g.C.CellRead.has s (b.twigs + c.nearest-index.result) (top_cell x.tree)) (sym c.loop-node.invariant.same) x.there) }

pub of-node-requires-in-Branch : goal.of-node-requires-in-Branch
of-node-requires-in-Branch g c =
    let has = g.C.CellRead.has c.args.cells.now in let k = c.args.key.now in let b = c.in-Branch.branch in let h = c.requires in
    let is = name_key k c.nearest-index.ensures.key in
    let w = c.loop-node.invariant.way h.whole h.tree h.before h.after h.leads h.is in
    let a = came_to_branch (Guided k) has c.loop-node.self h.whole c.loop-node.node b w c.in-Branch.is in
    let i = nearest_inside has k b a.below c.nearest-index.result a.of is c.nearest-index.ensures.there c.nearest-index.ensures.absent in
    let x = ith_of has b a.below c.nearest-index.result a.of i in
    says_node (b.offset + 1) x.tree c.cell.result x.deeper (c.cell.ensures.value (top_cell x.tree) (subst (λ s. g.C.CellRead.has s (b.twigs + c.nearest-index.result) (top_cell x.tree)) (sym c.loop-node.invariant.same) x.there))

pub loop-node-smaller : goal.loop-node-smaller
loop-node-smaller g c =
    let has = g.C.CellRead.has c.args.cells.now in let k = c.args.key.now in let b = c.in-Branch.branch in let h = c.requires in
    let is = name_key k c.nearest-index.ensures.key in
    let w = c.loop-node.invariant.way h.whole h.tree h.before h.after h.leads h.is in
    let a = came_to_branch (Guided k) has c.loop-node.self h.whole c.loop-node.node b w c.in-Branch.is in
    let i = nearest_inside has k b a.below c.nearest-index.result a.of is c.nearest-index.ensures.there c.nearest-index.ensures.absent in
    let d = c.push_fields.ensures.depth in let r = a.room in omega arith

pub loop-node-preserved : goal.loop-node-preserved
loop-node-preserved g c = record {
  same = c.cell.ensures.same ∙ c.loop-node.invariant.same;
  way = λ whole t before after leads top.
      let has = g.C.CellRead.has c.args.cells.now in let k = c.args.key.now in let b = c.in-Branch.branch in
      let is = name_key k c.nearest-index.ensures.key in
      let w = c.loop-node.invariant.way whole t before after leads top in
      let a = came_to_branch (Guided k) has c.loop-node.self whole c.loop-node.node b w c.in-Branch.is in
      let i = nearest_inside has k b a.below c.nearest-index.result a.of is c.nearest-index.ensures.there c.nearest-index.ensures.absent in
      let x = ith_of has b a.below c.nearest-index.result a.of i in
      comes_further (Guided k) has c.loop-node.self c.push_fields.new.self whole c.loop-node.node c.of-node-in-Branch.result b w a c.nearest-index.result x c.cell.result c.push_fields.ensures.depth c.push_fields.ensures.step c.push_fields.ensures.before
      (guided_step has k b a.below c.nearest-index.result x a.of is c.nearest-index.ensures.there c.nearest-index.ensures.absent) (λ d j. c.cell.ensures.value d (subst (λ s. g.C.CellRead.has s (b.twigs + c.nearest-index.result) d) (sym c.loop-node.invariant.same) j)) c.of-node-in-Branch.ensures.back;
}

pub returns-in-Leaf-clause-leaf : goal.returns-in-Leaf-clause-leaf
returns-in-Leaf-clause-leaf g c whole t before after leads is =
    let has = g.C.CellRead.has c.args.cells.now in let k = c.args.key.now in
    let w = c.loop-node.invariant.way whole t before after leads is in
    let x = came_to_leaf (Guided k) has c.loop-node.self whole c.loop-node.node c.in-Leaf.leaf w c.in-Leaf.is in
    record { entry = x.entry; before = w.before; after = w.after; leaf = leads_to_leaf (Guided k) has c.loop-node.self whole w.tree w.before w.after c.in-Leaf.leaf x w.leads }
