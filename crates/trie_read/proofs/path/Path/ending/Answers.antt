use Rattle.std.proofs.Common.{suc, ◌∙◌, refl, sym, subst, true≢false}
use Rattle.packed_node.specs.declared.Node.TheVariants as node
use Rattle.trie_model.specs.Memory.{top_cell}
use Rattle.trie_model.proofs.NodeLaws.{says_node, node_read}
use Rattle.trie_read.specs.Walks.{AnyStep}
use Rattle.trie_read.proofs.PathLaws.{hanging}
use Rattle.trie_read.proofs.AboveLaws.{read_at, first_twig, ending_leaf, no_ending_twig, no_ending_branch}
use Rattle.trie_read.proofs.path.Path.ending.Goals as goal

pub of-requires : goal.of-requires
of-requires g c =
    let h = c.requires in
    let x = hanging AnyStep (g.C.CellRead.has c.args.cells.now) c.args.self.now.steps h.whole h.at.shape h.at.beneath c.args.level h.tree h.before h.after h.at.hangs in
    says_node c.args.level h.tree c.node.result x.tree (c.node.ensures.value h.whole h.tree h.before h.after h.at)

pub returns-then-not-has_twig-clause-ending : goal.returns-then-not-has_twig-clause-ending
returns-then-not-has_twig-clause-ending g c whole t before after at =
    let x = read_at (g.C.CellRead.has c.args.cells.now) c.args.self.now c.args.root c.args.level whole t before after c.node.result c.of.result (node.Branch c.in-Branch.branch) at (c.node.ensures.value whole t before after at) c.of.ensures.back c.in-Branch.is in
    no_ending_twig (g.C.CellRead.has c.args.cells.now) c.args.level t c.in-Branch.branch x.tree x.is (λ y. true≢false (sym (c.has_twig.ensures.1 y) ∙ c.if-not-has_twig.true))

pub cell-requires : goal.cell-requires
cell-requires g c =
    let h = c.requires in
    let x = read_at (g.C.CellRead.has c.args.cells.now) c.args.self.now c.args.root c.args.level h.whole h.tree h.before h.after c.node.result c.of.result (node.Branch c.in-Branch.branch) h.at (c.node.ensures.value h.whole h.tree h.before h.after h.at) c.of.ensures.back c.in-Branch.is in
    let twig = first_twig (g.C.CellRead.has c.args.cells.now) c.args.level h.tree c.in-Branch.branch x.tree x.beneath x.is (c.if-not-has_twig.ensures.0 refl) in
    record { there = (top_cell twig.tree, subst (λ s. g.C.CellRead.has s c.in-Branch.branch.twigs (top_cell twig.tree)) (sym c.node.ensures.same) twig.there) }

pub of-requires-in-Branch : goal.of-requires-in-Branch
of-requires-in-Branch g c =
    let h = c.requires in
    let x = read_at (g.C.CellRead.has c.args.cells.now) c.args.self.now c.args.root c.args.level h.whole h.tree h.before h.after c.node.result c.of.result (node.Branch c.in-Branch.branch) h.at (c.node.ensures.value h.whole h.tree h.before h.after h.at) c.of.ensures.back c.in-Branch.is in
    let twig = first_twig (g.C.CellRead.has c.args.cells.now) c.args.level h.tree c.in-Branch.branch x.tree x.beneath x.is (c.if-not-has_twig.ensures.0 refl) in
    says_node (suc c.in-Branch.branch.offset) twig.tree c.cell.result twig.deeper (c.cell.ensures.value (top_cell twig.tree) (subst (λ s. g.C.CellRead.has s c.in-Branch.branch.twigs (top_cell twig.tree)) (sym c.node.ensures.same) twig.there))

pub returns-in-Leaf-of-clause-ending : goal.returns-in-Leaf-of-clause-ending
returns-in-Leaf-of-clause-ending g c whole t before after at =
    let x = read_at (g.C.CellRead.has c.args.cells.now) c.args.self.now c.args.root c.args.level whole t before after c.node.result c.of.result (node.Branch c.in-Branch.branch) at (c.node.ensures.value whole t before after at) c.of.ensures.back c.in-Branch.is in
    let twig = first_twig (g.C.CellRead.has c.args.cells.now) c.args.level t c.in-Branch.branch x.tree x.beneath x.is (c.if-not-has_twig.ensures.0 refl) in
    ending_leaf (g.C.CellRead.has c.args.cells.now) c.in-Branch.branch t c.in-Leaf-of.leaf twig (sym (node_read (suc c.in-Branch.branch.offset) twig.tree c.cell.result c.of-in-Branch.result twig.deeper (c.cell.ensures.value (top_cell twig.tree) (subst (λ s. g.C.CellRead.has s c.in-Branch.branch.twigs (top_cell twig.tree)) (sym c.node.ensures.same) twig.there)) c.of-in-Branch.ensures.back) ∙ c.in-Leaf-of.is)

pub returns-in-Branch-of-clause-ending : goal.returns-in-Branch-of-clause-ending
returns-in-Branch-of-clause-ending g c whole t before after at =
    let x = read_at (g.C.CellRead.has c.args.cells.now) c.args.self.now c.args.root c.args.level whole t before after c.node.result c.of.result (node.Branch c.in-Branch.branch) at (c.node.ensures.value whole t before after at) c.of.ensures.back c.in-Branch.is in
    let twig = first_twig (g.C.CellRead.has c.args.cells.now) c.args.level t c.in-Branch.branch x.tree x.beneath x.is (c.if-not-has_twig.ensures.0 refl) in
    no_ending_branch (g.C.CellRead.has c.args.cells.now) c.in-Branch.branch _ t twig (sym (node_read (suc c.in-Branch.branch.offset) twig.tree c.cell.result c.of-in-Branch.result twig.deeper (c.cell.ensures.value (top_cell twig.tree) (subst (λ s. g.C.CellRead.has s c.in-Branch.branch.twigs (top_cell twig.tree)) (sym c.node.ensures.same) twig.there)) c.of-in-Branch.ensures.back) ∙ c.in-Branch-of.is)
