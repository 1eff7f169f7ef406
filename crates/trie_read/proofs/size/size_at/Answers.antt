use Rattle.std.proofs.Common.{◌≡◌, ℕ, ◌^◌, List, [], Option, arith, sym, ap, ◌∙◌, subst}
use Rattle.trie_model.specs.Keys.{Entry}
use Rattle.trie_model.specs.Memory.{Stands, Beneath, top_cell}
use Rattle.trie_model.specs.Shape.{nodes, keys_of}
use Rattle.trie_model.proofs.ShapeLaws.{nodes_are, nodes_le, nodes-none}
use Rattle.trie_model.proofs.FewLaws.{few_cells}
use Rattle.trie_read.specs.Reads.{IsTop}
use Rattle.trie_read.proofs.size.size_at.Goals as goal

pub size_below-requires : goal.size_below-requires
size_below-requires g c =
    let h = subst (λ (r : Option ℕ). Stands (g.C.CellRead.has c.args.cells.now) r c.requires.0) c.in-Some.is c.requires.1 in
    let few = few_cells (2 ^ 22) (g.C.CellRead.has c.args.cells.now) c.in-Some.at h.0 c.requires.0 (omega arith) h.1 in
    let fewer = nodes_le 0 h.0 c.in-Some.at h.1.shape in
    let top : IsTop (g.C.CellRead.has c.cell-node.new.self) 0 c.cell-node.result h.0 =
    record { tree = h.1.shape; is = c.cell-node.ensures.value (top_cell h.0) h.1.top; beneath = subst (λ s. Beneath (g.C.CellRead.has s) h.0) (sym c.cell-node.ensures.same) h.1.beneath } in
    (h.0, top, omega arith)

pub returns-in-None-clause-nodes : goal.returns-in-None-clause-nodes
returns-in-None-clause-nodes g c version stands =
    let empty : version ≡ [] = subst (λ (r : Option ℕ). Stands (g.C.CellRead.has c.args.cells.now) r version) c.in-None.is stands in
    sym (ap (λ (es : List Entry). nodes (keys_of es)) empty ∙ nodes-none)

pub returns-in-Some-clause-nodes : goal.returns-in-Some-clause-nodes
returns-in-Some-clause-nodes g c version stands =
    let h = subst (λ (r : Option ℕ). Stands (g.C.CellRead.has c.args.cells.now) r version) c.in-Some.is stands in
    let top : IsTop (g.C.CellRead.has c.cell-node.new.self) 0 c.cell-node.result h.0 =
    record { tree = h.1.shape; is = c.cell-node.ensures.value (top_cell h.0) h.1.top; beneath = subst (λ s. Beneath (g.C.CellRead.has s) h.0) (sym c.cell-node.ensures.same) h.1.beneath } in
    c.size_below.ensures.nodes h.0 top ∙ sym (nodes_are 0 h.0 h.1.shape) ∙ ap (λ (es : List Entry). nodes (keys_of es)) h.1.holds
