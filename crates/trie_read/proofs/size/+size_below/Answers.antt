use Rattle.std.proofs.Common.{◌+◌, ◌<◌, count_ones, arith, sym, ◌∙◌, subst, rules}
use Rattle.trie_model.specs.Memory.{top_cell}
use Rattle.trie_read.proofs.NodeLaws.{says_top, branch_read, falls_in}
use Rattle.trie_read.proofs.SizeLaws.{twigs_counted, here_of, part_of, names_past, nodes_past, names_le, names_of_branch, nodes_of_branch}
use Rattle.trie_read.proofs.size.+size_below.Goals as goal

pub of-requires : goal.of-requires
of-requires g t c = says_top (g.C.CellRead.has c.args.cells.now) c.args.low c.args.node c.requires.0 c.requires.1

pub cell-twig-requires : goal.cell-twig-requires
cell-twig-requires g t c =
    let h = c.requires in
    let b = branch_read (g.C.CellRead.has c.args.cells.now) c.args.low c.args.node h.0 c.of.result c.in-Branch.branch h.1 c.of.ensures.back c.in-Branch.is in
    let inside : c.loop-i.i < count_ones c.in-Branch.branch.bitmap = let e = c.twig_count-i-end.ensures in let l = c.loop-i-test.true in omega arith in
    let n = here_of (g.C.CellRead.has c.args.cells.now) c.args.low c.args.node h.0 c.in-Branch.branch c.loop-i.i h.1 b inside in
    record { there = (top_cell n.t, subst (λ s. g.C.CellRead.has s (c.in-Branch.branch.twigs + c.loop-i.i) (top_cell n.t)) (sym c.loop-i.invariant.same) n.there) }

pub size_below-part-requires : goal.size_below-part-requires
size_below-part-requires g t c κs within =
    let h = c.requires in
    let b = branch_read (g.C.CellRead.has c.args.cells.now) c.args.low c.args.node h.0 c.of.result c.in-Branch.branch h.1 c.of.ensures.back c.in-Branch.is in
    let inside : c.loop-i.i < count_ones c.in-Branch.branch.bitmap = let e = c.twig_count-i-end.ensures in let l = c.loop-i-test.true in omega arith in
    let n = part_of g.C.CellRead.has c.args.cells.now c.loop-i.cells c.cell-twig.new.self c.args.low c.loop-i.i c.args.node c.cell-twig.result h.0 c.in-Branch.branch h.1 b inside c.loop-i.invariant.same c.cell-twig.ensures.same c.cell-twig.ensures.value in
    let f = falls_in (g.C.CellRead.has c.args.cells.now) c.args.low c.args.node h.0 c.in-Branch.branch h.1 b in
    let so_far = c.loop-i.invariant.nodes h.0 b h.1 in
    let here = n.nodes in
    let whole = nodes_of_branch h.0 c.in-Branch.branch b in
    let most = h.2 in
    (search (rules, f), (within, (n.t, n.top, omega arith)))

pub overflow_add-whole : goal.overflow_add-whole
overflow_add-whole g t c =
    let h = c.requires in
    let b = branch_read (g.C.CellRead.has c.args.cells.now) c.args.low c.args.node h.0 c.of.result c.in-Branch.branch h.1 c.of.ensures.back c.in-Branch.is in
    let inside : c.loop-i.i < count_ones c.in-Branch.branch.bitmap = let e = c.twig_count-i-end.ensures in let l = c.loop-i-test.true in omega arith in
    let n = part_of g.C.CellRead.has c.args.cells.now c.loop-i.cells c.cell-twig.new.self c.args.low c.loop-i.i c.args.node c.cell-twig.result h.0 c.in-Branch.branch h.1 b inside c.loop-i.invariant.same c.cell-twig.ensures.same c.cell-twig.ensures.value in
    let so_far = c.loop-i.invariant.names h.0 b h.1 in
    let here = n.names in
    let more = c.size_below-part.ensures.names n.t n.top in
    let whole = names_of_branch h.0 c.in-Branch.branch b in
    let fewer = names_le h.0 in
    let most = h.2 in omega arith

pub overflow_add-whole-in-loop-i : goal.overflow_add-whole-in-loop-i
overflow_add-whole-in-loop-i g t c =
    let h = c.requires in
    let b = branch_read (g.C.CellRead.has c.args.cells.now) c.args.low c.args.node h.0 c.of.result c.in-Branch.branch h.1 c.of.ensures.back c.in-Branch.is in
    let inside : c.loop-i.i < count_ones c.in-Branch.branch.bitmap = let e = c.twig_count-i-end.ensures in let l = c.loop-i-test.true in omega arith in
    let n = part_of g.C.CellRead.has c.args.cells.now c.loop-i.cells c.cell-twig.new.self c.args.low c.loop-i.i c.args.node c.cell-twig.result h.0 c.in-Branch.branch h.1 b inside c.loop-i.invariant.same c.cell-twig.ensures.same c.cell-twig.ensures.value in
    let so_far = c.loop-i.invariant.nodes h.0 b h.1 in
    let here = n.nodes in
    let more = c.size_below-part.ensures.nodes n.t n.top in
    let whole = nodes_of_branch h.0 c.in-Branch.branch b in
    let most = h.2 in omega arith

pub loop-i-preserved : goal.loop-i-preserved
loop-i-preserved g t c =
    let inside : c.loop-i.i < count_ones c.in-Branch.branch.bitmap = let e = c.twig_count-i-end.ensures in let l = c.loop-i-test.true in omega arith in
    record {
      same = c.size_below-part.ensures.same ∙ c.cell-twig.ensures.same ∙ c.loop-i.invariant.same;
      names = λ x b top. let n = part_of g.C.CellRead.has c.args.cells.now c.loop-i.cells c.cell-twig.new.self c.args.low c.loop-i.i c.args.node c.cell-twig.result x c.in-Branch.branch top b inside c.loop-i.invariant.same c.cell-twig.ensures.same c.cell-twig.ensures.value in
          let so_far = c.loop-i.invariant.names x b top in let here = n.names in let more = c.size_below-part.ensures.names n.t n.top in omega arith;
      nodes = λ x b top. let n = part_of g.C.CellRead.has c.args.cells.now c.loop-i.cells c.cell-twig.new.self c.args.low c.loop-i.i c.args.node c.cell-twig.result x c.in-Branch.branch top b inside c.loop-i.invariant.same c.cell-twig.ensures.same c.cell-twig.ensures.value in
          let so_far = c.loop-i.invariant.nodes x b top in let here = n.nodes in let more = c.size_below-part.ensures.nodes n.t n.top in omega arith;
    }

pub returns-after-loop-i-clause-names : goal.returns-after-loop-i-clause-names
returns-after-loop-i-clause-names g t c x top =
    let b = branch_read (g.C.CellRead.has c.args.cells.now) c.args.low c.args.node x c.of.result c.in-Branch.branch top c.of.ensures.back c.in-Branch.is in
    let n = twigs_counted (g.C.CellRead.has c.args.cells.now) c.args.low c.args.node x c.in-Branch.branch top b in
    let so_far = c.loop-i.invariant.names x b top in
    let rest = names_past c.loop-i.i b.below (let e = c.twig_count-i-end.ensures in let l = c.loop-i-test.false in omega arith) in
    let all = names_of_branch x c.in-Branch.branch b in omega arith

pub returns-after-loop-i-clause-nodes : goal.returns-after-loop-i-clause-nodes
returns-after-loop-i-clause-nodes g t c x top =
    let b = branch_read (g.C.CellRead.has c.args.cells.now) c.args.low c.args.node x c.of.result c.in-Branch.branch top c.of.ensures.back c.in-Branch.is in
    let n = twigs_counted (g.C.CellRead.has c.args.cells.now) c.args.low c.args.node x c.in-Branch.branch top b in
    let so_far = c.loop-i.invariant.nodes x b top in
    let rest = nodes_past c.loop-i.i b.below (let e = c.twig_count-i-end.ensures in let l = c.loop-i-test.false in omega arith) in
    let all = nodes_of_branch x c.in-Branch.branch b in omega arith
