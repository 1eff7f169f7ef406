use Rattle.std.proofs.Common.{arith, refl, sym, ◌∙◌, ap, rules}
use Rattle.chunk_usage.specs.Counting.{is_sparse}
use Rattle.evacuate.proofs.StackLaws.{says, told_of, item_of, early, late, twig_here, twig_top, cell_there, turn, falls, kept_on, leaf_item, found_leaf, found_branch, found_below}
use Rattle.evacuate.proofs.stack.+last_below.Goals as goal

pub of-requires : goal.of-requires
of-requires g t c = says c.requires.top.1

pub cell-twig-requires : goal.cell-twig-requires
cell-twig-requires g t c =
    let b = told_of c.requires.top.1 c.of.ensures.back c.in-Branch.is in
    record { there = cell_there g.C.CellRead.has c.loop-i.invariant.same c.requires.top.1 b c.loop-i.i (let e = c.twigs_on-on.ensures in let l = c.loop-i-test.true in omega arith) }

pub take-requires-clause-early : goal.take-requires-clause-early
take-requires-clause-early g t c = early c.requires.top.1 (told_of c.requires.top.1 c.of.ensures.back c.in-Branch.is)

pub last_below-requires : goal.last_below-requires
last_below-requires g t c κs within =
    let b = told_of c.requires.top.1 c.of.ensures.back c.in-Branch.is in
    let n = turn g.C.CellRead.has c.loop-i.invariant.same c.requires.top.1 b c.loop-i.i (let e = c.twigs_on-on.ensures in let l = c.loop-i-test.true in omega arith) c.cell-twig.ensures.same c.cell-twig.ensures.value in
    let f = falls c.requires.top.1 b in let d = early c.requires.top.1 b in
    (search (rules, f), (within, (n, omega arith)))

pub returns-then-last_below-clause-found : goal.returns-then-last_below-clause-found
returns-then-last_below-clause-found g t c e =
    let f = c.last_below.ensures.found c.if-last_below.true in
    record {
      leads = λ u top.
          let b = told_of top c.of.ensures.back c.in-Branch.is in
          let x = twig_here top b c.loop-i.i (let e = c.twigs_on-on.ensures in let l = c.loop-i-test.true in omega arith) in
          let n = twig_top g.C.CellRead.has x c.loop-i.invariant.same c.cell-twig.ensures.same c.cell-twig.ensures.value in
          found_below u c.in-Branch.branch b c.loop-i.i x (f.leads x.t n) f.late c.last_below.ensures.kept c.take.ensures.taken;
      late = let l = late c.requires.top.1 (told_of c.requires.top.1 c.of.ensures.back c.in-Branch.is) in let z = f.late in omega arith;
    }

pub loop-i-preserved : goal.loop-i-preserved
loop-i-preserved g t c = kept_on (late c.requires.top.1 (told_of c.requires.top.1 c.of.ensures.back c.in-Branch.is)) c.loop-i.invariant c.take.ensures.others c.cell-twig.ensures.same c.last_below.ensures.kept

pub returns-then-sparse-clause-found : goal.returns-then-sparse-clause-found
returns-then-sparse-clause-found g t c e = record {
  leads = λ u top. found_branch u c.in-Branch.branch (told_of top c.of.ensures.back c.in-Branch.is) refl (ap (is_sparse c.args.usage.now) (sym c.chunk_of.ensures) ∙ sym c.is_chunk_sparse-sparse.ensures ∙ c.if-sparse.true);
  late = late c.requires.top.1 (told_of c.requires.top.1 c.of.ensures.back c.in-Branch.is);
}

pub ends_at_leaf-requires : goal.ends_at_leaf-requires
ends_at_leaf-requires g t c = record { there = leaf_item c.requires.top.1 (item_of c.requires.top.1 c.of.ensures.back c.in-Leaf.is) }

pub returns-in-Leaf-clause-found : goal.returns-in-Leaf-clause-found
returns-in-Leaf-clause-found g t c e = record {
  leads = λ u top. found_leaf u c.in-Leaf.leaf top (item_of top c.of.ensures.back c.in-Leaf.is) (c.ends_at_leaf.ensures.tells.some e);
  late = let z = c.ends_at_leaf.ensures.end e in let l = c.requires.low in omega arith;
}
