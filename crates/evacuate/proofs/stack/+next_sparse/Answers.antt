use Rattle.std.proofs.Common.{◌≡◌, ℕ, suc, ◌+◌, false, arith, refl, sym, ◌∙◌, ap, rules}
use Rattle.std.proofs.lemmas.Bool.{true≢false}
use Rattle.trie_model.specs.Reach.{in_chunk}
use Rattle.trie_model.proofs.CountLaws.{under}
use Rattle.chunk_usage.specs.Counting.{is_sparse}
use Rattle.evacuate.proofs.StackLaws.{past, past_all, says, told_of, item_of, early, late, counted, twig_here, twig_top, cell_there, turn, falls, kept_on, leaf_item, clear_leaf, clear_branch, found_leaf, found_branch, found_below}
use Rattle.evacuate.proofs.stack.+next_sparse.Goals as goal
use Rattle.evacuate.proofs.stack.+next_sparse.Goals.{then-resumed, else-resumed}

pub of-requires : goal.of-requires
of-requires g t c = says c.requires.top.1

pub returns-then-is_sparse-clause-found : goal.returns-then-is_sparse-clause-found
returns-then-is_sparse-clause-found g t c e = record {
  leads = λ u top. found_branch u c.in-Branch.branch (told_of top c.of.ensures.back c.in-Branch.is) refl (ap (is_sparse c.args.usage.now) (sym c.chunk_of-chunk.ensures) ∙ sym c.is_sparse.ensures ∙ c.if-is_sparse.true);
  late = late c.requires.top.1 (told_of c.requires.top.1 c.of.ensures.back c.in-Branch.is);
}

pub cell-twig-requires : goal.cell-twig-requires
cell-twig-requires g t c =
    let b = told_of c.requires.top.1 c.of.ensures.back c.in-Branch.is in
    record { there = cell_there g.C.CellRead.has c.loop-i.invariant.kept.same c.requires.top.1 b c.loop-i.i (let e = c.twig_count-i-end.ensures in let l = c.loop-i-test.true in omega arith) }

pub take-requires-clause-early : goal.take-requires-clause-early
take-requires-clause-early g t c = early c.requires.top.1 (told_of c.requires.top.1 c.of.ensures.back c.in-Branch.is)

pub next_sparse-requires : goal.next_sparse-requires
next_sparse-requires g t c κs within =
    let b = told_of c.requires.top.1 c.of.ensures.back c.in-Branch.is in
    let n = turn g.C.CellRead.has c.loop-i.invariant.kept.same c.requires.top.1 b c.loop-i.i (let e = c.twig_count-i-end.ensures in let l = c.loop-i-test.true in omega arith) c.cell-twig.ensures.same c.cell-twig.ensures.value in
    let f = falls c.requires.top.1 b in let d = early c.requires.top.1 b in
    (search (rules, f), (within, (n, omega arith)))

pub returns-then-next_sparse-clause-found : goal.returns-then-next_sparse-clause-found
returns-then-next_sparse-clause-found g t c e =
    let f = c.next_sparse.ensures.found c.if-next_sparse.true in
    record {
      leads = λ u top.
          let b = told_of top c.of.ensures.back c.in-Branch.is in
          let x = twig_here top b c.loop-i.i (let e = c.twig_count-i-end.ensures in let l = c.loop-i-test.true in omega arith) in
          let n = twig_top g.C.CellRead.has x c.loop-i.invariant.kept.same c.cell-twig.ensures.same c.cell-twig.ensures.value in
          found_below u c.in-Branch.branch b c.loop-i.i x (f.leads x.t n) f.late c.next_sparse.ensures.kept c.take.ensures.taken;
      late = let l = late c.requires.top.1 (told_of c.requires.top.1 c.of.ensures.back c.in-Branch.is) in let z = f.late in omega arith;
    }

pub loop-i-preserved : goal.loop-i-preserved
loop-i-preserved g t c = record {
  kept = kept_on (late c.requires.top.1 (told_of c.requires.top.1 c.of.ensures.back c.in-Branch.is)) c.loop-i.invariant.kept c.take.ensures.others c.cell-twig.ensures.same c.next_sparse.ensures.kept;
  none = λ off all u b top k sparse.
      let x = twig_here top b c.loop-i.i (let e = c.twig_count-i-end.ensures in let l = c.loop-i-test.true in omega arith) in
      let n = twig_top g.C.CellRead.has x c.loop-i.invariant.kept.same c.cell-twig.ensures.same c.cell-twig.ensures.value in
      let on : c.if-resumed.on ≡ false = elim c.if-resumed.branch [ then-resumed w ↦ absurd (true≢false (sym w.if-resumed.true ∙ off)) | else-resumed w ↦ w.on-is ∙ off ] in
      let here = c.next_sparse.ensures.none c.if-next_sparse.false on all x.t n k sparse in
      let so_far = c.loop-i.invariant.none off all u b top k sparse in
      let part = x.weighs (in_chunk k) in
      let next = ap (λ (m : ℕ). under (in_chunk k) (past m b.below)) (let z : suc c.loop-i.i ≡ c.loop-i.i + 1 = omega arith in z) in omega arith;
}

pub ends_at_leaf-requires : goal.ends_at_leaf-requires
ends_at_leaf-requires g t c = record { there = leaf_item c.requires.top.1 (item_of c.requires.top.1 c.of.ensures.back c.in-Leaf.is) }

pub returns-in-Leaf-clause-found : goal.returns-in-Leaf-clause-found
returns-in-Leaf-clause-found g t c e = record {
  leads = λ u top. found_leaf u c.in-Leaf.leaf top (item_of top c.of.ensures.back c.in-Leaf.is) (c.ends_at_leaf.ensures.tells.some e);
  late = let z = c.ends_at_leaf.ensures.end e in let l = c.requires.low in omega arith;
}

pub returns-in-Leaf-clause-none : goal.returns-in-Leaf-clause-none
returns-in-Leaf-clause-none g t c e off all u top k sparse =
    clear_leaf c.args.usage.now c.args.low c.args.node u c.in-Leaf.leaf top (item_of top c.of.ensures.back c.in-Leaf.is) (c.ends_at_leaf.ensures.tells.none e) k sparse

pub returns-after-loop-i-clause-none : goal.returns-after-loop-i-clause-none
returns-after-loop-i-clause-none g t c e off all u top k sparse =
    let b = told_of top c.of.ensures.back c.in-Branch.is in
    let so_far = c.loop-i.invariant.none off all u b top k sparse in
    let n = counted top b in
    let rest = past_all (in_chunk k) c.loop-i.i b.below (let m = c.twig_count-i-end.ensures in let l = c.loop-i-test.false in omega arith) in
    clear_branch c.args.usage.now c.args.low u c.in-Branch.branch b top.tree (ap (is_sparse c.args.usage.now) (sym c.chunk_of-chunk.ensures) ∙ sym c.is_sparse.ensures ∙ c.if-is_sparse.false) k sparse (omega arith)

pub returns-then-leads_before-clause-none : goal.returns-then-leads_before-clause-none
returns-then-leads_before-clause-none g t c e off all u top k sparse = absurd (true≢false (sym c.if-leads_before.true ∙ c.leads_before.ensures all))
