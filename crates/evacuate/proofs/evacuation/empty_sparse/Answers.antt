use Rattle.std.proofs.Common.{◌≡◌, inl, inr, refl, sym, ◌∙◌, ap, subst, arith}
use Rattle.std.proofs.lemmas.Bool.{cases_Bool}
use Rattle.std.proofs.lemmas.Bool.Decides.{nat_tests}
use Rattle.std.specs.Prelude.{Some}
use Rattle.evacuate.specs.declared.evacuation.EvacuationEnd.{EvacuationEnd}
use Rattle.evacuate.specs.Evacuations.{HasSparse}
use Rattle.evacuate.specs.Fillings.{filled_on, old_chunks}
use Rattle.evacuate.proofs.BeginLaws.{fills_there, left_begun, ready_begun, stood_begun}
use Rattle.evacuate.proofs.EmptyLaws.{Emptying, emptied, emptying, emptying_can, emptying_on, emptying_read, nothing_emptied}
use Rattle.evacuate.proofs.EndLaws.{all_cleared, node_top, stopped_so, whole_so}
use Rattle.evacuate.proofs.RearrangeLaws.{can_read, found_on}
use Rattle.evacuate.proofs.evacuation.empty_sparse.Goals.{then-resumed, else-resumed}
use Rattle.evacuate.proofs.evacuation.empty_sparse.Goals as goal

pub copy_root-requires : goal.copy_root-requires
copy_root-requires g c =
    let h = c.requires.stood in
    let b = c.begin-chunk.ensures in
    record {
      stood = record { es = h.es; t = h.t; stood = stood_begun c.begin-chunk.result b.after b.grows h.stood };
      fills = fills_there c.args.usage.now _ c.begin-chunk.result c.known.ensures b.unmixed b.after;
      ready = ready_begun g.C.CellRead.has g.C.CellWrite.kept g.C.CellWrite.given c.begin-chunk.result b.after b.grows c.requires.ready;
    }

pub returns-in-Err-clause-emptied : goal.returns-in-Err-clause-emptied
returns-in-Err-clause-emptied g c = nothing_emptied c.begin-chunk.result c.begin-chunk.ensures.after c.begin-chunk.ensures.grows c.copy_root.ensures.rest c.known.ensures c.begin-chunk.ensures.unmixed c.in-Err.ensures.unmoved

pub returns-in-Err-clause-ended : goal.returns-in-Err-clause-ended
returns-in-Err-clause-ended g c =
    let stays = c.in-Err.ensures.unmoved in
    stopped_so stays.full (subst HasSparse (sym (stays.unchanged ∙ c.begin-chunk.ensures.after)) (left_begun c.args.usage.now c.begin-chunk.result c.requires.sparse))

pub empty_listed-requires : goal.empty_listed-requires
empty_listed-requires g c = emptying_can (emptying c.begin-chunk.result c.begin-chunk.ensures.after c.begin-chunk.ensures.grows c.copy_root.ensures.rest c.in-Ok.ensures.copied) c.requires.stood

pub returns-in-Some-clause-emptied : goal.returns-in-Some-clause-emptied
returns-in-Some-clause-emptied g c = emptied (emptying_on (emptying c.begin-chunk.result c.begin-chunk.ensures.after c.begin-chunk.ensures.grows c.copy_root.ensures.rest c.in-Ok.ensures.copied) c.empty_listed.ensures.rearranged)

pub returns-in-Some-clause-ended : goal.returns-in-Some-clause-ended
returns-in-Some-clause-ended g c =
    let end = c.empty_listed.ensures.ended in
    record {
      whole = λ e. end.whole (c.in-Some.is ∙ ap (λ (d : EvacuationEnd). Some d) e);
      full = λ e. end.full (c.in-Some.is ∙ ap (λ (d : EvacuationEnd). Some d) e);
      left = λ e. end.left (c.in-Some.is ∙ ap (λ (d : EvacuationEnd). Some d) e) (old_chunks c.args.usage.now.given c.begin-chunk.result) (emptying c.begin-chunk.result c.begin-chunk.ensures.after c.begin-chunk.ensures.grows c.copy_root.ensures.rest c.in-Ok.ensures.copied).moves.fills;
    }

pub passes-init : goal.passes-init
passes-init g c =
    subst (λ f. Emptying g.C.CellRead.has g.C.CellWrite.kept g.C.CellWrite.given c.args.root c.args.cells.now c.args.usage.now f c.in-Ok.at c.empty_listed.new.cells c.empty_listed.new.usage) c.begin-chunk.ensures.value
    (emptying_on (emptying c.begin-chunk.result c.begin-chunk.ensures.after c.begin-chunk.ensures.grows c.copy_root.ensures.rest c.in-Ok.ensures.copied) c.empty_listed.ensures.rearranged)

pub cell-node-requires : goal.cell-node-requires
cell-node-requires g c = record { there = (_, (emptying_can c.passes.invariant c.requires.stood).stands.stood.rooted.top) }

pub next_sparse-requires-clause-top : goal.next_sparse-requires-clause-top
next_sparse-requires-clause-top g c = let h = (emptying_can c.passes.invariant c.requires.stood).stands in (h.t, node_top h.stood c.cell-node.ensures.same c.cell-node.ensures.value)

pub move_found-requires-clause-can : goal.move_found-requires-clause-can
move_found-requires-clause-can g c = can_read (c.next_sparse.ensures.kept.same ∙ c.cell-node.ensures.same) refl (emptying_can c.passes.invariant c.requires.stood)

pub move_found-requires-clause-found : goal.move_found-requires-clause-found
move_found-requires-clause-found g c = found_on c.cell-node.ensures.same c.cell-node.ensures.value c.next_sparse.ensures.kept.same refl (c.next_sparse.ensures.found c.if-next_sparse.true).leads

pub returns-in-Err-move_found-clause-emptied : goal.returns-in-Err-move_found-clause-emptied
returns-in-Err-move_found-clause-emptied g c = emptied (emptying_on (emptying_read c.passes.invariant (c.next_sparse.ensures.kept.same ∙ c.cell-node.ensures.same)) c.move_found.ensures.rearranged)

pub returns-in-Err-move_found-clause-ended : goal.returns-in-Err-move_found-clause-ended
returns-in-Err-move_found-clause-ended g c =
    let no = c.in-Err-move_found.ensures.short in stopped_so no.full (no.left (old_chunks c.args.usage.now.given (filled_on c.args.usage.now)) c.passes.invariant.moves.fills)

pub returns-in-Ok-move_found-clause-emptied : goal.returns-in-Ok-move_found-clause-emptied
returns-in-Ok-move_found-clause-emptied g c = emptied (emptying_on (emptying_read c.passes.invariant (c.next_sparse.ensures.kept.same ∙ c.cell-node.ensures.same)) c.move_found.ensures.rearranged)

pub returns-in-Ok-move_found-clause-ended : goal.returns-in-Ok-move_found-clause-ended
returns-in-Ok-move_found-clause-ended g c = whole_so (c.was_last.ensures c.if-was_last.true)

pub passes-preserved-in-Ok-2 : goal.passes-preserved-in-Ok-2
passes-preserved-in-Ok-2 g c = emptying_on (emptying_read c.passes.invariant (c.next_sparse.ensures.kept.same ∙ c.cell-node.ensures.same)) c.move_found.ensures.rearranged

pub passes-preserved : goal.passes-preserved
passes-preserved g c = emptying_read c.passes.invariant (c.next_sparse.ensures.kept.same ∙ c.cell-node.ensures.same)

pub returns-else-begins_again-clause-emptied : goal.returns-else-begins_again-clause-emptied
returns-else-begins_again-clause-emptied g c = emptied (emptying_read c.passes.invariant (c.next_sparse.ensures.kept.same ∙ c.cell-node.ensures.same))

pub returns-else-begins_again-clause-ended : goal.returns-else-begins_again-clause-ended
returns-else-begins_again-clause-ended g c = whole_so (elim c.if-resumed.branch [
  | then-resumed w ↦ c.begins_again.ensures.dense c.if-begins_again.false (w.begins_again-is ∙ w.if-resumed.true)
  | else-resumed w ↦ (elim (cases_Bool c.if-resumed.begins_again) [
    | inl partial ↦ c.begins_again.ensures.dense c.if-begins_again.false partial
    | inr whole ↦ (
        let i = c.passes.invariant in
        let n = i.stood _ _ c.requires.stood.stood in
        let test = sym w.begins_again-is ∙ whole in
        let all : c.passes.before ≡ 0 = grind (arith, nat_tests, test) in
        all_cleared (old_chunks c.args.usage.now.given (filled_on c.args.usage.now)) i.moves.fills i.elsewhere n.1 (c.next_sparse.ensures.none c.if-next_sparse.false w.if-resumed.false all n.0 (node_top n.1 c.cell-node.ensures.same c.cell-node.ensures.value))
        )
  ])
])
