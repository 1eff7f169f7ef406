use Rattle.std.proofs.Common.{◌≡◌, ℕ, suc, ◌+◌, ◌*◌, ◌<◌, List, [], ◌∷◌, ◌++◌, length, Option, Some, slice_get, arith, rules, sym, ◌∙◌, ap, subst, refl}
use Rattle.packed_node.specs.declared.Cell.{Cell}
use Rattle.trie_model.specs.Keys.{Entry, Rises}
use Rattle.trie_model.specs.Trees.Tree.{leaf}
use Rattle.chunk_usage.specs.Rooms.{Handed}
use Rattle.trie_write.specs.declared.branch_points.BranchPoint.{BranchPoint}
use Rattle.trie_write.specs.Builds.{BuiltFront, Stopped}
use Rattle.trie_write.specs.Entries.{entry_of, entries_of_items}
use Rattle.trie_write.specs.Points.{Before, Front}
use Rattle.trie_write.proofs.BuildLaws as building
use Rattle.trie_write.proofs.BuildLaws.{Making}
use Rattle.trie_write.proofs.ItemLaws.{item_entry}
use Rattle.trie_write.proofs.OpenLaws.{leaf_front, parts, some_left}
use Rattle.trie_space.proofs.SpaceLaws.{frame_then, frame_refl, err_all}
use Rattle.trie_write.proofs.bulk.+build.Goals as goal

-- ---- a branch

pub build_branch-loop-beside-init : goal.build_branch-loop-beside-init
build_branch-loop-beside-init g t c = record {
  making = λ base es b. building.making_as c.requires.point c.bit-positions.ensures.value (c.push.ensures ∙ ap (λ (cs : List Cell). cs ++ (c.args.first.cell ∷ [])) c.new-row.ensures) (building.making_first b);
  shorter = omega arith;
  went = λ b. absurd (let a = subst (λ (x : Option BranchPoint). Before c.args.point.offset x) c.requires.point b in omega arith);
  frame = frame_refl c.args.cells.now c.args.usage.now;
  ready = c.requires.ready;
}

pub build_branch-build_front-requires : goal.build_branch-build_front-requires
build_branch-build_front-requires g t c κs within =
    let shorter = c.loop-beside.invariant.shorter in
    let short : 2 * length c.loop-beside.rest.now < 2 * length c.args.first.rest.now + 1 = omega arith in
    let h = c.requires.first in
    let m = c.loop-beside.invariant.making h.0 h.1 h.2 in
    (search (rules, short), (within.0, (within.1, record { some = some_left c.loop-beside.rest.now c.in-Some.beside c.in-Some.ensures.some.0 m.so_far; rising = m.so_far.rises; low = (let e = m.so_far.early in omega arith); ready = c.loop-beside.invariant.ready })))

pub build_branch-returns-in_err-twig-clause-stopped : goal.build_branch-returns-in_err-twig-clause-stopped
build_branch-returns-in_err-twig-clause-stopped g t c = err_all c.from_residual.result (λ _ base es b.
    let m = building.making_as (sym c.in-Some.ensures.some.0) refl refl (c.loop-beside.invariant.making base es b) in
    let next : c.args.point.offset + 1 ≡ suc c.args.point.offset = omega arith in
    building.stopped_more m c.in-Some.ensures.some.1 (subst (λ (k : ℕ). Stopped (g.U.Space.account c.loop-beside.usage) (g.U.Space.account c.build_front.new.usage) k (entries_of_items c.loop-beside.rest.now)) next c.in_err-twig.ensures.stopped))

pub build_branch-push-requires-in-Some : goal.build_branch-push-requires-in-Some
build_branch-push-requires-in-Some g t c =
    let h = c.requires.first in
    building.push_few (building.making_as (sym c.in-Some.ensures.some.0) refl refl (c.loop-beside.invariant.making h.0 h.1 h.2)) c.in-Some.ensures.some.1

pub build_branch-with-positions-requires-clause-bitmap : goal.build_branch-with-positions-requires-clause-bitmap
build_branch-with-positions-requires-clause-bitmap g t c =
    let h = c.requires.first in
    building.bits_fit (building.making_as (sym c.in-Some.ensures.some.0) refl refl (c.loop-beside.invariant.making h.0 h.1 h.2)) c.in-Some.ensures.some.1

pub build_branch-with-positions-requires-clause-position : goal.build_branch-with-positions-requires-clause-position
build_branch-with-positions-requires-clause-position g t c =
    let h = c.requires.first in
    (parts (building.making_as (sym c.in-Some.ensures.some.0) refl refl (c.loop-beside.invariant.making h.0 h.1 h.2)).so_far c.in-Some.ensures.some.1).inside

pub build_branch-with-positions-requires-clause-absent : goal.build_branch-with-positions-requires-clause-absent
build_branch-with-positions-requires-clause-absent g t c =
    let h = c.requires.first in
    building.position_absent (building.making_as (sym c.in-Some.ensures.some.0) refl refl (c.loop-beside.invariant.making h.0 h.1 h.2)) c.in-Some.ensures.some.1

pub build_branch-loop-beside-preserved : goal.build_branch-loop-beside-preserved
build_branch-loop-beside-preserved g t c =
    let next : c.args.point.offset + 1 ≡ suc c.args.point.offset = omega arith in
    let frame = c.in_ok-twig.ensures.adds.frame in
    let twig = subst (λ (k : ℕ). BuiltFront (g.C.CellRead.has c.build_front.new.cells) (g.U.Space.account c.loop-beside.usage) (g.U.Space.account c.build_front.new.usage) k (entries_of_items c.loop-beside.rest.now) (entries_of_items c.in_ok-twig.twig.rest.now) c.in_ok-twig.twig.next c.in_ok-twig.twig.cell) next c.in_ok-twig.ensures.front.built in
    record {
      making = λ base es b.
          let m = building.making_as (sym c.in-Some.ensures.some.0) refl refl (c.loop-beside.invariant.making base es b) in
          building.making_as refl c.with-positions.ensures c.push-in-Some.ensures (building.making_more m c.in-Some.ensures.some.1 twig frame.stays frame.grows.stays);
      shorter = (let a = c.in_ok-twig.ensures.front.shorter in let b = c.loop-beside.invariant.shorter in omega arith);
      went = λ _. let a = c.in_ok-twig.ensures.front.shorter in let b = c.loop-beside.invariant.shorter in omega arith;
      frame = frame_then c.loop-beside.invariant.frame frame;
      ready = c.in_ok-twig.ensures.adds.ready;
    }

pub build_branch-lay_row-requires : goal.build_branch-lay_row-requires
build_branch-lay_row-requires g t c =
    let h = c.requires.first in
    let two = building.row_some (c.loop-beside.invariant.making h.0 h.1 h.2) (c.in_default.ensures.none refl) in
    let n = ap (λ (xs : List Cell). length xs) c.as_slice.ensures.cells in
    record { some = omega arith; few = (let f = c.as_slice.ensures.few in omega arith); ready = c.loop-beside.invariant.ready }

pub build_branch-returns-in_err-twigs-clause-stopped : goal.build_branch-returns-in_err-twigs-clause-stopped
build_branch-returns-in_err-twigs-clause-stopped g t c = err_all c.from_residual-in_err-twigs.result (λ _ base es b.
    building.stopped_here (c.loop-beside.invariant.making base es b) (c.in_default.ensures.none refl) (let n = ap (λ (xs : List Cell). length xs) c.as_slice.ensures.cells in let s = c.lay_row.ensures.takes.consumes in omega arith))

pub build_branch-pack-cell-requires : goal.build_branch-pack-cell-requires
build_branch-pack-cell-requires g t c =
    let h = c.requires.first in
    let handed = subst (λ (cs : List Cell). Handed (g.U.Space.account c.loop-beside.usage) (g.U.Space.account c.lay_row.new.usage) c.in_ok-twigs.twigs (length cs)) c.as_slice.ensures.cells c.in_ok-twigs.ensures.handed in
    building.branch_node (c.loop-beside.invariant.making h.0 h.1 h.2) (c.in_default.ensures.none refl) handed

pub build_branch-returns-clause-branch : goal.build_branch-returns-clause-branch
build_branch-returns-clause-branch g t c = record {
  built = λ base es b.
      let handed = subst (λ (cs : List Cell). Handed (g.U.Space.account c.loop-beside.usage) (g.U.Space.account c.lay_row.new.usage) c.in_ok-twigs.twigs (length cs)) c.as_slice.ensures.cells c.in_ok-twigs.ensures.handed in
      let frame = c.in_ok-twigs.ensures.takes.frame in
      building.branch_built (c.loop-beside.invariant.making base es b) (c.in_default.ensures.none refl) handed frame.stays frame.grows.stays
      (λ i x e. c.in_ok-twigs.ensures.written i x (subst (λ (cs : List Cell). slice_get cs i ≡ Some x) (sym c.as_slice.ensures.cells) e))
      (let n = ap (λ (xs : List Cell). length xs) c.as_slice.ensures.cells in let s = c.in_ok-twigs.ensures.takes.consumes in omega arith) c.pack-cell.ensures;
  shorter = c.loop-beside.invariant.went (c.in_default.ensures.none refl);
}

pub build_branch-returns-clause-adds : goal.build_branch-returns-clause-adds
build_branch-returns-clause-adds g t c = record { frame = frame_then c.loop-beside.invariant.frame c.in_ok-twigs.ensures.takes.frame; ready = c.in_ok-twigs.ensures.takes.ready }

pub build_branch-returns-in_err-twigs-clause-adds : goal.build_branch-returns-in_err-twigs-clause-adds
build_branch-returns-in_err-twigs-clause-adds g t c = record { frame = frame_then c.loop-beside.invariant.frame c.lay_row.ensures.takes.frame; ready = c.lay_row.ensures.takes.ready }

pub build_branch-returns-in_err-twig-clause-adds : goal.build_branch-returns-in_err-twig-clause-adds
build_branch-returns-in_err-twig-clause-adds g t c = record { frame = frame_then c.loop-beside.invariant.frame c.build_front.ensures.adds.frame; ready = c.build_front.ensures.adds.ready }

-- ---- the first items

pub build_front-returns-in_err-cell-clause-stopped : goal.build_front-returns-in_err-cell-clause-stopped
build_front-returns-in_err-cell-clause-stopped g t c =
    let split = rw c.unwrap.ensures at c.split_first.ensures.cases in
    err_all c.from_residual.result (λ _. building.leaf_stopped (entry_of c.unwrap.result.0.now) (entries_of_items c.unwrap.result.1.now) (item_entry c.unwrap.result.0.now) (ap entries_of_items split.0) c.build_leaf.ensures.consumes)

pub build_front-loop-above-init : goal.build_front-loop-above-init
build_front-loop-above-init g t c =
    let split = rw c.unwrap.ensures at c.split_first.ensures.cases in
    let all = ap entries_of_items split.0 in
    let made = c.in_ok-cell.ensures.built in
    record {
      built = (
        504,
        c.requires.low,
        (
          leaf (entry_of c.unwrap.result.0.now) made.0,
          subst (λ (es : List Entry). Front 504 es (entries_of_items c.unwrap.result.1.now) c.point_ahead-next.result (leaf (entry_of c.unwrap.result.0.now) made.0)) (sym all) (leaf_front made.1 (subst Rises all c.requires.rising) c.point_ahead-next.ensures),
          made.2,
        ),
      );
      shorter = (let n = split.1 in omega arith);
      frame = c.in_ok-cell.ensures.adds.frame;
      ready = c.in_ok-cell.ensures.adds.ready;
    }

pub build_front-build_branch-requires : goal.build_front-build_branch-requires
build_front-build_branch-requires g t c κs within =
    let shorter = c.loop-above.invariant.shorter in
    let short : 2 * length c.loop-above.part.rest.now + 1 < 2 * length c.args.items.now = omega arith in
    let w = c.loop-above.invariant.built in
    (search (rules, short), (within.0, (within.1, record { first = (g.U.Space.account c.args.usage.now, entries_of_items c.args.items.now, building.built_point c.in-Some.above c.in-Some.ensures.some.0 w.2); point = c.in-Some.ensures.some.0; ready = c.loop-above.invariant.ready })))

pub build_front-returns-in_err-part-clause-stopped : goal.build_front-returns-in_err-part-clause-stopped
build_front-returns-in_err-part-clause-stopped g t c =
    let w = c.loop-above.invariant.built in
    err_all c.from_residual-in_err-part.result (λ _. building.stopped_lower (c.in_err-part.ensures.stopped (g.U.Space.account c.args.usage.now) (entries_of_items c.args.items.now) (building.built_point c.in-Some.above c.in-Some.ensures.some.0 w.2)) c.in-Some.ensures.some.1)

pub build_front-loop-above-preserved : goal.build_front-loop-above-preserved
build_front-loop-above-preserved g t c =
    let w = c.loop-above.invariant.built in
    record {
      built = (c.in-Some.above.offset, c.in-Some.ensures.some.1, c.in_ok-part.ensures.branch.built (g.U.Space.account c.args.usage.now) (entries_of_items c.args.items.now) (building.built_point c.in-Some.above c.in-Some.ensures.some.0 w.2));
      shorter = (let a = c.in_ok-part.ensures.branch.shorter in let b = c.loop-above.invariant.shorter in omega arith);
      frame = frame_then c.loop-above.invariant.frame c.in_ok-part.ensures.adds.frame;
      ready = c.in_ok-part.ensures.adds.ready;
    }

pub build_front-returns-clause-front : goal.build_front-returns-clause-front
build_front-returns-clause-front g t c = let w = c.loop-above.invariant.built in record { built = building.built_lower w.2 w.1 (c.in_default.ensures.none refl); shorter = c.loop-above.invariant.shorter }

pub build_front-returns-clause-adds : goal.build_front-returns-clause-adds
build_front-returns-clause-adds g t c = record { frame = c.loop-above.invariant.frame; ready = c.loop-above.invariant.ready }

pub build_front-returns-in_err-part-clause-adds : goal.build_front-returns-in_err-part-clause-adds
build_front-returns-in_err-part-clause-adds g t c = record { frame = frame_then c.loop-above.invariant.frame c.build_branch.ensures.adds.frame; ready = c.build_branch.ensures.adds.ready }
