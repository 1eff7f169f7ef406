use Rattle.std.proofs.Common.{refl, sym, ◌∙◌, subst}
use Rattle.trie_model.proofs.NodeLaws.{leaf_said}
use Rattle.evacuate.specs.Places.{Hangs}
use Rattle.evacuate.proofs.AlongLaws.{hangs_first, way_can, way_ends, way_from, way_moves, way_read}
use Rattle.evacuate.proofs.DescentLaws.{begins, hung_there, hung_says, hung_read}
use Rattle.evacuate.proofs.RearrangeLaws.{can_read, rearranged_same, rearranged_then}
use Rattle.evacuate.proofs.StackLaws.{leaf_item}
use Rattle.evacuate.proofs.TreeLaws.{hung_hangs}
use Rattle.evacuate.proofs.path_walk.empty_along.Goals as goal

pub of-requires : goal.of-requires
of-requires g c = let h = begins c.requires.stands.stood in hung_says h (c.cell.ensures.value _ (hung_there h))

pub go_on-requires : goal.go_on-requires
go_on-requires g c =
    let can = can_read c.cell.ensures.same refl c.requires in
    record {
      stands = can.stands;
      hangs = subst (λ s. Hangs g.C.CellRead.has s c.args.usage.now c.args.root c.args.root c.of.result) (sym c.cell.ensures.same) (λ es t stood. let h = begins stood in hangs_first refl stood (hung_read h (c.cell.ensures.value _ (hung_there h)) c.of.ensures.back));
      writable = can.writable;
      ready = can.ready;
    }

pub returns-in_err-way-clause-rearranged : goal.returns-in_err-way-clause-rearranged
returns-in_err-way-clause-rearranged g c = rearranged_then (rearranged_same c.cell.ensures.same refl c.requires.ready) c.go_on.ensures.rearranged

pub returns-in_default-clause-rearranged : goal.returns-in_default-clause-rearranged
returns-in_default-clause-rearranged g c = rearranged_then (rearranged_same c.cell.ensures.same refl c.requires.ready) c.go_on.ensures.rearranged

pub is_item_sparse-requires : goal.is_item_sparse-requires
is_item_sparse-requires g c =
    let u = (way_from c.cell.ensures.same c.in_ok-way.ensures.way).way _ _ c.requires.stands.stood in
    record { there = leaf_item (hung_hangs u.hung).top (leaf_said u.t c.in-Leaf.leaf (sym u.is ∙ c.in-Leaf.is)) }

pub move_item-requires : goal.move_item-requires
move_item-requires g c = way_can (way_read (way_from c.cell.ensures.same c.in_ok-way.ensures.way) c.is_item_sparse.ensures.same c.note_long.ensures) c.requires.stands c.in-Leaf.is

pub returns-in_err-move_item-clause-rearranged : goal.returns-in_err-move_item-clause-rearranged
returns-in_err-move_item-clause-rearranged g c =
    way_moves (way_read (way_from c.cell.ensures.same c.in_ok-way.ensures.way) c.is_item_sparse.ensures.same c.note_long.ensures) c.in-Leaf.is c.move_item.ensures.rearranged

pub returns-then-is_item_sparse-clause-rearranged : goal.returns-then-is_item_sparse-clause-rearranged
returns-then-is_item_sparse-clause-rearranged g c =
    way_moves (way_read (way_from c.cell.ensures.same c.in_ok-way.ensures.way) c.is_item_sparse.ensures.same c.note_long.ensures) c.in-Leaf.is c.move_item.ensures.rearranged

pub returns-clause-rearranged : goal.returns-clause-rearranged
returns-clause-rearranged g c = way_ends (way_read (way_from c.cell.ensures.same c.in_ok-way.ensures.way) c.is_item_sparse.ensures.same refl)
