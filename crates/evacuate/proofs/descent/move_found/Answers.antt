use Rattle.std.proofs.Common.{sym, subst}
use Rattle.evacuate.specs.Evacuations.{HasSparse}
use Rattle.evacuate.proofs.DescentLaws.{by_err}
use Rattle.evacuate.proofs.RearrangeLaws.{fewer_found, fewer_row, found_can, found_due, found_item, found_left, found_row, rearranged_same, rearranged_then}
use Rattle.evacuate.proofs.descent.move_found.Goals as goal

pub move_item-requires : goal.move_item-requires
move_item-requires g c = found_can c.in_ok-spot.ensures.rearranged c.in_ok-spot.ensures.reached.reached c.requires.can.stands c.in-Leaf.is c.in_ok-spot.ensures.reached.writable

pub returns-in_err-move_item-in-Leaf-clause-rearranged : goal.returns-in_err-move_item-in-Leaf-clause-rearranged
returns-in_err-move_item-in-Leaf-clause-rearranged g c = found_item c.in_ok-spot.ensures.rearranged c.in_ok-spot.ensures.reached.reached c.requires.can.stands c.in-Leaf.is c.move_item.ensures.rearranged

pub returns-in_err-move_item-in-Leaf-clause-short : goal.returns-in_err-move_item-in-Leaf-clause-short
returns-in_err-move_item-in-Leaf-clause-short g c =
    let no = c.in_err-move_item-in-Leaf.ensures in
    by_err c.from_residual-in_err-move_item-in-Leaf.result (record { full = no.full; left = λ old fills. no.left (found_due c.in_ok-spot.ensures.rearranged c.in_ok-spot.ensures.reached.reached c.requires.can.stands c.in-Leaf.is old fills) })

pub returns-in_ok-move_item-in-Leaf-clause-rearranged : goal.returns-in_ok-move_item-in-Leaf-clause-rearranged
returns-in_ok-move_item-in-Leaf-clause-rearranged g c = found_item c.in_ok-spot.ensures.rearranged c.in_ok-spot.ensures.reached.reached c.requires.can.stands c.in-Leaf.is c.move_item.ensures.rearranged

pub returns-in_ok-move_item-in-Leaf-clause-less : goal.returns-in_ok-move_item-in-Leaf-clause-less
returns-in_ok-move_item-in-Leaf-clause-less g c = fewer_found c.in_ok-spot.ensures.rearranged c.in_ok-spot.ensures.reached.reached c.requires.can.stands c.in-Leaf.is c.move_item.new.usage c.in_ok-move_item-in-Leaf.ensures.less

pub move_node-requires : goal.move_node-requires
move_node-requires g c = found_can c.in_ok-spot.ensures.rearranged c.in_ok-spot.ensures.reached.reached c.requires.can.stands c.in-Branch.is c.in_ok-spot.ensures.reached.writable

pub returns-in_err-move_node-in-Branch-clause-rearranged : goal.returns-in_err-move_node-in-Branch-clause-rearranged
returns-in_err-move_node-in-Branch-clause-rearranged g c =
    let stays = c.in_err-move_node-in-Branch.ensures.unmoved in
    let a = c.in_ok-spot.ensures.rearranged in rearranged_then a (rearranged_same stays.same stays.unchanged a.cells.ready)

pub returns-in_err-move_node-in-Branch-clause-short : goal.returns-in_err-move_node-in-Branch-clause-short
returns-in_err-move_node-in-Branch-clause-short g c =
    let stays = c.in_err-move_node-in-Branch.ensures.unmoved in
    by_err c.from_residual-in_err-move_node-in-Branch.result (record {
      full = stays.full;
      left = λ old fills. subst HasSparse (sym stays.unchanged) (found_left c.in_ok-spot.ensures.rearranged c.in_ok-spot.ensures.reached.reached c.requires.can.stands c.in-Branch.is old fills);
    })

pub returns-in_ok-move_node-in-Branch-clause-rearranged : goal.returns-in_ok-move_node-in-Branch-clause-rearranged
returns-in_ok-move_node-in-Branch-clause-rearranged g c =
    let m = c.in_ok-move_node-in-Branch.ensures in
    found_row c.in_ok-spot.ensures.rearranged c.in_ok-spot.ensures.reached.reached c.requires.can.stands c.in-Branch.branch c.in-Branch.is m.moved m.rest

pub returns-in_ok-move_node-in-Branch-clause-less : goal.returns-in_ok-move_node-in-Branch-clause-less
returns-in_ok-move_node-in-Branch-clause-less g c = fewer_row c.in_ok-spot.ensures.rearranged c.in_ok-spot.ensures.reached.reached c.requires.can.stands c.in-Branch.branch c.in-Branch.is c.in_ok-move_node-in-Branch.ensures.moved
