use Rattle.std.proofs.Common.{◌≡◌, true, inl, inr, ℕ, ◌+◌, ◌/◌, Bool, List, arith, refl, sym, ap, subst}
use Rattle.trie_model.proofs.ExtentLaws.{linked_is}
use Rattle.trie_space.proofs.SpaceLaws.{ok_map}
use Rattle.evacuate.specs.Fillings.{Fills, is_old}
use Rattle.evacuate.specs.Places.{first_of, width_of, moved, Hung}
use Rattle.evacuate.proofs.FillingLaws.{sparse_old, settled_old, same_chunk_old}
use Rattle.evacuate.proofs.MovingLaws.{cells_by, cells_same}
use Rattle.evacuate.proofs.TreeLaws.{hung_cells, moved_itself, used_writable, width_linked}
use Rattle.evacuate.proofs.moves.move_first.Goals as goal

pub is_due-requires : goal.is_due-requires
is_due-requires g c long =
    let x = hung_cells c.requires.hung.hung (ap first_of c.requires.hung.is) (ap width_of c.requires.hung.is) in
    let i = x.row.row.inside in let w = width_linked c.args.leaf.len long in let k = linked_is in omega arith

old_first : (g : _) (c : goal.After-move_node g) → (given : List Bool) → Fills given c.args.usage.now → is_old given c.args.leaf.at ≡ true
old_first g c given fills = elim (c.is_due.ensures.due c.if-is_due.true) [
  | inl sparse ↦ sparse_old given c.args.usage.now fills (c.args.leaf.at / 1024) sparse
  | inr settled ↦ (
      let x = hung_cells c.requires.hung.hung (ap first_of c.requires.hung.is) (ap width_of c.requires.hung.is) in
      let w = width_linked c.args.leaf.len settled.0 in let k = linked_is in let together = x.row.row.together in
      same_chunk_old given c.args.leaf.at (c.args.leaf.at + 255) (omega arith) (settled_old given c.args.usage.now fills c.known.ensures (c.args.leaf.at + 255) (x.in_use 255 (omega arith)) settled.1)
      )
]

pub returns-then-is_due-clause-lies : goal.returns-then-is_due-clause-lies
returns-then-is_due-clause-lies g c =
    let x = hung_cells c.requires.hung.hung (ap first_of c.requires.hung.is) (ap width_of c.requires.hung.is) in
    let some = x.row.some in
    ok_map c.move_node.result (λ to m. record {
      hung = m.hung;
      writable = λ long. m.writable 255 (let e = width_linked c.args.leaf.len long in let k = linked_is in omega arith);
      if_due = inl (λ given fills. let less = (m.paid given fills (old_first g c given fills)).less in omega arith);
    }) c.move_node.ensures.moved

pub returns-then-is_due-clause-cells : goal.returns-then-is_due-clause-cells
returns-then-is_due-clause-cells g c = cells_by c.move_node.result (ok_map c.move_node.result (λ to m given fills. (m.paid given fills (old_first g c given fills)).moves) c.move_node.ensures.moved) c.move_node.ensures.unmoved c.move_node.ensures.rest

pub returns-clause-lies : goal.returns-clause-lies
returns-clause-lies g c =
    let x = hung_cells c.requires.hung.hung (ap first_of c.requires.hung.is) (ap width_of c.requires.hung.is) in
    record {
      hung = λ r es way t h is.
          subst (λ (q : ℕ). Hung g.C.CellRead.has c.args.cells.now c.args.usage.now r c.args.at es way (moved t q)) (sym (ap first_of is)) (subst (Hung g.C.CellRead.has c.args.cells.now c.args.usage.now r c.args.at es way) (sym (moved_itself t)) h);
      writable = λ long.
          let used = x.in_use 255 (let e = width_linked c.args.leaf.len long in let k = linked_is in omega arith) in
          used_writable c.known.ensures c.requires.ready used (c.is_due.ensures.mutable c.if-is_due.false long);
      if_due = inr (c.is_due.ensures.sparse c.if-is_due.false, refl);
    }

pub returns-clause-cells : goal.returns-clause-cells
returns-clause-cells g c = cells_same refl refl c.requires.ready
