use Rattle.std.proofs.Common.{◌/◌, arith, sym, ◌∙◌, ap, subst}
use Rattle.packed_node.specs.Nodes.{IsNode, packed}
use Rattle.trie_model.specs.Extents.{IsRow}
use Rattle.trie_space.proofs.SpaceLaws.{fenced_of, fenced_put, fenced_counts, ready_put, ready_counts, writable_later, slot_open}
use Rattle.evacuate.specs.Fillings.{Paid, is_old}
use Rattle.evacuate.specs.Places.{first_of, width_of, put_at}
use Rattle.evacuate.proofs.FillingLaws.{moves_paid}
use Rattle.evacuate.proofs.TreeLaws.{hung_cells, moved_is_node, hung_moved, later_counted, handed_writable, released_fewer, released_rest}
use Rattle.evacuate.proofs.moves.move_node.Goals as goal

pub copy_out-requires : goal.copy_out-requires
copy_out-requires g c =
    let h = c.requires.hung in
    let x = hung_cells h.hung (c.first_cell-from.ensures ∙ ap first_of h.is) (c.cell_count-n.ensures ∙ ap width_of h.is) in
    record { length = record { some = x.row.some; few = x.row.few }; row = x.row.row; there = x.there; in_use = x.in_use; ready = c.requires.ready }

pub pack-requires : goal.pack-requires
pack-requires g c =
    let h = c.requires.hung in
    subst IsNode (sym (c.with_cells_at.ensures ∙ ap (λ n. put_at n c.in_ok-to.to) h.is)) (moved_is_node h.hung (subst (IsRow c.in_ok-to.to) (c.cell_count-n.ensures ∙ ap width_of h.is) c.in_ok-to.ensures.copied.handed.twigs))

pub put-requires : goal.put-requires
put-requires g c =
    let f = c.in_ok-to.ensures.takes.frame in
    record { given = f.given_stays (c.args.at / 1024) c.requires.writable.in_given; unkept = slot_open (writable_later c.requires.writable f.grows f.given_stays) c.in_ok-to.ensures.takes.ready }

pub release-requires : goal.release-requires
release-requires g c =
    let h = c.requires.hung in
    let x = hung_cells h.hung (c.first_cell-from.ensures ∙ ap first_of h.is) (c.cell_count-n.ensures ∙ ap width_of h.is) in
    record { counted = later_counted c.args.usage.now c.copy_out.new.usage (c.first_cell-from.result / 1024) c.in_ok-to.ensures.copied.handed x.counted; together = x.row.row.together }

pub returns-clause-moved : goal.returns-clause-moved
returns-clause-moved g c = record {
  hung = λ r es way t hung is.
      let e = c.first_cell-from.ensures ∙ ap first_of is in
      let n = c.cell_count-n.ensures ∙ ap width_of is in
      hung_moved hung e n c.in_ok-to.ensures.copied.handed c.in_ok-to.ensures.takes.frame c.in_ok-to.ensures.copied.copied (c.pack.ensures ∙ ap packed (c.with_cells_at.ensures ∙ ap (λ n. put_at n c.in_ok-to.to) is)) c.put.ensures.written c.put.ensures.others c.release.ensures;
  writable = λ i lt.
      handed_writable c.args.usage.now c.copy_out.new.usage c.first_cell-from.result c.cell_count-n.result c.in_ok-to.ensures.copied.handed (c.put.ensures.given ∙ c.in_ok-to.ensures.takes.ready.same) c.release.ensures i (let n = c.cell_count-n.ensures in omega arith);
  paid = λ given fills old.
      let h = c.requires.hung in
      let x = hung_cells h.hung (c.first_cell-from.ensures ∙ ap first_of h.is) (c.cell_count-n.ensures ∙ ap width_of h.is) in
      subst (λ n. Paid given n c.args.usage.now c.release.new.self) c.cell_count-n.ensures
      (moves_paid c.first_cell-from.result (c.in_ok-to.ensures.takes.moves given fills) (ap (is_old given) c.first_cell-from.ensures ∙ old) (later_counted c.args.usage.now c.copy_out.new.usage (c.first_cell-from.result / 1024) c.in_ok-to.ensures.copied.handed x.counted) c.release.ensures);
}

pub returns-clause-rest : goal.returns-clause-rest
returns-clause-rest g c =
    let f = c.in_ok-to.ensures.takes.frame in
    let rest = released_rest c.copy_out.new.usage c.first_cell-from.result c.cell_count-n.result c.release.ensures in
    record {
      frame = fenced_counts (fenced_put (fenced_of f) (f.grows.fresher c.args.at c.requires.writable.mutable) c.put.ensures.others c.put.ensures.given c.put.ensures.kept) rest (released_fewer c.copy_out.new.usage c.first_cell-from.result c.cell_count-n.result c.release.ensures);
      ready = ready_counts rest (ready_put c.in_ok-to.ensures.takes.ready c.put.ensures.given c.put.ensures.kept);
    }

pub returns-in_err-to-clause-rest : goal.returns-in_err-to-clause-rest
returns-in_err-to-clause-rest g c = let t = c.in_err-to.ensures.takes in record { frame = fenced_of t.frame; ready = t.ready }
