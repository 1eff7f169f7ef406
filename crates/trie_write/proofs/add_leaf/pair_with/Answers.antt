use Rattle.std.proofs.Common.{ℕ, ◌+◌, ◌-◌, ◌^◌, ◌<◌, ◌≤◌, arith, refl, sym, ◌∙◌, ap, subst}
use Rattle.packed_node.specs.Nodes.{IsBranch, branch_cell}
use Rattle.trie_space.proofs.SpaceLaws.{open_later, frame_wrote, frame_refl, ready_wrote, wrote_one, wrote_then}
use Rattle.chunk_usage.specs.Rooms.{Handed}
use Rattle.trie_write.specs.declared.change.Span.{Span}
use Rattle.trie_write.proofs.WithLaws.{pair_branch, paired, leaf_node, leaf_is}
use Rattle.trie_write.proofs.add_leaf.pair_with.Goals as goal

pub pack-requires : goal.pack-requires
pack-requires g c = leaf_node c.requires.asks.asks c.leaf.ensures.len c.leaf.ensures.at

pub put-requires-clause-unkept : goal.put-requires-clause-unkept
put-requires-clause-unkept g c = c.in_ok-to.ensures.room.blank.unkept c.place_of_two-index.result c.place_of_two-index.ensures.two

pub put-requires-2-clause-unkept : goal.put-requires-2-clause-unkept
put-requires-2-clause-unkept g c = (open_later c.in_ok-to.ensures.room.blank c.put.ensures.given c.put.ensures.kept).unkept (1 - c.place_of_two-index.result) (omega arith)

pub leaf_added-requires : goal.leaf_added-requires
leaf_added-requires g c =
    subst (λ (b : ℕ). IsBranch (record { offset = c.args.first.place; bitmap = b; twigs = c.in_ok-to.to })) (sym (c.pair.ensures ∙ ap (λ (p : ℕ). 2 ^ p + 2 ^ c.args.first.position) c.at-position.ensures))
    (pair_branch c.requires.asks.asks c.requires.asks.deep c.in_ok-to.ensures.room.handed.twigs)

pub returns-clause-added : goal.returns-clause-added
returns-clause-added g c = record {
  with = λ item end x.
      let h = c.in_ok-to.ensures.room.handed in
      let wrote = wrote_then (wrote_one (c.in_ok-to.to + c.place_of_two-index.result) c.place_of_two-index.result c.place_of_two-index.ensures.two refl c.put.ensures.others c.put.ensures.given c.put.ensures.kept)
      (wrote_one (c.in_ok-to.to + (1 - c.place_of_two-index.result)) (1 - c.place_of_two-index.result) (omega arith) refl c.put-2.ensures.others c.put-2.ensures.given c.put-2.ensures.kept) in
      paired x.0 x.1 h.twigs (frame_wrote h c.in_ok-to.ensures.takes.frame (frame_refl _ _) wrote) (λ l. c.place_of_two-index.ensures.before (subst (λ (p : ℕ). p < c.args.first.position) (sym c.at-position.ensures) l)) (λ l. c.place_of_two-index.ensures.behind (subst (λ (p : ℕ). c.args.first.position ≤ p) (sym c.at-position.ensures) l))
      (c.put-2.ensures.others _ _ (λ e. omega arith) (subst (λ d. g.C.CellRead.has c.put.new.self (c.in_ok-to.to + c.place_of_two-index.result) d) (c.pack.ensures ∙ leaf_is x.0 c.leaf.ensures.len c.leaf.ensures.at) c.put.ensures.written)) c.put-2.ensures.written
      (c.leaf_added.ensures.cell ∙ ap (λ (b : ℕ). branch_cell (record { offset = c.args.first.place; bitmap = b; twigs = c.in_ok-to.to })) (c.pair.ensures ∙ ap (λ (p : ℕ). 2 ^ p + 2 ^ c.args.first.position) c.at-position.ensures)) c.leaf_added.ensures.new_twigs c.leaf_added.ensures.new_item c.leaf_added.ensures.old_twigs c.leaf_added.ensures.old_item;
  handed = subst (λ (x : Span). Handed (g.U.Space.account c.args.usage.now) (g.U.Space.account c.room_for.new.usage) x.at x.n) (sym c.leaf_added.ensures.new_twigs) c.in_ok-to.ensures.room.handed;
  item = c.leaf_added.ensures.new_item;
}

pub returns-clause-takes : goal.returns-clause-takes
returns-clause-takes g c =
    let wrote = wrote_then (wrote_one (c.in_ok-to.to + c.place_of_two-index.result) c.place_of_two-index.result c.place_of_two-index.ensures.two refl c.put.ensures.others c.put.ensures.given c.put.ensures.kept)
    (wrote_one (c.in_ok-to.to + (1 - c.place_of_two-index.result)) (1 - c.place_of_two-index.result) (omega arith) refl c.put-2.ensures.others c.put-2.ensures.given c.put-2.ensures.kept) in
    record {
      consumes = c.in_ok-to.ensures.takes.consumes;
      frame = frame_wrote c.in_ok-to.ensures.room.handed c.in_ok-to.ensures.takes.frame (frame_refl _ _) wrote;
      ready = ready_wrote wrote c.in_ok-to.ensures.takes.ready;
    }
