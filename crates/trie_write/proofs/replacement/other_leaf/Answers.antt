use Rattle.std.proofs.Common.{refl, sym, ◌∙◌, ap, subst}
use Rattle.trie_space.proofs.SpaceLaws.{err_on, frame_same, ready_put, refused_same}
use Rattle.trie_model.specs.Trees.Tree.{leaf}
use Rattle.trie_read.specs.Reads.{IsTop}
use Rattle.trie_write.specs.Descents.{HasWay}
use Rattle.trie_write.proofs.RootLaws.{leads_some}
use Rattle.trie_write.proofs.ReplaceLaws.{taken_item, leaf_top, root_top, other_makes}
use Rattle.trie_write.proofs.LaidLaws.{laid_leaf}
use Rattle.trie_write.proofs.DescentLaws.{same_top}
use Rattle.trie_write.proofs.replacement.other_leaf.Goals as goal

pub cell-node-requires : goal.cell-node-requires
cell-node-requires g c = record { there = (_, c.requires.there.asks.stands.trie.top) }

pub end_node-old-requires : goal.end_node-old-requires
end_node-old-requires g c = let h = c.requires.there.asks in
    record { way = subst (λ s. HasWay (g.C.CellRead.has s) 65535 0 c.args.key.now c.cell-node.result) (sym c.cell-node.ensures.same) (record { way = h.way; end = _; top = root_top h c.cell-node.ensures.value; is_way = h.is_way }) }

pub lay_item-requires : goal.lay_item-requires
lay_item-requires g c =
    let same = c.item_below-old_item.ensures.same ∙ c.end_node-old.ensures.same ∙ c.cell-node.ensures.same in
    record { some = leads_some c.requires.leads; short = c.requires.leads.short; ready = ready_put c.requires.ready (ap g.C.CellWrite.given same) (ap g.C.CellWrite.kept same) }

pub item_below-old_item-requires : goal.item_below-old_item-requires
item_below-old_item-requires g c = let h = c.requires.there.asks in (_, _, subst (λ s. IsTop (g.C.CellRead.has s) 0 c.end_node-old.result (leaf h.entry h.first)) (sym (c.end_node-old.ensures.same ∙ c.cell-node.ensures.same)) (leaf_top h (c.end_node-old.ensures.end h.way _ (same_top g.C.CellRead.has c.cell-node.ensures.same (root_top h c.cell-node.ensures.value)) h.is_way)))

pub pack-requires : goal.pack-requires
pack-requires g c = laid_leaf _ c.args.item.now (c.leaf.ensures.len ∙ c.in_ok-new_item.ensures.laid.len) c.leaf.ensures.at (leads_some c.requires.leads) c.requires.leads.short c.in_ok-new_item.ensures.laid.handed.are

pub returns-clause-other : goal.returns-clause-other
returns-clause-other g c = record {
  makes = λ t version h.
      other_makes h c.args.item.now (c.leaf.ensures.len ∙ c.in_ok-new_item.ensures.laid.len) c.leaf.ensures.at c.in_ok-new_item.ensures.laid.handed.are c.in_ok-new_item.ensures.laid.lies c.pack.ensures refl c.in_ok-new_item.ensures.laid.len refl
      (let top = subst (λ s. IsTop (g.C.CellRead.has s) 0 c.end_node-old.result (leaf h.entry h.first)) (sym (c.end_node-old.ensures.same ∙ c.cell-node.ensures.same)) (leaf_top h (c.end_node-old.ensures.end h.way _ (same_top g.C.CellRead.has c.cell-node.ensures.same (root_top h c.cell-node.ensures.value)) h.is_way)) in record { len = c.item_below-old_item.ensures.len h.entry h.first top; there = c.item_below-old_item.ensures.there h.entry h.first top });
  extents = c.in_ok-new_item.ensures.laid.handed.are;
  taken = taken_item c.in_ok-new_item.ensures.laid.handed c.in_ok-new_item.ensures.takes.frame.grows.stays refl (record { len = c.in_ok-new_item.ensures.laid.len; there = refl });
}

pub returns-clause-takes : goal.returns-clause-takes
returns-clause-takes g c = record {
  consumes = c.lay_item.ensures.takes.consumes;
  frame = frame_same (c.item_below-old_item.ensures.same ∙ c.end_node-old.ensures.same ∙ c.cell-node.ensures.same) c.lay_item.ensures.takes.frame;
  ready = c.lay_item.ensures.takes.ready;
}

pub returns-in_err-new_item-clause-takes : goal.returns-in_err-new_item-clause-takes
returns-in_err-new_item-clause-takes g c = record {
  consumes = c.lay_item.ensures.takes.consumes;
  frame = frame_same (c.item_below-old_item.ensures.same ∙ c.end_node-old.ensures.same ∙ c.cell-node.ensures.same) c.lay_item.ensures.takes.frame;
  ready = c.lay_item.ensures.takes.ready;
}

pub returns-in_err-new_item-clause-lacks : goal.returns-in_err-new_item-clause-lacks
returns-in_err-new_item-clause-lacks g c = err_on _ c.from_residual.result c.from_residual.ensures.1
    (record { refused = refused_same (c.item_below-old_item.ensures.same ∙ c.end_node-old.ensures.same ∙ c.cell-node.ensures.same) c.in_err-new_item.ensures.lacks.refused; asked = c.in_err-new_item.ensures.lacks.asked })
