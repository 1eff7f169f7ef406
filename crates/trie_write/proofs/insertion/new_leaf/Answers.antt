use Rattle.std.proofs.Common.{w8, suc, ◌∷◌, length, map, arith, sym, ◌∙◌, ap, subst}
use Rattle.std.proofs.Math.Facts.{Fits-lt-pow}
use Rattle.std.proofs.lemmas.List.Elements.{Contains-append_left, Contains-append_right}
use Rattle.trie_write.specs.Laid.{extent_sizes}
use Rattle.chunk_usage.specs.Rooms.{Account}
use Rattle.trie_write.specs.Paths.{branches_on_path}
use Rattle.trie_write.specs.Descents.{HasWay}
use Rattle.trie_write.proofs.InsertLaws.{laid_is, lacks_top, with_asks, taken_both}
use Rattle.trie_write.proofs.RootLaws.{leads_some, leads_entry}
use Rattle.trie_space.proofs.SpaceLaws.{err_on, frame_then, frame_counts, frame_same, ready_counts, ready_put, refused_same}
use Rattle.trie_write.proofs.LaidLaws.{refused_item, released_item}
use Rattle.trie_write.proofs.DescentLaws.{same_top}
use Rattle.trie_write.proofs.insertion.new_leaf.Goals as goal

pub cell-top-requires : goal.cell-top-requires
cell-top-requires g c = record { there = (_, c.requires.missing.asks.stands.trie.top) }

pub end_node-node-requires : goal.end_node-node-requires
end_node-node-requires g c = let h = c.requires.missing.asks in
    record { way = subst (λ s. HasWay (g.C.CellRead.has s) c.args.first.place 0 c.args.key.now c.cell-top.result) (sym c.cell-top.ensures.same) (record { way = h.way; end = h.end; top = lacks_top h c.cell-top.ensures.value; is_way = h.is_way }) }

pub lay_item-requires : goal.lay_item-requires
lay_item-requires g c =
    let same = c.end_node-node.ensures.same ∙ c.cell-top.ensures.same in
    record { some = leads_some c.requires.leads; short = c.requires.leads.short; ready = ready_put c.requires.ready (ap g.C.CellWrite.given same) (ap g.C.CellWrite.kept same) }

pub with_leaf-requires : goal.with_leaf-requires
with_leaf-requires g c =
    let h = c.requires.missing.asks in let same = c.end_node-node.ensures.same ∙ c.cell-top.ensures.same in
    record {
      ready = c.in_ok-there.ensures.takes.ready;
      asks = record {
        item = c.args.item.now;
        end = h.end;
        asks = with_asks h (leads_entry c.requires.leads (λ i. Fits-lt-pow {w = w8} (c.type_inv.item i))) (laid_is c.lay_item.new.usage c.in_ok-there.ensures.laid.len c.in_ok-there.ensures.laid.handed c.in_ok-there.ensures.laid.lies) (frame_same same c.in_ok-there.ensures.takes.frame)
            (c.end_node-node.ensures.end h.way h.end (same_top g.C.CellRead.has c.cell-top.ensures.same (lacks_top h c.cell-top.ensures.value)) h.is_way);
      };
    }

pub returns-in-Ok-clause-new : goal.returns-in-Ok-clause-new
returns-in-Ok-clause-new g c = record {
  with = λ t version h.
      let same = c.end_node-node.ensures.same ∙ c.cell-top.ensures.same in
      c.in-Ok.ensures.added.with c.args.item.now h.end (with_asks h (leads_entry c.requires.leads (λ i. Fits-lt-pow {w = w8} (c.type_inv.item i))) (laid_is c.lay_item.new.usage c.in_ok-there.ensures.laid.len c.in_ok-there.ensures.laid.handed c.in_ok-there.ensures.laid.lies) (frame_same same c.in_ok-there.ensures.takes.frame)
      (c.end_node-node.ensures.end h.way h.end (same_top g.C.CellRead.has c.cell-top.ensures.same (lacks_top h c.cell-top.ensures.value)) h.is_way));
  taken = taken_both c.in_ok-there.there c.args.item.now c.in_ok-there.ensures.laid.len c.in_ok-there.ensures.laid.handed c.in_ok-there.ensures.takes.frame.grows.stays c.in-Ok.ensures.added.handed c.in-Ok.ensures.takes.frame.grows.stays c.in-Ok.ensures.added.item;
}

pub returns-in-Ok-clause-consumes : goal.returns-in-Ok-clause-consumes
returns-in-Ok-clause-consumes g c t version h =
    let same = c.end_node-node.ensures.same ∙ c.cell-top.ensures.same in
    let m = c.with_leaf.ensures.consumes c.args.item.now h.end (with_asks h (leads_entry c.requires.leads (λ i. Fits-lt-pow {w = w8} (c.type_inv.item i))) (laid_is c.lay_item.new.usage c.in_ok-there.ensures.laid.len c.in_ok-there.ensures.laid.handed c.in_ok-there.ensures.laid.lies) (frame_same same c.in_ok-there.ensures.takes.frame)
    (c.end_node-node.ensures.end h.way h.end (same_top g.C.CellRead.has c.cell-top.ensures.same (lacks_top h c.cell-top.ensures.value)) h.is_way)) in
    let s = c.lay_item.ensures.takes.consumes in omega arith

pub returns-in-Ok-clause-takes : goal.returns-in-Ok-clause-takes
returns-in-Ok-clause-takes g c = record {
  consumes = (let m = c.with_leaf.ensures.takes.consumes in let s = c.lay_item.ensures.takes.consumes in omega arith);
  frame = frame_same (c.end_node-node.ensures.same ∙ c.cell-top.ensures.same) (frame_then c.in_ok-there.ensures.takes.frame c.in-Ok.ensures.takes.frame);
  ready = c.in-Ok.ensures.takes.ready;
}

pub returns-in-Err : goal.returns-in-Err
returns-in-Err g c =
    let same = c.end_node-node.ensures.same ∙ c.cell-top.ensures.same in
    let r = ap (λ (z : Account). z.consumed) c.release_item.ensures.rest in let s = c.lay_item.ensures.takes.consumes in
    record {
      new = tt;
      consumes = λ t version h. let m = c.with_leaf.ensures.consumes c.args.item.now h.end (with_asks h (leads_entry c.requires.leads (λ i. Fits-lt-pow {w = w8} (c.type_inv.item i))) (laid_is c.lay_item.new.usage c.in_ok-there.ensures.laid.len c.in_ok-there.ensures.laid.handed c.in_ok-there.ensures.laid.lies) (frame_same same c.in_ok-there.ensures.takes.frame)
          (c.end_node-node.ensures.end h.way h.end (same_top g.C.CellRead.has c.cell-top.ensures.same (lacks_top h c.cell-top.ensures.value)) h.is_way)) in omega arith;
      lacks = record {
        refused = refused_same same (refused_item c.in_ok-there.ensures.takes.frame c.in_ok-there.ensures.laid.handed c.in-Err.ensures.lacks.refused (released_item c.in_ok-there.there c.release_item.ensures c.in_ok-there.ensures.laid.len) c.release_item.ensures.lack);
        asked = λ t version h. Contains-append_right (extent_sizes (length c.args.item.now)) (2 ∷ map suc (branches_on_path c.args.key.now h.end)) _
            (c.in-Err.ensures.lacks.asked c.args.item.now h.end (with_asks h (leads_entry c.requires.leads (λ i. Fits-lt-pow {w = w8} (c.type_inv.item i))) (laid_is c.lay_item.new.usage c.in_ok-there.ensures.laid.len c.in_ok-there.ensures.laid.handed c.in_ok-there.ensures.laid.lies) (frame_same same c.in_ok-there.ensures.takes.frame)
            (c.end_node-node.ensures.end h.way h.end (same_top g.C.CellRead.has c.cell-top.ensures.same (lacks_top h c.cell-top.ensures.value)) h.is_way)));
      };
      takes = record {
        consumes = (let m = c.with_leaf.ensures.takes.consumes in omega arith);
        frame = frame_counts (frame_same same (frame_then c.in_ok-there.ensures.takes.frame c.with_leaf.ensures.takes.frame)) c.release_item.ensures.rest (λ k. let e = c.release_item.ensures.counts k in omega arith);
        ready = ready_counts c.release_item.ensures.rest c.with_leaf.ensures.takes.ready;
      };
    }

pub returns-in_err-there-clause-lacks : goal.returns-in_err-there-clause-lacks
returns-in_err-there-clause-lacks g c = err_on _ c.from_residual.result c.from_residual.ensures.1 (record {
  refused = refused_same (c.end_node-node.ensures.same ∙ c.cell-top.ensures.same) c.in_err-there.ensures.lacks.refused;
  asked = λ t version h. Contains-append_left (extent_sizes (length c.args.item.now)) (2 ∷ map suc (branches_on_path c.args.key.now h.end)) _ c.in_err-there.ensures.lacks.asked;
})

pub returns-in_err-there-clause-takes : goal.returns-in_err-there-clause-takes
returns-in_err-there-clause-takes g c = record {
  consumes = (let s = c.lay_item.ensures.takes.consumes in omega arith);
  frame = frame_same (c.end_node-node.ensures.same ∙ c.cell-top.ensures.same) c.lay_item.ensures.takes.frame;
  ready = c.lay_item.ensures.takes.ready;
}
