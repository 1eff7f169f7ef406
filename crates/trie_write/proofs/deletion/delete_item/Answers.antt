use Rattle.std.proofs.Common.{arith, sym, ◌∙◌, ap, subst}
use Rattle.chunk_usage.specs.Rooms.{Account}
use Rattle.trie_write.specs.Descents.{HasWay}
use Rattle.trie_write.proofs.ReplaceLaws.{root_top}
use Rattle.trie_write.proofs.RemoveLaws.{drop_asks, only_are, only_at, only_item, only_live, only_gone}
use Rattle.trie_space.proofs.SpaceLaws.{fenced_of, frame_refl, frame_counts, fenced_same, frame_same, refused_same, ready_counts, ready_put}
use Rattle.trie_write.proofs.DescentLaws.{same_top}
use Rattle.trie_write.proofs.deletion.delete_item.Goals as goal

pub cell-node-requires : goal.cell-node-requires
cell-node-requires g c = record { there = (_, c.requires.there.asks.stands.trie.top) }

pub last_descent-requires : goal.last_descent-requires
last_descent-requires g c = let h = c.requires.there.asks in
    record { way = subst (λ s. HasWay (g.C.CellRead.has s) 65535 0 c.args.key.now c.cell-node.result) (sym c.cell-node.ensures.same) (record { way = h.way; end = _; top = root_top h c.cell-node.ensures.value; is_way = h.is_way }) }

pub drop_leaf-requires-clause-there : goal.drop_leaf-requires-clause-there
drop_leaf-requires-clause-there g c =
    let h = c.requires.there.asks in let same = c.in-Some.ensures.same ∙ c.cell-node.ensures.same in
    record { t = _; version = _; asks = drop_asks same h (c.in-Some.ensures.last h.way _ (same_top g.C.CellRead.has c.cell-node.ensures.same (root_top h c.cell-node.ensures.value)) h.is_way) }

pub let_go-requires-clause-counted : goal.let_go-requires-clause-counted
let_go-requires-clause-counted g c k =
    let h = c.requires.there.asks in
    let alone = c.last_descent.ensures.none c.in-None.is h.way _ (same_top g.C.CellRead.has c.cell-node.ensures.same (root_top h c.cell-node.ensures.value)) h.is_way in
    let l = only_live h alone (only_item h alone (c.last_descent.ensures.same ∙ c.cell-node.ensures.same) c.cell-node.ensures.value c.item_below-item.ensures.len c.item_below-item.ensures.there) k in omega arith

pub let_go-requires-clause-item : goal.let_go-requires-clause-item
let_go-requires-clause-item g c =
    let h = c.requires.there.asks in
    let alone = c.last_descent.ensures.none c.in-None.is h.way _ (same_top g.C.CellRead.has c.cell-node.ensures.same (root_top h c.cell-node.ensures.value)) h.is_way in
    only_are h alone (only_item h alone (c.last_descent.ensures.same ∙ c.cell-node.ensures.same) c.cell-node.ensures.value c.item_below-item.ensures.len c.item_below-item.ensures.there)

pub returns-in-None : goal.returns-in-None
returns-in-None g c =
    let same = c.item_below-item.ensures.same ∙ c.last_descent.ensures.same ∙ c.cell-node.ensures.same in
    let consumed = ap (λ (z : Account). z.consumed) c.let_go.ensures.rest in
    record {
      stands = λ t version h.
          let alone = c.last_descent.ensures.none c.in-None.is h.way _ (same_top g.C.CellRead.has c.cell-node.ensures.same (root_top h c.cell-node.ensures.value)) h.is_way in
          only_gone h alone (only_item h alone (c.last_descent.ensures.same ∙ c.cell-node.ensures.same) c.cell-node.ensures.value c.item_below-item.ensures.len c.item_below-item.ensures.there) c.let_go.ensures.counts;
      lacks = tt;
      changes = record {
        outside = λ t version h q x used out there. subst (λ s. g.C.CellRead.has s q x) (sym same) there;
        consumes = λ t version h. omega arith;
        copies = λ t version h. omega arith;
        frame = fenced_of (frame_counts (frame_same same (frame_refl _ _)) c.let_go.ensures.rest (λ k. let e = c.let_go.ensures.counts k in omega arith));
        ready = ready_counts c.let_go.ensures.rest (ready_put c.requires.ready (ap g.C.CellWrite.given same) (ap g.C.CellWrite.kept same));
      };
    }

pub returns-in-Ok : goal.returns-in-Ok
returns-in-Ok g c =
    let same = c.in-Some.ensures.same ∙ c.cell-node.ensures.same in
    record {
      stands = λ t version h. c.in-Ok.ensures.stands t version (drop_asks same h (c.in-Some.ensures.last h.way _ (same_top g.C.CellRead.has c.cell-node.ensures.same (root_top h c.cell-node.ensures.value)) h.is_way));
      lacks = tt;
      changes = record {
        outside = λ t version h q x used out there. c.drop_leaf.ensures.changes.outside t version (drop_asks same h (c.in-Some.ensures.last h.way _ (same_top g.C.CellRead.has c.cell-node.ensures.same (root_top h c.cell-node.ensures.value)) h.is_way)) q x used out (subst (λ s. g.C.CellRead.has s q x) (sym same) there);
        consumes = λ t version h. c.drop_leaf.ensures.changes.consumes t version (drop_asks same h (c.in-Some.ensures.last h.way _ (same_top g.C.CellRead.has c.cell-node.ensures.same (root_top h c.cell-node.ensures.value)) h.is_way));
        copies = λ t version h. c.drop_leaf.ensures.changes.copies t version (drop_asks same h (c.in-Some.ensures.last h.way _ (same_top g.C.CellRead.has c.cell-node.ensures.same (root_top h c.cell-node.ensures.value)) h.is_way));
        frame = fenced_same same c.drop_leaf.ensures.changes.frame;
        ready = c.drop_leaf.ensures.changes.ready;
      };
    }

pub returns-in-Err : goal.returns-in-Err
returns-in-Err g c =
    let same = c.in-Some.ensures.same ∙ c.cell-node.ensures.same in
    record {
      stands = tt;
      lacks = record {
        refused = refused_same same c.in-Err.ensures.lacks.refused;
        asked = λ t version h. c.in-Err.ensures.lacks.asked t version (drop_asks same h (c.in-Some.ensures.last h.way _ (same_top g.C.CellRead.has c.cell-node.ensures.same (root_top h c.cell-node.ensures.value)) h.is_way));
      };
      changes = record {
        outside = λ t version h q x used out there. c.drop_leaf.ensures.changes.outside t version (drop_asks same h (c.in-Some.ensures.last h.way _ (same_top g.C.CellRead.has c.cell-node.ensures.same (root_top h c.cell-node.ensures.value)) h.is_way)) q x used out (subst (λ s. g.C.CellRead.has s q x) (sym same) there);
        consumes = λ t version h. c.drop_leaf.ensures.changes.consumes t version (drop_asks same h (c.in-Some.ensures.last h.way _ (same_top g.C.CellRead.has c.cell-node.ensures.same (root_top h c.cell-node.ensures.value)) h.is_way));
        copies = λ t version h. c.drop_leaf.ensures.changes.copies t version (drop_asks same h (c.in-Some.ensures.last h.way _ (same_top g.C.CellRead.has c.cell-node.ensures.same (root_top h c.cell-node.ensures.value)) h.is_way));
        frame = fenced_same same c.drop_leaf.ensures.changes.frame;
        ready = c.drop_leaf.ensures.changes.ready;
      };
    }

pub item_below-item-requires : goal.item_below-item-requires
item_below-item-requires g c =
    let h = c.requires.there.asks in
    let alone = c.last_descent.ensures.none c.in-None.is h.way _ (same_top g.C.CellRead.has c.cell-node.ensures.same (root_top h c.cell-node.ensures.value)) h.is_way in
    (_, _, only_at h alone (c.last_descent.ensures.same ∙ c.cell-node.ensures.same) c.cell-node.ensures.value)
