use Rattle.std.proofs.Common.{◌≡◌, ℕ, ◌+◌, ◌%◌, ◌^◌, count_ones, arith, refl, sym, ◌∙◌, ap, subst}
use Rattle.std.specs.Int.{bit_at}
use Rattle.packed_node.specs.Nodes.{IsBranch, branch_cell}
use Rattle.trie_model.specs.Extents.{IsRow}
use Rattle.trie_model.specs.Keys.{at}
use Rattle.trie_space.proofs.SpaceLaws.{err_on, frame_wrote, frame_refl, ready_put, wrote_one}
use Rattle.chunk_usage.specs.Rooms.{Handed}
use Rattle.trie_write.specs.declared.change.Span.{Span}
use Rattle.trie_write.proofs.WithLaws.{among_n, among_absent, among_small, among_lies, among_before, among_there, among_used, among_few, more_branch, joined, cell_of_leaf, leaf_node, leaf_is}
use Rattle.trie_write.proofs.add_leaf.join_twigs.Goals as goal

pub copy_apart-requires : goal.copy_apart-requires
copy_apart-requires g c =
    let h = c.requires.asks in let n = c.twig_count.ensures in
    record {
      index = (let i = among_before h.asks h.top h.here in let m = c.twig_index-index.ensures.by_popcount ∙ ap (λ (p : ℕ). count_ones (c.args.branch.bitmap % 2 ^ p)) c.at-position.ensures in omega arith);
      some = omega arith;
      few = (let p = among_few h.asks h.top h.here in omega arith);
      inside = (let r = (among_lies h.asks h.top h.here).inside in let m = among_n h.asks h.top h.here in omega arith);
      there = λ i l. among_there h.asks h.top h.here i (omega arith);
      in_use = λ i l. among_used h.asks h.top h.here i (omega arith);
      ready = c.requires.ready;
    }

pub pack-requires : goal.pack-requires
pack-requires g c = leaf_node c.requires.asks.asks c.leaf.ensures.len c.leaf.ensures.at

pub put-requires-clause-given : goal.put-requires-clause-given
put-requires-clause-given g c =
    let h = c.requires.asks in
    c.in_ok-to.ensures.copied.blank.in_given c.twig_index-index.result (let i = among_before h.asks h.top h.here in let n = c.twig_count.ensures in let m = c.twig_index-index.ensures.by_popcount ∙ ap (λ (p : ℕ). count_ones (c.args.branch.bitmap % 2 ^ p)) c.at-position.ensures in omega arith)

pub put-requires-clause-unkept : goal.put-requires-clause-unkept
put-requires-clause-unkept g c =
    let h = c.requires.asks in
    c.in_ok-to.ensures.copied.blank.unkept c.twig_index-index.result (let i = among_before h.asks h.top h.here in let n = c.twig_count.ensures in let m = c.twig_index-index.ensures.by_popcount ∙ ap (λ (p : ℕ). count_ones (c.args.branch.bitmap % 2 ^ p)) c.at-position.ensures in omega arith)

pub with-requires-clause-bitmap : goal.with-requires-clause-bitmap
with-requires-clause-bitmap g c = let h = c.requires.asks in among_small h.asks h.top h.here

pub with-requires-clause-absent : goal.with-requires-clause-absent
with-requires-clause-absent g c = let h = c.requires.asks in subst (λ (p : ℕ). bit_at c.args.branch.bitmap p ≡ 0) (sym c.at-position.ensures) (among_absent h.asks h.top h.here)

pub leaf_added-requires : goal.leaf_added-requires
leaf_added-requires g c =
    let h = c.requires.asks in
    subst (λ (b : ℕ). IsBranch (record { offset = c.args.first.place; bitmap = b; twigs = c.in_ok-to.to })) (sym (c.with.ensures ∙ ap (λ (p : ℕ). c.args.branch.bitmap + 2 ^ p) c.at-position.ensures))
    (more_branch h.asks h.top h.here (subst (IsRow c.in_ok-to.to) (let n = c.twig_count.ensures in omega arith) c.in_ok-to.ensures.copied.handed.twigs))

pub returns-clause-added : goal.returns-clause-added
returns-clause-added g c = record {
  with = λ item end y.
      let x = y.1 in let t = y.2 in
      let here = c.requires.asks.here in
      let h = c.in_ok-to.ensures.copied.handed in
      let i = among_before x t here in let n = c.twig_count.ensures in let m = c.twig_index-index.ensures.by_popcount ∙ ap (λ (p : ℕ). count_ones (c.args.branch.bitmap % 2 ^ p)) c.at-position.ensures in
      let frame = frame_wrote h c.in_ok-to.ensures.takes.frame (frame_refl _ _) (wrote_one (c.in_ok-to.to + c.twig_index-index.result) c.twig_index-index.result (omega arith) refl c.put.ensures.others c.put.ensures.given c.put.ensures.kept) in
      joined x t here (subst (IsRow c.in_ok-to.to) (omega arith) h.twigs) frame
      (λ j d l there. c.put.ensures.others _ d (λ e. omega arith) (c.in_ok-to.ensures.copied.before j d (omega arith) there))
      (λ j d l there.
      let z : c.args.branch.twigs + (count_ones (c.args.branch.bitmap % 2 ^ at c.args.key.now c.args.first.place) + 0 + j) ≡ c.args.branch.twigs + (c.twig_index-index.result + 0 + j) = omega arith in
      let v : c.in_ok-to.to + (c.twig_index-index.result + 1 + j) ≡ c.in_ok-to.to + (count_ones (c.args.branch.bitmap % 2 ^ at c.args.key.now c.args.first.place) + 1 + j) = omega arith in
      c.put.ensures.others _ d (λ e. omega arith) (subst (λ q. g.C.CellRead.has c.copy_apart.new.cells q d) v (c.in_ok-to.ensures.copied.after j d (omega arith) (subst (λ q. g.C.CellRead.has c.args.cells.now q d) z there))))
      (subst (λ (k : ℕ). g.C.CellRead.has c.put.new.self (c.in_ok-to.to + k) (cell_of_leaf x)) m (subst (λ d. g.C.CellRead.has c.put.new.self (c.in_ok-to.to + c.twig_index-index.result) d) (c.pack.ensures ∙ leaf_is x c.leaf.ensures.len c.leaf.ensures.at) c.put.ensures.written))
      (c.leaf_added.ensures.cell ∙ ap (λ (b : ℕ). branch_cell (record { offset = c.args.first.place; bitmap = b; twigs = c.in_ok-to.to })) (c.with.ensures ∙ ap (λ (p : ℕ). c.args.branch.bitmap + 2 ^ p) c.at-position.ensures))
      (c.leaf_added.ensures.new_twigs ∙ ap (λ (k : ℕ). record { at = c.in_ok-to.to; n = k + 1 }) n) c.leaf_added.ensures.new_item (c.leaf_added.ensures.old_twigs ∙ ap (λ (k : ℕ). record { at = c.args.branch.twigs; n = k }) n) c.leaf_added.ensures.old_item;
  handed = subst (λ (x : Span). Handed (g.U.Space.account c.args.usage.now) (g.U.Space.account c.copy_apart.new.usage) x.at x.n) (sym c.leaf_added.ensures.new_twigs) (subst (Handed (g.U.Space.account c.args.usage.now) (g.U.Space.account c.copy_apart.new.usage) c.in_ok-to.to) (omega arith) c.in_ok-to.ensures.copied.handed);
  item = c.leaf_added.ensures.new_item;
}

pub returns-clause-takes : goal.returns-clause-takes
returns-clause-takes g c =
    let h = c.requires.asks in
    let i = among_before h.asks h.top h.here in let n = c.twig_count.ensures in let m = c.twig_index-index.ensures.by_popcount ∙ ap (λ (p : ℕ). count_ones (c.args.branch.bitmap % 2 ^ p)) c.at-position.ensures in
    let wrote = wrote_one (c.in_ok-to.to + c.twig_index-index.result) c.twig_index-index.result (omega arith) refl c.put.ensures.others c.put.ensures.given c.put.ensures.kept in
    record {
      consumes = (let s = c.copy_apart.ensures.takes.consumes in omega arith);
      frame = frame_wrote c.in_ok-to.ensures.copied.handed c.in_ok-to.ensures.takes.frame (frame_refl _ _) wrote;
      ready = ready_put c.in_ok-to.ensures.takes.ready c.put.ensures.given c.put.ensures.kept;
    }

pub returns-in_err-to-clause-lacks : goal.returns-in_err-to-clause-lacks
returns-in_err-to-clause-lacks g c = err_on _ c.from_residual.result c.from_residual.ensures.1 (record { refused = c.in_err-to.ensures.lacks.refused; asked = (let n = c.twig_count.ensures in let e = c.in_err-to.ensures.lacks.asked in omega arith) })

pub returns-in_err-to-clause-takes : goal.returns-in_err-to-clause-takes
returns-in_err-to-clause-takes g c = record { consumes = (let n = c.twig_count.ensures in let s = c.copy_apart.ensures.takes.consumes in omega arith); frame = c.copy_apart.ensures.takes.frame; ready = c.copy_apart.ensures.takes.ready }
