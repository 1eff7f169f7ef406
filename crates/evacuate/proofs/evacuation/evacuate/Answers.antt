use Rattle.std.proofs.Common.{◌+◌, ◌*◌, ◌-◌, ◌≤◌, ℕ, Option, length, slice_index, refl, sym, subst, arith}
use Rattle.trie_model.specs.Shape.{cells}
use Rattle.chunk_usage.specs.Handing.{consumed}
use Rattle.chunk_usage.specs.Ledger.{is_used, free_count}
use Rattle.chunk_usage.specs.Rooms.{account_of}
use Rattle.trie_space.specs.Standing.{HasTrie, Standing}
use Rattle.trie_space.proofs.SpaceLaws.{fenced_of, frame_refl}
use Rattle.evacuate.proofs.EndLaws.{asked_by, dense_of, old_cells, same_chunks, same_trie, stands_again, stood_of}
use Rattle.evacuate.proofs.ReserveLaws.{ready_for_reserve, ready_after_reserve}
use Rattle.evacuate.proofs.evacuation.evacuate.Goals as goal

pub empty_sparse-new-requires-clause-ready : goal.empty_sparse-new-requires-clause-ready
empty_sparse-new-requires-clause-ready g c = ready_for_reserve c.requires.ready

pub empty_sparse-new-requires-clause-stood : goal.empty_sparse-new-requires-clause-stood
empty_sparse-new-requires-clause-stood g c =
    let h = subst (λ (r : Option ℕ). Standing (g.C.CellRead.has c.args.cells.now) (is_used c.args.usage.now) (slice_index c.args.usage.now.live) r c.requires.stands.0) c.in-Some.is c.requires.stands.1 in
    record { es = c.requires.stands.0; t = h.0; stood = stood_of h.1 }

pub returns-then-is_any_sparse-clause-trie : goal.returns-then-is_any_sparse-clause-trie
returns-then-is_any_sparse-clause-trie g c = record {
  stands = λ version stands.
      let h = subst (λ (r : Option ℕ). Standing (g.C.CellRead.has c.args.cells.now) (is_used c.args.usage.now) (slice_index c.args.usage.now.live) r version) c.in-Some.is stands in
      let n = c.empty_sparse-new.ensures.emptied.stood version h.0 (stood_of h.1) in (n.0, stands_again n.1);
  asks = λ version stands.
      let h = subst (λ (r : Option ℕ). Standing (g.C.CellRead.has c.args.cells.now) (is_used c.args.usage.now) (slice_index c.args.usage.now.live) r version) c.in-Some.is stands in
      let most = old_cells {has = g.C.CellRead.has} {s = c.args.cells.now} {l = c.args.usage.now} (stood_of h.1) in
      let paid : consumed c.empty_sparse-new.new.usage ≤ 769 * (length c.args.usage.now.given - free_count c.args.usage.now) + cells version = let p = c.empty_sparse-new.ensures.emptied.paid in omega arith in
      asked_by c.args.usage.now c.empty_sparse-new.new.usage c.empty_sparse-new.ensures.emptied.count (cells version) paid c.empty_sparse-new.result.1 c.empty_sparse-new.ensures.ended.full;
}

pub returns-then-is_any_sparse-clause-chunks : goal.returns-then-is_any_sparse-clause-chunks
returns-then-is_any_sparse-clause-chunks g c =
    let end = c.empty_sparse-new.ensures.ended in
    let h = c.if-is_any_sparse.ensures.some refl in
    record {
      none = λ cleared. absurd (let z = cleared h.chunk h.sparse in let s = h.some in omega arith);
      fills = c.empty_sparse-new.ensures.emptied.fills;
      whole = λ e. dense_of c.empty_sparse-new.new.usage c.known-then-is_any_sparse.ensures (end.whole e);
      stopped = end.full;
      left = end.left;
    }

pub returns-then-is_any_sparse-clause-rest : goal.returns-then-is_any_sparse-clause-rest
returns-then-is_any_sparse-clause-rest g c = let x = c.empty_sparse-new.ensures.emptied.rest in record { frame = x.frame; ready = ready_after_reserve x.ready }

pub returns-in-None-clause-trie : goal.returns-in-None-clause-trie
returns-in-None-clause-trie g c = same_trie (sym c.in-None.is)

pub returns-in-None-clause-chunks : goal.returns-in-None-clause-chunks
returns-in-None-clause-chunks g c =
    let h = subst (λ (r : Option ℕ). HasTrie g.C.CellRead.has account_of c.args.cells.now c.args.usage.now r c.requires.stands.0) c.in-None.is c.requires.stands.1 in
    same_chunks c.known.ensures (λ k some shut. absurd (let none = h.1 k in omega arith))

pub returns-in-None-clause-rest : goal.returns-in-None-clause-rest
returns-in-None-clause-rest g c = record { frame = fenced_of (frame_refl _ _); ready = c.requires.ready }

pub returns-else-is_any_sparse-clause-trie : goal.returns-else-is_any_sparse-clause-trie
returns-else-is_any_sparse-clause-trie g c = same_trie (sym c.in-Some.is)

pub returns-else-is_any_sparse-clause-chunks : goal.returns-else-is_any_sparse-clause-chunks
returns-else-is_any_sparse-clause-chunks g c = same_chunks c.known.ensures (dense_of c.args.usage.now c.known.ensures (c.if-is_any_sparse.ensures.none refl))

pub returns-else-is_any_sparse-clause-rest : goal.returns-else-is_any_sparse-clause-rest
returns-else-is_any_sparse-clause-rest g c = record { frame = fenced_of (frame_refl _ _); ready = c.requires.ready }
