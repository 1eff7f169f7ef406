use Rattle.std.proofs.Common.{ℕ, ◌<◌, List, true, sym, ap, ◌∙◌, subst, arith}
use Rattle.pin_core.specs.declared.kept.Kept.{Kept}
use Rattle.pin_core.specs.Machine.{is_kept_chunk}
use Rattle.shared_cells.specs.Cells.{Cells, given_chunks, HasCell}
use Rattle.shared_cells.proofs.Chunks.{chunk_within, same_chunks, same_kept, wide_words, few_chunks, once_stored, unkept_chunk, status_others, given_changes}
use Rattle.shared_cells.proofs.Copies.{lent_turn}
use Rattle.shared_cells.proofs.lent.TurnCellsCellWrite.free.Goals as goal

pub mark_free-requires-clause-may : goal.mark_free-requires-clause-may
mark_free-requires-clause-may g c =
    let s = c.self.inside in
    record {
      turn = lent_turn c.self.invariant.0;
      inside = subst (λ (n : ℕ). c.args.chunk < n) (sym (same_chunks s.shared.now.table.shared.key.chunks s.place.me.0.turn _ c.self.view_is)) (chunk_within c.args.self.now c.args.chunk true c.requires.given);
      unkept = ap (λ (ks : List Kept). is_kept_chunk ks c.args.chunk) (same_kept s.shared.now.table.shared.key.chunks s.place.me.0.turn _ c.self.view_is) ∙ unkept_chunk c.args.self.now c.args.chunk c.requires.unkept;
    }

pub returns-clause-others : goal.returns-clause-others
returns-clause-others g c q d apart has =
    let s = c.self.inside in
    let n = s.shared.now.table.shared.key.chunks in
    let now = once_stored n s.place.me c.mark_free.new.place.me _ c.self.view_is _ _ c.mark_free.ensures.stored in
    let few = few_chunks n s.place.me.0.turn _ c.self.view_is s.shared.now.few.1 in
    let wide = wide_words n s.place.me.0.turn _ c.self.view_is _ _ c.self.invariant.1 c.self.invariant.0.copied s.shared.now.wide in
    subst (λ (cells : Cells). HasCell cells q d) (sym now) (status_others c.args.self.now c.args.chunk 0 (chunk_within c.args.self.now c.args.chunk true c.requires.given) few wide q d apart has)

pub returns-clause-given : goal.returns-clause-given
returns-clause-given g c =
    let s = c.self.inside in
    let n = s.shared.now.table.shared.key.chunks in
    let now = once_stored n s.place.me c.mark_free.new.place.me _ c.self.view_is _ _ c.mark_free.ensures.stored in
    let few = few_chunks n s.place.me.0.turn _ c.self.view_is s.shared.now.few.1 in
    let wide = wide_words n s.place.me.0.turn _ c.self.view_is _ _ c.self.invariant.1 c.self.invariant.0.copied s.shared.now.wide in
    ap given_chunks now ∙ given_changes c.args.self.now c.args.chunk 0 (chunk_within c.args.self.now c.args.chunk true c.requires.given) (omega arith) few
