use Rattle.std.proofs.Common.{ℕ, ◌<◌, false, sym, ap, ◌∙◌, subst, arith}
use Rattle.shared_cells.specs.Cells.{Cells, given_chunks, HasCell}
use Rattle.shared_cells.proofs.Chunks.{chunk_within, same_chunks, wide_words, few_chunks, once_stored, give_cells, given_changes}
use Rattle.shared_cells.proofs.lent.TurnCellsCellWrite.give.Goals as goal

pub mark_given-requires-clause-inside : goal.mark_given-requires-clause-inside
mark_given-requires-clause-inside g c =
    let s = c.self.inside in
    subst (λ (n : ℕ). c.args.chunk < n) (sym (same_chunks s.shared.now.table.shared.key.chunks s.place.me.0.turn _ c.self.view_is)) (chunk_within c.args.self.now c.args.chunk false c.requires)

pub returns-clause-cells : goal.returns-clause-cells
returns-clause-cells g c q d has =
    let s = c.self.inside in
    let n = s.shared.now.table.shared.key.chunks in
    let now = once_stored n s.place.me c.mark_given.new.place.me _ c.self.view_is _ _ c.mark_given.ensures.stored in
    let few = few_chunks n s.place.me.0.turn _ c.self.view_is s.shared.now.few.1 in
    let wide = wide_words n s.place.me.0.turn _ c.self.view_is _ _ c.self.invariant.1 c.self.invariant.0.copied s.shared.now.wide in
    subst (λ (cells : Cells). HasCell cells q d) (sym now) (give_cells c.args.self.now c.args.chunk (chunk_within c.args.self.now c.args.chunk false c.requires) few wide q d has)

pub returns-clause-given : goal.returns-clause-given
returns-clause-given g c =
    let s = c.self.inside in
    let n = s.shared.now.table.shared.key.chunks in
    let now = once_stored n s.place.me c.mark_given.new.place.me _ c.self.view_is _ _ c.mark_given.ensures.stored in
    let few = few_chunks n s.place.me.0.turn _ c.self.view_is s.shared.now.few.1 in
    let wide = wide_words n s.place.me.0.turn _ c.self.view_is _ _ c.self.invariant.1 c.self.invariant.0.copied s.shared.now.wide in
    ap given_chunks now ∙ given_changes c.args.self.now c.args.chunk 1 (chunk_within c.args.self.now c.args.chunk false c.requires) (omega arith) few
