use Rattle.std.proofs.Common.{ℕ, ◌/◌, ◌<◌, List, true, sym, ap, ◌∙◌, subst}
use Rattle.pin_core.specs.declared.kept.Kept.{Kept}
use Rattle.pin_core.specs.Machine.{is_kept_cell}
use Rattle.shared_cells.specs.Cells.{Cells, given_chunks, HasCell}
use Rattle.shared_cells.proofs.Chunks.{chunk_within, same_chunks, same_kept, wide_words, unkept_cell, kept_once, twice_stored, put_given, put_has, put_others, few_chunks}
use Rattle.shared_cells.proofs.Copies.{lent_turn, turn_stored}
use Rattle.shared_cells.proofs.lent.TurnCellsCellWrite.put.Goals as goal

pub write_half-requires-clause-may : goal.write_half-requires-clause-may
write_half-requires-clause-may g c =
    let s = c.self.inside in
    record {
      turn = lent_turn c.self.invariant.0;
      inside = subst (λ (n : ℕ). c.args.at / 1024 < n) (sym (same_chunks s.shared.now.table.shared.key.chunks s.place.me.0.turn _ c.self.view_is)) (chunk_within c.args.self.now _ true c.requires.given);
      unkept = ap (λ (ks : List Kept). is_kept_cell ks c.args.at) (same_kept s.shared.now.table.shared.key.chunks s.place.me.0.turn _ c.self.view_is) ∙ unkept_cell c.args.self.now c.args.at c.requires.unkept;
    }

pub write_half-requires-2-clause-may : goal.write_half-requires-2-clause-may
write_half-requires-2-clause-may g c =
    let s = c.self.inside in
    record {
      turn = turn_stored s.place.me c.write_half.new.place.me _ _ c.write_half.ensures.stored (lent_turn c.self.invariant.0);
      inside = subst (λ (n : ℕ). c.args.at / 1024 < n) (sym (same_chunks s.shared.now.table.shared.key.chunks s.place.me.0.turn _ c.self.view_is)) (chunk_within c.args.self.now _ true c.requires.given);
      unkept = ap (λ (ks : List Kept). is_kept_cell ks c.args.at) (kept_once s.shared.now.table.shared.key.chunks s.place.me c.write_half.new.place.me _ c.self.view_is _ _ c.write_half.ensures.stored) ∙ unkept_cell c.args.self.now c.args.at c.requires.unkept;
    }

pub returns-clause-written : goal.returns-clause-written
returns-clause-written g c =
    let s = c.self.inside in
    let n = s.shared.now.table.shared.key.chunks in
    let now = twice_stored n s.place.me c.write_half.new.place.me _ c.self.view_is c.write_half-2.new.place.me c.args.at c.args.cell c.write_half.ensures.stored c.write_half-2.ensures.stored in
    let few = few_chunks n s.place.me.0.turn _ c.self.view_is s.shared.now.few.1 in
    let wide = wide_words n s.place.me.0.turn _ c.self.view_is _ _ c.self.invariant.1 c.self.invariant.0.copied s.shared.now.wide in
    subst (λ (cells : Cells). HasCell cells c.args.at c.args.cell) (sym now) (put_has c.args.self.now c.args.at c.args.cell few wide c.requires.given)

pub returns-clause-others : goal.returns-clause-others
returns-clause-others g c q d apart has =
    let s = c.self.inside in
    let n = s.shared.now.table.shared.key.chunks in
    let now = twice_stored n s.place.me c.write_half.new.place.me _ c.self.view_is c.write_half-2.new.place.me c.args.at c.args.cell c.write_half.ensures.stored c.write_half-2.ensures.stored in
    let few = few_chunks n s.place.me.0.turn _ c.self.view_is s.shared.now.few.1 in
    subst (λ (cells : Cells). HasCell cells q d) (sym now) (put_others c.args.self.now c.args.at c.args.cell few q d apart has)

pub returns-clause-given : goal.returns-clause-given
returns-clause-given g c =
    let s = c.self.inside in
    let n = s.shared.now.table.shared.key.chunks in
    let now = twice_stored n s.place.me c.write_half.new.place.me _ c.self.view_is c.write_half-2.new.place.me c.args.at c.args.cell c.write_half.ensures.stored c.write_half-2.ensures.stored in
    let few = few_chunks n s.place.me.0.turn _ c.self.view_is s.shared.now.few.1 in
    ap given_chunks now ∙ put_given c.args.self.now c.args.at c.args.cell few
