use Rattle.std.proofs.Common.{ℕ, List, sym, ap, ◌∙◌}
use Rattle.atomic_table.specs.Seated.{TableId}
use Rattle.shared_cells.specs.declared.view.View.{View}
use Rattle.shared_cells.specs.Cells.{Cells, with_words}
use Rattle.cell_tests.proofs.OneCellLaws.{same_count, given_back, has_back}
use Rattle.cell_tests.proofs.stress.write_next.Goals as goal

pub returns-clause-writes : goal.returns-clause-writes
returns-clause-writes g c =
    let shared = c.args.index.now in
    let lent = c.lay-is_written.new.cells in
    let back = c.into_joined.ensures in
    let words = ap (λ (t : TableId). t.words) (sym c.requires.lent.0 ∙ c.requires.table) in
    let same = same_count lent.chunks shared.table.shared.key.chunks _ (back.size ∙ words) shared.wide in
    record {
      same = back.seat ∙ ap (λ (v : View ℕ ℕ). with_words v lent.words) (sym c.requires.lent.1) ∙ ap (λ (ws : List ℕ). with_words c.args.turn.place.me.0 ws) (sym (ap (λ (k : Cells). k.words) back.cells));
      chunks = given_back _ c.into_joined.result.place.me.0.turn lent _ same back.cells _ c.lay-is_written.ensures.given;
      written = has_back _ c.into_joined.result.place.me.0.turn lent _ same back.cells _ _ c.lay-is_written.result c.lay-is_written.ensures.written;
    }
