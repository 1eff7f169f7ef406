use Rattle.std.proofs.Common.{◌≡◌, ℕ, ◌*◌, ◌/◌, ◌%◌, List, Bool, false, length, sym, ap, ◌∙◌, subst, arith, length-set}
use Rattle.std.specs.List.{Contains}
use Rattle.chunk_cells.specs.Chunks.{IsGiven}
use Rattle.cell_tests.proofs.OneCellLaws.{not_in_use, just_given}
use Rattle.cell_tests.proofs.stress.lay.Goals as goal
use Rattle.cell_tests.proofs.stress.lay.Goals.{then-given-chunk, else-given-chunk}

pub free-requires-clause-unkept : goal.free-requires-clause-unkept
free-requires-clause-unkept g c = not_in_use c.args.versions.now (g.C.CellWrite.kept c.args.cells.now) (c.args.next % 6) (sym c.is_in_use.ensures ∙ c.if-is_in_use.false) c.requires.knows.kept

pub put-requires-clause-given : goal.put-requires-clause-given
put-requires-clause-given g c =
    let now = c.if-given-chunk.cells in
    let n = c.args.next in
    let long : length (g.C.CellWrite.given now) ≡ 6 =
    elim c.if-given-chunk.branch [
      | then-given-chunk w ↦ ap (λ x. length (g.C.CellWrite.given x)) w.cells-is ∙ ap length w.free.ensures.given ∙ length-set (g.C.CellWrite.given c.args.cells.now) (n % 6) false ∙ ap length c.requires.knows.each ∙ c.requires.knows.six
      | else-given-chunk w ↦ ap (λ x. length (g.C.CellWrite.given x)) w.cells-is ∙ ap length c.requires.knows.each ∙ c.requires.knows.six
    ] in
    subst (λ (bs : List Bool). IsGiven bs (1024 * (n % 6) / 1024)) (sym c.give.ensures.given) (just_given (g.C.CellWrite.given now) n (omega arith))

pub put-requires-clause-unkept : goal.put-requires-clause-unkept
put-requires-clause-unkept g c has =
    let n = c.args.next in
    let kept : g.C.CellWrite.kept c.give.new.self ≡ g.C.CellWrite.kept c.args.cells.now =
    elim c.if-given-chunk.branch [
      | then-given-chunk w ↦ c.give.ensures.kept ∙ ap (λ x. g.C.CellWrite.kept x) w.cells-is ∙ w.free.ensures.kept
      | else-given-chunk w ↦ c.give.ensures.kept ∙ ap (λ x. g.C.CellWrite.kept x) w.cells-is
    ] in
    not_in_use c.args.versions.now (g.C.CellWrite.kept c.args.cells.now) (n % 6) (sym c.is_in_use.ensures ∙ c.if-is_in_use.false) c.requires.knows.kept (1024 * (n % 6))
    (subst (λ (qs : List ℕ). Contains qs (1024 * (n % 6))) kept has) (omega arith)
