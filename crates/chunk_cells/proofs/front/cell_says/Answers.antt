use Rattle.std.proofs.Common.{◌+◌, inl, inr, true≢false, sym, ◌∙◌, arith}
use Rattle.std.proofs.lemmas.Bool.{cases_lt}
use Rattle.chunk_cells.proofs.front.cell_says.Goals as goal

pub returns-then-says : goal.returns-then-says
returns-then-says c item low big small = (
  λ t i l m n. elim (cases_lt i (c.args.start + 8)) [
    | inl first ↦ (c.says.ensures item low big).0 c.if-says.true i l first n
    | inr second ↦ (c.says-then-says.ensures item low small).0 t i second (omega arith) n
  ],
  λ same. (c.says-then-says.ensures item low small).1 (λ i l m n. same i (omega arith) (omega arith) n),
)

pub returns-else-says : goal.returns-else-says
returns-else-says c item low big small = (
  λ t. absurd (true≢false (sym t ∙ c.if-says.false)),
  λ same. (c.says.ensures item low big).1 (λ i l m n. same i l (omega arith) n),
)
