-- The text of pieces.
use Rattle.std.specs.Prelude.{ℕ, List, ◌++◌}
use Rattle.std.specs.List.{flat_map}
use Rattle.job_report.specs.declared.pieces.Pieces.{Pieces}

abbrev pub pieces_text : Pieces → List ℕ
pieces_text p = flat_map (λ piece. piece.items) p.whole.items ++ p.last.items
