-- A job's needs, and what is told of them.
use Rattle.std.specs.Prelude.{◌≡◌, ℕ, List, ◌++◌, Option, Some, None, codes}
use Rattle.std.specs.Fmt.{decimal}
use Rattle.job_model.specs.Commands.{Command}
use Rattle.job_model.specs.Needs.{cells_of_workers, longest_of_workers}
use Rattle.job_script.specs.declared.needs.Needs.{Needs}

-- these are the cells that workers' commands add, and the operations of their longest transaction
abbrev pub AreNeedsOf : List (List Command) → Needs → Type 0
AreNeedsOf workers needs = (needs.cells ≡ cells_of_workers workers) × (needs.operations ≡ longest_of_workers workers)

-- how many chunks are enough; none where no number is
abbrev pub chunks_text : Option ℕ → List ℕ
chunks_text None = codes "none"
chunks_text (Some chunks) = decimal chunks

abbrev pub needs_text : Option ℕ → ℕ → ℕ → List ℕ
needs_text chunks cells operations = codes "chunks " ++ chunks_text chunks ++ codes " cells " ++ decimal cells ++ codes " operations " ++ decimal operations ++ codes "\n"
