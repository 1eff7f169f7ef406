-- What a pass sees of a zone where all is done.
use Rattle.std.specs.Prelude.{◌≡◌, ℕ}
use Rattle.qp_multi.specs.Passes.{Known}
use Rattle.job_commands.specs.declared.closing.Last.{Last}
use Rattle.job_commands.specs.Endings.{Measured}

-- A pass took the current version, and left it again. It had so many names.
abbrev pub Counted : Known → Known → ℕ → Type 0
Counted old new names = (last : Last) × Measured old new last × (last.names ≡ names)
