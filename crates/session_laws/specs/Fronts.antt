-- What is printed first.
use Rattle.std.specs.Prelude.{◌≡◌, ℕ, List, ◌++◌}
use Rattle.zone_model.specs.Names.{Name}
use Rattle.zone_model.specs.Versions.{Version}
use Rattle.job_model.specs.Sessions.{Answered, Said}

-- the text begins with one that is due for what lines said, while more may come
abbrev pub BeginsAnswered : ℕ → Name → Version → List Said → List ℕ → Type 0
BeginsAnswered chunks origin zone said text = (front : List ℕ) × (rest : List ℕ) × (text ≡ front ++ rest) × Answered chunks origin zone said front
