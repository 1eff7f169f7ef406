-- The outcomes of one list of commands, and what is printed of them.
use Rattle.std.specs.Prelude.{ℕ, ◌+◌, List, [], ◌∷◌, ◌++◌}
use Rattle.zone_model.specs.Names.{Name}
use Rattle.zone_model.specs.Versions.{Version}
use Rattle.job_model.specs.Commands.{Command}
use Rattle.job_model.specs.Feeds.{FedPair}
use Rattle.job_report.specs.Outcomes.{outcome_view, outcome_text, Tells}
use Rattle.job_report.specs.declared.outcomes.FedOutcome.{FedOutcome}

-- the commands with their outcomes and workers
abbrev pub fed_pairs : List Command → List FedOutcome → List FedPair
fed_pairs [] os = []
fed_pairs (c ∷ cs) [] = []
fed_pairs (c ∷ cs) (o ∷ os) = record { worker = o.worker; pair = (c, outcome_view o.outcome) } ∷ fed_pairs cs os

-- there is one for each command, and it tells what is so
abbrev pub FedTell : Name → (ℕ → Version) → List Command → List FedOutcome → Type 0
FedTell origin set [] [] = Unit {0}
FedTell origin set [] (o ∷ os) = ⊥
FedTell origin set (c ∷ cs) [] = ⊥
FedTell origin set (c ∷ cs) (o ∷ os) = Tells origin set c o.outcome × FedTell origin set cs os

-- what is printed of outcomes, the first of which is command n's
abbrev pub fed_outcomes_text : ℕ → List FedOutcome → List ℕ
fed_outcomes_text n [] = []
fed_outcomes_text n (o ∷ os) = outcome_text o.worker n o.outcome ++ fed_outcomes_text (n + 1) os
