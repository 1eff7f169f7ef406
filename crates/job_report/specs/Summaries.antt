-- What is printed of outcomes where a load is summed up.
use Rattle.std.specs.Prelude.{◌≡◌, ℕ, ◌+◌, Bool, List, [], ◌∷◌, ◌++◌, length, if◌then◌else◌}
use Rattle.job_model.specs.Outcomes.{Ended, is_committed, is_refused}
use Rattle.job_model.specs.Summaries.{counts_text, sized_end_text}
use Rattle.job_report.specs.Outcomes.{ended_view, outcome_text}
use Rattle.job_report.specs.declared.outcomes.Outcome.{Outcome}
use Rattle.job_report.specs.declared.outcomes.Outcomes.{Outcomes}
use Rattle.job_report.specs.declared.summary.Tally.{Tally}

-- how many of a worker's commands ended so, and of all workers'

abbrev pub told_count : (Ended → Bool) → List Outcome → ℕ
told_count so [] = 0
told_count so (o ∷ os) = (if so (ended_view o.told) then 1 else 0) + told_count so os

abbrev pub all_count : (Ended → Bool) → List Outcomes → ℕ
all_count so [] = 0
all_count so (w ∷ ws) = told_count so w.list.items + all_count so ws

abbrev pub commands_in : List Outcomes → ℕ
commands_in [] = 0
commands_in (w ∷ ws) = length w.list.items + commands_in ws

-- the lines of worker w's refused transactions, the first outcome being command c's; and of the workers from w on

abbrev pub refused_lines : ℕ → ℕ → List Outcome → List ℕ
refused_lines w c [] = []
refused_lines w c (o ∷ os) = (if is_refused (ended_view o.told) then outcome_text w c o else []) ++ refused_lines w (c + 1) os

abbrev pub all_refused_lines : ℕ → List Outcomes → List ℕ
all_refused_lines w [] = []
all_refused_lines w (o ∷ os) = refused_lines w 1 o.list.items ++ all_refused_lines (w + 1) os

-- a tally with a worker's outcomes counted, and with all workers'

pub record Tallied (before : Tally) (os : List Outcome) (t : Tally) : Type 0 where
  pub commands : t.commands ≡ before.commands + length os
  pub committed : t.committed ≡ before.committed + told_count is_committed os
  pub refused : t.refused ≡ before.refused + told_count is_refused os

pub record AllTallied (before : Tally) (ws : List Outcomes) (t : Tally) : Type 0 where
  pub commands : t.commands ≡ before.commands + commands_in ws
  pub committed : t.committed ≡ before.committed + all_count is_committed ws
  pub refused : t.refused ≡ before.refused + all_count is_refused ws

-- the counts, the refused transactions, and the last version with its size
abbrev pub summary_text : List Outcomes → ℕ → ℕ → ℕ → List ℕ
summary_text ws last names nodes =
    counts_text (commands_in ws) (all_count is_committed ws) (all_count is_refused ws) ++ all_refused_lines 1 ws ++ sized_end_text last names nodes
