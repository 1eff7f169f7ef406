-- Outcomes as the definitions see them, and what is printed of them.
use Rattle.std.specs.Prelude.{◌≡◌, ℕ, ◌+◌, List, [], ◌∷◌, ◌++◌, codes}
use Rattle.zone_model.specs.Names.{Name}
use Rattle.zone_model.specs.Versions.{Version}
use Rattle.job_model.specs.Commands as jobs
use Rattle.job_model.specs.Outcomes as outcomes
use Rattle.job_model.specs.Outcomes.{Pair, all_pairs, version_at}
use Rattle.job_model.specs.Replies.{reply_of, reply_text}
use Rattle.job_model.specs.Replies as replies
use Rattle.job_model.specs.Reports.{head_text, ended_text, compacted_text}
use Rattle.job_report.specs.declared.outcomes.Cause.{Cause}
use Rattle.job_report.specs.declared.outcomes.Cause.TheVariants as cause
use Rattle.job_report.specs.declared.outcomes.Told.{Told}
use Rattle.job_report.specs.declared.outcomes.Told.TheVariants as told
use Rattle.job_report.specs.declared.outcomes.Outcome.{Outcome}
use Rattle.job_report.specs.declared.outcomes.Outcomes.{Outcomes}

abbrev pub cause_view : Cause → outcomes.Cause
cause_view (cause.Rule refusal) = outcomes.Rule refusal
cause_view (cause.Full operation kept) = outcomes.Full operation kept.items
cause_view cause.Spent = outcomes.Spent

abbrev pub ended_view : Told → outcomes.Ended
ended_view (told.Reply text) = outcomes.Shown
ended_view told.Held = outcomes.Shown
ended_view told.Released = outcomes.Shown
ended_view told.Committed = outcomes.Committed
ended_view told.Compacted = outcomes.Committed
ended_view told.RolledBack = outcomes.RolledBack
ended_view (told.Refused refused) = outcomes.Refused (cause_view refused)

abbrev pub outcome_view : Outcome → outcomes.Outcome
outcome_view o = record { version = o.version; ended = ended_view o.told }

-- a worker's commands with their outcomes, and those of all workers
abbrev pub pairs_of : List jobs.Command → List Outcome → List Pair
pairs_of [] os = []
pairs_of (c ∷ cs) [] = []
pairs_of (c ∷ cs) (o ∷ os) = (c, outcome_view o) ∷ pairs_of cs os

abbrev pub job_pairs : List (List jobs.Command) → List Outcomes → List (List Pair)
job_pairs [] os = []
job_pairs (w ∷ ws) [] = []
job_pairs (w ∷ ws) (o ∷ os) = pairs_of w o.list.items ∷ job_pairs ws os

-- the versions of a zone that the outcomes of a job make
abbrev pub versions_made : Name → Version → List (List jobs.Command) → List Outcomes → ℕ → Version
versions_made origin zone workers os = version_at origin zone (all_pairs (job_pairs workers os))

-- ---- outcomes that tell what is so

-- the text of the reply that is wanted
abbrev pub Replies : replies.Reply → Told → Type 0
Replies wanted (told.Reply text) = text ≡ reply_text wanted
Replies wanted told.Held = ⊥
Replies wanted told.Released = ⊥
Replies wanted told.Committed = ⊥
Replies wanted told.Compacted = ⊥
Replies wanted told.RolledBack = ⊥
Replies wanted (told.Refused refused) = ⊥

abbrev pub EndsBlock : Told → Type 0
EndsBlock (told.Reply text) = ⊥
EndsBlock told.Held = ⊥
EndsBlock told.Released = ⊥
EndsBlock told.Committed = Unit {0}
EndsBlock told.Compacted = ⊥
EndsBlock told.RolledBack = Unit {0}
EndsBlock (told.Refused refused) = Unit {0}

abbrev pub EndsCompaction : Told → Type 0
EndsCompaction (told.Reply text) = ⊥
EndsCompaction told.Held = ⊥
EndsCompaction told.Released = ⊥
EndsCompaction told.Committed = ⊥
EndsCompaction told.Compacted = Unit {0}
EndsCompaction told.RolledBack = ⊥
EndsCompaction (told.Refused refused) = Unit {0}

-- The outcome is of its command's kind, and a question's reply is what the version replies that it shows.
abbrev pub Tells : Name → (ℕ → Version) → jobs.Command → Outcome → Type 0
Tells origin set (jobs.Ask question) o = Replies (reply_of origin (set o.version) question) o.told
Tells origin set jobs.Hold o = o.told ≡ told.Held
Tells origin set (jobs.AskHeld question) o = Replies (reply_of origin (set o.version) question) o.told
Tells origin set jobs.Release o = o.told ≡ told.Released
Tells origin set (jobs.Block _ asked ending) o = EndsBlock o.told
Tells origin set jobs.Compact o = EndsCompaction o.told

-- there is one for each command of a worker, and a list for each worker
abbrev pub EachTells : Name → (ℕ → Version) → List jobs.Command → List Outcome → Type 0
EachTells origin set [] [] = Unit {0}
EachTells origin set [] (o ∷ os) = ⊥
EachTells origin set (c ∷ cs) [] = ⊥
EachTells origin set (c ∷ cs) (o ∷ os) = Tells origin set c o × EachTells origin set cs os

abbrev pub AllTell : Name → (ℕ → Version) → List (List jobs.Command) → List Outcomes → Type 0
AllTell origin set [] [] = Unit {0}
AllTell origin set [] (o ∷ os) = ⊥
AllTell origin set (w ∷ ws) [] = ⊥
AllTell origin set (w ∷ ws) (o ∷ os) = EachTells origin set w o.list.items × AllTell origin set ws os

-- ---- what is printed

abbrev pub told_text : Told → List ℕ
told_text (told.Reply text) = text
told_text told.Held = codes "HELD\n"
told_text told.Released = codes "RELEASED\n"
told_text told.Committed = ended_text outcomes.Committed
told_text told.Compacted = compacted_text outcomes.Committed
told_text told.RolledBack = ended_text outcomes.RolledBack
told_text (told.Refused refused) = ended_text (outcomes.Refused (cause_view refused))

abbrev pub outcome_text : ℕ → ℕ → Outcome → List ℕ
outcome_text w c o = head_text w c o.version ++ told_text o.told

-- worker w's outcomes, the first of which is command c's
abbrev pub outcomes_text : ℕ → ℕ → List Outcome → List ℕ
outcomes_text w c [] = []
outcomes_text w c (o ∷ os) = outcome_text w c o ++ outcomes_text w (c + 1) os

-- those of worker w and of the workers behind it
abbrev pub all_text : ℕ → List Outcomes → List ℕ
all_text w [] = []
all_text w (o ∷ os) = outcomes_text w 1 o.list.items ++ all_text (w + 1) os
