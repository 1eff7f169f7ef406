-- What commands over several zones came to, as the definitions see it.
use Rattle.std.specs.Prelude.{◌≡◌, Bool, false, List, [], ◌∷◌, Option, Some, None, is_some}
use Rattle.std.specs.List.{list_any}
use Rattle.std.specs.Option.{option_map}
use Rattle.job_model.specs.Outcomes.{Shown, is_refused}
use Rattle.job_report.specs.Outcomes.{ended_view, outcome_view}
use Rattle.zones_model.specs.Commands as model
use Rattle.zones_model.specs.Outcomes as outcomes
use Rattle.zones_report.specs.declared.outcomes.Answer.{Answer}
use Rattle.zones_report.specs.declared.outcomes.CommandEnd.{CommandEnd}
use Rattle.zones_report.specs.declared.outcomes.CommandEnd.TheVariants as done
use Rattle.zones_report.specs.declared.outcomes.CommandEnds.{CommandEnds}

abbrev pub shown_view : Answer → outcomes.Shown
shown_view a = record { zone = a.zone; version = a.outcome.version }

-- an answer was shown
abbrev pub IsShown : Option Answer → Type 0
IsShown None = Unit {0}
IsShown (Some a) = ended_view a.outcome.told ≡ Shown

-- what became of a command is of the command's kind
abbrev pub IsOf : model.Command → CommandEnd → Type 0
IsOf (model.Get name rtype) (done.Got table answer) = IsShown answer
IsOf (model.Block zone _ asked ending) (done.Ran ran o) = ran ≡ zone
IsOf (model.Attach zone) (done.Attached table refused) = Unit {0}
IsOf (model.Detach zone) (done.Detached table refused) = Unit {0}
IsOf c d = ⊥

abbrev pub AreOf : List model.Command → List CommandEnd → Type 0
AreOf [] [] = Unit {0}
AreOf [] (d ∷ ds) = ⊥
AreOf (c ∷ cs) [] = ⊥
AreOf (c ∷ cs) (d ∷ ds) = IsOf c d × AreOf cs ds

abbrev pub AllAreOf : List (List model.Command) → List CommandEnds → Type 0
AllAreOf [] [] = Unit {0}
AllAreOf [] (d ∷ ds) = ⊥
AllAreOf (w ∷ ws) [] = ⊥
AllAreOf (w ∷ ws) (d ∷ ds) = AreOf w d.list.items × AllAreOf ws ds

-- a command with what became of it
abbrev pub done_view : model.Command → CommandEnd → outcomes.CommandEnd
done_view (model.Get name rtype) (done.Got table answer) = outcomes.Got name rtype table (option_map shown_view answer)
done_view (model.Block zone weight asked ending) (done.Ran ran o) = outcomes.Ran zone weight asked ending (outcome_view o)
done_view (model.Attach zone) (done.Attached table refused) = outcomes.Attached zone table refused
done_view (model.Detach zone) (done.Detached table refused) = outcomes.Detached zone table refused
done_view c d = outcomes.Got [] 0 0 None

abbrev pub dones_view : List model.Command → List CommandEnd → List outcomes.CommandEnd
dones_view [] ds = []
dones_view (c ∷ cs) [] = []
dones_view (c ∷ cs) (d ∷ ds) = done_view c d ∷ dones_view cs ds

abbrev pub all_dones_view : List (List model.Command) → List CommandEnds → List (List outcomes.CommandEnd)
all_dones_view [] ds = []
all_dones_view (w ∷ ws) [] = []
all_dones_view (w ∷ ws) (d ∷ ds) = dones_view w d.list.items ∷ all_dones_view ws ds

-- ---- whether something was refused

abbrev pub was_refused : CommandEnd → Bool
was_refused (done.Got table answer) = false
was_refused (done.Ran zone o) = is_refused (ended_view o.told)
was_refused (done.Attached table refused) = is_some refused
was_refused (done.Detached table refused) = is_some refused

abbrev pub all_refused : List CommandEnds → Bool
all_refused workers = list_any (λ w. list_any was_refused w.list.items) workers
