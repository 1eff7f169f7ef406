-- Jobs whose workers change names of their own.
use Rattle.std.specs.Prelude.{◌≡◌, ℕ, Bool, true, false, List, [], ◌∷◌, length, map}
use Rattle.std.specs.List.{AllByRecursion, list_any}
use Rattle.zone_model.specs.Names.{Name, same_name}
use Rattle.zone_model.specs.Versions.{owner_of}
use Rattle.job_model.specs.Commands.{Command, Job}
use Rattle.job_model.specs.Outcomes.{Pair, Lawful, asked_by, passes_for, some_refused}

-- a command asks for a change of a name, and one of some does
abbrev pub changes : Name → Command → Bool
changes name command = list_any (λ operation. same_name name (owner_of operation)) (asked_by command).operations

abbrev pub changed_by : Name → List Command → Bool
changed_by name commands = list_any (changes name) commands

-- no name is changed by two workers
abbrev pub AreApart : List (List Command) → Type 0
AreApart [] = Unit {0}
AreApart (commands ∷ others) = AllByRecursion (λ other. (name : Name) → changed_by name commands ≡ true → changed_by name other ≡ false) others × AreApart others

-- A job's commands came to these outcomes, which are lawful and none of which is refused, and to a last version.
pub record AreDone (chunks : ℕ) (job : Job) (workers : List (List Pair)) (last : ℕ) : Type 0 where
  pub same : map (map (λ pair. pair.0)) workers ≡ job.workers
  pub lawful : Lawful chunks (passes_for (length job.workers)) job.origin job.zone workers last
  pub none_refused : some_refused workers ≡ false
