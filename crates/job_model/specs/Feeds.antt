-- One list of commands that is handed out to workers: each takes the next command when it comes free.
use Rattle.std.specs.Prelude.{◌≡◌, ℕ, ◌+◌, ◌<◌, ◌≤◌, ◌==◌, Bool, List, [], ◌∷◌, ◌++◌, length, map, sum_by, count_by, if◌then◌else◌}
use Rattle.std.specs.List.{AllByRecursion, list_any, range_with_len}
use Rattle.std.specs.List.Sorted.{IsStrictlyIncreasing}
use Rattle.zone_model.specs.Names.{Name}
use Rattle.zone_model.specs.Versions.{Version}
use Rattle.job_model.specs.Commands.{Command}
use Rattle.job_model.specs.Outcomes.{Pair, all_pairs, is_refused, version_at}
use Rattle.job_model.specs.Reports.{head_text, command_text, end_text}

-- a command of the list with its outcome, and the worker that ran it
pub record FedPair : Type 0 where
  pub worker : ℕ
  pub pair : Pair

-- the commands of a list that was handed out
abbrev pub fed_commands : List FedPair → List Command
fed_commands fed = map (λ f. f.pair.0) fed

-- ---- what each worker ran

-- the numbers of worker w's commands, in a list whose first command has number n
abbrev pub numbers_by : ℕ → ℕ → List FedPair → List ℕ
numbers_by w n [] = []
numbers_by w n (f ∷ fed) = if f.worker == w then n ∷ numbers_by w (n + 1) fed else numbers_by w (n + 1) fed

-- these commands with their outcomes
abbrev pub pairs_by : ℕ → List FedPair → List Pair
pairs_by w [] = []
pairs_by w (f ∷ fed) = if f.worker == w then f.pair ∷ pairs_by w fed else pairs_by w fed

-- the same of each of the workers from 1 on

abbrev pub all_numbers : ℕ → List FedPair → List (List ℕ)
all_numbers workers fed = map (λ w. numbers_by w 1 fed) (range_with_len 1 workers)

abbrev pub by_worker : ℕ → List FedPair → List (List Pair)
by_worker workers fed = map (λ w. pairs_by w fed) (range_with_len 1 workers)

-- how often a number stands in a list, and in some lists together

abbrev pub times_in : ℕ → List ℕ → ℕ
times_in number list = count_by (λ x. x == number) list

abbrev pub times_in_all : ℕ → List (List ℕ) → ℕ
times_in_all number lists = sum_by (times_in number) lists

-- The numbers from 1 to a count are handed out: each stands in just one of the lists, once, and no other number in any; and each
-- list rises.
pub record Fed (count : ℕ) (lists : List (List ℕ)) : Type 0 where
  pub once : (number : ℕ) → 0 < number → number ≤ count → times_in_all number lists ≡ 1
  pub within : AllByRecursion (AllByRecursion (λ number. (0 < number) × (number ≤ count))) lists
  pub rising : AllByRecursion IsStrictlyIncreasing lists

-- ---- an index for them

-- a pass of the index for each worker, and one for the last line
abbrev pub passes_fed : ℕ → ℕ
passes_fed workers = workers + 1

-- some block was refused
abbrev pub some_fed_refused : List FedPair → Bool
some_fed_refused fed = list_any (λ f. is_refused f.pair.1.ended) fed

-- ---- what is printed

-- the commands' texts, the first of which has number n
abbrev pub fed_text : Name → (ℕ → Version) → ℕ → List FedPair → List ℕ
fed_text origin set n [] = []
fed_text origin set n (f ∷ fed) = head_text f.worker n f.pair.1.version ++ command_text origin set f.pair.0 f.pair.1 ++ fed_text origin set (n + 1) fed

-- command by command, and then the last version
abbrev pub fed_report : Name → Version → ℕ → List FedPair → ℕ → List ℕ
fed_report origin zone workers fed last =
    let set : ℕ → Version = version_at origin zone (all_pairs (by_worker workers fed)) in fed_text origin set 1 fed ++ end_text last (length (set last))
