-- A worker that runs its commands, one after another.
use Rattle.std.proofs.Common.{◌≡◌, ℕ, ◌+◌, ◌<◌, Bool, true, List, [], ◌∷◌, ◌++◌, length, map, take, drop, get_or, sym, subst}
use Rattle.std.specs.List.{AllByRecursion}
use Rattle.job_model.specs.Commands.{Command, held_after, InTurn, MayCome}
use Rattle.job_script.specs.Views.{command_view}
use Rattle.job_script.specs.declared.commands.Command.{Command as Said}
use Rattle.job_report.specs.declared.outcomes.Outcome.{Outcome as Told_outcome}
use Rattle.shared_cells.specs.Views.{is_told}
use Rattle.job_commands.specs.Histories.{OpenedWith}
use Rattle.job_commands.specs.Steps.{WorkerPasses, Step}
use Rattle.job_commands.specs.Works.{Numbers}
use Rattle.job_commands.proofs.HistoryLaws.{opened_same}
use Rattle.job_commands.proofs.WorkLaws.{WorkerAt, worker_goes_on, drop_here, take_here}

-- a worker's next command
pub turn_here : (held : Bool) (commands : List Said) (i : ℕ) (here : Said) → i < length commands → here ≡ get_or commands i here → InTurn held (map command_view (drop i commands))
    → MayCome held (command_view here) × InTurn (held_after held (command_view here)) (map command_view (drop (i + 1) commands))
turn_here held commands i here lt is turn = subst (InTurn held) (drop_here command_view commands i here lt is) turn

-- and those behind it
pub turn_next : (held after : Bool) (commands : List Said) (i : ℕ) (here : Said) → i < length commands → here ≡ get_or commands i here → after ≡ held_after held (command_view here) → InTurn held (map command_view (drop i commands)) → InTurn after (map command_view (drop (i + 1) commands))
turn_next held after commands i here lt is same turn = subst (λ (b : Bool). InTurn b (map command_view (drop (i + 1) commands))) (sym same) (turn_here held commands i here lt is turn).1

-- what is so of all that is ahead is so of the next command, and of those behind it
pub said_here : (P : Command → Type 0) (commands : List Said) (i : ℕ) (here : Said) → i < length commands → here ≡ get_or commands i here → AllByRecursion P (map command_view (drop i commands))
    → P (command_view here) × AllByRecursion P (map command_view (drop (i + 1) commands))
said_here P commands i here lt is all = subst (AllByRecursion P) (drop_here command_view commands i here lt is) all

-- a worker has run its next command, and its outcome stands behind the others
pub worker_next : (s : OpenedWith) (numbers : Numbers) (old new : WorkerPasses) (commands : List Said) (i : ℕ) (here : Said) (os : List Told_outcome) (o : Told_outcome) (after : List Told_outcome) → i < length commands → here ≡ get_or commands i here → after ≡ os ++ o ∷ []
    → is_told old.asks.seen.opening ≡ true → WorkerAt s numbers old (map command_view (take i commands)) (map command_view (drop i commands)) os → Step s (command_view here) o old new
    → WorkerAt s numbers new (map command_view (take (i + 1) commands)) (map command_view (drop (i + 1) commands)) after
worker_next s numbers old new commands i here os o after lt is pushed told w step =
    let ahead : WorkerAt s numbers old (map command_view (take i commands)) (command_view here ∷ map command_view (drop (i + 1) commands)) os =
    subst (λ (l : List Command). WorkerAt s numbers old (map command_view (take i commands)) l os) (drop_here command_view commands i here lt is) w in
    subst (λ (l : List Told_outcome). WorkerAt s numbers new (map command_view (take (i + 1) commands)) (map command_view (drop (i + 1) commands)) l) (sym pushed)
    (subst (λ (l : List Command). WorkerAt s numbers new l (map command_view (drop (i + 1) commands)) (os ++ o ∷ [])) (sym (take_here command_view commands i here lt is))
    (worker_goes_on s numbers old new (map command_view (take i commands)) (command_view here) (map command_view (drop (i + 1) commands)) os o (opened_same new.asks.seen old.asks.seen told step.asks) ahead step))
