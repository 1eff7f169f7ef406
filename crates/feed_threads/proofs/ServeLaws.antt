-- A worker that runs commands of one list, as it gets their numbers.
use Rattle.std.proofs.Common.{◌≡◌, ◌∙◌, ℕ, zero, suc, ◌-◌, ◌<◌, ◌≤◌, true, List, [], ◌∷◌, ◌++◌, length, map, get_or, Option, Some, None, Result, Ok, Err, IfOk, refl, sym, ap, subst, arith}
use Rattle.std.proofs.lemmas.List.{get_or-map, length-map, map-append}
use Rattle.std.specs.List.{All, Any, AllByRecursion}
use Rattle.std.proofs.lemmas.List.Folds.{Any-from_list_any}
use Rattle.std.proofs.lemmas.List.Elements.{All-from_recursion, All-get_or}
use Rattle.job_model.specs.Commands.{Command, Compact, NeedsNoSnapshot}
use Rattle.job_script.specs.Views.{command_view}
use Rattle.job_script.specs.declared.commands.Command.{Command as Said}
use Rattle.job_report.specs.declared.outcomes.Outcome.{Outcome}
use Rattle.feed_core.specs.Feeds.{Handout, Takings, lists_of}
use Rattle.shared_cells.specs.Views.{is_told}
use Rattle.qp_multi.specs.Passes.{Known, Learnt, known_at}
use Rattle.job_commands.specs.Histories.{OpenedWith}
use Rattle.job_commands.specs.Steps.{Step}
use Rattle.job_commands.specs.Commands.{Seat}
use Rattle.job_commands.specs.WorkerPasses.{worker_passes}
use Rattle.job_commands.specs.Calls.{next_number}
use Rattle.job_commands.specs.Closings.{Gathers}
use Rattle.job_commands.specs.Works.{IsNew, Numbers, only}
use Rattle.feed_threads.specs.Feeds.{command_at, commands_at, commands_served, numbers_served, outcomes_served, seats_served}
use Rattle.feed_threads.specs.declared.ordering.Served.{Served}
use Rattle.job_commands.proofs.WorkLaws.{WorkerAt, plain_goes_on, worker_starts}

-- ---- the command of a number

pub command_here : (commands : List Said) (number : ℕ) (here : Said) → number - 1 < length commands → here ≡ get_or commands (number - 1) here → command_at (map command_view commands) number ≡ command_view here
command_here commands number here lt is = get_or-map command_view commands (number - 1) here Compact lt ∙ ap command_view (sym is)

-- what is so of all commands
pub so_here : (P : Command → Type 0) (commands : List Said) (number : ℕ) (here : Said) → AllByRecursion P (map command_view commands) → number - 1 < length commands → here ≡ get_or commands (number - 1) here → P (command_view here)
so_here P commands number here all lt is =
    subst P (command_here commands number here lt is) (All-get_or P (map command_view commands) (number - 1) Compact (omega (arith, lt, length-map commands command_view)) (All-from_recursion P (map command_view commands) all))

pub plain_here : (commands : List Said) (number : ℕ) (here : Said) → AllByRecursion NeedsNoSnapshot (map command_view commands) → number - 1 < length commands → here ≡ get_or commands (number - 1) here → NeedsNoSnapshot (command_view here)
plain_here commands number here all lt is = so_here NeedsNoSnapshot commands number here all lt is

-- a command's place in the list, counted from 1
pub number_counted : (number : ℕ) → 0 < number → number ≤ 4294967295 → next_number (number - 1) ≡ number
number_counted number some few = omega (arith, some, few)

-- ---- how far the worker has come

pub serve_starts : (s : OpenedWith) (number : ℕ) (seat : Option Seat) → IsNew number s.opening (known_at seat) → WorkerAt s (only number) (worker_passes seat (Some seat) None) [] [] []
serve_starts s number seat new = worker_starts s (only number) (known_at seat) (known_at seat) [] (record { asker = new; holder = new }) tt

pub serve_next : (s : OpenedWith) (numbers : Numbers) (seat after first : Option Seat) (all : List Command) (taken more : List ℕ) (number : ℕ) (here : Command) (os most : List Outcome) (o : Outcome) → is_told (known_at seat).seen.opening ≡ true → command_at all number ≡ here → NeedsNoSnapshot here
    → more ≡ taken ++ number ∷ [] → most ≡ os ++ o ∷ [] → WorkerAt s numbers (worker_passes seat (Some first) None) (commands_at all taken) [] os → Step s here o (worker_passes seat (Some first) None) (worker_passes after (Some first) None)
    → WorkerAt s numbers (worker_passes after (Some first) None) (commands_at all more) [] most
serve_next s numbers seat after first all taken more number here os most o told is plain is_more is_most w step =
    let commands : commands_at all more ≡ commands_at all taken ++ here ∷ [] = ap (commands_at all) is_more ∙ map-append (command_at all) taken (number ∷ []) ∙ ap (λ (c : Command). commands_at all taken ++ c ∷ []) is in
    subst (λ (l : List Outcome). WorkerAt s numbers (worker_passes after (Some first) None) (commands_at all more) [] l) (sym is_most)
    (subst (λ (l : List Command). WorkerAt s numbers (worker_passes after (Some first) None) l [] (os ++ o ∷ [])) (sym commands)
    (plain_goes_on s numbers (worker_passes seat (Some first) None) (worker_passes after (Some first) None) (commands_at all taken) here os o told refl plain w step))

-- ---- all seats are back

pub seats_of_feed : (feed : Handout) (served : List Served) → All (λ seat. seat.feed ≡ feed) (seats_served feed served)
seats_of_feed feed [] k d lt = absurd (omega arith)
seats_of_feed feed (v ∷ served) zero d lt = refl
seats_of_feed feed (v ∷ served) (suc k) d lt = seats_of_feed feed served k d (omega (arith, lt))

pub lists_served : (feed : Handout) (served : List Served) → lists_of (seats_served feed served) ≡ numbers_served served
lists_served feed [] = refl
lists_served feed (v ∷ served) = ap (λ (ls : List (List ℕ)). v.numbers.items ∷ ls) (lists_served feed served)

-- the seats were told that none is left
pub some_done : (feed : Handout) (served : List Served) → 0 < length served → Any (λ seat. seat.done ≡ true) (seats_served feed served)
some_done feed [] some = absurd (omega (arith, some))
some_done feed (v ∷ served) some = Any-from_list_any (λ (seat : Takings). seat.done) (seats_served feed (v ∷ served)) refl

-- ---- what it comes to

-- what one more worker of one list comes to, if there is memory for it
pub gathers_served : {G E : Type 0} (r : Result G E) (served_of : G → List Served) (views_of' : G → List Known) (main_of : G → Known) (s : OpenedWith) (before : List Known) (commands : List Command) (served : List Served) (views : List Known) (main seen : Known)
    → IfOk r (λ g. served_of g ≡ served) → IfOk r (λ g. views_of' g ≡ views) → IfOk r (λ g. Learnt main (main_of g) seen.seen) → ((after : Known) → Learnt main after seen.seen → Gathers s before (commands_served commands served) (outcomes_served served) views after)
    → IfOk r (λ g. Gathers s before (commands_served commands (served_of g)) (outcomes_served (served_of g)) (views_of' g) (main_of g))
gathers_served (Ok g) served_of views_of' main_of s before commands served views main seen is_served is_views learnt gathers =
    subst (λ (l : List Served). Gathers s before (commands_served commands l) (outcomes_served l) (views_of' g) (main_of g)) (sym is_served)
    (subst (λ (l : List Known). Gathers s before (commands_served commands served) (outcomes_served served) l (main_of g)) (sym is_views) (gathers (main_of g) learnt))
gathers_served (Err e) served_of views_of' main_of s before commands served views main seen is_served is_views learnt gathers = tt
