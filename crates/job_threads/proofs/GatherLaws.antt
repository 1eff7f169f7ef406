-- Workers with two passes that are done, one after another.
use Rattle.std.proofs.Common.{true, ◌≡◌, ◌∙◌, List, [], ◌∷◌, map, Result, Ok, Err, IfOk, refl, sym, ap, subst, ℕ}
use Rattle.std.specs.List.{All}
use Rattle.std.proofs.lemmas.List.Elements.{All-cons}
use Rattle.zone_model.specs.Names.{Name}
use Rattle.job_model.specs.Commands.{Command}
use Rattle.job_report.specs.declared.outcomes.Outcomes.{Outcomes}
use Rattle.shared_cells.specs.declared.view.TableSize.{TableSize}
use Rattle.shared_cells.specs.Views.{number_of, is_told}
use Rattle.qp_multi.specs.Passes.{Known, Learnt}
use Rattle.job_commands.specs.Histories.{OpenedWith}
use Rattle.job_commands.specs.Commands.{IsIndex, IsOpenedWith}
use Rattle.job_commands.specs.Works.{AreNew, Begins, Numbers, WorkerRan, ended}
use Rattle.job_commands.specs.Closings.{Gathers}
use Rattle.job_commands.proofs.GatherLaws.{gathers_with, number_kept}

-- another worker, whose passes were the first two
pub gathers_worker : (s : OpenedWith) (origin : Name) (size : TableSize) → IsIndex s origin size → (all before : List Known) (asks spare : Known) (ws : List (List Command)) (os : List Outcomes) (views : List Known) (main after asks' spare' : Known) (w : List Command) (o : Outcomes)
    → all ≡ asks ∷ spare ∷ before → AreNew s.opening all → (AreNew s.opening before → Gathers s before ws os views main) → ((n : Numbers) → IsOpenedWith s origin size asks → Begins s n asks spare → WorkerRan s n (ended asks' spare') w o.list.items) → is_told main.seen.opening ≡ true → Learnt main after asks'.seen
    → Gathers s all (w ∷ ws) (o ∷ os) (asks' ∷ spare' ∷ views) after
gathers_worker s origin size index all before asks spare ws os views main after asks' spare' w o is new rest runs told l =
    let n = subst (AreNew s.opening) is new in
    let numbers : Numbers = record { asker = n.0.0; holder = n.1.0.0 } in
    let r = runs numbers (record { index = index; opening = n.0.1.opened }) (record { asker = n.0.1; holder = n.1.0.1 }) in
    subst (λ (vs : List Known). Gathers s vs (w ∷ ws) (o ∷ os) (asks' ∷ spare' ∷ views) after) (sym is)
    (gathers_with s before (asks ∷ spare ∷ []) ws os views main after (record { numbers = numbers; worker_passes = ended asks' spare'; has_second = true; commands = w; outcomes = o; ran = r }) (rest n.1.1) refl
    (ap (λ (k : ℕ). k ∷ number_of spare.pass ∷ []) (number_kept s.opening n.0.0 asks asks' r.work.asker n.0.1 r.work.is_asker r.asker)
    ∙ ap (λ (k : ℕ). number_of asks'.pass ∷ k ∷ []) (number_kept s.opening n.1.0.0 spare spare' r.work.holder n.1.0.1 r.work.is_holder r.holder)) told l)

-- ---- passes put in in front of a list

pub two_more : {A : Type 0} (x y : A) (xs more most : List A) (P : A → Type 0) → more ≡ y ∷ xs → most ≡ x ∷ more → P x → P y → All P xs → All P most
two_more x y xs more most P is_more is_most px py all = subst (All P) (sym (is_most ∙ ap (λ (l : List _). x ∷ l) is_more)) (All-cons P x (y ∷ xs) px (All-cons P y xs py all))

pub two_views : {A : Type 0} (x y : A) (xs more most : List A) (known : A → Known) (old : Known) → more ≡ y ∷ xs → most ≡ x ∷ more → known x ≡ old → map known most ≡ old ∷ known y ∷ map known xs
two_views x y xs more most known old is_more is_most same = ap (map known) (is_most ∙ ap (λ (l : List _). x ∷ l) is_more) ∙ ap (λ (v : Known). v ∷ known y ∷ map known xs) same

-- ---- what it comes to

-- what one more worker comes to, if there is memory for it
pub gathers_done : {G E : Type 0} (r : Result G E) (outcomes_of : G → List Outcomes) (views_of' : G → List Known) (main_of : G → Known) (s : OpenedWith) (before : List Known) (ws : List (List Command)) (os : List Outcomes) (views : List Known) (main seen : Known)
    → IfOk r (λ g. outcomes_of g ≡ os) → IfOk r (λ g. views_of' g ≡ views) → IfOk r (λ g. Learnt main (main_of g) seen.seen) → ((after : Known) → Learnt main after seen.seen → Gathers s before ws os views after)
    → IfOk r (λ g. Gathers s before ws (outcomes_of g) (views_of' g) (main_of g))
gathers_done (Ok g) outcomes_of views_of' main_of s before ws os views main seen is_os is_views learnt gathers =
    subst (λ (l : List Outcomes). Gathers s before ws l (views_of' g) (main_of g)) (sym is_os) (subst (λ (l : List Known). Gathers s before ws os l (main_of g)) (sym is_views) (gathers (main_of g) learnt))
gathers_done (Err e) outcomes_of views_of' main_of s before ws os views main seen is_os is_views learnt gathers = tt
