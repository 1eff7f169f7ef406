-- Steps of a worker by its first pass, wherever the second is.
use Rattle.std.proofs.Common.{◌≡◌, true, Option, Some, None, Result, Ok, Err, IfOk, refl, sym, subst}
use Rattle.std.specs.Prelude.{IsSome}
use Rattle.zone_model.specs.Transactions.{Transaction, no_changes}
use Rattle.job_model.specs.declared.Ending.{Ending}
use Rattle.job_model.specs.declared.Ending.TheVariants.{Commit}
use Rattle.job_model.specs.declared.Weight.{Weight}
use Rattle.job_model.specs.declared.Question.{Question}
use Rattle.job_model.specs.Commands.{Ask, Block, Compact}
use Rattle.job_report.specs.Outcomes.{EndsBlock, EndsCompaction}
use Rattle.job_script.specs.Views.{command_view}
use Rattle.job_script.specs.declared.commands.Command.{Command as Said}
use Rattle.job_report.specs.declared.outcomes.Told.TheVariants.{Compacted}
use Rattle.job_report.specs.declared.outcomes.Outcome.{Outcome}
use Rattle.shared_cells.specs.Views.{is_told}
use Rattle.qp_multi.specs.Passes.{known_at, first_version}
use Rattle.job_commands.specs.Histories.{OpenedWith}
use Rattle.job_commands.specs.Commands.{Asked, BlockRan, Seat}
use Rattle.job_commands.specs.Steps.{WorkerPasses, IsUnder, Moved, Step}
use Rattle.job_commands.specs.WorkerPasses.{Pinned, holder_view, worker_passes, IsPlaced}
use Rattle.job_commands.proofs.ShowLaws.{seat_told, seat_pass}
use Rattle.job_commands.proofs.StepLaws.{ask_step, block_step, compact_step}

pub holder_told : (spare : Option (Option Seat)) (held : Option Pinned) → IsPlaced spare held → is_told (holder_view spare held).seen.opening ≡ true
holder_told (Some seat) None h = seat_told seat h
holder_told None (Some s) h = s.told
holder_told (Some seat) (Some s) h = absurd h
holder_told None None h = absurd h

module _ (s : OpenedWith) (o : Outcome) (asks : Option Seat) (some : IsSome asks) (opened : first_version (known_at asks).seen ≡ s.opening) where
  module _ (spare : Option (Option Seat)) (held : Option Pinned) (placed : IsPlaced spare held) (under : IsUnder (known_at asks) (holder_view spare held)) (asks' : Option Seat) where
    pub ask_done : (question : Question) → Asked s.origin question (known_at asks) (known_at asks') o → Step s (Ask question) o (worker_passes asks spare held) (worker_passes asks' spare held)
    ask_done question a = ask_step s o (worker_passes asks spare held) (worker_passes asks' spare held) opened (seat_told asks some) (holder_told spare held placed) under refl refl a.grows question a

    pub block_done : (weight : Weight) (asked : Transaction) (ending : Ending) → EndsBlock o.told → BlockRan s asked ending (known_at asks) (known_at asks') o → Step s (Block weight asked ending) o (worker_passes asks spare held) (worker_passes asks' spare held)
    block_done weight asked ending ends b =
        let own = seat_pass asks some in
        block_step s o (worker_passes asks spare held) (worker_passes asks' spare held) opened (seat_told asks some) (holder_told spare held placed) under refl refl b.grows weight asked ending own.0 own.1 ends b

    pub compact_done : EndsCompaction o.told → (o.told ≡ Compacted → Moved s (known_at asks) (known_at asks')) → BlockRan s no_changes Commit (known_at asks) (known_at asks') o → Step s Compact o (worker_passes asks spare held) (worker_passes asks' spare held)
    compact_done ends moves b =
        let own = seat_pass asks some in
        compact_step s o (worker_passes asks spare held) (worker_passes asks' spare held) opened (seat_told asks some) (holder_told spare held placed) under refl refl b.grows own.0 own.1 ends moves b

-- a step, by which command it is
pub step_is : (s : OpenedWith) (o : Outcome) (old new : WorkerPasses) (command said : Said) → command ≡ said → Step s (command_view said) o old new → Step s (command_view command) o old new
step_is s o old new command said is step = subst (λ (x : Said). Step s (command_view x) o old new) (sym is) step

pub if_both : {A E : Type 0} {P Q R : A → Type 0} (r : Result A E) → ((x : A) → P x → Q x → R x) → IfOk r P → IfOk r Q → IfOk r R
if_both (Ok x) f p q = f x p q
if_both (Err e) f p q = tt
