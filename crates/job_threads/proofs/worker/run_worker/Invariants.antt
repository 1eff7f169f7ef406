use Rattle.std.proofs.Common.{◌≡◌, ◌<◌, ℕ, None, take, drop, map, length}
use Rattle.std.specs.Option.{option_map, is_some}
use Rattle.std.specs.List.{AllByRecursion}
use Rattle.job_model.specs.Commands.{InTurn}
use Rattle.job_script.specs.Views.{command_view}
use Rattle.report_laws.specs.Changes.{AllAsked}
use Rattle.qp_multi.specs.Passes.{known_at}
use Rattle.job_commands.specs.Histories.{OpenedWith}
use Rattle.job_commands.specs.Calls.{IsHeard, next_number}
use Rattle.job_commands.specs.Commands.{IsOpenedWith}
use Rattle.job_commands.specs.WorkerPasses.{worker_passes}
use Rattle.job_commands.specs.Works.{Begins, Numbers}
use Rattle.job_commands.proofs.WorkLaws.{WorkerAt}
use Rattle.job_threads.specs.Passes.{CanRun, holds_one}
use Rattle.job_threads.proofs.worker.run_worker.Given as goal

abbrev pub invariant-loop-place : goal.invariant-loop-place
invariant-loop-place g l = record {
  can : CanRun l.origin l.index.place (holds_one l.passes) l.passes;
  gate : l.turnstile.gate ≡ l.fn.turnstile.gate;
  number : l.turnstile.worker ≡ l.fn.turnstile.worker;
  commands : l.turnstile.commands ≡ l.fn.turnstile.commands;
  free : l.turnstile.entered ≡ None;
  told : l.turnstile.told ≡ l.place;
  many : length l.list.items ≡ l.place;
  heard : (place : ℕ) → place < l.place → IsHeard (g.G.Gate.hears l.fn.turnstile.gate.now) l.fn.turnstile.worker (next_number place);
  turn : InTurn (is_some (option_map (λ s. s.seat) l.passes.held)) (map command_view (drop l.place l.fn.turnstile.commands.now));
  said : AllByRecursion (AllAsked l.origin) (map command_view (drop l.place l.fn.turnstile.commands.now));
  at : (s : OpenedWith) (numbers : Numbers) → IsOpenedWith s l.origin l.index.shared.table.shared.key (known_at l.fn.asks.seat) → Begins s numbers (known_at l.fn.asks.seat) (known_at l.fn.spare.seat)
      → WorkerAt s numbers (worker_passes l.passes.asks.seat (option_map (λ p. p.seat) l.passes.spare) (option_map (λ s. s.seat) l.passes.held)) (map command_view (take l.place l.fn.turnstile.commands.now)) (map command_view (drop l.place l.fn.turnstile.commands.now)) l.list.items;
}
