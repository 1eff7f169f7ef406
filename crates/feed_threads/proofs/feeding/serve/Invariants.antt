use Rattle.std.proofs.Common.{◌≡◌, ℕ, [], Some, None, length, map}
use Rattle.std.specs.Prelude.{IsSome}
use Rattle.std.specs.List.{AllByRecursion}
use Rattle.job_script.specs.Views.{command_view}
use Rattle.feed_core.specs.Feeds.{remaining}
use Rattle.qp_multi.specs.Passes.{known_at}
use Rattle.job_commands.specs.Histories.{OpenedWith}
use Rattle.job_commands.specs.Calls.{IsHeard}
use Rattle.job_commands.specs.Commands.{IsOpenedWith, OpensAt}
use Rattle.job_commands.specs.WorkerPasses.{worker_passes}
use Rattle.job_commands.specs.Works.{IsNew, only}
use Rattle.feed_threads.specs.Feeds.{commands_at}
use Rattle.job_commands.proofs.WorkLaws.{WorkerAt}
use Rattle.feed_threads.proofs.feeding.serve.Given as goal

abbrev pub invariant-loop-number : goal.invariant-loop-number
invariant-loop-number g l = record {
  here : IsSome l.pass.seat;
  place : l.pass.place ≡ l.index.place;
  feed : l.seat.feed ≡ l.feed;
  taken : l.seat.taken ≡ l.numbers.items;
  alike : length l.numbers.items ≡ length l.list.items;
  gate : l.turnstile.gate ≡ l.fn.turnstile.gate;
  number : l.turnstile.worker ≡ l.fn.turnstile.worker;
  commands : l.turnstile.commands ≡ l.fn.turnstile.commands;
  free : l.turnstile.entered ≡ None;
  told : l.turnstile.told ≡ length l.list.items;
  heard : AllByRecursion (IsHeard (g.G.Gate.hears l.fn.turnstile.gate.now) l.fn.turnstile.worker) l.numbers.items;
  opens : OpensAt l.origin (known_at l.pass.seat);
  at : (s : OpenedWith) (number : ℕ) → IsOpenedWith s l.origin l.index.shared.table.shared.key (known_at l.fn.pass.seat) → IsNew number s.opening (known_at l.fn.pass.seat)
      → WorkerAt s (only number) (worker_passes l.pass.seat (Some l.fn.pass.seat) None) (commands_at (map command_view l.fn.turnstile.commands.now) l.numbers.items) [] l.list.items;
}

abbrev pub decreases-loop-number : goal.decreases-loop-number
decreases-loop-number g l = remaining l.seat
