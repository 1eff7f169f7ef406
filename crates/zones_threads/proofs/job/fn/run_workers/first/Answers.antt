use Rattle.std.proofs.Common.{◌∙◌, List, ℕ, IfOk, length, map, ap, subst}
use Rattle.std.proofs.lemmas.Result.{IfOk-weaker}
use Rattle.job_commands.specs.Calls.{AreHeard}
use Rattle.zones_model.specs.Commands.{Command}
use Rattle.zones_script.specs.Views.{command_view, worker_view}
use Rattle.zones_threads.specs.Gatherings.{HasWorked}
use Rattle.zones_threads.proofs.job.fn.run_workers.first.Goals as goal

pub returns : goal.returns
returns g c =
    let hears = g.G.Gate.hears in
    let worker = worker_view c.captures.worker.now in
    let turnstile = c.new-turnstile in
    let commands = ap (map command_view) (turnstile.ensures.commands ∙ c.deref.ensures.value) in
    record {
      done = subst (λ (l : List Command). IfOk c.run_worker.result (λ e. HasWorked c.captures.zones.now c.captures.pass e.pass l e.done.list.items)) commands c.run_worker.ensures.done;
      heard = subst (λ gate. IfOk c.run_worker.result (λ _. AreHeard (hears gate) c.captures.number (length worker))) turnstile.ensures.gate
          (subst (λ (n : ℕ). IfOk c.run_worker.result (λ _. AreHeard (hears turnstile.result.gate.now) n (length worker))) turnstile.ensures.worker
          (subst (λ (l : List Command). IfOk c.run_worker.result (λ _. AreHeard (hears turnstile.result.gate.now) turnstile.result.worker (length l))) commands (IfOk-weaker c.run_worker.result _ _ (λ _ h. h.0) c.run_worker.ensures.heard)));
    }
