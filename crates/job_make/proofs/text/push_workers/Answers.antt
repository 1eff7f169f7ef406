use Rattle.std.proofs.Common.{◌∙◌, ◌++◌, ℕ, List, ap, sym, append-nil}
use Rattle.std.specs.List.{flat_map}
use Rattle.job_model.specs.Loads.{line_text}
use Rattle.job_make.specs.Views.{load_view}
use Rattle.job_make.proofs.LoadLemmas.{no_workers, worker_more}
use Rattle.job_make.proofs.text.push_workers.Goals as goal

pub loop-remainder-preserved : goal.loop-remainder-preserved
loop-remainder-preserved c =
    worker_more (load_view c.args.load.now) c.args.load.now.workers c.loop-remainder.remainder c.loop-remainder.draws c.push_worker.new.draws c.loop-remainder.out.items c.push_worker.new.out.items
    c.loop-remainder-test.true c.in_ok-push_worker.ensures.text c.in_ok-push_worker.ensures.state
    ∙ c.loop-remainder.invariant

pub returns : goal.returns
returns c =
    sym (append-nil c.loop-remainder.out.items)
    ∙ ap (λ (l : List (List ℕ)). c.loop-remainder.out.items ++ flat_map line_text l) (sym (no_workers (load_view c.args.load.now) c.args.load.now.workers c.loop-remainder.remainder c.loop-remainder.draws c.loop-remainder-test.false))
    ∙ c.loop-remainder.invariant
