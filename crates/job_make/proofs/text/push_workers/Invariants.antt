use Rattle.std.proofs.Common.{◌≡◌, ◌++◌, ◌-◌}
use Rattle.std.specs.List.{flat_map}
use Rattle.job_model.specs.Loads.{line_text, workers_from}
use Rattle.job_make.specs.Views.{load_view}
use Rattle.job_make.proofs.text.push_workers.Given as goal

abbrev pub invariant-loop-remainder : goal.invariant-loop-remainder
invariant-loop-remainder l =
    l.out.items ++ flat_map line_text (workers_from (load_view l.load) (l.load.workers - l.remainder) l.remainder l.draws) ≡ l.fn.out.items ++ flat_map line_text (workers_from (load_view l.load) l.load.workers 0 l.load.seed)
