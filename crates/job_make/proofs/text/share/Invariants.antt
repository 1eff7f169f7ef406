use Rattle.std.proofs.Common.{◌≡◌, ◌≤◌}
use Rattle.job_model.specs.Loads.{share}
use Rattle.job_make.proofs.text.share.Given as goal

abbrev pub invariant-loop-name : goal.invariant-loop-name
invariant-loop-name l = record { counted : l.count ≡ share l.workers l.remainder l.name; few : l.count ≤ l.name }
