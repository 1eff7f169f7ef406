use Rattle.job_make.proofs.ApartLines.{one_load}
use Rattle.job_make.proofs.laws.loads_have_one_summary.Goals as goal

pub returns : goal.returns
returns c = λ load names turns some few. one_load load (record { names = names; turns = turns; workers = few }) some
