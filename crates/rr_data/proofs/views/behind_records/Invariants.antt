use Rattle.std.proofs.Common.{ℕ, ◌-◌, List}
use Rattle.rr_data.specs.ItemViews.{BeginsWithRecords}
use Rattle.rr_data.proofs.ItemViewLemmas.{LeftRecords}
use Rattle.rr_data.proofs.views.behind_records.Given as goal

abbrev pub invariant-loop : goal.invariant-loop
invariant-loop l = (records : List (List ℕ)) (more : List ℕ) → BeginsWithRecords l.count l.fn.bytes records more → LeftRecords (l.count - l.counter) l.rest more
