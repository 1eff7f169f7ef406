use Rattle.std.proofs.Common.{◌≡◌, ◌++◌, length}
use Rattle.zone_model.specs.Rows.{rows_of}
use Rattle.zone_answer.specs.Parts.{rows_in}
use Rattle.zone_answer.proofs.rows.RowsRowSink.push.Given as goal

-- the rows so far and those of the records that are left are all
abbrev pub invariant-loop-octets : goal.invariant-loop-octets
invariant-loop-octets l = rows_in l.self-inside.list.items ++ rows_of l.owner (record l.set { records = l.records }) ≡ l.fn.self ++ rows_of l.owner l.set

abbrev pub decreases-loop-octets : goal.decreases-loop-octets
decreases-loop-octets l = length l.records
