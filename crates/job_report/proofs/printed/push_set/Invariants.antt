use Rattle.std.proofs.Common.{◌≡◌, ◌++◌, length}
use Rattle.std.specs.List.{flat_map}
use Rattle.zone_model.specs.Rows.{row_text, rows_of}
use Rattle.job_report.proofs.printed.push_set.Given as goal

-- what is pushed and the text of the records that are left
abbrev pub invariant-loop-octets : goal.invariant-loop-octets
invariant-loop-octets l = l.out.items ++ flat_map row_text (rows_of l.owner (record l.set { records = l.records })) ≡ l.fn.out.items ++ flat_map row_text (rows_of l.owner l.set)

abbrev pub decreases-loop-octets : goal.decreases-loop-octets
decreases-loop-octets l = length l.records
