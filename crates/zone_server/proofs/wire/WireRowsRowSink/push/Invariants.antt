use Rattle.std.proofs.Common.{◌≡◌, ◌++◌, length}
use Rattle.zone_model.specs.Rows.{rows_of}
use Rattle.zone_server.specs.Wire.{wire_rows}
use Rattle.zone_server.proofs.wire.WireRowsRowSink.push.Given as goal

-- the octets so far and those of the records that are left are all
abbrev pub invariant-loop-octets : goal.invariant-loop-octets
invariant-loop-octets l = l.self-inside.octets.items ++ wire_rows (rows_of l.owner (record l.set { records = l.records })) ≡ l.fn.self ++ wire_rows (rows_of l.owner l.set)

abbrev pub decreases-loop-octets : goal.decreases-loop-octets
decreases-loop-octets l = length l.records
