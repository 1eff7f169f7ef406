-- Octets of records.
use Rattle.std.proofs.Common.{◌≡◌, List, ◌++◌}
use Rattle.std.proofs.lemmas.List.Concat.{flat_map-append}
use Rattle.zone_model.specs.Rows.{Row}
use Rattle.zone_server.specs.Wire.{wire_row, wire_rows}

pub wire_more : (rows more : List Row) → wire_rows (rows ++ more) ≡ wire_rows rows ++ wire_rows more
wire_more rows more = flat_map-append wire_row rows more
