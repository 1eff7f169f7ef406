-- Records that were printed.
use Rattle.std.specs.Prelude.{◌≡◌, List, length}
use Rattle.std.specs.List.{flat_map}
use Rattle.zone_model.specs.Rows.{Row, row_text}
use Rattle.job_report.specs.declared.printed.PrintedRows.{PrintedRows}

-- these were printed, in this order, and counted
abbrev pub HasPrinted : PrintedRows → List Row → Type 0
HasPrinted printed rows = (printed.text.items ≡ flat_map row_text rows) × (printed.count ≡ length rows)
