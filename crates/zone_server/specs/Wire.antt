-- Records as a message has them (RFC 1035, section 4.1.3): the owner, the type, the class IN, the time to live, how long the data are, and the data.
use Rattle.std.specs.Prelude.{ℕ, List, ◌∷◌, ◌++◌, length}
use Rattle.std.specs.List.{flat_map}
use Rattle.std.specs.Int.{w16, w32, to_be_bytes}
use Rattle.zone_model.specs.Names.{wire}
use Rattle.zone_model.specs.Rows.{Row}

abbrev pub wire_row : Row → List ℕ
wire_row r = wire r.owner ++ to_be_bytes w16 r.rtype ++ 0 ∷ 1 ∷ (to_be_bytes w32 r.ttl ++ to_be_bytes w16 (length r.octets) ++ r.octets)

-- no name is compressed
abbrev pub wire_rows : List Row → List ℕ
wire_rows rows = flat_map wire_row rows
