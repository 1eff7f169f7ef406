-- A version written as a master file (RFC 1035, section 5), in one of two styles.
use Rattle.std.specs.Prelude.{ℕ, true, false, List, [], ◌∷◌, ◌++◌, length, Option, Some, None}
use Rattle.std.specs.Option.{option_map_or}
use Rattle.std.specs.List.{flat_map}
use Rattle.zone_model.specs.Names.{Name}
use Rattle.zone_model.specs.Records.{Rrset, Entry, rrset_of}
use Rattle.zone_model.specs.Versions.{Version, owned, soa_type}
use Rattle.zone_model.specs.declared.Style.{Style}
use Rattle.zone_model.specs.declared.Style.TheVariants.{Full, Short}
use Rattle.zone_model.specs.Rows.{Row, rows_of, Directives, directives_text, line_text, row_text}

-- the records of a name, in rising types and octets
abbrev pub rows_at : Name × Entry → List Row
rows_at pair = flat_map (rows_of pair.0) pair.1

-- the records of all names
abbrev pub all_rows : Version → List Row
all_rows version = flat_map rows_at version

abbrev pub record_count : Version → ℕ
record_count version = length (all_rows version)

-- the lines of one name's records
abbrev pub owner_lines : Option Directives → List Row → List ℕ
owner_lines directives [] = []
owner_lines directives (row ∷ rows) = line_text directives true row ++ flat_map (line_text directives false) rows

-- the lines of all records
abbrev pub version_lines : Option Directives → Version → List ℕ
version_lines directives version = flat_map (λ (pair : Name × Entry). owner_lines directives (rows_at pair)) version

-- the time to live of the SOA at the origin; 0 where there is none
abbrev pub soa_ttl : Name → Version → ℕ
soa_ttl origin version = option_map_or (λ (s : Rrset). s.ttl) (rrset_of soa_type (owned origin version)) 0

abbrev pub directives_of : Name → Version → Directives
directives_of origin version = record { origin = origin; ttl = soa_ttl origin version }

-- a version of the zone of an origin as a master file
abbrev pub dump : Style → Name → Version → List ℕ
dump Full origin version = flat_map row_text (all_rows version)
dump Short origin version = directives_text (directives_of origin version) ++ version_lines (Some (directives_of origin version)) version
