-- Zones, as files of octets say them.
use Rattle.std.specs.Prelude.{ℕ, List, Result}
use Rattle.zone_model.specs.Names.{IsName, Name}
use Rattle.zone_model.specs.MasterFile.{Zone, zone_at, zone_of}
use Rattle.zone_model.specs.Refusals.{Refused}
use Rattle.zone_model.specs.Versions.{Version}
use Rattle.zone_model.specs.declared.ZoneKind.{ZoneKind}
use Rattle.job_model.specs.Jobs.{script_lines, script_start, zone_lines}
use Rattle.master_file.specs.Rows.{CanBeDumped}

-- the zone of an origin that the bytes of an input say
abbrev pub zone_said : Name → List ℕ → Result Version (Refused ZoneKind)
zone_said origin bytes = zone_of origin (zone_lines bytes)

-- the zone that they say behind the cut, whose lines are counted through the whole input
abbrev pub second_said : Name → List ℕ → Result Version (Refused ZoneKind)
second_said origin bytes = zone_at (script_start bytes) origin (script_lines bytes)

-- one of several zones: a zone of its origin, with records that files can have
abbrev pub IsRead : Zone → Type 0
IsRead z = IsName z.origin × CanBeDumped z.origin z.pairs
