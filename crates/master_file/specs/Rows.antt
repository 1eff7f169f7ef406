-- Records that are printed, and dumps.
use Rattle.std.specs.Prelude.{◌≡◌, ℕ, ◌+◌, ◌≤◌, ◌<◌, Bool, true, false, ◌==◌, if◌then◌else◌, List, [], ◌∷◌, length, Option, Some, None, Result, Ok}
use Rattle.std.specs.List.{AllByRecursion}
use Rattle.std.specs.List.Sorted.{IsStrictlySortedBy}
use Rattle.std.specs.Map.{keys_of}
use Rattle.zone_model.specs.declared.ZoneKind.{ZoneKind}
use Rattle.zone_model.specs.Refusals.{Refused, ◌>>=◌}
use Rattle.zone_model.specs.Names.{Name, IsName, name_cmp}
use Rattle.zone_model.specs.Lines.{lines_of}
use Rattle.zone_model.specs.Records.{Entry, IsItem, item}
use Rattle.zone_model.specs.Versions.{Version}
use Rattle.zone_model.specs.DataWords.{data_type, most_time}
use Rattle.zone_model.specs.DataForms.{form_fits}
use Rattle.zone_model.specs.Rows.{Row, Directives}
use Rattle.zone_model.specs.Zones.{IsZoneOf}
use Rattle.zone_model.specs.Dumps.{all_rows}
use Rattle.zone_model.specs.MasterFile.{Reader, added, after_record, zone_from, at_first, with_soa}

-- a record as master files have them: its type is one that data has, its time one that may be written, its octets of the type's form
pub record IsRecord (row : Row) : Type 0 where
  pub owner : IsName row.owner
  pub number : row.rtype ≤ 65535
  pub kind : data_type row.rtype ≡ Some row.rtype
  pub time : row.ttl ≤ most_time
  pub bytes : AllByRecursion (λ c. c < 256) row.octets
  pub short : length row.octets ≤ 65535
  pub form : form_fits row.rtype row.octets ≡ true

-- ---- lines

-- the time to live that a record's line says, if it says one
abbrev pub written : Option Directives → ℕ → Option ℕ
written None ttl = Some ttl
written (Some d) ttl = if ttl == d.ttl then None else Some ttl

-- a reader for which these directives are in force
abbrev pub StandsUnder : Option Directives → Reader → Type 0
StandsUnder None r = Unit {0}
StandsUnder (Some d) r = (r.origin ≡ d.origin) × (r.set_time ≡ Some d.ttl)

-- a reader that knows the owner of a line, where the line doesn't state it
abbrev pub KnowsOwner : Option Directives → Bool → Name → Reader → Type 0
KnowsOwner None first owner r = Unit {0}
KnowsOwner (Some d) true owner r = Unit {0}
KnowsOwner (Some d) false owner r = r.owner ≡ Some owner

-- a record of line n joins what was read so far, where the line says this time to live
abbrev pub row_added : Name → ℕ → Option ℕ → Row → Reader → Result Reader (Refused ZoneKind)
row_added apex n time row r = added apex n row.owner row.rtype row.ttl row.octets r.version >>= (λ version. Ok (after_record time row.rtype row.octets row.owner r version))

-- what was read, and behind it the text from line n on
abbrev pub read_on : Name → ℕ → List ℕ → Result Reader (Refused ZoneKind) → Result Reader (Refused ZoneKind)
read_on apex n text so_far = so_far >>= zone_from apex n (lines_of text) None

-- records join, one a line, up to the first that is refused
abbrev pub rows_added : Name → ℕ → List Row → Reader → Result Reader (Refused ZoneKind)
rows_added apex n [] r = Ok r
rows_added apex n (row ∷ rows) r = row_added apex n (Some row.ttl) row r >>= rows_added apex (n + 1) rows

-- the zone of these records alone
abbrev pub zone_of_rows : Name → List Row → Result Version (Refused ZoneKind)
zone_of_rows apex rows = rows_added apex 1 rows (at_first apex) >>= with_soa apex (length rows + 1)

-- ---- dumps

-- A version that master files say: a zone of the origin, whose names rise strictly, each with records that can be an item,
-- and each record as master files have them.
pub record CanBeDumped (origin : Name) (version : Version) : Type 0 where
  pub name : IsName origin
  pub zone : IsZoneOf origin version
  pub rising : IsStrictlySortedBy name_cmp (keys_of version)
  pub items : AllByRecursion (λ (pair : Name × Entry). IsItem (item pair.0 pair.1) pair.0 pair.1) version
  pub records : AllByRecursion IsRecord (all_rows version)
