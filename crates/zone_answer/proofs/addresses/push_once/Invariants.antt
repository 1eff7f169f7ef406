use Rattle.std.proofs.Common.{◌≡◌, List, ◌++◌, length, filter_map, flat_map}
use Rattle.std.specs.BTreeSet.{contains}
use Rattle.zone_model.specs.Names.{name_cmp}
use Rattle.zone_model.specs.Rows.{Row}
use Rattle.zone_model.specs.Versions.{Version}
use Rattle.zone_answer.specs.Responses.{addresses, name_from, once, owned_rows}
use Rattle.zone_answer.specs.Standing.{Shows, ShowsSome}
use Rattle.zone_answer.proofs.AddressLaws.{unseen}
use Rattle.zone_answer.proofs.addresses.push_once.Given as goal

-- the rows so far and those of the records that are left, where their names weren't gone to, are all
abbrev pub invariant-loop-octets : goal.invariant-loop-octets
invariant-loop-octets g l = record {
  shown : ShowsSome (g.V.Reading.holds l.version);
  same : l.version ≡ l.fn.version;
  so_far : (zone : Version) (had : List Row) → Shows (g.V.Reading.holds l.fn.version) zone → g.S.RowSink.has l.fn.rows had
      → (rows : List Row) × g.S.RowSink.has l.rows rows
      × (had ++ owned_rows (flat_map (addresses l.origin zone) (once (filter_map (name_from l.place) l.set.records)))
      ≡ rows ++ owned_rows (flat_map (addresses l.origin zone) (unseen (contains name_cmp l.gone_to) (filter_map (name_from l.place) l.records))));
}

abbrev pub decreases-loop-octets : goal.decreases-loop-octets
decreases-loop-octets g l = length l.records
