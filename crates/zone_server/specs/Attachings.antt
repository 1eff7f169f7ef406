-- What becomes of a zone that is to be attached or detached.
use Rattle.std.specs.Prelude.{◌≡◌, List, Result, Ok, Err}
use Rattle.zone_model.specs.Names.{Name}
use Rattle.qp_multi.specs.Passes.{Known}
use Rattle.qp_multi.specs.declared.commit.Receipt.{Receipt}
use Rattle.zone_table.specs.Changes.{Attaches, Detaches}
use Rattle.zone_table.specs.declared.change.TableRefusal.{TableRefusal}
use Rattle.zone_server.specs.Homes.{Served}
use Rattle.zone_server.specs.Servings.{ServerKnown}
use Rattle.zone_server.specs.Changes.{NoneHas}
use Rattle.zone_server.specs.declared.attaching.AttachRefusal.{AttachRefusal}
use Rattle.zone_server.specs.declared.attaching.AttachRefusal.TheVariants as refusal

abbrev pub attach_told : Result Receipt TableRefusal → Result Receipt AttachRefusal
attach_told (Ok receipt) = Ok receipt
attach_told (Err e) = Err (refusal.Table e)

-- It was done to the table, or was not done there for this reason; or no zone has the origin.
abbrev pub ChangesTable : (Known → Known → Result Receipt TableRefusal → Type 0) → List Served → Name → ServerKnown → ServerKnown → Result Receipt AttachRefusal → Type 0
ChangesTable changes served origin old new (Ok receipt) = changes old.table new.table (Ok receipt) × (new.zones ≡ old.zones)
ChangesTable changes served origin old new (Err (refusal.Table e)) = changes old.table new.table (Err e) × (new.zones ≡ old.zones)
ChangesTable changes served origin old new (Err refusal.NoZone) = NoneHas served origin × (new ≡ old)

abbrev pub Attached : List Served → Name → ServerKnown → ServerKnown → Result Receipt AttachRefusal → Type 0
Attached served origin = ChangesTable (Attaches origin) served origin

abbrev pub Detached : List Served → Name → ServerKnown → ServerKnown → Result Receipt AttachRefusal → Type 0
Detached served origin = ChangesTable (Detaches origin) served origin
