-- What a pass of a server tells another.
use Rattle.std.specs.Prelude.{◌≡◌, ℕ, List, map}
use Rattle.qp_multi.specs.declared.meaning.Named.{Ghosts}
use Rattle.qp_multi.specs.Passes.{Known, Learnt}
use Rattle.zone_table.specs.declared.note.ZonesNote.{ZonesNote}
use Rattle.zone_table.specs.Notes.{IsNoteOf, LearntAt, SeenHistory, table_told, zones_told}
use Rattle.zone_server.specs.Homes.{Served}
use Rattle.zone_server.specs.Servings.{ServerKnown, origins_of}

-- what is told of the table, and of each zone
pub record ServerTold : Type 0 where
  pub table : SeenHistory
  pub zones : List SeenHistory

abbrev pub told_of : {Y : Type 0} {N : Ghosts Y} → ZonesNote Y N → ServerTold
told_of n = record { table = table_told n; zones = zones_told n }

abbrev pub IsNote : {Y : Type 0} {N : Ghosts Y} → List Served → ZonesNote Y N → Type 0
IsNote served n = IsNoteOf (origins_of served) n

-- it tells what the pass had seen of the table and of each zone
abbrev pub Tells : ServerKnown → ServerTold → Type 0
Tells k told = told ≡ record { table = k.table.seen; zones = map (λ (v : Known). v.seen) k.zones }

-- the pass has seen what it had seen and what it was told, of the table and of each zone
pub record HasLearnt (old new : ServerKnown) (told : ServerTold) : Type 0 where
  pub table : Learnt old.table new.table told.table
  pub zones : (zone : ℕ) → LearntAt old.zones new.zones told.zones zone
