-- What a pass of the zones has: a seat at the table and one at each zone.
use Rattle.std.specs.Prelude.{◌≡◌, ◌⊎◌, ℕ, ◌<◌, List, length, map, All, IfSome, IsSome, None, slice_get, unwrap_or}
use Rattle.std.specs.List.{range_with_len}
use Rattle.zone_model.specs.Names.{Name}
use Rattle.shared_cells.specs.History.{IsPartOf}
use Rattle.shared_cells.specs.Views.{with_pinned}
use Rattle.qp_multi.specs.declared.meaning.Named.{Ghosts}
use Rattle.qp_multi.specs.declared.pass.Pass.{Pass}
use Rattle.qp_multi.specs.Passes.{Known, known_at, first_version, version_seen}
use Rattle.zone_table.specs.declared.pass.ZonesPass.{ZonesPass}
use Rattle.zone_table.specs.Remembered.{Remembers}
use Rattle.zone_table.specs.Tables.{IsAmong, IsTable}

-- No query and no transaction of it was forgotten, so that each seat is in its place. It knows of the table's opening, and
-- what it remembers is of a version that it has seen.
pub record IsPassOf {X : Type 0} {N : Ghosts X} (origins : List Name) (p : ZonesPass X N) : Type 0 where
  pub table_here : IsSome p.table.seat
  pub table_place : p.table.place ≡ 0
  pub opening : IsTable origins (first_version (known_at p.table.seat).seen)
  pub zones_here : All (λ z. IsSome z.seat) p.zones.items
  pub zone_places : map (λ z. z.place) p.zones.items ≡ range_with_len 1 (length origins)
  pub remembers : IfSome p.remembered.version (λ number. Remembers origins (known_at p.table.seat).seen number p.remembered.attached)

-- A pass of the table has seen this version, the last that it has seen, and had seen no more before. It has published nothing meanwhile, and has
-- pinned the version or nothing.
pub record HasLooked (old new : Known) (number : ℕ) : Type 0 where
  pub version : number ≡ length new.seen.history
  pub grows : IsPartOf new.seen old.seen
  pub good : IsAmong (first_version new.seen) (version_seen new.seen)
  pub pass : (new.pass ≡ old.pass) ⊎ (new.pass ≡ with_pinned old.pass number)

-- no seat is away, and they are of the indexes at these places
pub record StandAt {X : Type 0} {N : Ghosts X} (places : List ℕ) (passes : List (Pass X N)) : Type 0 where
  pub here : All (λ z. IsSome z.seat) passes
  pub there : map (λ z. z.place) passes ≡ places

-- it has a zone of this number
pub record HasZone {X : Type 0} {N : Ghosts X} (origins : List Name) (zone : ℕ) (p : ZonesPass X N) : Type 0 where
  pub pass : IsPassOf origins p
  pub within : zone < length origins

-- what it knows of the table, and of each zone
abbrev pub table_known : {X : Type 0} {N : Ghosts X} → ZonesPass X N → Known
table_known p = known_at p.table.seat

abbrev pub zones_known : {X : Type 0} {N : Ghosts X} → ZonesPass X N → List Known
zones_known p = map (λ z. known_at z.seat) p.zones.items

abbrev pub zone_known : {X : Type 0} {N : Ghosts X} → ZonesPass X N → ℕ → Known
zone_known p zone = unwrap_or (slice_get (zones_known p) zone) (known_at None)
