-- What a server replies: by a version of the zone that a name is in.
use Rattle.std.specs.Prelude.{◌≡◌, ◌≢◌, ℕ, List, length, Some, IfSome, slice_get}
use Rattle.std.specs.Option.{option_map}
use Rattle.zone_model.specs.Names.{Name}
use Rattle.zone_model.specs.Versions.{Version}
use Rattle.shared_cells.specs.History.{IsPartOf}
use Rattle.shared_cells.specs.Views.{with_pinned}
use Rattle.qp_multi.specs.Passes.{Known, first_version, version_seen}
use Rattle.job_commands.specs.Histories.{Commit, Entries, IsLawful, IsZone, StandsAs, index_at}
use Rattle.zone_table.specs.Locations.{IsZoneOf}
use Rattle.zone_table.specs.Passes.{HasLooked}
use Rattle.zone_server.specs.Homes.{Served}
use Rattle.zone_server.specs.Servings.{ServerKnown, of_zone, origins_of}
use Rattle.zone_server.specs.declared.reply.FromZone.{FromZone}
use Rattle.zone_server.specs.declared.reply.Reply.{Reply}

-- the zone, after the first so many of these committed transactions
abbrev pub IsAfter : Entries → List Commit → ℕ → Version → Type 0
IsAfter opening history number zone = StandsAs (index_at opening history number) zone

-- the pass has seen no less
pub record HasGrown (old new : Known) : Type 0 where
  pub grows : IsPartOf new.seen old.seen

-- A pass took the version that was current at some moment: it is no older than what the pass had seen, and the last that it has
-- seen then. The version is a zone of the origin, and what is told is told of that.
pub record IsTold (origin : Name) (opening : Entries) (tells : Version → Type 0) (old new : Known) (version : ℕ) : Type 0 where
  pub grows : IsPartOf new.seen old.seen
  pub version_is : version ≡ length new.seen.history
  pub pass : new.pass ≡ with_pinned old.pass version
  pub is_zone : IsZone origin (index_at opening new.seen.history version)
  pub tells_of : (zone : Version) → IsAfter opening new.seen.history version zone → tells zone

-- what is told of a served zone, by its version
pub record IsFrom {T : Type 0} (served : List Served) (tells : Name → Version → T → Type 0) (old new : ServerKnown) (f : FromZone T) : Type 0 where
  pub zone_is : Served
  pub there : slice_get served f.zone ≡ Some zone_is
  pub told : IsTold zone_is.origin zone_is.opening (λ zone. tells zone_is.origin zone f.told) (of_zone old f.zone) (of_zone new f.zone) f.version

-- the reply, with what is made of what it tells
abbrev pub reply_map : {T U : Type 0} → (T → U) → Reply T → Reply U
reply_map f r = record { table = r.table; from = option_map (λ x. record { zone = x.zone; version = x.version; told = f x.told }) r.from }

-- The reply to a question for a name: of the zone that the table's version has for it, and of that zone's version what is told. Of
-- each other zone the pass knows what it knew.
pub record IsReply {T : Type 0} (served : List Served) (name : Name) (tells : Name → Version → T → Type 0) (old new : ServerKnown) (r : Reply T) : Type 0 where
  pub table : HasLooked old.table new.table r.table
  pub located : IsZoneOf (origins_of served) (version_seen new.table.seen) name (option_map (λ (f : FromZone T). f.zone) r.from)
  pub from_zone : IfSome r.from (IsFrom served tells old new)
  pub others : (zone : ℕ) → IfSome r.from (λ f. zone ≢ f.zone) → of_zone new zone ≡ of_zone old zone

-- A pass took a version, as of a zone whose opening isn't named.
pub record IsShown (tells : Version → Type 0) (old new : Known) (version : ℕ) : Type 0 where
  pub grows : IsPartOf new.seen old.seen
  pub version_is : version ≡ length new.seen.history
  pub pass : new.pass ≡ with_pinned old.pass version
  pub lawful : IsLawful (first_version new.seen) (version_seen new.seen)
  pub tells_of : (zone : Version) → StandsAs (version_seen new.seen) zone → tells zone
