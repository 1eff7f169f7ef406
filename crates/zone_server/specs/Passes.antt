-- What is asked for and stays where a pass of a zone, or of all zones, does something.
use Rattle.std.specs.Prelude.{◌≡◌, ℕ, List, IsSome, Some, slice_get}
use Rattle.zone_model.specs.MasterFile.{Zone}
use Rattle.zone_model.specs.Names.{Name}
use Rattle.zone_model.specs.Transactions.{Transaction}
use Rattle.master_file.specs.Rows.{CanBeDumped}
use Rattle.report_laws.specs.Changes.{AllSaid}
use Rattle.qp_multi.specs.declared.meaning.Named.{Ghosts}
use Rattle.qp_multi.specs.declared.pass.Pass.{Pass}
use Rattle.qp_multi.specs.Passes.{known_at}
use Rattle.job_commands.specs.Commands.{OpensAt}
use Rattle.zone_table.specs.declared.zones.Zones.{Zones}
use Rattle.zone_table.specs.declared.pass.ZonesPass.{ZonesPass}
use Rattle.zone_server.specs.Homes.{Served}
use Rattle.zone_server.specs.Reloads.{MakesZone}
use Rattle.zone_server.specs.Replies.{HasGrown}
use Rattle.zone_server.specs.Servings.{IsServed, IsServing, known_of}

-- ---- of a zone

module _ {Y : Type 0} {N : Ghosts Y} where
  -- a pass has asked: it can still, and has seen no less
  pub record HasAsked (old new : Pass Y N) : Type 0 where
    pub here : IsSome new.seat
    pub place : new.place ≡ old.place
    pub grows : HasGrown (known_at old.seat) (known_at new.seat)

  -- A transaction can be tried by it on the version of this number.
  pub record CanExchange (at : ℕ) (pass : Pass Y N) (origin : Name) (asked : Transaction) (number : ℕ) : Type 0 where
    pub here : IsSome pass.seat
    pub place : pass.place ≡ at
    -- the index was opened with a zone of the origin
    pub opens : OpensAt origin (known_at pass.seat)
    -- the transaction makes a zone of that version
    pub makes : MakesZone origin asked (known_at pass.seat) number

  -- Its zone can be exchanged for this one.
  pub record CanReload (at : ℕ) (pass : Pass Y N) (other : Zone) : Type 0 where
    pub here : IsSome pass.seat
    pub place : pass.place ≡ at
    -- the index was opened with a zone of the same origin
    pub opens : OpensAt other.origin (known_at pass.seat)
    -- the other is a zone
    pub zone : CanBeDumped other.origin other.pairs

-- ---- of all zones

module _ {X Y : Type 0} {N : Ghosts Y} where
  -- these zones are served, and it is a pass of them
  pub record AreServing (served : List Served) (all : Zones X Y N) (p : ZonesPass Y N) : Type 0 where
    pub zones : IsServed served all
    pub pass : IsServing served p

  -- By it a transaction can be run on the zone of this number.
  pub record CanRunIn (served : List Served) (all : Zones X Y N) (p : ZonesPass Y N) (number : ℕ) (origin : Name) (asked : Transaction) : Type 0 where
    pub zones : IsServed served all
    pub pass : IsServing served p
    -- the zone has this origin
    pub zone : slice_get all.origins.items number ≡ Some origin
    -- what is asked for lies in it
    pub said : AllSaid origin asked

-- it is a pass of them still, and knows what it knew
pub record StaysServing {Y : Type 0} {N : Ghosts Y} (served : List Served) (old new : ZonesPass Y N) : Type 0 where
  pub pass : IsServing served new
  pub same : known_of new ≡ known_of old
