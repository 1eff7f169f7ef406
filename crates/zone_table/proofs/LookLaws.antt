-- A pass of the zones that has looked at the table.
use Rattle.std.proofs.Common.{◌≡◌, ℕ, true, List, length, Option, Some, sym, subst}
use Rattle.std.specs.Prelude.{IfSome, IsSome}
use Rattle.zone_model.specs.Names.{Name}
use Rattle.shared_cells.specs.History.{IsPartOf}
use Rattle.shared_cells.specs.Views.{is_told}
use Rattle.qp_multi.specs.declared.meaning.Named.{Ghosts}
use Rattle.qp_multi.specs.declared.pass.Pass.{Pass}
use Rattle.qp_multi.specs.Passes.{known_at, version_seen}
use Rattle.zone_table.specs.declared.pass.ZonesPass.{ZonesPass}
use Rattle.zone_table.specs.declared.remembered.Remembered.{Remembered}
use Rattle.zone_table.specs.Passes.{IsPassOf, table_known}
use Rattle.zone_table.specs.Remembered.{AreAttached, Remembers}
use Rattle.zone_table.specs.Tables.{IsTable}
use Rattle.zone_table.proofs.KnownLaws.{opened_same, seat_told, told_later}
use Rattle.zone_table.proofs.RememberLaws.{remembers_later, remembers_now}

module _ {X : Type 0} {N : Ghosts X} (origins : List Name) (p : ZonesPass X N) (is : IsPassOf origins p) (t : Pass X N) (here : IsSome t.seat) (place : t.place ≡ 0) (grows : IsPartOf (known_at t.seat).seen (table_known p).seen) where
  told : is_told (table_known p).seen.opening ≡ true
  told = seat_told p.table.seat is.table_here

  is_back : (r : Remembered) → IfSome r.version (λ n. Remembers origins (known_at t.seat).seen n r.attached) → IsPassOf origins (record p { table = t; remembered = r })
  is_back r remembers = record {
    table_here = here;
    table_place = place;
    opening = subst (IsTable origins) (sym (opened_same (known_at t.seat).seen (table_known p).seen told grows)) is.opening;
    zones_here = is.zones_here;
    zone_places = is.zone_places;
    remembers = remembers;
  }

  -- what it remembers is as it was
  pub asked : IsPassOf origins (record p { table = t })
  asked = is_back p.remembered (remembers_later origins (known_at t.seat).seen (table_known p).seen p.remembered.version p.remembered.attached grows is.remembers)

  -- or is of the version that it has seen last
  pub looked : (r : Remembered) (number : ℕ) → number ≡ length (known_at t.seat).seen.history → r.version ≡ Some number → AreAttached origins (version_seen (known_at t.seat).seen) r.attached → IsPassOf origins (record p { table = t; remembered = r })
  looked r number last version are = is_back r (subst (λ (o : Option ℕ). IfSome o (λ n. Remembers origins (known_at t.seat).seen n r.attached)) (sym version)
      (remembers_now origins (known_at t.seat).seen number r.attached (told_later (known_at t.seat).seen (table_known p).seen told grows) last are))
