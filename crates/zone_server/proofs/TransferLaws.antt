-- What is told of a zone that was written down.
use Rattle.std.proofs.Common.{◌≡◌, ℕ, List, length, Result, Ok, Err, IfOk, OnOk, Some, refl, sym, subst}
use Rattle.std.specs.Prelude.{OnErr, IsSome}
use Rattle.std.specs.List.{slice_get}
use Rattle.zone_model.specs.Names.{Name}
use Rattle.zone_model.specs.Versions.{Version}
use Rattle.zone_model.specs.Dumps.{dump, record_count}
use Rattle.zone_model.specs.declared.Style.{Style}
use Rattle.outer_io.specs.Bytes.{Grows, GrowsByFront, Held}
use Rattle.qp_multi.specs.declared.meaning.Named.{Ghosts}
use Rattle.qp_multi.specs.declared.pass.Pass.{Pass}
use Rattle.qp_multi.specs.Passes.{known_at}
use Rattle.zone_dump.specs.declared.refusal.DumpRefusal.{DumpRefusal}
use Rattle.job_commands.proofs.ShowLaws.{seat_told}
use Rattle.job_commands.proofs.ZoneLaws.{zone_begins}
use Rattle.zone_table.specs.declared.pass.ZonesPass.{ZonesPass}
use Rattle.zone_table.specs.declared.zones.Zones.{Zones}
use Rattle.zone_table.specs.Passes.{zone_known}
use Rattle.zone_table.proofs.PassLaws.{with_zone}
use Rattle.zone_server.specs.Homes.{Served}
use Rattle.zone_server.specs.Replies.{IsShown, IsTold}
use Rattle.zone_server.specs.Servings.{IsServed, IsServing, known_of}
use Rattle.zone_server.specs.Transfers.{Dumps, IsDumped, Transfers, transfer_told, transferred}
use Rattle.zone_server.specs.declared.transferring.Transferred.{Transferred}
use Rattle.zone_server.proofs.ServingLaws.{happened_there, opened_at, pass_in, served_at, told_of_zone}

pub dumps_by : (style : Style) (origin : Name) (zone : Version) (old new : Held) (version : ℕ) (r : Result ℕ DumpRefusal) → IfOk r (λ n. n ≡ record_count zone) → OnOk r (Grows old new (dump style origin zone)) → OnErr r (GrowsByFront old new (dump style origin zone)) → Dumps style origin zone old new (transferred version r)
dumps_by style origin zone old new version (Ok n) count ok err = (count, ok)
dumps_by style origin zone old new version (Err e) count ok err = err

pub version_told : (version number : ℕ) (r : Result ℕ DumpRefusal) → version ≡ number → IfOk (transferred version r) (λ t. t.version ≡ number)
version_told version number (Ok n) is = is
version_told version number (Err e) is = tt

module _ {X Y : Type 0} {N : Ghosts Y} (served : List Served) (zones : Zones X Y N) (are : IsServed served zones) (p : ZonesPass Y N) (is : IsServing served p) (zone : ℕ) (origin : Name) (at : slice_get zones.origins.items zone ≡ Some origin) (seat next : Pass Y N) (value : slice_get p.zones.items zone ≡ Some seat) (was : IsSome seat.seat) (here : IsSome next.seat) (place : next.place ≡ seat.place) (known : known_at seat.seat ≡ zone_known p zone) (style : Style) (old new : Held) where
  -- by the version of the served zone
  of_served : (r : Result Transferred DumpRefusal) (version : ℕ) → version ≡ length (known_at next.seat).seen.history → IsDumped (λ v. Dumps style origin v old new r) (known_at seat.seat) (known_at next.seat) r
      → (let s = served_at served zones are zone origin at in IsTold s.0.origin s.0.opening (λ v. Dumps style s.0.origin v old new r) (known_at seat.seat) (known_at next.seat) version)
  of_served r version number d =
      let s = served_at served zones are zone origin at in
      told_of_zone s.0.origin s.0.opening (λ v. Dumps style s.0.origin v old new r) (known_at seat.seat) (known_at next.seat) version (seat_told seat.seat was) (opened_at served zones are p is zone origin at seat known)
      (zone_begins s.0.origin s.0.opening (are.opened zone s.0 s.1))
      (subst (λ (n : ℕ). IsShown (λ v. Dumps style s.0.origin v old new r) (known_at seat.seat) (known_at next.seat) n) (sym number)
      (subst (λ (o : Name). IsShown (λ v. Dumps style o v old new r) (known_at seat.seat) (known_at next.seat) (length (known_at next.seat).seen.history)) (sym s.2) d.shown))

  pub transfers_by : (r : Result Transferred DumpRefusal) → IsDumped (λ v. Dumps style origin v old new r) (known_at seat.seat) (known_at next.seat) r → Transfers served origin style old new (known_of p) (known_of (with_zone p zone next)) (transfer_told r)
  transfers_by (Ok t) d =
      happened_there served zones are p p is refl (pass_in served zones are p is.pass) zone seat next value here place known
      (λ s v w. IsTold s.origin s.opening (λ z. Dumps style s.origin z old new (Ok t)) v w t.version) origin at (of_served (Ok t) t.version d.version d)
  transfers_by (Err e) d =
      happened_there served zones are p p is refl (pass_in served zones are p is.pass) zone seat next value here place known
      (λ s v w. IsTold s.origin s.opening (λ z. Dumps style s.origin z old new (Err e)) v w (length w.seen.history)) origin at (of_served (Err e) (length (known_at next.seat).seen.history) refl d)
