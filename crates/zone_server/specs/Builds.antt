-- How an opening is put together, and why it isn't.
use Rattle.std.specs.Prelude.{◌≡◌, ◌⊎◌, ◌<◌, ◌≤◌, ℕ, true, [], ◌∷◌, ◌++◌, length, Result, Ok, Err}
use Rattle.std.specs.List.{list_any}
use Rattle.zone_model.specs.Names.{same_name}
use Rattle.zone_model.specs.MasterFile.{Zone}
use Rattle.job_commands.specs.Histories.{StandsAs}
use Rattle.zone_server.specs.Homes.{Served}
use Rattle.zone_server.specs.Openings.{OpeningView}
use Rattle.zone_server.specs.declared.opening.OpenRefusal.{OpenRefusal}
use Rattle.zone_server.specs.declared.opening.OpenRefusal.TheVariants as refusal

-- For so many passes, if there can be so many, and without zones yet.
abbrev pub OpensFor : ℕ → Result OpeningView OpenRefusal → Type 0
OpensFor passes (Ok o) = (o.passes ≡ passes) × (o.zones ≡ []) × (1 ≤ passes) × (passes ≤ 17)
OpensFor passes (Err refusal.Passes) = (passes < 1) ⊎ (17 < passes)
OpensFor passes (Err e) = e ≡ refusal.Memory

-- the zone is served behind the others, on so many chunks
pub record HasOneMore (old : OpeningView) (zone : Zone) (chunks : ℕ) (new : OpeningView) : Type 0 where
  pub passes : new.passes ≡ old.passes
  pub served : Served
  pub zones : new.zones ≡ old.zones ++ served ∷ []
  pub origin : served.origin ≡ zone.origin
  pub size : served.size ≡ record { passes = old.passes; chunks = chunks }
  pub opening : StandsAs served.opening zone.pairs

-- One zone more; unless there are sixteen, or it can't have so many chunks, or one has its origin.
abbrev pub AddsZone : OpeningView → Zone → ℕ → Result OpeningView OpenRefusal → Type 0
AddsZone old zone chunks (Ok new) = HasOneMore old zone chunks new
AddsZone old zone chunks (Err refusal.Zones) = 16 ≤ length old.zones
AddsZone old zone chunks (Err refusal.Chunks) = (chunks < 16) ⊎ (4096 < chunks)
AddsZone old zone chunks (Err refusal.Twice) = list_any (λ (s : Served). same_name s.origin zone.origin) old.zones ≡ true
AddsZone old zone chunks (Err e) = e ≡ refusal.Memory
