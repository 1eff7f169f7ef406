-- How the zones end.
use Rattle.std.specs.Prelude.{◌≡◌, ℕ, ◌+◌, ◌≤◌, List, [], ◌∷◌, ◌++◌, Vec, length, map, All, IsSome, Some, slice_get, slice_index}
use Rattle.std.specs.Global.{Global}
use Rattle.qp_multi.specs.declared.index.Index.{Index}
use Rattle.qp_multi.specs.declared.meaning.Named.{Ghosts}
use Rattle.qp_multi.specs.declared.pass.Pass.{Pass}
use Rattle.qp_multi.specs.Closings.{AllSeen, Ends}
use Rattle.qp_multi.specs.Passes.{Known, known_at}
use Rattle.zone_table.specs.declared.pass.ZonesPass.{ZonesPass}
use Rattle.zone_table.specs.Passes.{zone_known}

-- an index of so many passes ended with this version, where passes that know this were handed in
abbrev pub IsEnd : ℕ → List Known → ℕ → Type 0
IsEnd count passes number = (last : AllSeen) × Ends count passes number last

-- each zone's number stands behind the table's
abbrev pub EachEnds : {T X : Type 0} {N : Ghosts X} → List (Index T X N) → List (ZonesPass X N) → List ℕ → Type 0
EachEnds {T = T} {X = X} {N = N} zones passes numbers = (zone : ℕ) (z : Index T X N) → slice_get zones zone ≡ Some z → IsEnd z.shared.table.shared.key.passes (map (λ p. zone_known p zone) passes) (slice_index numbers (zone + 1))

-- ---- the passes of each zone

-- each list has the pass of its place more
pub record AreAdded {X : Type 0} {N : Ghosts X} (old new : List (Vec (Pass X N) Global)) (passes : List (Pass X N)) : Type 0 where
  pub count : length new ≡ length old
  pub each : (k : ℕ) (x y : Vec (Pass X N) Global) (z : Pass X N) → slice_get old k ≡ Some x → slice_get new k ≡ Some y → slice_get passes k ≡ Some z → y.items ≡ x.items ++ z ∷ []

-- at each place are the passes of a zone, in the order of the passes that they were taken from
pub record AreSplit {X : Type 0} {N : Ghosts X} (count : ℕ) (passes : List (ZonesPass X N)) (lists : List (Vec (Pass X N) Global)) : Type 0 where
  pub count_is : length lists ≡ count
  pub many : (j : ℕ) (l : Vec (Pass X N) Global) → slice_get lists j ≡ Some l → length l.items ≡ length passes
  pub each : (j k : ℕ) (l : Vec (Pass X N) Global) (p : ZonesPass X N) (z : Pass X N) → slice_get lists j ≡ Some l → slice_get passes k ≡ Some p → slice_get p.zones.items j ≡ Some z → slice_get l.items k ≡ Some z

-- each list is of passes of the zone at its place
abbrev pub Belong : {T X : Type 0} {N : Ghosts X} → List (Index T X N) → List (Vec (Pass X N) Global) → Type 0
Belong {T = T} {X = X} {N = N} zones lists = (k : ℕ) (z : Index T X N) (l : Vec (Pass X N) Global) → slice_get zones k ≡ Some z → slice_get lists k ≡ Some l → All (λ p. (IsSome p.seat) × (p.place ≡ z.place)) l.items

-- sixteen zones or fewer can end, each with the passes of its list
pub record CanEnd {T X : Type 0} {N : Ghosts X} (zones : List (Index T X N)) (lists : List (Vec (Pass X N) Global)) : Type 0 where
  pub few : length zones ≤ 16
  pub count : length lists ≡ length zones
  pub here : Belong zones lists

-- each zone ended with these, and its number stands behind the first
abbrev pub AreEnded : {T X : Type 0} {N : Ghosts X} → List (Index T X N) → List (Vec (Pass X N) Global) → List ℕ → Type 0
AreEnded {T = T} {X = X} {N = N} zones lists numbers = (k : ℕ) (z : Index T X N) (l : Vec (Pass X N) Global) → slice_get zones k ≡ Some z → slice_get lists k ≡ Some l → IsEnd z.shared.table.shared.key.passes (map (λ p. known_at p.seat) l.items) (slice_index numbers (k + 1))
