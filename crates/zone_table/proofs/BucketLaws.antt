-- Zones that are filed, and found in their buckets.
use Rattle.std.proofs.Common.{◌≡◌, ◌∙◌, inl, inr, ℕ, ◌+◌, ◌<◌, ◌++◌, ◌∷◌, [], Bool, true, false, ◌||◌, List, Vec, Global, length, map, get_or, Some, arith, refl, sym, ap, subst, eq-eqb}
use Rattle.std.specs.Prelude.{nat_eq}
use Rattle.std.specs.List.{All, Contains, list_any, slice_get}
use Rattle.std.proofs.lemmas.Bool.{cases_lt, eqb-true}
use Rattle.std.proofs.lemmas.List.Elements.{All-map, All-nil, All-push, Contains-append_left, Contains-push}
use Rattle.std.proofs.lemmas.List.Folds.{list_any_at}
use Rattle.std.proofs.lemmas.Option.{get_or_from_slice_get, slice_get_within}
use Rattle.pin_core.proofs.Lists.{contains_later}
use Rattle.zone_model.specs.Names.{Name, wire}
use Rattle.zone_table.specs.Buckets.{AreFiled, AreZones, IsOn, IsBucket, bucket_of}
use Rattle.zone_table.proofs.Lists.{all_at, get_in, mapped_at, read_at, some_is}
use Rattle.zone_table.proofs.HandingLaws.{all_by_place}

-- ---- what is on a list

on_list : (zone : ℕ) (zones : List ℕ) → Contains zones zone → IsOn zone zones
on_list zone zones c = list_any_at (nat_eq zone) zones c.0 zone c.1 (eq-eqb zone (get_or zones c.0 zone) (sym c.2))

pub listed : (zone : ℕ) (zones : List ℕ) → IsOn zone zones → Contains zones zone
listed zone [] on = absurd cc
listed zone (z ∷ zones) on = by_test (nat_eq zone z) refl on (listed zone zones)
  where
    by_test : (b : Bool) → nat_eq zone z ≡ b → (b || list_any (nat_eq zone) zones) ≡ true → (IsOn zone zones → Contains zones zone) → Contains (z ∷ zones) zone
    by_test true e h later = (0, omega arith, sym (eqb-true zone z e))
    by_test false e h later = contains_later z zone zones (later h)

-- ---- one bucket

module _ (origins : List Name) (bucket : ℕ) where
  -- of the zones before this one all that belong there
  pub record FiledTo (zone : ℕ) (zones : List ℕ) : Type 0 where
    pub inside : All (λ z. z < length origins) zones
    pub all : (z : ℕ) (origin : Name) → z < zone → slice_get origins z ≡ Some origin → bucket_of (wire origin) ≡ bucket → Contains zones z

  pub filed_none : FiledTo 0 []
  filed_none = record { inside = All-nil (λ z. z < length origins); all = λ z origin l. absurd (omega arith) }

  pub filed_more : (zone : ℕ) (zones : List ℕ) → zone < length origins → FiledTo zone zones → FiledTo (zone + 1) (zones ++ zone ∷ [])
  filed_more zone zones within f = record {
    inside = All-push (λ z. z < length origins) zones zone f.inside within;
    all = λ z origin l is here. elim (cases_lt z zone) [
      | inl m ↦ Contains-append_left zones (zone ∷ []) z (f.all z origin m is here)
      | inr g ↦ (let e : zone ≡ z = omega arith in subst (Contains (zones ++ zone ∷ [])) e (Contains-push zones zone))
    ];
  }

  pub filed_other : (zone : ℕ) (zones : List ℕ) (origin : Name) → slice_get origins zone ≡ Some origin → (bucket_of (wire origin) ≡ bucket → ⊥) → FiledTo zone zones → FiledTo (zone + 1) zones
  filed_other zone zones origin is other f = record {
    inside = f.inside;
    all = λ z o l there here. elim (cases_lt z zone) [
      | inl m ↦ f.all z o m there here
      | inr g ↦ (
          let e : zone ≡ z = omega arith in
          let same : origin ≡ o = some_is origin o (sym is ∙ ap (slice_get origins) e ∙ there) in
          absurd (other (ap (λ (n : Name). bucket_of (wire n)) same ∙ here))
          )
    ];
  }

  pub filed_all : (zones : List ℕ) → FiledTo (length origins) zones → IsBucket origins bucket zones
  filed_all zones f = record { inside = f.inside; all = λ zone origin is here. f.all zone origin (slice_get_within origins zone origin is) is here }

-- ---- all buckets

module _ (origins : List Name) where
  -- those so far
  abbrev pub AreBuckets : List (Vec ℕ Global) → Type 0
  AreBuckets buckets = (bucket : ℕ) (zones : Vec ℕ Global) → slice_get buckets bucket ≡ Some zones → IsBucket origins bucket zones.items

  pub buckets_zones : (buckets : List (Vec ℕ Global)) → AreBuckets buckets → AreZones (length origins) (map (λ s. s.items) buckets)
  buckets_zones buckets are = All-map (All (λ zone. zone < length origins)) (λ (s : Vec ℕ Global). s.items) buckets (all_by_place (λ s. All (λ zone. zone < length origins) s.items) buckets (λ k s is. (are k s is).inside))

  pub buckets_filed : (buckets : List (Vec ℕ Global)) → length buckets ≡ 64 → AreBuckets buckets → AreFiled origins (map (λ s. s.items) buckets)
  buckets_filed buckets many are zone origin is =
      let bucket = bucket_of (wire origin) in
      let v = get_in buckets bucket (omega arith) in
      let read = get_or_from_slice_get (map (λ (s : Vec ℕ Global). s.items) buckets) bucket v.0.items [] (mapped_at (λ (s : Vec ℕ Global). s.items) buckets bucket v.0 v.1) in
      subst (IsOn zone) (sym read) (on_list zone v.0.items ((are bucket v.0 v.1).all zone origin is refl))

module _ (buckets : List (Vec ℕ Global)) (bucket : ℕ) (zones : Vec ℕ Global) (inside : bucket < length buckets) (read : zones ≡ get_or buckets bucket zones) where
  there : slice_get (map (λ (s : Vec ℕ Global). s.items) buckets) bucket ≡ Some zones.items
  there = mapped_at (λ (s : Vec ℕ Global). s.items) buckets bucket zones (read_at buckets bucket zones inside read)

  pub bucket_inside : (count : ℕ) → AreZones count (map (λ s. s.items) buckets) → All (λ zone. zone < count) zones.items
  bucket_inside count are = all_at (All (λ zone. zone < count)) (map (λ (s : Vec ℕ Global). s.items) buckets) bucket zones.items are there

  pub bucket_has : (origins : List Name) → AreFiled origins (map (λ s. s.items) buckets) → (zone : ℕ) (origin : Name) → slice_get origins zone ≡ Some origin → bucket_of (wire origin) ≡ bucket → Contains zones.items zone
  bucket_has origins filed zone origin is here =
      listed zone zones.items (subst (IsOn zone) (get_or_from_slice_get (map (λ (s : Vec ℕ Global). s.items) buckets) bucket zones.items [] there)
      (subst (λ (n : ℕ). IsOn zone (get_or (map (λ (s : Vec ℕ Global). s.items) buckets) n [])) here (filed zone origin is)))
