-- Which zone is told that doesn't fit.
use Rattle.std.proofs.Common.{◌≡◌, ◌⊎◌, ◌∙◌, inl, inr, ℕ, zero, suc, ◌<◌, ◌≤◌, false, true, List, [], ◌∷◌, ◌++◌, length, get_or, Some, arith, refl, sym, ap, subst}
use Rattle.std.specs.List.{Contains, slice_get}
use Rattle.std.specs.declared.cmp.Ordering.{Ordering}
use Rattle.std.specs.declared.cmp.Ordering.TheVariants.{Less, Equal, Greater}
use Rattle.std.specs.Ordering.{ordering_reverse, is_lt}
use Rattle.std.proofs.lemmas.List.Elements.{Contains-append_cases}
use Rattle.std.proofs.lemmas.Option.{slice_get_within, get_or_from_slice_get}
use Rattle.pin_core.proofs.Lists.{contains_cases}
use Rattle.zone_model.specs.Names.{Name, name_cmp}
use Rattle.zone_model.specs.NameOrder.{name_cmp_total}
use Rattle.shared_cells.specs.declared.view.TableSize.{TableSize}
use Rattle.qp_multi.specs.declared.opening.OpenRefusal.TheVariants as refusal
use Rattle.qp_multi.specs.Openings.{Refuses}
use Rattle.zone_table.specs.declared.opening.ZoneItems.{ZoneItems}
use Rattle.zone_table.specs.declared.opening.ZonesRefusal.{ZonesRefusal}
use Rattle.zone_table.specs.declared.opening.ZonesRefusal.TheVariants.{Full, Memory}
use Rattle.zone_table.specs.Openings.{Place, places_of, entries_in, MayFit, IsFirstFull, RefusesZones}
use Rattle.zone_table.proofs.Lists.{at_seam, get_front, some_is}

-- ---- one zone more

pub no_places : (zones : List ZoneItems) → places_of zones [] ≡ []
no_places [] = refl
no_places (z ∷ zones) = refl

pub places_more : (zones : List ZoneItems) (sizes : List TableSize) (p : Place) → slice_get zones (length sizes) ≡ Some p.zone → places_of zones (sizes ++ p.size ∷ []) ≡ places_of zones sizes ++ p ∷ []
places_more [] sizes p there = absurd cc
places_more (z ∷ zones) [] p there =
    let same : z ≡ p.zone = cc in
    ap (λ (ps : List Place). record { zone = z; size = p.size } ∷ ps) (no_places zones) ∙ ap (λ (x : ZoneItems). record { zone = x; size = p.size } ∷ []) same
places_more (z ∷ zones) (s ∷ sizes) p there = ap (λ (ps : List Place). record { zone = z; size = s } ∷ ps) (places_more zones sizes p there)

pub places_count : (zones : List ZoneItems) (sizes : List TableSize) → length sizes ≤ length zones → length (places_of zones sizes) ≡ length sizes
places_count [] [] few = refl
places_count [] (s ∷ sizes) few = absurd (omega arith)
places_count (z ∷ zones) [] few = refl
places_count (z ∷ zones) (s ∷ sizes) few = ap suc (places_count zones sizes (omega arith))

pub place_zone : (zones : List ZoneItems) (sizes : List TableSize) (k : ℕ) (p : Place) → slice_get (places_of zones sizes) k ≡ Some p → slice_get zones k ≡ Some p.zone
place_zone [] sizes k p there = absurd cc
place_zone (z ∷ zones) [] k p there = absurd cc
place_zone (z ∷ zones) (s ∷ sizes) zero p there = let e : record { zone = z; size = s } ≡ p = some_is (record { zone = z; size = s }) p there in ap (λ (x : Place). Some x.zone) e
place_zone (z ∷ zones) (s ∷ sizes) (suc k) p there = place_zone zones sizes k p there

one_of : (front : List Place) (p other : Place) → Contains (front ++ p ∷ []) other → Contains front other ⊎ (p ≡ other)
one_of front p other c = elim (Contains-append_cases front (p ∷ []) other c) [ inl f ↦ inl f | inr l ↦ elim (contains_cases p other [] l) [ inl e ↦ inr e | inr n ↦ absurd (let m = n.1 in omega arith) ] ]

-- ---- which of two refusals

not_before_itself : (a : Name) → name_cmp a a ≡ Less → ⊥
not_before_itself a e = let r = name_cmp_total.antisymm a a in let bad : Less ≡ ordering_reverse Less = sym e ∙ r ∙ ap ordering_reverse e in absurd cc

not_both_before : (a b : Name) → name_cmp a b ≡ Less → name_cmp b a ≡ Less → ⊥
not_both_before a b e f = not_before_itself a (name_cmp_total.trans a b a e f)

-- a name before one that isn't after another is before the other
before_other : (a b c : Name) → name_cmp a b ≡ Less → (name_cmp c b ≡ Less → ⊥) → name_cmp a c ≡ Less
before_other a b c e never = go (name_cmp c b) refl
  where
    go : (o : Ordering) → name_cmp c b ≡ o → name_cmp a c ≡ Less
    go Less h = absurd (never h)
    go Equal h = name_cmp_total.antisymm a c ∙ ap ordering_reverse (name_cmp_total.congr c b a h ∙ name_cmp_total.antisymm b a ∙ ap ordering_reverse e)
    go Greater h = name_cmp_total.trans a b c e (name_cmp_total.antisymm b c ∙ ap ordering_reverse h)

module _ (front : List Place) (p : Place) where
  -- the last one may fit
  pub kept : (r : ZonesRefusal) → RefusesZones front r → MayFit p → RefusesZones (front ++ p ∷ []) r
  kept Memory all fits = λ other c. elim (one_of front p other c) [ inl f ↦ all other f | inr e ↦ subst MayFit e fits ]
  kept (Full zone needed limit) f fits = record {
    place = f.place;
    there = get_front front (p ∷ []) zone f.place f.there;
    full = f.full;
    first = λ other c less. elim (one_of front p other c) [ inl i ↦ f.first other i less | inr e ↦ subst MayFit e fits ];
  }

  -- it is full, and comes behind
  pub behind : (zone needed limit : ℕ) (f : IsFirstFull front zone needed limit) → name_cmp f.place.zone.origin p.zone.origin ≡ Less → IsFirstFull (front ++ p ∷ []) zone needed limit
  behind zone needed limit f before = record {
    place = f.place;
    there = get_front front (p ∷ []) zone f.place f.there;
    full = f.full;
    first = λ other c less. elim (one_of front p other c) [
      | inl i ↦ f.first other i less
      | inr e ↦ absurd (not_both_before f.place.zone.origin p.zone.origin before (subst (λ (x : Place). name_cmp x.zone.origin f.place.zone.origin ≡ Less) (sym e) less))
    ];
  }

  -- it is the first
  pub in_front : (needed limit : ℕ) → Refuses p.size.chunks (entries_in p.zone) (refusal.Full needed limit) → ((other : Place) → Contains front other → name_cmp other.zone.origin p.zone.origin ≡ Less → MayFit other) → IsFirstFull (front ++ p ∷ []) (length front) needed limit
  in_front needed limit full first = record {
    place = p;
    there = at_seam front p [];
    full = full;
    first = λ other c less. elim (one_of front p other c) [
      | inl i ↦ first other i less
      | inr e ↦ absurd (not_before_itself p.zone.origin (subst (λ (x : Place). name_cmp x.zone.origin p.zone.origin ≡ Less) (sym e) less))
    ];
  }

  pub not_behind : (zone needed limit own most : ℕ) (f : IsFirstFull front zone needed limit) → (name_cmp f.place.zone.origin p.zone.origin ≡ Less → ⊥) → Refuses p.size.chunks (entries_in p.zone) (refusal.Full own most) → IsFirstFull (front ++ p ∷ []) (length front) own most
  not_behind zone needed limit own most f never full = in_front own most full (λ other i less. f.first other i (before_other other.zone.origin p.zone.origin f.place.zone.origin less never))

-- ---- of two zones

is_less : (o : Ordering) → is_lt o ≡ true → o ≡ Less
is_less Less e = refl
is_less Equal e = absurd cc
is_less Greater e = absurd cc

module _ (zones : List ZoneItems) (sizes : List TableSize) (p : Place) (last : ℕ) (count : length sizes ≡ last) (there : slice_get zones last ≡ Some p.zone) where
  pub front_count : length (places_of zones sizes) ≡ last
  front_count = let inside = slice_get_within zones last p.zone there in places_count zones sizes (omega arith) ∙ count

  module _ (zone needed limit : ℕ) (f : IsFirstFull (places_of zones sizes) zone needed limit) (a b : ZoneItems) where
    compared : is_lt (name_cmp (get_or zones zone a).origin (get_or zones last b).origin) ≡ is_lt (name_cmp f.place.zone.origin p.zone.origin)
    compared =
        ap (λ (x : ZoneItems). is_lt (name_cmp x.origin (get_or zones last b).origin)) (get_or_from_slice_get zones zone f.place.zone a (place_zone zones sizes zone f.place f.there))
        ∙ ap (λ (x : ZoneItems). is_lt (name_cmp f.place.zone.origin x.origin)) (get_or_from_slice_get zones last p.zone b there)

    pub told_first : true ≡ is_lt (name_cmp (get_or zones zone a).origin (get_or zones last b).origin) → IsFirstFull (places_of zones sizes ++ p ∷ []) zone needed limit
    told_first e = behind (places_of zones sizes) p zone needed limit f (is_less (name_cmp f.place.zone.origin p.zone.origin) (sym compared ∙ sym e))

    pub told_last : (own most : ℕ) → false ≡ is_lt (name_cmp (get_or zones zone a).origin (get_or zones last b).origin) → Refuses p.size.chunks (entries_in p.zone) (refusal.Full own most) → IsFirstFull (places_of zones sizes ++ p ∷ []) last own most
    told_last own most e full =
        subst (λ (n : ℕ). IsFirstFull (places_of zones sizes ++ p ∷ []) n own most) front_count
        (not_behind (places_of zones sizes) p zone needed limit own most f (λ less. let bad : true ≡ false = sym (ap is_lt less) ∙ sym compared ∙ sym e in absurd cc) full)

  pub told_alone : (own most : ℕ) → ((other : Place) → Contains (places_of zones sizes) other → MayFit other) → Refuses p.size.chunks (entries_in p.zone) (refusal.Full own most) → IsFirstFull (places_of zones sizes ++ p ∷ []) last own most
  told_alone own most fit full = subst (λ (n : ℕ). IsFirstFull (places_of zones sizes ++ p ∷ []) n own most) front_count (in_front (places_of zones sizes) p own most full (λ other c less. fit other c))

-- a refusal as full names one of the zones
pub zone_within : (zones : List ZoneItems) (sizes : List TableSize) (zone needed limit : ℕ) → IsFirstFull (places_of zones sizes) zone needed limit → zone < length zones
zone_within zones sizes zone needed limit f = slice_get_within zones zone f.place.zone (place_zone zones sizes zone f.place f.there)
