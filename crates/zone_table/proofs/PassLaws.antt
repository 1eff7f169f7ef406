-- Passes that stay in their places.
use Rattle.std.proofs.Common.{◌≡◌, ◌≢◌, ◌∙◌, ℕ, ◌<◌, true, List, length, map, set, get_or, Option, Some, None, arith, refl, sym, ap, subst}
use Rattle.std.specs.Prelude.{IsSome, unwrap_or}
use Rattle.std.specs.List.{All, slice_get}
use Rattle.std.specs.Option.{option_map}
use Rattle.std.specs.Vec.{with_item}
use Rattle.std.proofs.lemmas.List.{length-map}
use Rattle.std.proofs.lemmas.List.Elements.{All-set}
use Rattle.std.proofs.lemmas.List.FromFn.{length-range_with_len}
use Rattle.std.proofs.lemmas.Option.{slice_get-map, slice_get_within, get_or_from_slice_get}
use Rattle.std.proofs.Math.Seq.{map-set_same}
use Rattle.zone_model.specs.Names.{Name}
use Rattle.shared_cells.specs.Views.{is_told}
use Rattle.qp_multi.specs.declared.meaning.Named.{Ghosts}
use Rattle.qp_multi.specs.declared.pass.Pass.{Pass}
use Rattle.qp_multi.specs.Passes.{Known, known_at}
use Rattle.zone_table.specs.Passes.{IsPassOf, zone_known}
use Rattle.zone_table.specs.declared.pass.ZonesPass.{ZonesPass}
use Rattle.zone_table.proofs.KnownLaws.{seat_told}
use Rattle.zone_table.proofs.Lists.{all_at, get_in, get_set, get_set_other}

module _ {X : Type 0} {N : Ghosts X} where
  -- their seats are there, and they are of the same indexes
  pub record Kept (old new : List (Pass X N)) : Type 0 where
    pub here : All (λ z. IsSome z.seat) new
    pub places : map (λ z. z.place) new ≡ map (λ z. z.place) old

  pub kept_first : (all : List (Pass X N)) → All (λ z. IsSome z.seat) all → Kept all all
  kept_first all here = record { here = here; places = refl }

  -- one was put back
  pub kept_set : (old new : List (Pass X N)) (k : ℕ) (p q : Pass X N) → Kept old new → p ≡ get_or new k p → IsSome q.seat → q.place ≡ p.place → Kept old (set new k q)
  kept_set old new k p q h is here place = record {
    here = All-set (λ z. IsSome z.seat) new k q here h.here;
    places = map-set_same (λ z. z.place) new k q p (place ∙ ap (λ z. z.place) is) ∙ h.places;
  }

  -- and knows what it knew
  pub known_set : (old new : List (Pass X N)) (k : ℕ) (p q : Pass X N) → map (λ z. known_at z.seat) new ≡ map (λ z. known_at z.seat) old → p ≡ get_or new k p → known_at q.seat ≡ known_at p.seat → map (λ z. known_at z.seat) (set new k q) ≡ map (λ z. known_at z.seat) old
  known_set old new k p q same is known = map-set_same (λ z. known_at z.seat) new k q p (known ∙ ap (λ z. known_at z.seat) is) ∙ same

-- ---- one zone's pass of a pass of the zones

module _ {X : Type 0} {N : Ghosts X} where
  abbrev seen_by : Pass X N → Known
  seen_by z = known_at z.seat

  -- the pass with that of a zone exchanged
  abbrev pub with_zone : ZonesPass X N → ℕ → Pass X N → ZonesPass X N
  with_zone p zone q = record p { zones = with_item p.zones zone q }

  known_from : (p : ZonesPass X N) (zone : ℕ) → zone_known p zone ≡ unwrap_or (option_map seen_by (slice_get p.zones.items zone)) (known_at None)
  known_from p zone = ap (λ (o : Option Known). unwrap_or o (known_at None)) (slice_get-map seen_by p.zones.items zone)

  -- One zone's pass went on, and knows what it knows then; the others know what they knew.
  pub record Went (origins : List Name) (p : ZonesPass X N) (zone : ℕ) (new : Pass X N) : Type 0 where
    pub pass : IsPassOf origins (with_zone p zone new)
    pub here : zone_known (with_zone p zone new) zone ≡ known_at new.seat
    pub others : (other : ℕ) → other ≢ zone → zone_known (with_zone p zone new) other ≡ zone_known p other

  pub went : (origins : List Name) (p : ZonesPass X N) (zone : ℕ) (old new : Pass X N) → IsPassOf origins p → slice_get p.zones.items zone ≡ Some old → IsSome new.seat → new.place ≡ old.place → Went origins p zone new
  went origins p zone old new is there here place =
      let kept = kept_set p.zones.items p.zones.items zone old new (kept_first p.zones.items is.zones_here) (sym (get_or_from_slice_get p.zones.items zone old old there)) here place in
      record {
        pass = record { table_here = is.table_here; table_place = is.table_place; opening = is.opening; zones_here = kept.here; zone_places = kept.places ∙ is.zone_places; remembers = is.remembers };
        here = known_from (with_zone p zone new) zone
            ∙ ap (λ (o : Option (Pass X N)). unwrap_or (option_map seen_by o) (known_at None)) (get_set p.zones.items zone new (slice_get_within p.zones.items zone old there));
        others = λ other differs. known_from (with_zone p zone new) other
            ∙ ap (λ (o : Option (Pass X N)). unwrap_or (option_map seen_by o) (known_at None)) (get_set_other p.zones.items zone other new differs)
            ∙ sym (known_from p other);
      }

  -- what is so of what it knew and knows
  pub went_as : (R : Known → Known → Type 0) (origins : List Name) (p : ZonesPass X N) (zone : ℕ) (old new : Pass X N) → Went origins p zone new → known_at old.seat ≡ zone_known p zone → R (known_at old.seat) (known_at new.seat)
      → R (zone_known p zone) (zone_known (with_zone p zone new) zone)
  went_as R origins p zone old new w known r = subst (λ (v : Known). R v (zone_known (with_zone p zone new) zone)) known (subst (R (known_at old.seat)) (sym w.here) r)

  module _ (origins : List Name) (p : ZonesPass X N) (is : IsPassOf origins p) where
    pub wide : length p.zones.items ≡ length origins
    wide = sym (length-map p.zones.items (λ z. z.place)) ∙ ap length is.zone_places ∙ length-range_with_len 1 (length origins)

    -- its pass of a zone
    pub zone_seat : (zone : ℕ) → zone < length origins → (q : Pass X N) × (slice_get p.zones.items zone ≡ Some q) × (IsSome q.seat) × (zone_known p zone ≡ known_at q.seat)
    zone_seat zone lt =
        let q = get_in p.zones.items zone (let m = wide in omega (arith, m, lt)) in (
          q.0,
          q.1,
          all_at (λ z. IsSome z.seat) p.zones.items zone q.0 is.zones_here q.1,
          known_from p zone ∙ ap (λ (o : Option (Pass X N)). unwrap_or (option_map seen_by o) (known_at None)) q.1,
        )

    -- knows of the zone's opening
    pub zone_told : (zone : ℕ) → zone < length origins → is_told (zone_known p zone).seen.opening ≡ true
    zone_told zone lt = let q = zone_seat zone lt in subst (λ (v : Known). is_told v.seen.opening ≡ true) (sym q.3) (seat_told q.0.seat q.2)
