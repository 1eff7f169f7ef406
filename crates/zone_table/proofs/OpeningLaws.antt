-- Zones that are opened, one after another.
use Rattle.std.proofs.Common.{◌≡◌, ◌∙◌, inl, inr, ℕ, ◌+◌, ◌≤◌, List, [], ◌∷◌, ◌++◌, Vec, Global, length, map, get_or, Some, arith, sym, ap, subst, length-append}
use Rattle.std.specs.List.{Contains, slice_get}
use Rattle.std.specs.Prelude.{Result, Ok, Err, MatchResult}
use Rattle.std.proofs.lemmas.List.{length-map, map-append}
use Rattle.shared_cells.specs.declared.view.TableSize.{TableSize}
use Rattle.zone_table.specs.declared.opening.ZoneItems.{ZoneItems}
use Rattle.zone_table.specs.declared.opening.ZonesRefusal.{ZonesRefusal}
use Rattle.zone_table.specs.declared.opening.ZonesRefusal.TheVariants.{Memory}
use Rattle.zone_table.proofs.RefusalLaws.{kept, places_more, places_count}
use Rattle.qp_multi.specs.declared.meaning.Named.{Ghosts}
use Rattle.zone_table.specs.declared.opening.Opened.{Opened}
use Rattle.zone_table.specs.Openings.{Place, places_of, entries_in, AllFit, MayFit, IsBegun, AreBegun, OpensZones, RefusesZones}
use Rattle.zone_table.proofs.Lists.{place_in, last_or_before, get_in, read_at}

module _ {X Y : Type 0} {N : Ghosts Y} where
  pub none_begun : (places : List Place) (opened : List (Opened X Y N)) → places ≡ [] → opened ≡ [] → AreBegun places opened
  none_begun places opened p o = record {
    count = ap length o ∙ sym (ap length p);
    each = λ k q x iq ix. absurd (let bad : slice_get {X = Place} [] k ≡ Some q = sym (ap (λ (l : List Place). slice_get l k) p) ∙ iq in cc);
  }

  -- and one more
  pub one_begun : (front : List Place) (others : List (Opened X Y N)) (p : Place) (o : Opened X Y N) → AreBegun front others → IsBegun (length front + 1) p.size (entries_in p.zone) o → AreBegun (front ++ p ∷ []) (others ++ o ∷ [])
  one_begun front others p o h b = record {
    count = (let a = length-append front (p ∷ []) in let c = length-append others (o ∷ []) in let n = h.count in omega arith);
    each = λ k q x iq ix. elim (last_or_before front p q k iq) [
      | inl l ↦ elim (last_or_before others o x k ix) [
        | inl m ↦ h.each k q x l.1 m.1
        | inr m ↦ absurd (let a = m.0 in let c = l.0 in let n = h.count in omega arith)
      ]
      | inr l ↦ elim (last_or_before others o x k ix) [
        | inl m ↦ absurd (let a = m.0 in let c = l.0 in let n = h.count in omega arith)
        | inr m ↦ subst (λ (z : Opened X Y N). IsBegun (k + 1) q.size (entries_in q.zone) z) m.1
            (subst (λ (z : Place). IsBegun (k + 1) z.size (entries_in z.zone) o) l.1 (subst (λ (n : ℕ). IsBegun (n + 1) p.size (entries_in p.zone) o) (sym l.0) b))
      ]
    ];
  }

  -- so each of them fits
  pub begun_within : (places : List Place) (opened : List (Opened X Y N)) → AreBegun places opened → AllFit places
  begun_within places opened h p c =
      let at = place_in places p c in
      let o = get_in opened at.0 (let n = h.count in let l = at.1 in omega arith) in
      let b = h.each at.0 p o.0 at.2 o.1 in
      b.fits

  pub begun_fit : (places : List Place) (opened : List (Opened X Y N)) → AreBegun places opened → (p : Place) → Contains places p → MayFit p
  begun_fit places opened h p c = inl (begun_within places opened h p c)

  -- what is told so far
  pub so_far_is : (places : List Place) (r : Result (Vec (Opened X Y N) Global) ZonesRefusal) (told : ZonesRefusal) → MatchResult r (λ _. told ≡ Memory) (λ e. told ≡ e) → OpensZones places r → RefusesZones places told
  so_far_is places (Ok opened) told is h = subst (RefusesZones places) (sym is) (begun_fit places opened.items h)
  so_far_is places (Err e) told is h = subst (RefusesZones places) (sym is) h

  -- one more is opened, or memory is wanting
  pub opens_more : (front : List Place) (p : Place) (others : List (Opened X Y N)) (o : Opened X Y N) (r : Result (Vec (Opened X Y N) Global) ZonesRefusal) → MatchResult r (λ all. all.items ≡ others ++ o ∷ []) (λ e. e ≡ Memory)
      → AreBegun front others → IsBegun (length front + 1) p.size (entries_in p.zone) o → OpensZones (front ++ p ∷ []) r
  opens_more front p others o (Ok all) is h b = subst (AreBegun (front ++ p ∷ [])) (sym is) (one_begun front others p o h b)
  opens_more front p others o (Err e) is h b = subst (RefusesZones (front ++ p ∷ [])) (sym is) (kept front p Memory (begun_fit front others h) (inl b.fits))

-- the zone that the last blank is for
module _ {B : Type 0} (key : B → TableSize) (zones : List ZoneItems) (blanks front : List B) (blank : B) (last : ℕ) (z : ZoneItems) where
  pub record IsLast : Type 0 where
    pub there : slice_get zones last ≡ Some z
    pub count : length (map key front) ≡ last
    pub many : length (places_of zones (map key front)) ≡ last
    pub all : places_of zones (map key blanks) ≡ places_of zones (map key front) ++ record { zone = z; size = key blank } ∷ []

  pub is_last : blanks ≡ front ++ blank ∷ [] → length blanks ≤ length zones → last ≡ length front → z ≡ get_or zones last z → IsLast
  is_last is enough at read =
      let size = ap length is ∙ length-append front (blank ∷ []) in
      let there : slice_get zones last ≡ Some z = read_at zones last z (omega arith) read in
      let count : length (map key front) ≡ last = length-map front key ∙ sym at in
      record {
        there = there;
        count = count;
        many = places_count zones (map key front) (omega arith) ∙ count;
        all = ap (λ (l : List B). places_of zones (map key l)) is ∙ ap (places_of zones) (map-append key front (blank ∷ []))
            ∙ places_more zones (map key front) (record { zone = z; size = key blank }) (ap (slice_get zones) count ∙ there);
      }

-- it is opened too, or memory is wanting
pub opens_last : {B X Y : Type 0} {N : Ghosts Y} {key : B → TableSize} {zones : List ZoneItems} {blanks front : List B} {blank : B} {last : ℕ} {z : ZoneItems} → IsLast key zones blanks front blank last z → (others : List (Opened X Y N)) (o : Opened X Y N) (r : Result (Vec (Opened X Y N) Global) ZonesRefusal) → MatchResult r (λ all. all.items ≡ others ++ o ∷ []) (λ e. e ≡ Memory)
    → AreBegun (places_of zones (map key front)) others → IsBegun (last + 1) (key blank) (entries_in z) o → OpensZones (places_of zones (map key blanks)) r
opens_last {key = key} {zones = zones} {front = front} {blank = blank} {z = z} l others o r told h b =
    subst (λ (places : List Place). OpensZones places r) (sym l.all)
    (opens_more (places_of zones (map key front)) (record { zone = z; size = key blank }) others o r told h (subst (λ (n : ℕ). IsBegun (n + 1) (key blank) (entries_in z) o) (sym l.many) b))

-- it may fit, and the others are refused
pub refuses_still : {B : Type 0} {key : B → TableSize} {zones : List ZoneItems} {blanks front : List B} {blank : B} {last : ℕ} {z : ZoneItems} → IsLast key zones blanks front blank last z → (e : ZonesRefusal)
    → RefusesZones (places_of zones (map key front)) e → MayFit (record { zone = z; size = key blank }) → RefusesZones (places_of zones (map key blanks)) e
refuses_still {key = key} {zones = zones} {front = front} {blank = blank} {z = z} l e h fits =
    subst (λ (places : List Place). RefusesZones places e) (sym l.all) (kept (places_of zones (map key front)) (record { zone = z; size = key blank }) e h fits)
