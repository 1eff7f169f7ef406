-- The deepest of the origins at or above a name, from the name itself upwards.
use Rattle.std.proofs.Common.{◌≡◌, ℕ, ◌+◌, ◌-◌, ◌≤◌, Bool, true, List, [], ◌∷◌, ◌++◌, length, drop, Option, Some, None, arith, length-append, refl, sym, ap, ◌∙◌}
use Rattle.std.proofs.Math.Seq.{drop-append_seam}
use Rattle.std.specs.List.{AllByRecursion, Contains}
use Rattle.zone_model.specs.Names.{Label, Name, IsName, IsLabel, ancestor, is_under, wire}
use Rattle.zone_model.proofs.OrderLemmas.{ends_under, under_ends}
use Rattle.dns_name.specs.Spelling.{IsSpelled, Spells}
use Rattle.dns_name.proofs.WireLemmas.{spelled_once}
use Rattle.trie_model.specs.Keys.{Entry}
use Rattle.zone_table.specs.Locations.{Covers, IsZoneOf}
use Rattle.zone_table.specs.Remembered.{AreAttached, IsAt}
use Rattle.zone_table.proofs.Lists.{contains_at, each_in, none_left, place_in}

-- a name at or above another is told by how many labels it has
pub above_is : (name top : Name) → is_under name top ≡ true → (ancestor (length top) name ≡ top) × (length top ≤ length name)
above_is name top under =
    let u = under_ends name top under in
    let long : length name ≡ length u.0 + length top = ap (λ (l : Name). length l) u.1 ∙ length-append u.0 top in
    let places : length name - length top ≡ length u.0 = omega (arith, long) in
    (ap (λ (n : ℕ). drop n name) places ∙ ap (λ (l : Name). drop (length u.0) l) u.1 ∙ drop-append_seam u.0 top, omega (arith, long))

module _ (origins : List Name) (es : List Entry) (attached : List Bool) (are : AreAttached origins es attached) where
  -- no zone has just this origin
  abbrev pub NoneAt : Name → Type 0
  NoneAt name = (zone : ℕ) → IsAt origins attached (wire name) zone → ⊥

  differs : (name : Name) → NoneAt name → (other : Name) → Contains origins other → Covers es name other → other ≡ name → ⊥
  differs name none other c covers same =
      let at = place_in origins other c in
      none at.0 (record { origin = other; origin_is = at.2; marked = (are at.0 other at.2).1 covers.attached; wire_is = ap wire same })

  -- what covers a name is the name itself, or covers the name above it
  above : (label : Label) (name other : Name) → Covers es (label ∷ name) other → (other ≡ label ∷ name → ⊥) → Covers es name other
  above label name other covers other_one = record { attached = covers.attached; above = by_front u.0 u.1 }
    where
      u : (front : Name) × (label ∷ name ≡ front ++ other)
      u = under_ends (label ∷ name) other covers.above

      by_front : (front : Name) → label ∷ name ≡ front ++ other → is_under name other ≡ true
      by_front [] e = absurd (other_one (sym e))
      by_front (f ∷ front) e = let rest : name ≡ front ++ other = ap (drop 1) e in ap (λ (n : Name). is_under n other) rest ∙ ends_under front other

  below : (label : Label) (name other : Name) → Covers es name other → Covers es (label ∷ name) other
  below label name other covers =
      let u = under_ends name other covers.above in
      record { attached = covers.attached; above = ap (λ (n : Name). is_under (label ∷ n) other) u.1 ∙ ends_under (label ∷ u.0) other }

  pub zone_here : (name : Name) → AllByRecursion IsLabel name → AllByRecursion IsName origins → (zone : ℕ) → IsAt origins attached (wire name) zone → IsZoneOf origins es name (Some zone)
  zone_here name each names zone at =
      let named = each_in IsName origins names at.origin (contains_at origins zone at.origin at.origin_is) in
      let same : at.origin ≡ name = spelled_once (wire name) at.origin name (record { each = named.each; same = sym at.wire_is }) (record { each = each; same = refl }) in
      record {
        origin = at.origin;
        origin_is = at.origin_is;
        covers = record { attached = (are zone at.origin at.origin_is).0 at.marked; above = ap (is_under name) same ∙ ends_under [] name };
        deepest = λ other c covers. let l = (above_is name other covers.above).1 in let n = ap length same in omega arith;
      }

  pub zone_none : NoneAt [] → IsZoneOf origins es [] None
  zone_none none origin c covers = differs [] none origin c covers (none_left origin (let l = (above_is [] origin covers.above).1 in omega arith))

  pub zone_above : (label : Label) (name : Name) → NoneAt (label ∷ name) → (zone : Option ℕ) → IsZoneOf origins es name zone → IsZoneOf origins es (label ∷ name) zone
  zone_above label name none None z = λ origin c covers. z origin c (above label name origin covers (differs (label ∷ name) none origin c covers))
  zone_above label name none (Some zone) z = record {
    origin = z.origin;
    origin_is = z.origin_is;
    covers = below label name z.origin z.covers;
    deepest = λ other c covers. z.deepest other c (above label name other covers (differs (label ∷ name) none other c covers));
  }

-- What is left of a name's octets on the way upwards: the zone of the name that it spells is the zone of the whole.
pub record Passed (origins : List Name) (attached : List Bool) (octets rest : List ℕ) : Type 0 where
  pub spelled : IsSpelled rest
  pub zone_on : (es : List Entry) (name : Name) → Spells octets name → AreAttached origins es attached → (zone : Option ℕ) → ((left : Name) → Spells rest left → IsZoneOf origins es left zone) → IsZoneOf origins es name zone
