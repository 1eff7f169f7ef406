-- What holds of each operation of a difference, by what holds of those on each record and RRset.
use Rattle.std.proofs.Common.{◌≡◌, ◌≢◌, ℕ, Bool, true, false, not, cond, eqb, List, [], ◌∷◌, ◌++◌, map, arith, refl, Option, Some, None}
use Rattle.std.proofs.lemmas.Bool.Decides.{nat_tests}
use Rattle.std.specs.List.{AllByRecursion, flat_map}
use Rattle.std.specs.declared.cmp.Ordering.{Ordering}
use Rattle.std.specs.declared.cmp.Ordering.TheVariants.{Less, Equal, Greater}
use Rattle.std.specs.Ordering.{match_ordering}
use Rattle.zone_model.specs.Names.{Name, name_cmp}
use Rattle.zone_model.specs.Records.{Rrset, Entry, rrset_of, has_record, IsRrset, RisingSets}
use Rattle.zone_model.specs.Versions.{Version, Operation, DeleteName, DeleteSet}
use Rattle.zone_model.proofs.NameLemmas.{name_cmp-IsAntisymmetric}
use Rattle.zone_change.proofs.FoundLaws.{rises_on, is_set}
use Rattle.dns_name.proofs.BodyLemmas.{all_append}
use Rattle.zone_diff.specs.declared.Serial.{Serial}
use Rattle.zone_diff.specs.declared.sets.Side.{Side}
use Rattle.zone_diff.specs.declared.sets.Side.TheVariants.{Before, After}
use Rattle.zone_diff.specs.Differences.{addition, lacking, record_change, whole_change, set_changes, unless_soa, entry_changes, stays, soa_exchange, soa_additions, entry_difference, merged, difference}
use Rattle.zone_diff.specs.Serials.{renumbered}

pub all_of : {X : Type 0} (P Q : X → Type 0) → ((x : X) → P x → Q x) → (xs : List X) → AllByRecursion P xs → AllByRecursion Q xs
all_of P Q f [] h = tt
all_of P Q f (x ∷ xs) h = (f x h.0, all_of P Q f xs h.1)

pub all_any : {X : Type 0} (P : X → Type 0) → ((x : X) → P x) → (xs : List X) → AllByRecursion P xs
all_any P f [] = tt
all_any P f (x ∷ xs) = (f x, all_any P f xs)

pub lacking_all : (P : List ℕ → Type 0) (others records : List (List ℕ)) → AllByRecursion P records → AllByRecursion P (lacking others records)
lacking_all P others [] h = tt
lacking_all P others (x ∷ records) h = by_test (lacking_all P others records h.1) (has_record x others)
  where
    by_test : AllByRecursion P (lacking others records) → (b : Bool) → AllByRecursion P (cond (not b) (x ∷ lacking others records) (lacking others records))
    by_test more true = more
    by_test more false = (h.0, more)

pub front_all : {X : Type 0} (P : X → Type 0) (front back : List X) → AllByRecursion P (front ++ back) → AllByRecursion P front
front_all P [] back h = tt
front_all P (x ∷ front) back h = (h.0, front_all P front back h.1)

pub back_all : {X : Type 0} (P : X → Type 0) (front back : List X) → AllByRecursion P (front ++ back) → AllByRecursion P back
back_all P [] back h = h
back_all P (x ∷ front) back h = back_all P front back h.1

pub all_proper : (before : Option ℕ) (sets : Entry) → RisingSets before sets → AllByRecursion IsRrset sets
all_proper before [] h = tt
all_proper before (s ∷ sets) h = (is_set before s sets h, all_proper (Some s.rtype) sets (rises_on before s sets h))

module _ (P : Operation → Type 0) where
  -- it holds of what becomes of each record, and of what goes whole
  pub record Each (side : Side) (owner : Name) (s : Rrset) : Type 0 where
    pub whole : side ≡ Before → P (DeleteSet owner s.rtype)
    pub records : AllByRecursion (λ (octets : List ℕ). P (record_change side owner s octets)) s.records

  all_changes : (side : Side) (owner : Name) (s : Rrset) (records : List (List ℕ)) → AllByRecursion (λ (octets : List ℕ). P (record_change side owner s octets)) records → AllByRecursion P (map (record_change side owner s) records)
  all_changes side owner s [] h = tt
  all_changes side owner s (x ∷ records) h = (h.0, all_changes side owner s records h.1)

  all_whole : (side : Side) (owner : Name) (s : Rrset) → Each side owner s → AllByRecursion P (whole_change side owner s)
  all_whole Before owner s e = (e.whole refl, tt)
  all_whole After owner s e = all_changes After owner s s.records e.records

  pub of_set : (side : Side) (owner : Name) (o : Option Rrset) (s : Rrset) → Each side owner s → AllByRecursion P (set_changes side owner o s)
  of_set side owner None s e = all_whole side owner s e
  of_set side owner (Some t) s e = by_time (eqb s.ttl t.ttl)
    where
      by_time : (b : Bool) → AllByRecursion P (cond b (map (record_change side owner s) (lacking t.records s.records)) (whole_change side owner s))
      by_time true = all_changes side owner s (lacking t.records s.records) (lacking_all (λ (octets : List ℕ). P (record_change side owner s octets)) t.records s.records e.records)
      by_time false = all_whole side owner s e

  pub of_sets : (side : Side) (owner : Name) (others sets : Entry) → AllByRecursion (λ (s : Rrset). s.rtype ≢ 6 → Each side owner s) sets → AllByRecursion P (entry_changes side owner others sets)
  of_sets side owner others [] h = tt
  of_sets side owner others (s ∷ sets) h =
      all_append P (unless_soa s (set_changes side owner (rrset_of s.rtype others) s)) (entry_changes side owner others sets) (by_type (eqb s.rtype 6) refl) (of_sets side owner others sets h.1)
    where
      by_type : (b : Bool) → eqb s.rtype 6 ≡ b → AllByRecursion P (cond b [] (set_changes side owner (rrset_of s.rtype others) s))
      by_type true q = tt
      by_type false q = of_set side owner (rrset_of s.rtype others) s (h.0 (grind (arith, nat_tests)))

  -- it holds of an SOA record that comes, and of it with another serial
  abbrev pub HasSoa : Name → ℕ → List ℕ → Type 0
  HasSoa owner ttl octets = P (addition owner 6 ttl octets) × P (addition owner 6 ttl (renumbered octets))

  pub of_soas : (mode : Serial) (owner : Name) (o : Option Rrset) (ttl : ℕ) (records : List (List ℕ)) → AllByRecursion (HasSoa owner ttl) records → AllByRecursion P (flat_map (soa_exchange mode owner o ttl) records)
  of_soas mode owner o ttl [] h = tt
  of_soas mode owner o ttl (octets ∷ records) h = all_append P (soa_exchange mode owner o ttl octets) (flat_map (soa_exchange mode owner o ttl) records) (one o) (of_soas mode owner o ttl records h.1)
    where
      by_tests : (b c : Bool) → AllByRecursion P (cond b [] (cond c (addition owner 6 ttl (renumbered octets) ∷ addition owner 6 ttl octets ∷ []) (addition owner 6 ttl octets ∷ [])))
      by_tests true c = tt
      by_tests false true = (h.0.1, (h.0.0, tt))
      by_tests false false = (h.0.0, tt)

      one : (f : Option Rrset) → AllByRecursion P (soa_exchange mode owner f ttl octets)
      one None = (h.0.0, tt)
      one (Some s) = by_tests (stays mode s ttl octets) (has_record octets s.records)

  pub of_entry : (mode : Serial) (owner : Name) (before after : Entry) → AllByRecursion (λ (s : Rrset). s.rtype ≢ 6 → Each Before owner s) before → AllByRecursion (λ (s : Rrset). s.rtype ≢ 6 → Each After owner s) after
      → AllByRecursion P (soa_additions mode owner (rrset_of 6 before) (rrset_of 6 after)) → AllByRecursion P (entry_difference mode owner before after)
  of_entry mode owner before after g h s =
      all_append P (entry_changes Before owner after before) (soa_additions mode owner (rrset_of 6 before) (rrset_of 6 after) ++ entry_changes After owner before after) (of_sets Before owner after before g)
      (all_append P (soa_additions mode owner (rrset_of 6 before) (rrset_of 6 after)) (entry_changes After owner before after) s (of_sets After owner before after h))

  -- where it holds of a name that goes, of one that comes, and of one that stays
  module _ (mode : Serial) (Q : Name × Entry → Type 0) (goes : (b : Name × Entry) → Q b → P (DeleteName b.0)) (comes : (a : Name × Entry) → Q a → AllByRecursion P (entry_difference mode a.0 [] a.1))
      (stay : (b a : Name × Entry) → b.0 ≡ a.0 → Q b → Q a → AllByRecursion P (entry_difference mode b.0 b.1 a.1)) where
    of_new : (after : Version) → AllByRecursion Q after → AllByRecursion P (difference mode [] after)
    of_new [] h = tt
    of_new (a ∷ after) h = all_append P (entry_difference mode a.0 [] a.1) (difference mode [] after) (comes a h.0) (of_new after h.1)

    of_merged : (b : Name × Entry) (others : Version → List Operation) (after : Version) → Q b → ((v : Version) → AllByRecursion Q v → AllByRecursion P (others v)) → AllByRecursion Q after → AllByRecursion P (merged mode b others after)
    of_merged b others [] q more h = (goes b q, more [] tt)
    of_merged b others (a ∷ after) q more h = by_order (name_cmp b.0 a.0) refl (of_merged b others after q more h.1)
      where
        by_order : (o : Ordering) → name_cmp b.0 a.0 ≡ o → AllByRecursion P (merged mode b others after)
            → AllByRecursion P (match_ordering o (DeleteName b.0 ∷ others (a ∷ after)) (entry_difference mode b.0 b.1 a.1 ++ others after) (entry_difference mode a.0 [] a.1 ++ merged mode b others after))
        by_order Less e on = (goes b q, more (a ∷ after) h)
        by_order Equal e on = all_append P (entry_difference mode b.0 b.1 a.1) (others after) (stay b a (name_cmp-IsAntisymmetric b.0 a.0 e) q h.0) (more after h.1)
        by_order Greater e on = all_append P (entry_difference mode a.0 [] a.1) (merged mode b others after) (comes a h.0) on

    pub of_difference : (before after : Version) → AllByRecursion Q before → AllByRecursion Q after → AllByRecursion P (difference mode before after)
    of_difference [] after g h = of_new after h
    of_difference (b ∷ before) after g h = of_merged b (difference mode before) after g.0 (λ v k. of_difference before v g.1 k) h
