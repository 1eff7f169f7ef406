-- How many operations a difference has, by the records of both versions.
use Rattle.std.proofs.Common.{◌≡◌, refl, ℕ, zero, suc, ◌+◌, ◌*◌, ◌<◌, ◌≤◌, Bool, true, false, cond, not, eqb, List, [], ◌∷◌, ◌++◌, length, map, arith, Option, Some, None}
use Rattle.std.specs.List.{AllByRecursion, flat_map}
use Rattle.std.specs.declared.cmp.Ordering.{Ordering}
use Rattle.std.specs.declared.cmp.Ordering.TheVariants.{Less, Equal, Greater}
use Rattle.std.specs.Ordering.{match_ordering}
use Rattle.std.proofs.lemmas.List.{length-append, length-map}
use Rattle.zone_model.specs.Names.{Name, name_cmp}
use Rattle.zone_model.specs.Records.{Rrset, Entry, rrset_of, has_record, IsRrset, IsItem, item}
use Rattle.zone_model.specs.Versions.{Version, Operation, DeleteName, soa_type}
use Rattle.master_file.specs.Rows.{CanBeDumped}
use Rattle.zone_diff.specs.declared.Serial.{Serial}
use Rattle.zone_diff.specs.declared.sets.Side.{Side}
use Rattle.zone_diff.specs.declared.sets.Side.TheVariants.{Before, After}
use Rattle.zone_diff.specs.Differences.{addition, lacking, record_change, whole_change, set_changes, set_additions, entry_changes, stays, soa_exchange, soa_additions, unless_soa, deletions, additions, entry_difference, merged, difference}
use Rattle.zone_diff.specs.Serials.{renumbered}
use Rattle.zone_diff.specs.Blocks.{parted, blocks, block_limit}
use Rattle.zone_diff.proofs.EachLemmas.{all_any, all_of, all_proper}

-- ---- records

abbrev pub in_entry : Entry → ℕ
in_entry [] = 0
in_entry (s ∷ rest) = length s.records + in_entry rest

abbrev pub in_version : Version → ℕ
in_version [] = 0
in_version (pair ∷ rest) = in_entry pair.1 + in_version rest

abbrev HasRecord : Rrset → Type 0
HasRecord s = 0 < length s.records

record HasRecords (pair : Name × Entry) : Type 0 where
  some : 0 < in_entry pair.1
  each : AllByRecursion HasRecord pair.1

some_in : (entry : Entry) → 0 < length entry → AllByRecursion HasRecord entry → 0 < in_entry entry
some_in [] l h = absurd (omega arith)
some_in (s ∷ rest) l h = let some = h.0 in omega (arith, some)

all_have : (version : Version) → AllByRecursion (λ (pair : Name × Entry). IsItem (item pair.0 pair.1) pair.0 pair.1) version → AllByRecursion HasRecords version
all_have [] h = tt
all_have (pair ∷ rest) h =
    let each = all_of IsRrset HasRecord (λ s is. is.some) pair.1 (all_proper None pair.1 h.0.proper) in
    (record { some = some_in pair.1 h.0.some each; each = each }, all_have rest h.1)

-- ---- one RRset

lacking_few : (others records : List (List ℕ)) → length (lacking others records) ≤ length records
lacking_few others [] = omega arith
lacking_few others (octets ∷ rest) = by_test (not (has_record octets others)) (lacking_few others rest)
  where
    by_test : (b : Bool) → length (lacking others rest) ≤ length rest → length (cond b (octets ∷ lacking others rest) (lacking others rest)) ≤ suc (length rest)
    by_test true l = omega (arith, l)
    by_test false l = omega (arith, l)

whole_few : (side : Side) (owner : Name) (s : Rrset) → (side ≡ Before → HasRecord s) → length (whole_change side owner s) ≤ length s.records
whole_few Before owner s h = let some = h refl in omega (arith, some)
whole_few After owner s h = omega (arith, length-map s.records (record_change After owner s))

set_few : (side : Side) (owner : Name) (o : Option Rrset) (s : Rrset) → (side ≡ Before → HasRecord s) → length (set_changes side owner o s) ≤ length s.records
set_few side owner None s h = whole_few side owner s h
set_few side owner (Some t) s h = by_test (eqb s.ttl t.ttl)
  where
    by_test : (b : Bool) → length (cond b (map (record_change side owner s) (lacking t.records s.records)) (whole_change side owner s)) ≤ length s.records
    by_test true = omega (arith, length-map (lacking t.records s.records) (record_change side owner s), lacking_few t.records s.records)
    by_test false = whole_few side owner s h

-- ---- the SOA

exchange_few : (mode : Serial) (owner : Name) (o : Option Rrset) (ttl : ℕ) (octets : List ℕ) → length (soa_exchange mode owner o ttl octets) ≤ 2
exchange_few mode owner None ttl octets = omega arith
exchange_few mode owner (Some s) ttl octets = by_tests (stays mode s ttl octets) (has_record octets s.records)
  where
    by_tests : (a b : Bool) → length (cond a [] (cond b (addition owner soa_type ttl (renumbered octets) ∷ addition owner soa_type ttl octets ∷ []) (addition owner soa_type ttl octets ∷ []))) ≤ 2
    by_tests true b = omega arith
    by_tests false true = omega arith
    by_tests false false = omega arith

exchanges_few : (mode : Serial) (owner : Name) (o : Option Rrset) (ttl : ℕ) (records : List (List ℕ)) → length (flat_map (soa_exchange mode owner o ttl) records) ≤ 2 * length records
exchanges_few mode owner o ttl [] = omega arith
exchanges_few mode owner o ttl (octets ∷ rest) =
    omega (arith, length-append (soa_exchange mode owner o ttl octets) (flat_map (soa_exchange mode owner o ttl) rest), exchange_few mode owner o ttl octets, exchanges_few mode owner o ttl rest)

-- ---- one name

unless_few : (s : Rrset) (operations : List Operation) (n : ℕ) → length operations ≤ n → length (unless_soa s operations) ≤ n
unless_few s operations n l = by_test (eqb s.rtype soa_type)
  where
    by_test : (b : Bool) → length (cond b [] operations) ≤ n
    by_test true = omega arith
    by_test false = l

sets_few : (side : Side) (owner : Name) (others sets : Entry) → AllByRecursion (λ (s : Rrset). side ≡ Before → HasRecord s) sets → length (entry_changes side owner others sets) ≤ in_entry sets
sets_few side owner others [] h = omega arith
sets_few side owner others (s ∷ rest) h =
    let first = unless_few s (set_changes side owner (rrset_of s.rtype others) s) (length s.records) (set_few side owner (rrset_of s.rtype others) s h.0) in
    omega (arith, length-append (unless_soa s (set_changes side owner (rrset_of s.rtype others) s)) (entry_changes side owner others rest), first, sets_few side owner others rest h.1)

come : (side : Side) → side ≡ After → (s : Rrset) → side ≡ Before → HasRecord s
come side e s f = absurd cc

additions_few : (owner : Name) (before after : Entry) → length (additions owner before after) ≤ in_entry after
additions_few owner before after = sets_few After owner before after (all_any (λ (s : Rrset). After ≡ Before → HasRecord s) (come After refl) after)

-- the SOA's, of which nothing comes otherwise, and all others
come_all_few : (mode : Serial) (owner : Name) (o : Option Rrset) (before after : Entry) → length (soa_additions mode owner o (rrset_of soa_type after)) + length (additions owner before after) ≤ 2 * in_entry after
come_all_few mode owner o before [] = omega arith
come_all_few mode owner o before (t ∷ rest) =
    by_test (eqb t.rtype 6) (length-append (unless_soa t (set_additions owner (rrset_of t.rtype before) t)) (additions owner before rest)) (set_few After owner (rrset_of t.rtype before) t (come After refl t))
    (exchanges_few mode owner o t.ttl t.records) (additions_few owner before rest) (come_all_few mode owner o before rest)
  where
    by_test : (b : Bool) → length (unless_soa t (set_additions owner (rrset_of t.rtype before) t) ++ additions owner before rest) ≡ length (cond b [] (set_additions owner (rrset_of t.rtype before) t)) + length (additions owner before rest)
        → length (set_additions owner (rrset_of t.rtype before) t) ≤ length t.records → length (soa_additions mode owner o (Some t)) ≤ 2 * length t.records → length (additions owner before rest) ≤ in_entry rest
        → length (soa_additions mode owner o (rrset_of soa_type rest)) + length (additions owner before rest) ≤ 2 * in_entry rest
        → length (soa_additions mode owner o (cond b (Some t) (rrset_of soa_type rest))) + length (additions owner before (t ∷ rest)) ≤ 2 * (length t.records + in_entry rest)
    by_test true both come soa others more = omega (arith, both, soa, others)
    by_test false both come soa others more = omega (arith, both, come, more)

entry_few : (mode : Serial) (owner : Name) (before after : Entry) → AllByRecursion HasRecord before → length (entry_difference mode owner before after) ≤ in_entry before + 2 * in_entry after
entry_few mode owner before after h =
    let soa = soa_additions mode owner (rrset_of soa_type before) (rrset_of soa_type after) in
    omega (arith, length-append (deletions owner before after) (soa ++ additions owner before after), length-append soa (additions owner before after), sets_few Before owner after before (all_of HasRecord (λ (s : Rrset). Before ≡ Before → HasRecord s) (λ s some e. some) before h), come_all_few mode owner (rrset_of soa_type before) before after)

-- ---- all names

new_few : (mode : Serial) (after : Version) → length (difference mode [] after) ≤ 2 * in_version after
new_few mode [] = omega arith
new_few mode (a ∷ after) = omega (arith, length-append (entry_difference mode a.0 [] a.1) (difference mode [] after), entry_few mode a.0 [] a.1 tt, new_few mode after)

merged_few : (mode : Serial) (b : Name × Entry) (others : Version → List Operation) (n : ℕ) → HasRecords b → ((after : Version) → length (others after) ≤ n + 2 * in_version after)
    → (after : Version) → length (merged mode b others after) ≤ in_entry b.1 + n + 2 * in_version after
merged_few mode b others n h few [] = omega (arith, few [], h.some)
merged_few mode b others n h few (a ∷ after) = by_order (name_cmp b.0 a.0) (merged_few mode b others n h few after)
  where
    by_order : (o : Ordering) → length (merged mode b others after) ≤ in_entry b.1 + n + 2 * in_version after
        → length (match_ordering o (DeleteName b.0 ∷ others (a ∷ after)) (entry_difference mode b.0 b.1 a.1 ++ others after) (entry_difference mode a.0 [] a.1 ++ merged mode b others after))
        ≤ in_entry b.1 + n + 2 * (in_entry a.1 + in_version after)
    by_order Less more = omega (arith, few (a ∷ after), h.some)
    by_order Equal more = omega (arith, length-append (entry_difference mode b.0 b.1 a.1) (others after), entry_few mode b.0 b.1 a.1 h.each, few after)
    by_order Greater more = omega (arith, length-append (entry_difference mode a.0 [] a.1) (merged mode b others after), entry_few mode a.0 [] a.1 tt, more)

all_few : (mode : Serial) (before after : Version) → AllByRecursion HasRecords before → length (difference mode before after) ≤ in_version before + 2 * in_version after
all_few mode [] after h = omega (arith, new_few mode after)
all_few mode (b ∷ before) after h =
    omega (arith, merged_few mode b (difference mode before) (in_version before) h.0 (λ (rest : Version). all_few mode before rest h.1) after)

pub difference_few : (mode : Serial) (origin : Name) (before after : Version) → CanBeDumped origin before → length (difference mode before after) ≤ in_version before + 2 * in_version after
difference_few mode origin before after h = all_few mode before after (all_have before h.items)

-- ---- their transactions, each of which but the last is full

behind_few : (room : ℕ) (operations : List Operation) → room < 10000 → 10000 * length (parted block_limit room operations).behind + room < length operations + 10000
behind_few room [] l = omega (arith, l)
behind_few zero (x ∷ operations) l = let more = behind_few 9999 operations (omega arith) in omega (arith, more)
behind_few (suc room) (x ∷ operations) l = let more = behind_few room operations (omega (arith, l)) in omega (arith, more)

pub blocks_few : (operations : List Operation) → 10000 * length (blocks operations) < length operations + 10000
blocks_few [] = omega arith
blocks_few (x ∷ operations) = let more = behind_few 9999 operations (omega arith) in omega (arith, more)
