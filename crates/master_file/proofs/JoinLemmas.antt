-- Records join one by one to what a name owns, and names to a version.
use Rattle.std.proofs.Common.{◌≡◌, ◌∙◌, ℕ, ◌+◌, ◌<◌, ◌≤◌, Bool, true, false, cond, not, ◌&&◌, ◌||◌, eqb, leb, ltb, List, [], ◌∷◌, ◌++◌, length, refl, sym, ap, subst, arith, Option, Some, None, Result, Ok, unwrap_or, append_assoc, append-nil, length-append}
use Rattle.std.proofs.lemmas.Bool.Decides.{nat_tests}
use Rattle.std.proofs.lemmas.Cmp.{nat_list_cmp_total}
use Rattle.std.specs.Prelude.{is_none, is_some}
use Rattle.std.specs.Cmp.{nat_cmp_is}
use Rattle.std.specs.List.{AllByRecursion, flat_map}
use Rattle.std.specs.List.Sorted.{IsStrictlySortedBy}
use Rattle.std.specs.Map.{keys_of}
use Rattle.std.specs.BTreeMap.{insert_entry}
use Rattle.std.specs.Int.{w16, w32, to_be_bytes}
use Rattle.std.specs.declared.cmp.Ordering.{Ordering}
use Rattle.std.specs.declared.cmp.Ordering.TheVariants.{Less, Equal, Greater}
use Rattle.std.specs.Ordering.{match_ordering, ordering_reverse, is_eq}
use Rattle.zone_model.specs.Names.{Name, name_cmp, same_name, wire}
use Rattle.zone_model.specs.NameOrder.{name_cmp_total}
use Rattle.zone_model.specs.Records.{Rrset, Entry, octets_cmp, changed_at, with_record, joined, with_rr, rrset_of, record_bytes, rrset_bytes, item, item_limit, RisingOctets, IsRrset, RisingSets}
use Rattle.zone_model.specs.Versions.{Version, entry_of, owned, is_lone}
use Rattle.zone_model.specs.Zones.{has_low_soa}
use Rattle.zone_model.proofs.NameLemmas.{same_name-true}
use Rattle.rr_data.proofs.RecordLineLemmas.{flat_map-append}
use Rattle.zone_model.specs.Refusals.{Refused}
use Rattle.zone_model.specs.MasterFile.{soa_count, entry_fault, unless_fault, placed_in}
use Rattle.zone_model.specs.declared.ZoneKind.{ZoneKind}
use Rattle.zone_model.specs.declared.ZoneKind.TheVariants.{SoaRule, CnameAndOther, LongEntry}

-- ---- a record joins those before it

-- RRsets of smaller types are passed
changed_behind : (rtype : ℕ) (change : Option Rrset → List Rrset) (done rest : Entry) → AllByRecursion (λ (s : Rrset). s.rtype < rtype) done → changed_at rtype change (done ++ rest) ≡ done ++ changed_at rtype change rest
changed_behind rtype change [] rest h = refl
changed_behind rtype change (s ∷ done) rest h =
    ap (λ (o : Ordering). match_ordering o (change None ++ (s ∷ (done ++ rest))) (change (Some s) ++ (done ++ rest)) (s ∷ changed_at rtype change (done ++ rest))) (sym (nat_cmp_is rtype s.rtype Greater h.0))
    ∙ ap (λ (l : Entry). s ∷ l) (changed_behind rtype change done rest h.1)

-- and records of smaller octets
record_behind : (octets : List ℕ) (got : List (List ℕ)) → AllByRecursion (λ (r : List ℕ). octets_cmp octets r ≡ Greater) got → with_record octets got ≡ got ++ octets ∷ []
record_behind octets [] h = refl
record_behind octets (r ∷ got) h =
    ap (λ (o : Ordering). match_ordering o (octets ∷ (r ∷ got)) (r ∷ got) (r ∷ with_record octets got)) h.0 ∙ ap (λ (l : List (List ℕ)). r ∷ l) (record_behind octets got h.1)

-- an RRset of which these records have come
abbrev pub partial_set : Rrset → List (List ℕ) → Entry
partial_set s [] = []
partial_set s (r ∷ got) = (record s { records = r ∷ got }) ∷ []

joined_set : (s : Rrset) (got : List (List ℕ)) (octets : List ℕ) → AllByRecursion (λ (r : List ℕ). octets_cmp octets r ≡ Greater) got
    → changed_at s.rtype (joined s.rtype s.ttl octets) (partial_set s got) ≡ (record s { records = got ++ octets ∷ [] }) ∷ []
joined_set s [] octets h = refl
joined_set s (r ∷ got) octets h =
    let change : Option Rrset → List Rrset = joined s.rtype s.ttl octets in
    let had : Rrset = record s { records = r ∷ got } in
    ap (λ (o : Ordering). match_ordering o (change None ++ (had ∷ [])) (change (Some had) ++ []) (had ∷ change None)) (sym (nat_cmp_is s.rtype s.rtype Equal refl))
    ∙ ap (λ (l : List (List ℕ)). (let x : Rrset = record s { records = l } in x) ∷ []) (record_behind octets (r ∷ got) h)

record_joins : (done : Entry) (s : Rrset) (got : List (List ℕ)) (octets : List ℕ) → AllByRecursion (λ (t : Rrset). t.rtype < s.rtype) done → AllByRecursion (λ (r : List ℕ). octets_cmp octets r ≡ Greater) got
    → with_rr s.rtype s.ttl octets (done ++ partial_set s got) ≡ done ++ (record s { records = got ++ octets ∷ [] }) ∷ []
record_joins done s got octets types records =
    changed_behind s.rtype (joined s.rtype s.ttl octets) done (partial_set s got) types ∙ ap (λ (l : Entry). done ++ l) (joined_set s got octets records)

-- ---- an entry rises

type_above : (b : ℕ) (done : Entry) (s : Rrset) (rest : Entry) → RisingSets (Some b) (done ++ s ∷ rest) → b < s.rtype
type_above b [] s rest h = h.0
type_above b (t ∷ done) s rest h = let lt = type_above t.rtype done s rest h.2 in omega (arith, h.0)

types_behind : (b : ℕ) (done : Entry) (s : Rrset) (rest : Entry) → RisingSets (Some b) (done ++ s ∷ rest) → AllByRecursion (λ (t : Rrset). t.rtype < s.rtype) done
types_behind b [] s rest h = tt
types_behind b (t ∷ done) s rest h = (type_above t.rtype done s rest h.2, types_behind t.rtype done s rest h.2)

pub types_before : (done : Entry) (s : Rrset) (rest : Entry) → RisingSets None (done ++ s ∷ rest) → AllByRecursion (λ (t : Rrset). t.rtype < s.rtype) done
types_before [] s rest h = tt
types_before (t ∷ done) s rest h = (type_above t.rtype done s rest h.1, types_behind t.rtype done s rest h.1)

set_behind : (b : ℕ) (done : Entry) (s : Rrset) (rest : Entry) → RisingSets (Some b) (done ++ s ∷ rest) → IsRrset s
set_behind b [] s rest h = h.1
set_behind b (t ∷ done) s rest h = set_behind t.rtype done s rest h.2

pub set_in : (done : Entry) (s : Rrset) (rest : Entry) → RisingSets None (done ++ s ∷ rest) → IsRrset s
set_in [] s rest h = h.0
set_in (t ∷ done) s rest h = set_behind t.rtype done s rest h.1

octets_above : (b : List ℕ) (got : List (List ℕ)) (octets : List ℕ) (more : List (List ℕ)) → RisingOctets (Some b) (got ++ octets ∷ more) → octets_cmp b octets ≡ Less
octets_above b [] octets more h = h.0
octets_above b (r ∷ got) octets more h = nat_list_cmp_total.trans b r octets h.0 (octets_above r got octets more h.2)

octets_before : (before : Option (List ℕ)) (got : List (List ℕ)) (octets : List ℕ) (more : List (List ℕ)) → RisingOctets before (got ++ octets ∷ more) → AllByRecursion (λ (r : List ℕ). octets_cmp octets r ≡ Greater) got
octets_before before [] octets more h = tt
octets_before before (r ∷ got) octets more h =
    (nat_list_cmp_total.antisymm octets r ∙ ap ordering_reverse (octets_above r got octets more h.2), octets_before (Some r) got octets more h.2)

-- ---- a part of an entry that can stand can stand

-- of the RRset behind some others these records have come, and none of the RRsets behind it
record IsPart (entry part : Entry) : Type 0 where
  pub done : Entry
  pub set : Rrset
  pub rest : Entry
  pub got : List (List ℕ)
  pub more : List (List ℕ)
  pub entry_is : entry ≡ done ++ set ∷ rest
  pub part_is : part ≡ done ++ (record set { records = got }) ∷ []
  pub records_are : set.records ≡ got ++ more

abbrev counted : Option Rrset → ℕ
counted None = 0
counted (Some s) = length s.records

soa_counted : (entry : Entry) → soa_count entry ≡ counted (rrset_of 6 entry)
soa_counted entry = refl

counted_part : (done : Entry) (s : Rrset) (rest : Entry) (got more : List (List ℕ)) → s.records ≡ got ++ more
    → counted (rrset_of 6 (done ++ (record s { records = got }) ∷ [])) ≤ counted (rrset_of 6 (done ++ s ∷ rest))
counted_part [] s rest got more e = by_test (eqb s.rtype 6)
  where
    by_test : (b : Bool) → counted (cond b (Some (record s { records = got })) None) ≤ counted (cond b (Some s) (rrset_of 6 rest))
    by_test true = omega (arith, ap (λ (l : List (List ℕ)). length l) e, length-append got more)
    by_test false = omega arith
counted_part (t ∷ done) s rest got more e = by_test (eqb t.rtype 6) (counted_part done s rest got more e)
  where
    by_test : (b : Bool) → counted (rrset_of 6 (done ++ (record s { records = got }) ∷ [])) ≤ counted (rrset_of 6 (done ++ s ∷ rest))
        → counted (cond b (Some t) (rrset_of 6 (done ++ (record s { records = got }) ∷ []))) ≤ counted (cond b (Some t) (rrset_of 6 (done ++ s ∷ rest)))
    by_test true le = omega arith
    by_test false le = le

soa_part : (entry part : Entry) → IsPart entry part → soa_count part ≤ soa_count entry
soa_part entry part p =
    subst (λ (e : Entry). soa_count part ≤ soa_count e) (sym p.entry_is)
    (subst (λ (e : Entry). soa_count e ≤ soa_count (p.done ++ p.set ∷ p.rest)) (sym p.part_is) (counted_part p.done p.set p.rest p.got p.more p.records_are))

-- no RRset is an alias
abbrev NoAlias : Entry → Type 0
NoAlias entry = AllByRecursion (λ (s : Rrset). eqb s.rtype 5 ≡ false) entry

alias_free : (entry : Entry) → is_none (rrset_of 5 entry) ≡ true → NoAlias entry
alias_free [] h = tt
alias_free (s ∷ entry) h = by_test (eqb s.rtype 5) refl h (alias_free entry)
  where
    by_test : (b : Bool) → eqb s.rtype 5 ≡ b → is_none (cond b (Some s) (rrset_of 5 entry)) ≡ true → (is_none (rrset_of 5 entry) ≡ true → NoAlias entry) → (eqb s.rtype 5 ≡ false) × NoAlias entry
    by_test true e h others = absurd cc
    by_test false e h others = (e, others h)

free_alias : (entry : Entry) → NoAlias entry → is_none (rrset_of 5 entry) ≡ true
free_alias [] h = refl
free_alias (s ∷ entry) h = ap (λ (b : Bool). is_none (cond b (Some s) (rrset_of 5 entry))) h.0 ∙ free_alias entry h.1

free_part : (done : Entry) (s : Rrset) (rest : Entry) (got : List (List ℕ)) → NoAlias (done ++ s ∷ rest) → NoAlias (done ++ (record s { records = got }) ∷ [])
free_part [] s rest got h = (h.0, tt)
free_part (t ∷ done) s rest got h = (h.0, free_part done s rest got h.1)

lone_set : (s : Rrset) (got more : List (List ℕ)) → s.records ≡ got ++ more → (not (eqb s.rtype 5) || leb (length s.records) 1) ≡ true → (not (eqb s.rtype 5) || leb (length got) 1) ≡ true
lone_set s got more e h = by_test (eqb s.rtype 5) h
  where
    by_test : (b : Bool) → (not b || leb (length s.records) 1) ≡ true → (not b || leb (length got) 1) ≡ true
    by_test true k =
        let le : length got ≤ length s.records = omega (arith, ap (λ (l : List (List ℕ)). length l) e, length-append got more) in
        grind (arith, nat_tests)
    by_test false k = refl

lone_at : (done : Entry) (s : Rrset) (rest : Entry) (got more : List (List ℕ)) → s.records ≡ got ++ more → is_lone (done ++ s ∷ rest) ≡ true → is_lone (done ++ (record s { records = got }) ∷ []) ≡ true
lone_at [] s [] got more e h = lone_set s got more e h
lone_at [] s (t ∷ rest) got more e h = let f = alias_free (s ∷ t ∷ rest) h in ap (λ (b : Bool). not b || leb (length got) 1) f.0
lone_at (d ∷ []) s rest got more e h = free_alias (d ∷ (record s { records = got }) ∷ []) (free_part (d ∷ []) s rest got (alias_free (d ∷ s ∷ rest) h))
lone_at (d ∷ x ∷ done) s rest got more e h =
    free_alias (d ∷ x ∷ (done ++ (record s { records = got }) ∷ [])) (free_part (d ∷ x ∷ done) s rest got (alias_free (d ∷ x ∷ (done ++ s ∷ rest)) h))

lone_part : (entry part : Entry) → IsPart entry part → is_lone entry ≡ true → is_lone part ≡ true
lone_part entry part p h =
    subst (λ (e : Entry). is_lone e ≡ true) (sym p.part_is) (lone_at p.done p.set p.rest p.got p.more p.records_are (subst (λ (e : Entry). is_lone e ≡ true) p.entry_is h))

-- how many octets are behind an item's count
abbrev size : Entry → ℕ
size entry = length (flat_map rrset_bytes entry)

item_size : (owner : Name) (entry : Entry) → length (item owner entry) ≡ length (wire owner) + 2 + size entry
item_size owner entry =
    omega (arith, length-append (wire owner ++ to_be_bytes w16 (length entry)) (flat_map rrset_bytes entry), length-append (wire owner) (to_be_bytes w16 (length entry)))

set_size : (s : Rrset) → length (rrset_bytes s) ≡ 8 + length (flat_map record_bytes s.records)
set_size s =
    omega (
      arith,
      length-append (to_be_bytes w16 s.rtype ++ to_be_bytes w32 s.ttl ++ to_be_bytes w16 (length s.records)) (flat_map record_bytes s.records),
      length-append (to_be_bytes w16 s.rtype ++ to_be_bytes w32 s.ttl) (to_be_bytes w16 (length s.records)),
      length-append (to_be_bytes w16 s.rtype) (to_be_bytes w32 s.ttl),
    )

size_part : (done : Entry) (s : Rrset) (rest : Entry) (got more : List (List ℕ)) → s.records ≡ got ++ more → size (done ++ (record s { records = got }) ∷ []) ≤ size (done ++ s ∷ rest)
size_part done s rest got more e =
    let part : Rrset = record s { records = got } in
    let records : length (flat_map record_bytes s.records) ≡ length (flat_map record_bytes got) + length (flat_map record_bytes more) =
    ap (λ (l : List (List ℕ)). length (flat_map record_bytes l)) e ∙ ap (λ (l : List ℕ). length l) (flat_map-append record_bytes got more) ∙ length-append (flat_map record_bytes got) (flat_map record_bytes more) in
    omega (
      arith,
      ap (λ (l : List ℕ). length l) (flat_map-append rrset_bytes done (part ∷ [])),
      ap (λ (l : List ℕ). length l) (flat_map-append rrset_bytes done (s ∷ rest)),
      length-append (flat_map rrset_bytes done) (flat_map rrset_bytes (part ∷ [])),
      length-append (flat_map rrset_bytes done) (flat_map rrset_bytes (s ∷ rest)),
      length-append (rrset_bytes part) [],
      length-append (rrset_bytes s) (flat_map rrset_bytes rest),
      set_size part,
      set_size s,
      records,
    )

item_part : (owner : Name) (entry part : Entry) → IsPart entry part → length (item owner part) ≤ length (item owner entry)
item_part owner entry part p =
    let le : size part ≤ size entry =
    subst (λ (e : Entry). size part ≤ size e) (sym p.entry_is) (subst (λ (e : Entry). size e ≤ size (p.done ++ p.set ∷ p.rest)) (sym p.part_is) (size_part p.done p.set p.rest p.got p.more p.records_are)) in
    omega (arith, item_size owner part, item_size owner entry, le)

-- what a name owns can stand in a zone
pub record CanStand (owner : Name) (entry : Entry) : Type 0 where
  pub soa : soa_count entry ≤ 1
  pub lone : is_lone entry ≡ true
  pub short : length (item owner entry) ≤ item_limit

no_fault : (owner : Name) (entry : Entry) → CanStand owner entry → entry_fault owner entry ≡ None
no_fault owner entry h =
    let few : ltb 1 (soa_count entry) ≡ false = (let le = h.soa in grind (arith, nat_tests)) in
    let fits : ltb item_limit (length (item owner entry)) ≡ false = (let le = h.short in grind (arith, nat_tests)) in
    ap (λ (b : Bool). cond b (Some SoaRule) (cond (not (is_lone entry)) (Some CnameAndOther) (cond (ltb item_limit (length (item owner entry))) (Some LongEntry) None))) few
    ∙ ap (λ (b : Bool). cond (not b) (Some CnameAndOther) (cond (ltb item_limit (length (item owner entry))) (Some LongEntry) None)) h.lone
    ∙ ap (λ (b : Bool). cond b (Some LongEntry) None) fits

part_stands : (owner : Name) (entry part : Entry) → IsPart entry part → CanStand owner entry → CanStand owner part
part_stands owner entry part p h = record {
  soa = omega (arith, soa_part entry part p, h.soa);
  lone = lone_part entry part p h.lone;
  short = omega (arith, item_part owner entry part p, h.short);
}

-- ---- a name joins those before it

name_self : (x : Name) → name_cmp x x ≡ Equal
name_self x = by_order (name_cmp x x) (name_cmp_total.antisymm x x)
  where
    by_order : (o : Ordering) → o ≡ ordering_reverse o → o ≡ Equal
    by_order Less e = cc
    by_order Equal e = refl
    by_order Greater e = cc

-- names that come before another one
abbrev pub Before : Name → Version → Type 0
Before owner front = AllByRecursion (λ (pair : Name × Entry). name_cmp owner pair.0 ≡ Greater) front

name_less : (x : Name) (front : Version) (pair : Name × Entry) (rest : Version) → AllByRecursion (λ (y : Name). name_cmp x y ≡ Less) (keys_of (front ++ pair ∷ rest)) → name_cmp x pair.0 ≡ Less
name_less x [] pair rest h = h.0
name_less x (y ∷ front) pair rest h = name_less x front pair rest h.1

pub names_before : (front : Version) (pair : Name × Entry) (rest : Version) → IsStrictlySortedBy name_cmp (keys_of (front ++ pair ∷ rest)) → Before pair.0 front
unfolding IsStrictlySortedBy
names_before [] pair rest h = tt
names_before (x ∷ front) pair rest h = (name_cmp_total.antisymm pair.0 x.0 ∙ ap ordering_reverse (name_less x.0 front pair rest h.0), names_before front pair rest h.1)

insert_behind : (front tail : Version) (owner : Name) (entry : Entry) → Before owner front → insert_entry name_cmp (front ++ tail) owner entry ≡ front ++ insert_entry name_cmp tail owner entry
insert_behind [] tail owner entry h = refl
insert_behind (x ∷ front) tail owner entry h =
    ap (λ (o : Ordering). match_ordering o ((owner, entry) ∷ x ∷ (front ++ tail)) ((x.0, entry) ∷ (front ++ tail)) (x ∷ insert_entry name_cmp (front ++ tail) owner entry)) h.0
    ∙ ap (λ (v : Version). x ∷ v) (insert_behind front tail owner entry h.1)

pub lookup_behind : (front tail : Version) (owner : Name) → Before owner front → entry_of owner (front ++ tail) ≡ entry_of owner tail
lookup_behind [] tail owner h = refl
lookup_behind (x ∷ front) tail owner h =
    ap (λ (o : Ordering). cond (is_eq o) (Some x.1) (entry_of owner (front ++ tail))) h.0 ∙ lookup_behind front tail owner h.1

pub lookup_here : (pair : Name × Entry) (rest : Version) → entry_of pair.0 (pair ∷ rest) ≡ Some pair.1
lookup_here pair rest = ap (λ (o : Ordering). cond (is_eq o) (Some pair.1) (entry_of pair.0 rest)) (name_self pair.0)

-- a version whose last name owns this entry; without one the name isn't there
abbrev pub with_last : Version → Name → Entry → Version
with_last front owner [] = front
with_last front owner (s ∷ entry) = front ++ (owner, s ∷ entry) ∷ []

last_owned : (front : Version) (owner : Name) (entry : Entry) → Before owner front → unwrap_or (entry_of owner (with_last front owner entry)) [] ≡ entry
last_owned front owner [] h =
    ap (λ (v : Version). unwrap_or (entry_of owner v) []) (sym (append-nil front)) ∙ ap (λ (o : Option Entry). unwrap_or o []) (lookup_behind front [] owner h)
last_owned front owner (s ∷ entry) h =
    ap (λ (o : Option Entry). unwrap_or o []) (lookup_behind front ((owner, s ∷ entry) ∷ []) owner h ∙ lookup_here (owner, s ∷ entry) [])

last_put : (front : Version) (owner : Name) (old new : Entry) → Before owner front → insert_entry name_cmp (with_last front owner old) owner new ≡ front ++ (owner, new) ∷ []
last_put front owner [] new h = ap (λ (v : Version). insert_entry name_cmp v owner new) (sym (append-nil front)) ∙ insert_behind front [] owner new h
last_put front owner (s ∷ old) new h =
    insert_behind front ((owner, s ∷ old) ∷ []) owner new h
    ∙ ap (λ (o : Ordering). front ++ match_ordering o ((owner, new) ∷ (owner, s ∷ old) ∷ []) ((owner, new) ∷ []) ((owner, s ∷ old) ∷ (owner, new) ∷ [])) (name_self owner)

placed_last : (last : ℕ) (front : Version) (owner : Name) (rtype ttl : ℕ) (octets : List ℕ) (old new : Entry) → Before owner front → with_rr rtype ttl octets old ≡ new → CanStand owner new
    → placed_in last owner rtype ttl octets (with_last front owner old) ≡ Ok (front ++ (owner, new) ∷ [])
placed_last last front owner rtype ttl octets old new h e stands =
    let put : Entry → Result Version (Refused ZoneKind) = λ (entry : Entry). unless_fault last (entry_fault owner entry) (insert_entry name_cmp (with_last front owner old) owner entry) in
    ap (λ (entry : Entry). put (with_rr rtype ttl octets entry)) (last_owned front owner old h) ∙ ap put e
    ∙ ap (λ (fault : Option ZoneKind). unless_fault last fault (insert_entry name_cmp (with_last front owner old) owner new)) (no_fault owner new stands)
    ∙ ap (λ (v : Version). Ok v) (last_put front owner old new h)

-- the next record of the RRset that is under way
pub next_placed : (last : ℕ) (front : Version) (owner : Name) (entry done : Entry) (s : Rrset) (rest : Entry) (got : List (List ℕ)) (octets : List ℕ) (more : List (List ℕ)) → Before owner front → RisingSets None entry → CanStand owner entry
    → entry ≡ done ++ s ∷ rest → s.records ≡ got ++ octets ∷ more
    → placed_in last owner s.rtype s.ttl octets (with_last front owner (done ++ partial_set s got)) ≡ Ok (front ++ (owner, done ++ (record s { records = got ++ octets ∷ [] }) ∷ []) ∷ [])
next_placed last front owner entry done s rest got octets more before rising stands e f =
    let rises : RisingSets None (done ++ s ∷ rest) = subst (RisingSets None) e rising in
    let records : RisingOctets None (got ++ octets ∷ more) = subst (RisingOctets None) f (set_in done s rest rises).rising in
    let part : IsPart entry (done ++ (record s { records = got ++ octets ∷ [] }) ∷ []) =
    record { done = done; set = s; rest = rest; got = got ++ octets ∷ []; more = more; entry_is = e; part_is = refl; records_are = f ∙ sym (append_assoc got (octets ∷ []) more) } in
    placed_last last front owner s.rtype s.ttl octets (done ++ partial_set s got) (done ++ (record s { records = got ++ octets ∷ [] }) ∷ []) before
    (record_joins done s got octets (types_before done s rest rises) (octets_before None got octets more records)) (part_stands owner entry (done ++ (record s { records = got ++ octets ∷ [] }) ∷ []) part stands)

-- ---- what each name of a zone owns can stand

none_counted : (entry : Entry) → is_some (rrset_of 6 entry) ≡ false → soa_count entry ≡ 0
none_counted entry h = by_set (rrset_of 6 entry) h
  where
    by_set : (o : Option Rrset) → is_some o ≡ false → counted o ≡ 0
    by_set None h = refl
    by_set (Some s) h = absurd cc

pub one_counted : (entry : Entry) → soa_count entry ≡ 1 → is_some (rrset_of 6 entry) ≡ true
one_counted entry h = by_set (rrset_of 6 entry) h
  where
    by_set : (o : Option Rrset) → counted o ≡ 1 → is_some o ≡ true
    by_set None h = absurd (omega arith)
    by_set (Some s) h = refl

pub few_soas : (origin : Name) (version front : Version) (pair : Name × Entry) (rest : Version) → version ≡ front ++ pair ∷ rest → Before pair.0 front → soa_count (owned origin version) ≡ 1 → has_low_soa origin pair ≡ false → soa_count pair.1 ≤ 1
few_soas origin version front pair rest e before soa low = by_name (same_name pair.0 origin) refl
  where
    by_name : (b : Bool) → same_name pair.0 origin ≡ b → soa_count pair.1 ≤ 1
    by_name true s =
        let same : pair.0 ≡ origin = same_name-true pair.0 origin s in
        let found : entry_of origin version ≡ Some pair.1 =
        ap (λ (n : Name). entry_of n version) (sym same) ∙ ap (entry_of pair.0) e ∙ lookup_behind front (pair ∷ rest) pair.0 before ∙ lookup_here pair rest in
        let count : soa_count pair.1 ≡ 1 = ap (λ (o : Option Entry). soa_count (unwrap_or o [])) (sym found) ∙ soa in
        omega arith
    by_name false s =
        let none : is_some (rrset_of 6 pair.1) ≡ false = and-true (is_some (rrset_of 6 pair.1)) (ap (λ (b : Bool). is_some (rrset_of 6 pair.1) && not b) (sym s) ∙ low) in
        let count = none_counted pair.1 none in
        omega arith
      where
        and-true : (b : Bool) → (b && true) ≡ false → b ≡ false
        and-true true h = h
        and-true false h = refl

-- a set of an entry isn't an SOA below the origin
pub not_low : (origin owner : Name) (done : Entry) (s : Rrset) (rest : Entry) → has_low_soa origin (owner, done ++ s ∷ rest) ≡ false → (eqb s.rtype 6 && not (same_name owner origin)) ≡ false
not_low origin owner done s rest h = by_type (eqb s.rtype 6) refl
  where
    found : (done : Entry) → eqb s.rtype 6 ≡ true → is_some (rrset_of 6 (done ++ s ∷ rest)) ≡ true
    found [] e = ap (λ (b : Bool). is_some (cond b (Some s) (rrset_of 6 rest))) e
    found (t ∷ done) e = by_test (eqb t.rtype 6) (found done e)
      where
        by_test : (b : Bool) → is_some (rrset_of 6 (done ++ s ∷ rest)) ≡ true → is_some (cond b (Some t) (rrset_of 6 (done ++ s ∷ rest))) ≡ true
        by_test true k = refl
        by_test false k = k

    by_type : (b : Bool) → eqb s.rtype 6 ≡ b → (b && not (same_name owner origin)) ≡ false
    by_type true e = ap (λ (b : Bool). b && not (same_name owner origin)) (sym (found done e)) ∙ h
    by_type false e = refl
