-- Versions whose names own what a zone's names may own: what is put into them, and what leaves them.
use Rattle.std.proofs.Common.{◌≡◌, ◌∙◌, ℕ, ◌<◌, ◌≤◌, Bool, true, false, cond, not, ◌&&◌, eqb, List, [], ◌∷◌, ◌++◌, length, Some, None, refl, sym, ap, subst, arith, append_assoc, unwrap_or}
use Rattle.std.specs.List.{AllByRecursion, flat_map}
use Rattle.std.specs.List.Sorted.{IsStrictlySortedBy}
use Rattle.std.specs.Map.{keys_of, remove_entry}
use Rattle.std.specs.BTreeMap.{insert_entry, is_at}
use Rattle.std.specs.declared.cmp.Ordering.{Ordering}
use Rattle.std.specs.declared.cmp.Ordering.TheVariants.{Less, Equal, Greater}
use Rattle.std.specs.Ordering.{match_ordering, ordering_reverse, is_eq}
use Rattle.zone_model.specs.Names.{Name, IsName, name_cmp, is_under, same_name}
use Rattle.zone_model.specs.NameOrder.{name_cmp_total}
use Rattle.zone_model.specs.Records.{Rrset, Entry, RisingSets, IsEntry, IsItem, item, item_limit}
use Rattle.zone_model.specs.Versions.{Version, entry_of, owned, has_soa, is_lone, soa_type}
use Rattle.zone_model.specs.Zones.{has_low_soa}
use Rattle.zone_model.specs.MasterFile.{soa_count}
use Rattle.zone_model.specs.Rows.{rows_of}
use Rattle.zone_model.specs.Dumps.{rows_at, all_rows}
use Rattle.zone_model.proofs.NameLemmas.{name_cmp-IsAntisymmetric, same_name-true}
use Rattle.dns_name.proofs.BodyLemmas.{all_append}
use Rattle.master_file.specs.Rows.{IsRecord, CanBeDumped}
use Rattle.master_file.proofs.JoinLemmas.{names_before, few_soas, not_low, set_in, one_counted}
use Rattle.report_laws.proofs.EntryLemmas.{IsData, IsSet, AllSets, soa_counted, none_low}
use Rattle.report_laws.proofs.ListLemmas.{all_parts}
use Rattle.zone_answer.proofs.OwnedLaws.{self_equal}

-- what a name of a zone owns
pub record IsOwned (origin : Name) (pair : Name × Entry) : Type 0 where
  pub under : is_under pair.0 origin ≡ true
  pub lone : is_lone pair.1 ≡ true
  pub few : soa_count pair.1 ≤ 1
  pub item : IsItem (item pair.0 pair.1) pair.0 pair.1
  pub sets : AllSets origin pair.0 pair.1

-- a zone, but that it may have no SOA
pub record IsWellFormed (origin : Name) (version : Version) : Type 0 where
  pub each : AllByRecursion (IsOwned origin) version
  pub rising : IsStrictlySortedBy name_cmp (keys_of version)

-- ---- what is put

all_put : (P : Name × Entry → Type 0) (owner : Name) (entry : Entry) (version : Version) → P (owner, entry) → AllByRecursion P version → AllByRecursion P (insert_entry name_cmp version owner entry)
all_put P owner entry [] p h = (p, tt)
all_put P owner entry (pair ∷ rest) p h = by_order (name_cmp owner pair.0) refl (all_put P owner entry rest p h.1)
  where
    by_order : (o : Ordering) → name_cmp owner pair.0 ≡ o → AllByRecursion P (insert_entry name_cmp rest owner entry)
        → AllByRecursion P (match_ordering o ((owner, entry) ∷ pair ∷ rest) ((pair.0, entry) ∷ rest) (pair ∷ insert_entry name_cmp rest owner entry))
    by_order Less e i = (p, h)
    by_order Equal e i = (subst (λ (n : Name). P (n, entry)) (name_cmp-IsAntisymmetric owner pair.0 e) p, h.1)
    by_order Greater e i = (h.0, i)

abbrev pub Above : Name → Version → Type 0
Above name version = AllByRecursion (λ y. name_cmp name y ≡ Less) (keys_of version)

above_put : (name owner : Name) (entry : Entry) (version : Version) → name_cmp name owner ≡ Less → Above name version → Above name (insert_entry name_cmp version owner entry)
above_put name owner entry [] l h = (l, tt)
above_put name owner entry (pair ∷ rest) l h = by_order (name_cmp owner pair.0) (above_put name owner entry rest l h.1)
  where
    by_order : (o : Ordering) → Above name (insert_entry name_cmp rest owner entry) → Above name (match_ordering o ((owner, entry) ∷ pair ∷ rest) ((pair.0, entry) ∷ rest) (pair ∷ insert_entry name_cmp rest owner entry))
    by_order Less i = (l, h)
    by_order Equal i = h
    by_order Greater i = (h.0, i)

pub above_more : (a b : Name) (version : Version) → name_cmp a b ≡ Less → Above b version → Above a version
above_more a b [] l h = tt
above_more a b (pair ∷ rest) l h = (name_cmp_total.trans a b pair.0 l h.0, above_more a b rest l h.1)

pub turned : (a b : Name) → name_cmp a b ≡ Greater → name_cmp b a ≡ Less
turned a b e = name_cmp_total.antisymm b a ∙ ap ordering_reverse e

pub rising_put : (owner : Name) (entry : Entry) (version : Version) → IsStrictlySortedBy name_cmp (keys_of version) → IsStrictlySortedBy name_cmp (keys_of (insert_entry name_cmp version owner entry))
unfolding IsStrictlySortedBy
rising_put owner entry [] h = (tt, tt)
rising_put owner entry (pair ∷ rest) h = by_order (name_cmp owner pair.0) refl (rising_put owner entry rest h.1)
  where
    by_order : (o : Ordering) → name_cmp owner pair.0 ≡ o → IsStrictlySortedBy name_cmp (keys_of (insert_entry name_cmp rest owner entry))
        → IsStrictlySortedBy name_cmp (keys_of (match_ordering o ((owner, entry) ∷ pair ∷ rest) ((pair.0, entry) ∷ rest) (pair ∷ insert_entry name_cmp rest owner entry)))
    by_order Less e i = ((e, above_more owner pair.0 rest e h.0), h)
    by_order Equal e i = h
    by_order Greater e i = (above_put pair.0 owner entry rest (turned owner pair.0 e) h.0, i)

pub well_formed_put : (origin owner : Name) (entry : Entry) (version : Version) → IsOwned origin (owner, entry) → IsWellFormed origin version → IsWellFormed origin (insert_entry name_cmp version owner entry)
well_formed_put origin owner entry version is h = record { each = all_put (IsOwned origin) owner entry version is h.each; rising = rising_put owner entry version h.rising }

-- ---- what leaves

all_left : (P : Name × Entry → Type 0) (test : Name → Bool) (version : Version) → AllByRecursion P version → AllByRecursion P (remove_entry test version)
all_left P test [] h = tt
all_left P test (pair ∷ rest) h = by_test (test pair.0) (all_left P test rest h.1)
  where
    by_test : (b : Bool) → AllByRecursion P (remove_entry test rest) → AllByRecursion P (cond b rest (pair ∷ remove_entry test rest))
    by_test true i = h.1
    by_test false i = (h.0, i)

above_left : (name : Name) (test : Name → Bool) (version : Version) → Above name version → Above name (remove_entry test version)
above_left name test [] h = tt
above_left name test (pair ∷ rest) h = by_test (test pair.0) (above_left name test rest h.1)
  where
    by_test : (b : Bool) → Above name (remove_entry test rest) → Above name (cond b rest (pair ∷ remove_entry test rest))
    by_test true i = h.1
    by_test false i = (h.0, i)

pub rising_left : (test : Name → Bool) (version : Version) → IsStrictlySortedBy name_cmp (keys_of version) → IsStrictlySortedBy name_cmp (keys_of (remove_entry test version))
unfolding IsStrictlySortedBy
rising_left test [] h = tt
rising_left test (pair ∷ rest) h = by_test (test pair.0) (rising_left test rest h.1)
  where
    by_test : (b : Bool) → IsStrictlySortedBy name_cmp (keys_of (remove_entry test rest)) → IsStrictlySortedBy name_cmp (keys_of (cond b rest (pair ∷ remove_entry test rest)))
    by_test true i = h.1
    by_test false i = (above_left pair.0 test rest h.0, i)

pub well_formed_left : (origin : Name) (test : Name → Bool) (version : Version) → IsWellFormed origin version → IsWellFormed origin (remove_entry test version)
well_formed_left origin test version h = record { each = all_left (IsOwned origin) test version h.each; rising = rising_left test version h.rising }

-- ---- what a name owns

-- an entry of a name, perhaps of no record
pub record Owns (origin owner : Name) (entry : Entry) : Type 0 where
  pub lone : is_lone entry ≡ true
  pub few : soa_count entry ≤ 1
  pub proper : IsEntry entry
  pub short : 0 < length entry → length (item owner entry) ≤ item_limit
  pub sets : AllSets origin owner entry

pub owns_nothing : (origin owner : Name) → Owns origin owner []
owns_nothing origin owner = record { lone = refl; few = omega arith; proper = tt; short = λ some. absurd (omega arith); sets = tt }

owns_pair : (origin : Name) (pair : Name × Entry) → IsOwned origin pair → Owns origin pair.0 pair.1
owns_pair origin pair h = record { lone = h.lone; few = h.few; proper = h.item.proper; short = λ some. h.item.short; sets = h.sets }

pub owns : (origin owner : Name) (version : Version) → AllByRecursion (IsOwned origin) version → Owns origin owner (owned owner version)
owns origin owner [] h = owns_nothing origin owner
owns origin owner (pair ∷ rest) h = by_test (is_eq (name_cmp owner pair.0)) refl (owns origin owner rest h.1)
  where
    by_test : (b : Bool) → is_eq (name_cmp owner pair.0) ≡ b → Owns origin owner (owned owner rest) → Owns origin owner (unwrap_or (cond b (Some pair.1) (entry_of owner rest)) [])
    by_test true e i = subst (λ (n : Name). Owns origin n pair.1) (sym (same_name-true owner pair.0 e)) (owns_pair origin pair h.0)
    by_test false e i = i

-- ---- what the origin owns

pub owned_at : (owner : Name) (entry : Entry) (rest : Version) → owned owner ((owner, entry) ∷ rest) ≡ entry
owned_at owner entry rest = ap (λ (o : Ordering). unwrap_or (cond (is_eq o) (Some entry) (entry_of owner rest)) []) (self_equal owner)

-- a name owns what was put
pub put_owned : (owner : Name) (entry : Entry) (version : Version) → owned owner (insert_entry name_cmp version owner entry) ≡ entry
put_owned owner entry [] = owned_at owner entry []
put_owned owner entry (pair ∷ rest) = by_order (name_cmp owner pair.0) refl (put_owned owner entry rest)
  where
    by_order : (o : Ordering) → name_cmp owner pair.0 ≡ o → owned owner (insert_entry name_cmp rest owner entry) ≡ entry
        → owned owner (match_ordering o ((owner, entry) ∷ pair ∷ rest) ((pair.0, entry) ∷ rest) (pair ∷ insert_entry name_cmp rest owner entry)) ≡ entry
    by_order Less e i = owned_at owner entry (pair ∷ rest)
    by_order Equal e i = ap (λ (o : Ordering). unwrap_or (cond (is_eq o) (Some entry) (entry_of owner rest)) []) e
    by_order Greater e i = ap (λ (o : Ordering). unwrap_or (cond (is_eq o) (Some pair.1) (entry_of owner (insert_entry name_cmp rest owner entry))) []) e ∙ i

-- and another one what it owned
pub others_put : (name owner : Name) (entry : Entry) (version : Version) → same_name name owner ≡ false → owned name (insert_entry name_cmp version owner entry) ≡ owned name version
others_put name owner entry [] n = ap (λ (b : Bool). unwrap_or (cond b (Some entry) None) []) n
others_put name owner entry (pair ∷ rest) n = by_order (name_cmp owner pair.0) refl (others_put name owner entry rest n)
  where
    by_order : (o : Ordering) → name_cmp owner pair.0 ≡ o → owned name (insert_entry name_cmp rest owner entry) ≡ owned name rest
        → owned name (match_ordering o ((owner, entry) ∷ pair ∷ rest) ((pair.0, entry) ∷ rest) (pair ∷ insert_entry name_cmp rest owner entry)) ≡ owned name (pair ∷ rest)
    by_order Less e i = ap (λ (b : Bool). unwrap_or (cond b (Some entry) (entry_of name (pair ∷ rest))) []) n
    by_order Equal e i =
        let other : is_eq (name_cmp name pair.0) ≡ false = subst (λ (x : Name). same_name name x ≡ false) (name_cmp-IsAntisymmetric owner pair.0 e) n in
        ap (λ (b : Bool). unwrap_or (cond b (Some entry) (entry_of name rest)) []) other ∙ sym (ap (λ (b : Bool). unwrap_or (cond b (Some pair.1) (entry_of name rest)) []) other)
    by_order Greater e i = by_test (is_eq (name_cmp name pair.0)) i
      where
        by_test : (b : Bool) → owned name (insert_entry name_cmp rest owner entry) ≡ owned name rest
            → unwrap_or (cond b (Some pair.1) (entry_of name (insert_entry name_cmp rest owner entry))) [] ≡ unwrap_or (cond b (Some pair.1) (entry_of name rest)) []
        by_test true j = refl
        by_test false j = j

pub others_left : (name owner : Name) (version : Version) → same_name name owner ≡ false → owned name (remove_entry (is_at (name_cmp owner)) version) ≡ owned name version
others_left name owner [] n = refl
others_left name owner (pair ∷ rest) n = by_test (is_eq (name_cmp owner pair.0)) refl (others_left name owner rest n)
  where
    here : (b : Bool) → owned name (remove_entry (is_at (name_cmp owner)) rest) ≡ owned name rest
        → unwrap_or (cond b (Some pair.1) (entry_of name (remove_entry (is_at (name_cmp owner)) rest))) [] ≡ unwrap_or (cond b (Some pair.1) (entry_of name rest)) []
    here true i = refl
    here false i = i

    by_test : (b : Bool) → is_eq (name_cmp owner pair.0) ≡ b → owned name (remove_entry (is_at (name_cmp owner)) rest) ≡ owned name rest
        → owned name (cond b rest (pair ∷ remove_entry (is_at (name_cmp owner)) rest)) ≡ owned name (pair ∷ rest)
    by_test true e i =
        let other : is_eq (name_cmp name pair.0) ≡ false = subst (λ (x : Name). same_name name x ≡ false) (same_name-true owner pair.0 e) n in
        sym (ap (λ (b : Bool). unwrap_or (cond b (Some pair.1) (entry_of name rest)) []) other)
    by_test false e i = here (is_eq (name_cmp name pair.0)) i

-- ---- as records

row_is : (origin owner : Name) (s : Rrset) (octets : List ℕ) → IsName owner → IsSet origin owner s → IsData s.rtype octets → IsRecord (record { owner = owner; rtype = s.rtype; ttl = s.ttl; octets = octets })
row_is origin owner s octets name h d = record { owner = name; number = h.number; kind = h.kind; time = h.time; bytes = d.bytes; short = d.short; form = d.form }

set_rows : (origin owner : Name) (s : Rrset) (records : List (List ℕ)) → IsName owner → IsSet origin owner s → AllByRecursion (IsData s.rtype) records → AllByRecursion IsRecord (rows_of owner (record s { records = records }))
set_rows origin owner s [] name h d = tt
set_rows origin owner s (octets ∷ records) name h d = (row_is origin owner s octets name h d.0, set_rows origin owner s records name h d.1)

entry_rows : (origin owner : Name) (entry : Entry) → IsName owner → AllSets origin owner entry → AllByRecursion IsRecord (rows_at (owner, entry))
entry_rows origin owner [] name h = tt
entry_rows origin owner (s ∷ entry) name h = all_append IsRecord (rows_of owner s) (flat_map (rows_of owner) entry) (set_rows origin owner s s.records name h.0 h.0.each) (entry_rows origin owner entry name h.1)

-- ---- a well-formed version with an SOA is a zone that can be dumped

-- what the parts of each name say
record Parts (origin : Name) (version : Version) : Type 0 where
  inside : AllByRecursion (λ (pair : Name × Entry). is_under pair.0 origin ≡ true) version
  low : AllByRecursion (λ (pair : Name × Entry). has_low_soa origin pair ≡ false) version
  lone : AllByRecursion (λ (pair : Name × Entry). is_lone pair.1 ≡ true) version
  items : AllByRecursion (λ (pair : Name × Entry). IsItem (item pair.0 pair.1) pair.0 pair.1) version
  records : AllByRecursion IsRecord (all_rows version)

parts : (origin : Name) (version : Version) → AllByRecursion (IsOwned origin) version → Parts origin version
parts origin [] h = record { inside = tt; low = tt; lone = tt; items = tt; records = tt }
parts origin (pair ∷ rest) h =
    let more = parts origin rest h.1 in record {
      inside = (h.0.under, more.inside);
      low = (none_low origin pair.0 pair.1 h.0.sets, more.low);
      lone = (h.0.lone, more.lone);
      items = (h.0.item, more.items);
      records = all_append IsRecord (rows_at pair) (all_rows rest) (entry_rows origin pair.0 pair.1 h.0.item.name h.0.sets) more.records;
    }

pub can_be_dumped : (origin : Name) (version : Version) → IsName origin → IsWellFormed origin version → has_soa origin version ≡ true → CanBeDumped origin version
can_be_dumped origin version name h soa =
    let p = parts origin version h.each in
    let o = owns origin origin version h.each in record {
      name = name;
      zone = record { inside = p.inside; soa = soa_counted (owned origin version) o.proper soa o.few; no_low_soa = p.low; lone = p.lone };
      rising = h.rising;
      items = p.items;
      records = p.records;
    }

-- ---- and the other way round

data_of_rows : (owner : Name) (rtype ttl : ℕ) (records : List (List ℕ)) → AllByRecursion IsRecord (rows_of owner (record { rtype = rtype; ttl = ttl; records = records })) → AllByRecursion (IsData rtype) records
data_of_rows owner rtype ttl [] h = tt
data_of_rows owner rtype ttl (octets ∷ records) h = (record { bytes = h.0.bytes; short = h.0.short; form = h.0.form }, data_of_rows owner rtype ttl records h.1)

set_of_rows : (origin owner : Name) (s : Rrset) → 0 < length s.records → (eqb s.rtype soa_type && not (same_name owner origin)) ≡ false → AllByRecursion IsRecord (rows_of owner s) → IsSet origin owner s
set_of_rows origin owner s some place h = by_records s.records some h (data_of_rows owner s.rtype s.ttl s.records h)
  where
    by_records : (l : List (List ℕ)) → 0 < length l → AllByRecursion IsRecord (rows_of owner (record s { records = l })) → AllByRecursion (IsData s.rtype) s.records → IsSet origin owner s
    by_records [] lt k d = absurd (omega arith)
    by_records (octets ∷ more) lt k d = record { number = k.0.number; kind = k.0.kind; time = k.0.time; each = d; place = place }

sets_of_rows : (origin owner : Name) (done entry : Entry) → RisingSets None (done ++ entry) → has_low_soa origin (owner, done ++ entry) ≡ false → AllByRecursion IsRecord (rows_at (owner, entry)) → AllSets origin owner entry
sets_of_rows origin owner done [] r low h = tt
sets_of_rows origin owner done (s ∷ entry) r low h =
    let p = all_parts IsRecord (rows_of owner s) (rows_at (owner, entry)) h in
    let more : (done ++ s ∷ []) ++ entry ≡ done ++ s ∷ entry = append_assoc done (s ∷ []) entry in (
      set_of_rows origin owner s (set_in done s entry r).some (not_low origin owner done s entry low) p.0,
      sets_of_rows origin owner (done ++ s ∷ []) entry (subst (λ (e : Entry). RisingSets None e) (sym more) r) (subst (λ (e : Entry). has_low_soa origin (owner, e) ≡ false) (sym more) low) p.1,
    )

each_owned : (origin : Name) (version front rest : Version) → CanBeDumped origin version → version ≡ front ++ rest → Parts origin rest → AllByRecursion (IsOwned origin) rest
each_owned origin version front [] h e p = tt
each_owned origin version front (pair ∷ rest) h e p =
    let before = names_before front pair rest (subst (λ (x : Version). IsStrictlySortedBy name_cmp (keys_of x)) e h.rising) in
    let rows = all_parts IsRecord (rows_at pair) (all_rows rest) p.records in (
      record {
        under = p.inside.0;
        lone = p.lone.0;
        few = few_soas origin version front pair rest e before h.zone.soa p.low.0;
        item = p.items.0;
        sets = sets_of_rows origin pair.0 [] pair.1 p.items.0.proper p.low.0 rows.0;
      },
      each_owned origin version (front ++ pair ∷ []) rest h (e ∙ sym (append_assoc front (pair ∷ []) rest))
          (record { inside = p.inside.1; low = p.low.1; lone = p.lone.1; items = p.items.1; records = rows.1 }),
    )

pub well_formed : (origin : Name) (version : Version) → CanBeDumped origin version → IsWellFormed origin version
well_formed origin version h = record {
  each = each_owned origin version [] version h refl (record { inside = h.zone.inside; low = h.zone.no_low_soa; lone = h.zone.lone; items = h.items; records = h.records });
  rising = h.rising;
}

pub soa_there : (origin : Name) (version : Version) → CanBeDumped origin version → has_soa origin version ≡ true
soa_there origin version h = one_counted (owned origin version) h.zone.soa
