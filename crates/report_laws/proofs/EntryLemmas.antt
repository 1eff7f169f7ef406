-- Entries as master files have them, and what changes leave of them.
use Rattle.std.proofs.Common.{◌≡◌, ◌∙◌, ℕ, ◌+◌, ◌<◌, ◌≤◌, Bool, true, false, cond, not, ◌&&◌, ◌||◌, eqb, leb, eqb-true, List, [], ◌∷◌, ◌++◌, length, Option, Some, None, refl, sym, ap, subst, arith, length-append}
use Rattle.std.proofs.lemmas.Bool.Decides.{nat_tests}
use Rattle.std.proofs.lemmas.Cmp.{ranked}
use Rattle.std.specs.Prelude.{is_some, is_none}
use Rattle.std.specs.List.{AllByRecursion, flat_map}
use Rattle.std.specs.Int.{w16, w32, to_be_bytes}
use Rattle.std.specs.declared.cmp.Ordering.{Ordering}
use Rattle.std.specs.declared.cmp.Ordering.TheVariants.{Less, Equal, Greater}
use Rattle.std.specs.Ordering.{nat_cmp, match_ordering}
use Rattle.zone_model.specs.Names.{Name, same_name, wire}
use Rattle.zone_model.specs.Records.{Rrset, Entry, octets_cmp, rrset_of, changed_at, with_record, without_record, fresh, joined, lessened, with_rr, without_rr, without_set, record_bytes, rrset_bytes, item, IsRrset, RisingSets, IsEntry}
use Rattle.zone_model.specs.Versions.{soa_type, is_lone}
use Rattle.zone_model.specs.DataWords.{data_type, most_time}
use Rattle.zone_model.specs.DataForms.{form_fits}
use Rattle.zone_model.specs.MasterFile.{soa_count}
use Rattle.dns_name.proofs.BodyLemmas.{all_append}
use Rattle.rr_data.proofs.RecordLineLemmas.{flat_map-append}
use Rattle.report_laws.specs.Octets.{AllOctets}

-- ---- what an entry is made of

-- octets that a type's data may be
pub record IsData (rtype : ℕ) (octets : List ℕ) : Type 0 where
  pub bytes : AllOctets octets
  pub short : length octets ≤ 65535
  pub form : form_fits rtype octets ≡ true

-- an RRset as master files have it, and no SOA below the origin
pub record IsSet (origin owner : Name) (s : Rrset) : Type 0 where
  pub number : s.rtype ≤ 65535
  pub kind : data_type s.rtype ≡ Some s.rtype
  pub time : s.ttl ≤ most_time
  pub each : AllByRecursion (IsData s.rtype) s.records
  pub place : (eqb s.rtype soa_type && not (same_name owner origin)) ≡ false

abbrev pub AllSets : Name → Name → Entry → Type 0
AllSets origin owner entry = AllByRecursion (IsSet origin owner) entry

-- an RRset of one record
abbrev pub IsRr : Name → Name → ℕ → ℕ → List ℕ → Type 0
IsRr origin owner rtype ttl octets = IsSet origin owner (fresh rtype ttl octets)

-- ---- records of an RRset

all_with : (P : List ℕ → Type 0) (octets : List ℕ) (records : List (List ℕ)) → P octets → AllByRecursion P records → AllByRecursion P (with_record octets records)
all_with P octets [] p h = (p, tt)
all_with P octets (first ∷ rest) p h = by_order (octets_cmp octets first) (all_with P octets rest p h.1)
  where
    by_order : (o : Ordering) → AllByRecursion P (with_record octets rest) → AllByRecursion P (match_ordering o (octets ∷ (first ∷ rest)) (first ∷ rest) (first ∷ with_record octets rest))
    by_order Less i = (p, h)
    by_order Equal i = h
    by_order Greater i = (h.0, i)

all_without : (P : List ℕ → Type 0) (octets : List ℕ) (records : List (List ℕ)) → AllByRecursion P records → AllByRecursion P (without_record octets records)
all_without P octets [] h = tt
all_without P octets (first ∷ rest) h = by_order (octets_cmp octets first) (all_without P octets rest h.1)
  where
    by_order : (o : Ordering) → AllByRecursion P (without_record octets rest) → AllByRecursion P (match_ordering o (first ∷ rest) rest (first ∷ without_record octets rest))
    by_order Less i = h
    by_order Equal i = h.1
    by_order Greater i = (h.0, i)

fewer : (octets : List ℕ) (records : List (List ℕ)) → length (without_record octets records) ≤ length records
fewer octets [] = omega arith
fewer octets (first ∷ rest) = by_order (octets_cmp octets first) (fewer octets rest)
  where
    by_order : (o : Ordering) → length (without_record octets rest) ≤ length rest → length (match_ordering o (first ∷ rest) rest (first ∷ without_record octets rest)) ≤ length (first ∷ rest)
    by_order Less i = omega arith
    by_order Equal i = omega arith
    by_order Greater i = omega arith

-- ---- RRsets of an entry

-- what holds of each RRset, or of what it becomes, holds of each behind a change
all_changed : (P Q : Rrset → Type 0) (rtype : ℕ) (change : Option Rrset → List Rrset) (entry : Entry) → ((s : Rrset) → P s → Q s) → AllByRecursion Q (change None)
    → ((s : Rrset) → s.rtype ≡ rtype → P s → AllByRecursion Q (change (Some s))) → AllByRecursion P entry → AllByRecursion Q (changed_at rtype change entry)
all_changed P Q rtype change [] keep none some h = none
all_changed P Q rtype change (first ∷ rest) keep none some h = by_order (nat_cmp rtype first.rtype) refl (all_changed P Q rtype change rest keep none some h.1)
  where
    kept : (entry : Entry) → AllByRecursion P entry → AllByRecursion Q entry
    kept [] k = tt
    kept (s ∷ entry) k = (keep s k.0, kept entry k.1)

    by_order : (o : Ordering) → nat_cmp rtype first.rtype ≡ o → AllByRecursion Q (changed_at rtype change rest)
        → AllByRecursion Q (match_ordering o (change None ++ (first ∷ rest)) (change (Some first) ++ rest) (first ∷ changed_at rtype change rest))
    by_order Less e i = all_append Q (change None) (first ∷ rest) none (kept (first ∷ rest) h)
    by_order Equal e i = all_append Q (change (Some first)) rest (some first (sym (ranked rtype first.rtype Equal (sym e))) h.0) (kept rest h.1)
    by_order Greater e i = (keep first h.0, i)

pub sets_with : (origin owner : Name) (rtype ttl : ℕ) (octets : List ℕ) (entry : Entry) → IsRr origin owner rtype ttl octets → AllSets origin owner entry → AllSets origin owner (with_rr rtype ttl octets entry)
sets_with origin owner rtype ttl octets entry f h =
    all_changed (IsSet origin owner) (IsSet origin owner) rtype (joined rtype ttl octets) entry (λ s k. k) (f, tt)
    (λ s e k. (
      record {
        number = k.number;
        kind = k.kind;
        time = k.time;
        each = all_with (IsData s.rtype) octets s.records (subst (λ (t : ℕ). IsData t octets) (sym e) f.each.0) k.each;
        place = k.place;
      },
      tt,
    )) h

pub some_with : (rtype ttl : ℕ) (octets : List ℕ) (entry : Entry) → 0 < length (with_rr rtype ttl octets entry)
some_with rtype ttl octets [] = omega arith
some_with rtype ttl octets (first ∷ rest) = by_order (nat_cmp rtype first.rtype)
  where
    by_order : (o : Ordering) → 0 < length (match_ordering o (joined rtype ttl octets None ++ (first ∷ rest)) (joined rtype ttl octets (Some first) ++ rest) (first ∷ with_rr rtype ttl octets rest))
    by_order Less = omega arith
    by_order Equal = omega arith
    by_order Greater = omega arith

sets_lessened : (origin owner : Name) (octets : List ℕ) (s : Rrset) → IsSet origin owner s → AllSets origin owner (lessened octets (Some s))
sets_lessened origin owner octets s k = by_test (eqb (length (without_record octets s.records)) 0)
  where
    by_test : (b : Bool) → AllSets origin owner (cond b [] ((record s { records = without_record octets s.records }) ∷ []))
    by_test true = tt
    by_test false = (record { number = k.number; kind = k.kind; time = k.time; each = all_without (IsData s.rtype) octets s.records k.each; place = k.place }, tt)

pub sets_without : (origin owner : Name) (rtype : ℕ) (octets : List ℕ) (entry : Entry) → AllSets origin owner entry → AllSets origin owner (without_rr rtype octets entry)
sets_without origin owner rtype octets entry h =
    all_changed (IsSet origin owner) (IsSet origin owner) rtype (lessened octets) entry (λ s k. k) tt (λ s e k. sets_lessened origin owner octets s k) h

pub sets_without_set : (origin owner : Name) (rtype : ℕ) (entry : Entry) → AllSets origin owner entry → AllSets origin owner (without_set rtype entry)
sets_without_set origin owner rtype entry h = all_changed (IsSet origin owner) (IsSet origin owner) rtype (λ s. []) entry (λ s k. k) tt (λ s e k. tt) h

-- ---- SOAs

-- no RRset but of one record is an SOA
abbrev FewSoas : Rrset → Type 0
FewSoas s = s.rtype ≡ 6 → length s.records ≤ 1

abbrev NoSoa : Rrset → Type 0
NoSoa s = s.rtype ≡ 6 → ⊥

abbrev counted : Option Rrset → ℕ
counted None = 0
counted (Some s) = length s.records

pub few_counted : (entry : Entry) → AllByRecursion FewSoas entry → soa_count entry ≤ 1
few_counted [] h = omega arith
few_counted (s ∷ entry) h = by_test (eqb s.rtype 6) refl (few_counted entry h.1)
  where
    by_test : (b : Bool) → eqb s.rtype 6 ≡ b → soa_count entry ≤ 1 → counted (cond b (Some s) (rrset_of 6 entry)) ≤ 1
    by_test true e i = h.0 (eqb-true s.rtype 6 e)
    by_test false e i = i

none_above : (t : ℕ) (entry : Entry) → 6 ≤ t → RisingSets (Some t) entry → AllByRecursion NoSoa entry
none_above t [] le h = tt
none_above t (s ∷ entry) le h = ((λ e. let lt = h.0 in absurd (omega arith)), none_above s.rtype entry (let lt = h.0 in omega arith) h.2)

rising_rest : (before : Option ℕ) (s : Rrset) (entry : Entry) → RisingSets before (s ∷ entry) → IsRrset s × RisingSets (Some s.rtype) entry
rising_rest None s entry h = h
rising_rest (Some b) s entry h = (h.1, h.2)

few_of_none : (entry : Entry) → AllByRecursion NoSoa entry → AllByRecursion FewSoas entry
few_of_none [] h = tt
few_of_none (s ∷ entry) h = ((λ e. absurd (h.0 e)), few_of_none entry h.1)

few_of_count : (before : Option ℕ) (entry : Entry) → RisingSets before entry → soa_count entry ≤ 1 → AllByRecursion FewSoas entry
few_of_count before [] r c = tt
few_of_count before (s ∷ entry) r c = by_test (λ i. few_of_count (Some s.rtype) entry rest i) (eqb s.rtype 6) refl c
  where
    rest : RisingSets (Some s.rtype) entry
    rest = (rising_rest before s entry r).1

    by_test : (soa_count entry ≤ 1 → AllByRecursion FewSoas entry) → (b : Bool) → eqb s.rtype 6 ≡ b → counted (cond b (Some s) (rrset_of 6 entry)) ≤ 1 → AllByRecursion FewSoas (s ∷ entry)
    by_test others true e i = ((λ k. i), few_of_none entry (none_above s.rtype entry (let is = eqb-true s.rtype 6 e in omega arith) rest))
    by_test others false e i = ((λ k. let bad : ⊥ = grind (arith, nat_tests) in absurd bad), others i)

none_without : (before : Option ℕ) (entry : Entry) → RisingSets before entry → AllByRecursion NoSoa (without_set 6 entry)
none_without before [] r = tt
none_without before (s ∷ entry) r = by_order (nat_cmp 6 s.rtype) refl (none_without (Some s.rtype) entry rest)
  where
    rest : RisingSets (Some s.rtype) entry
    rest = (rising_rest before s entry r).1

    by_order : (o : Ordering) → nat_cmp 6 s.rtype ≡ o → AllByRecursion NoSoa (without_set 6 entry) → AllByRecursion NoSoa (match_ordering o (s ∷ entry) entry (s ∷ without_set 6 entry))
    by_order Less e i =
        let lt : 6 < s.rtype = ranked 6 s.rtype Less (sym e) in
        ((λ k. absurd (omega arith)), none_above s.rtype entry (omega arith) rest)
    by_order Equal e i =
        let same : 6 ≡ s.rtype = ranked 6 s.rtype Equal (sym e) in
        none_above s.rtype entry (omega arith) rest
    by_order Greater e i =
        let lt : s.rtype < 6 = ranked 6 s.rtype Greater (sym e) in
        ((λ k. absurd (omega arith)), i)

-- the SOA is the one that takes the other's place
pub one_soa : (ttl : ℕ) (octets : List ℕ) (entry : Entry) → IsEntry entry → soa_count (with_rr 6 ttl octets (without_set 6 entry)) ≤ 1
one_soa ttl octets entry r =
    few_counted (with_rr 6 ttl octets (without_set 6 entry))
    (all_changed NoSoa FewSoas 6 (joined 6 ttl octets) (without_set 6 entry) (λ s k e. absurd (k e)) ((λ e. omega arith), tt) (λ s e k. absurd (k e)) (none_without None entry r))

-- a record of another type adds none
pub few_with : (rtype ttl : ℕ) (octets : List ℕ) (entry : Entry) → (rtype ≡ 6 → ⊥) → IsEntry entry → soa_count entry ≤ 1 → soa_count (with_rr rtype ttl octets entry) ≤ 1
few_with rtype ttl octets entry n r c =
    few_counted (with_rr rtype ttl octets entry)
    (all_changed FewSoas FewSoas rtype (joined rtype ttl octets) entry (λ s k. k) ((λ e. absurd (n e)), tt) (λ s e k. ((λ f. absurd (n (sym e ∙ f))), tt)) (few_of_count None entry r c))

pub few_without_set : (rtype : ℕ) (entry : Entry) → IsEntry entry → soa_count entry ≤ 1 → soa_count (without_set rtype entry) ≤ 1
few_without_set rtype entry r c =
    few_counted (without_set rtype entry) (all_changed FewSoas FewSoas rtype (λ s. []) entry (λ s k. k) tt (λ s e k. tt) (few_of_count None entry r c))

pub few_without : (rtype : ℕ) (octets : List ℕ) (entry : Entry) → IsEntry entry → soa_count entry ≤ 1 → soa_count (without_rr rtype octets entry) ≤ 1
few_without rtype octets entry r c =
    few_counted (without_rr rtype octets entry) (all_changed FewSoas FewSoas rtype (lessened octets) entry (λ s k. k) tt (λ s e k. left s k (eqb (length (without_record octets s.records)) 0)) (few_of_count None entry r c))
  where
    left : (s : Rrset) → FewSoas s → (b : Bool) → AllByRecursion FewSoas (cond b [] ((record s { records = without_record octets s.records }) ∷ []))
    left s k true = tt
    left s k false = ((λ e. let le = k e in omega (arith, fewer octets s.records)), tt)

-- a record that joins leaves an SOA there
pub soa_stays : (rtype ttl : ℕ) (octets : List ℕ) (entry : Entry) → is_some (rrset_of 6 entry) ≡ true → is_some (rrset_of 6 (with_rr rtype ttl octets entry)) ≡ true
soa_stays rtype ttl octets [] h = absurd cc
soa_stays rtype ttl octets (s ∷ entry) h = by_order (soa_stays rtype ttl octets entry) (nat_cmp rtype s.rtype)
  where
    others : (is_some (rrset_of 6 entry) ≡ true → is_some (rrset_of 6 (with_rr rtype ttl octets entry)) ≡ true)
        → (b : Bool) → is_some (cond b (Some s) (rrset_of 6 entry)) ≡ true → is_some (cond b (Some s) (rrset_of 6 (with_rr rtype ttl octets entry))) ≡ true
    others stays true k = refl
    others stays false k = stays k

    ahead : (b : Bool) → is_some (cond b (Some (fresh rtype ttl octets)) (rrset_of 6 (s ∷ entry))) ≡ true
    ahead true = refl
    ahead false = h

    here : (b : Bool) → is_some (cond b (Some s) (rrset_of 6 entry)) ≡ true → is_some (cond b (Some (record s { records = with_record octets s.records })) (rrset_of 6 entry)) ≡ true
    here true k = refl
    here false k = k

    by_order : (is_some (rrset_of 6 entry) ≡ true → is_some (rrset_of 6 (with_rr rtype ttl octets entry)) ≡ true)
        → (o : Ordering) → is_some (rrset_of 6 (match_ordering o (joined rtype ttl octets None ++ (s ∷ entry)) (joined rtype ttl octets (Some s) ++ entry) (s ∷ with_rr rtype ttl octets entry))) ≡ true
    by_order stays Less = ahead (eqb rtype 6)
    by_order stays Equal = here (eqb s.rtype 6) h
    by_order stays Greater = others stays (eqb s.rtype 6) h

pub soa_joins : (ttl : ℕ) (octets : List ℕ) (entry : Entry) → is_some (rrset_of 6 (with_rr 6 ttl octets entry)) ≡ true
soa_joins ttl octets [] = refl
soa_joins ttl octets (s ∷ entry) = by_order (soa_joins ttl octets entry) (nat_cmp 6 s.rtype) refl
  where
    others : is_some (rrset_of 6 (with_rr 6 ttl octets entry)) ≡ true → (b : Bool) → is_some (cond b (Some s) (rrset_of 6 (with_rr 6 ttl octets entry))) ≡ true
    others joins true = refl
    others joins false = joins

    by_order : is_some (rrset_of 6 (with_rr 6 ttl octets entry)) ≡ true → (o : Ordering) → nat_cmp 6 s.rtype ≡ o → is_some (rrset_of 6 (match_ordering o (joined 6 ttl octets None ++ (s ∷ entry)) (joined 6 ttl octets (Some s) ++ entry) (s ∷ with_rr 6 ttl octets entry))) ≡ true
    by_order joins Less e = refl
    by_order joins Equal e =
        let same : 6 ≡ s.rtype = ranked 6 s.rtype Equal (sym e) in
        let test : eqb s.rtype 6 ≡ true = grind (arith, nat_tests) in
        ap (λ (b : Bool). is_some (cond b (Some (record s { records = with_record octets s.records })) (rrset_of 6 entry))) test
    by_order joins Greater e = others joins (eqb s.rtype 6)

some_counted : (before : Option ℕ) (entry : Entry) → RisingSets before entry → is_some (rrset_of 6 entry) ≡ true → 0 < soa_count entry
some_counted before [] r h = absurd cc
some_counted before (s ∷ entry) r h = by_test (some_counted (Some s.rtype) entry (rising_rest before s entry r).1) (eqb s.rtype 6) h
  where
    by_test : (is_some (rrset_of 6 entry) ≡ true → 0 < soa_count entry) → (b : Bool) → is_some (cond b (Some s) (rrset_of 6 entry)) ≡ true → 0 < counted (cond b (Some s) (rrset_of 6 entry))
    by_test others true k = (rising_rest before s entry r).0.some
    by_test others false k = others k

-- an entry that has an SOA and at most one has one
pub soa_counted : (entry : Entry) → IsEntry entry → is_some (rrset_of 6 entry) ≡ true → soa_count entry ≤ 1 → soa_count entry ≡ 1
soa_counted entry r h c = let some = some_counted None entry r h in omega arith

-- ---- no SOA below the origin

pub none_low : (origin owner : Name) (entry : Entry) → AllSets origin owner entry → (is_some (rrset_of soa_type entry) && not (same_name owner origin)) ≡ false
none_low origin owner [] h = refl
none_low origin owner (s ∷ entry) h = by_test (none_low origin owner entry h.1) (eqb s.rtype 6) h.0.place
  where
    by_test : (is_some (rrset_of 6 entry) && not (same_name owner origin)) ≡ false → (b : Bool) → (b && not (same_name owner origin)) ≡ false
        → (is_some (cond b (Some s) (rrset_of 6 entry)) && not (same_name owner origin)) ≡ false
    by_test others true k = k
    by_test others false k = others

-- ---- aliases

abbrev NoAlias : Rrset → Type 0
NoAlias s = eqb s.rtype 5 ≡ false

free_of : (entry : Entry) → is_none (rrset_of 5 entry) ≡ true → AllByRecursion NoAlias entry
free_of [] h = tt
free_of (s ∷ entry) h = by_test (free_of entry) (eqb s.rtype 5) refl h
  where
    by_test : (is_none (rrset_of 5 entry) ≡ true → AllByRecursion NoAlias entry) → (b : Bool) → eqb s.rtype 5 ≡ b → is_none (cond b (Some s) (rrset_of 5 entry)) ≡ true → (eqb s.rtype 5 ≡ false) × AllByRecursion NoAlias entry
    by_test others true e k = absurd cc
    by_test others false e k = (e, others k)

none_of : (entry : Entry) → AllByRecursion NoAlias entry → is_none (rrset_of 5 entry) ≡ true
none_of [] h = refl
none_of (s ∷ entry) h = ap (λ (b : Bool). is_none (cond b (Some s) (rrset_of 5 entry))) h.0 ∙ none_of entry h.1

lone_of : (entry : Entry) → AllByRecursion NoAlias entry → is_lone entry ≡ true
lone_of [] h = refl
lone_of (s ∷ []) h = ap (λ (b : Bool). not b || leb (length s.records) 1) h.0
lone_of (s ∷ t ∷ entry) h = none_of (s ∷ t ∷ entry) h

-- what takes out of RRsets leaves an alias alone
record TakesOut (change : Option Rrset → List Rrset) : Type 0 where
  none : change None ≡ []
  free : (s : Rrset) → NoAlias s → AllByRecursion NoAlias (change (Some s))
  lone : (s : Rrset) → is_lone (s ∷ []) ≡ true → is_lone (change (Some s)) ≡ true

lone_taken : (rtype : ℕ) (change : Option Rrset → List Rrset) → TakesOut change → (entry : Entry) → is_lone entry ≡ true → is_lone (changed_at rtype change entry) ≡ true
lone_taken rtype change t [] h = ap is_lone t.none
lone_taken rtype change t (s ∷ []) h = by_order (nat_cmp rtype s.rtype)
  where
    by_order : (o : Ordering) → is_lone (match_ordering o (change None ++ (s ∷ [])) (change (Some s) ++ []) (s ∷ change None)) ≡ true
    by_order Less = ap (λ (l : Entry). is_lone (l ++ (s ∷ []))) t.none ∙ h
    by_order Equal = ap is_lone (nil_behind (change (Some s))) ∙ t.lone s h
      where
        nil_behind : (l : Entry) → l ++ [] ≡ l
        nil_behind [] = refl
        nil_behind (x ∷ l) = ap (λ (r : Entry). x ∷ r) (nil_behind l)
    by_order Greater = ap (λ (l : Entry). is_lone (s ∷ l)) t.none ∙ h
lone_taken rtype change t (s ∷ u ∷ entry) h =
    lone_of (changed_at rtype change (s ∷ u ∷ entry))
    (all_changed NoAlias NoAlias rtype change (s ∷ u ∷ entry) (λ x k. k) (subst (λ (l : Entry). AllByRecursion NoAlias l) (sym t.none) tt) (λ x e k. t.free x k) (free_of (s ∷ u ∷ entry) h))

pub lone_without_set : (rtype : ℕ) (entry : Entry) → is_lone entry ≡ true → is_lone (without_set rtype entry) ≡ true
lone_without_set rtype entry h = lone_taken rtype (λ s. []) (record { none = refl; free = λ s k. tt; lone = λ s k. refl }) entry h

pub lone_without : (rtype : ℕ) (octets : List ℕ) (entry : Entry) → is_lone entry ≡ true → is_lone (without_rr rtype octets entry) ≡ true
lone_without rtype octets entry h =
    lone_taken rtype (lessened octets)
    (record { none = refl; free = λ s k. free s k (eqb (length (without_record octets s.records)) 0); lone = λ s k. alone s k (eqb (length (without_record octets s.records)) 0) }) entry h
  where
    free : (s : Rrset) → NoAlias s → (b : Bool) → AllByRecursion NoAlias (cond b [] ((record s { records = without_record octets s.records }) ∷ []))
    free s k true = tt
    free s k false = (k, tt)

    fits : (b : Bool) (s : Rrset) → (not b || leb (length s.records) 1) ≡ true → (not b || leb (length (without_record octets s.records)) 1) ≡ true
    fits true s k = let le = fewer octets s.records in grind (arith, nat_tests)
    fits false s k = refl

    alone : (s : Rrset) → is_lone (s ∷ []) ≡ true → (b : Bool) → is_lone (cond b [] ((record s { records = without_record octets s.records }) ∷ [])) ≡ true
    alone s k true = refl
    alone s k false = fits (eqb s.rtype 5) s k

-- ---- octets of an item

abbrev size : Entry → ℕ
size entry = length (flat_map rrset_bytes entry)

fewer_octets : (octets : List ℕ) (records : List (List ℕ)) → length (flat_map record_bytes (without_record octets records)) ≤ length (flat_map record_bytes records)
fewer_octets octets [] = omega arith
fewer_octets octets (first ∷ rest) = by_order (octets_cmp octets first) (fewer_octets octets rest)
  where
    by_order : (o : Ordering) → length (flat_map record_bytes (without_record octets rest)) ≤ length (flat_map record_bytes rest)
        → length (flat_map record_bytes (match_ordering o (first ∷ rest) rest (first ∷ without_record octets rest))) ≤ length (flat_map record_bytes (first ∷ rest))
    by_order Less i = omega arith
    by_order Equal i = omega (arith, length-append (record_bytes first) (flat_map record_bytes rest))
    by_order Greater i = omega (arith, i, length-append (record_bytes first) (flat_map record_bytes rest), length-append (record_bytes first) (flat_map record_bytes (without_record octets rest)))

set_size : (s : Rrset) → size (s ∷ []) ≡ 8 + length (flat_map record_bytes s.records)
set_size s =
    omega (
      arith,
      length-append (rrset_bytes s) [],
      length-append (to_be_bytes w16 s.rtype ++ to_be_bytes w32 s.ttl ++ to_be_bytes w16 (length s.records)) (flat_map record_bytes s.records),
      length-append (to_be_bytes w16 s.rtype ++ to_be_bytes w32 s.ttl) (to_be_bytes w16 (length s.records)),
      length-append (to_be_bytes w16 s.rtype) (to_be_bytes w32 s.ttl),
    )

size_more : (front rest : Entry) → size (front ++ rest) ≡ size front + size rest
size_more front rest = ap (λ (l : List ℕ). length l) (flat_map-append rrset_bytes front rest) ∙ length-append (flat_map rrset_bytes front) (flat_map rrset_bytes rest)

size_taken : (rtype : ℕ) (change : Option Rrset → List Rrset) (entry : Entry) → change None ≡ [] → ((s : Rrset) → size (change (Some s)) ≤ size (s ∷ [])) → size (changed_at rtype change entry) ≤ size entry
size_taken rtype change [] none less = let e : size (change None) ≡ 0 = ap size none in omega arith
size_taken rtype change (s ∷ entry) none less = by_order (nat_cmp rtype s.rtype) (size_taken rtype change entry none less)
  where
    by_order : (o : Ordering) → size (changed_at rtype change entry) ≤ size entry → size (match_ordering o (change None ++ (s ∷ entry)) (change (Some s) ++ entry) (s ∷ changed_at rtype change entry)) ≤ size (s ∷ entry)
    by_order Less i = let e : size (change None) ≡ 0 = ap size none in omega (arith, size_more (change None) (s ∷ entry))
    by_order Equal i = omega (arith, less s, size_more (change (Some s)) entry, size_more (s ∷ []) entry)
    by_order Greater i = omega (arith, i, size_more (s ∷ []) entry, size_more (s ∷ []) (changed_at rtype change entry))

item_size : (owner : Name) (entry : Entry) → length (item owner entry) ≡ length (wire owner) + 2 + size entry
item_size owner entry =
    omega (arith, length-append (wire owner ++ to_be_bytes w16 (length entry)) (flat_map rrset_bytes entry), length-append (wire owner) (to_be_bytes w16 (length entry)))

pub item_without_set : (owner : Name) (rtype : ℕ) (entry : Entry) → length (item owner (without_set rtype entry)) ≤ length (item owner entry)
item_without_set owner rtype entry =
    omega (arith, item_size owner entry, item_size owner (without_set rtype entry), size_taken rtype (λ s. []) entry refl (λ s. omega arith))

pub item_without : (owner : Name) (rtype : ℕ) (octets : List ℕ) (entry : Entry) → length (item owner (without_rr rtype octets entry)) ≤ length (item owner entry)
item_without owner rtype octets entry =
    omega (arith, item_size owner entry, item_size owner (without_rr rtype octets entry), size_taken rtype (lessened octets) entry refl (λ s. left s (eqb (length (without_record octets s.records)) 0)))
  where
    left : (s : Rrset) (b : Bool) → size (cond b [] ((record s { records = without_record octets s.records }) ∷ [])) ≤ size (s ∷ [])
    left s true = omega arith
    left s false = omega (arith, set_size s, set_size (record s { records = without_record octets s.records }), fewer_octets octets s.records)
