-- What stands in front of octets, and what is seen of an item where it lies.
use Rattle.std.proofs.Common.{◌≡◌, ◌∙◌, ℕ, zero, suc, ◌+◌, ◌-◌, ◌<◌, ◌≤◌, ◌^◌, List, [], ◌∷◌, ◌++◌, length, take, drop, refl, sym, ap, subst, arith, Option, Some, None, eqb, false, append_assoc, length-append, append-nil}
use Rattle.std.proofs.lemmas.List.{take_at, drop_at}
use Rattle.std.specs.List.{flat_map, AllByRecursion}
use Rattle.std.specs.Int.{w16, w32, to_be_bytes, from_be_bytes}
use Rattle.std.proofs.lemmas.Nat.{from_be_bytes-to_be_bytes_2, from_be_bytes-to_be_bytes_4}
use Rattle.zone_model.specs.Names.{Name, wire}
use Rattle.zone_model.specs.Records.{Rrset, Entry, record_bytes, rrset_bytes, RisingOctets, RisingSets, IsItem, rrset_of}
use Rattle.zone_model.specs.Items.{split_records, split_sets}
use Rattle.zone_model.proofs.ItemLemmas.{records_back, sets_back, few_in_set, few_in_item}
use Rattle.rr_data.specs.ItemViews.{records_seen, sets_seen, BeginsWithRecord, BeginsWithRecords, BeginsWithSet, AreRecords, AreSets, SaysEntry}

-- ---- a record in front

pub record RecordParts (bytes octets more rest : List ℕ) (n : ℕ) : Type 0 where
  pub within : n ≤ length rest
  pub front : take n rest ≡ octets
  pub behind : drop n rest ≡ more

record_laid : (bytes octets more : List ℕ) → BeginsWithRecord bytes octets more → bytes ≡ to_be_bytes w16 (length octets) ++ (octets ++ more)
record_laid bytes octets more h = h.laid ∙ append_assoc (to_be_bytes w16 (length octets)) octets more

pub record_long : (bytes octets more : List ℕ) → BeginsWithRecord bytes octets more → 2 ≤ length bytes
record_long bytes octets more h = subst (λ (l : List ℕ). 2 ≤ length l) (sym (record_laid bytes octets more h)) (omega arith)

-- its length, and what is behind that
pub record_parts : (bytes octets more len rest : List ℕ) (n : ℕ) → BeginsWithRecord bytes octets more → len ≡ take 2 bytes → rest ≡ drop 2 bytes → n ≡ from_be_bytes w16 len → RecordParts bytes octets more rest n
record_parts bytes octets more len rest n h a b d =
    let e = record_laid bytes octets more h in
    let k : n ≡ length octets = d ∙ ap (from_be_bytes w16) (a ∙ ap (take 2) e) ∙ from_be_bytes-to_be_bytes_2 (length octets) (omega (arith, h.short)) in
    let r : rest ≡ octets ++ more = b ∙ ap (drop 2) e in
    record {
      within = subst (λ (l : List ℕ). n ≤ length l) (sym r) (omega (arith, length-append octets more, k));
      front = ap (take n) r ∙ take_at octets more n (sym k);
      behind = ap (drop n) r ∙ drop_at octets more n (sym k);
    }

-- ---- records in front

pub record NextRecord (n : ℕ) (bytes : List ℕ) (records : List (List ℕ)) (more : List ℕ) : Type 0 where
  pub octets : List ℕ
  pub left : List (List ℕ)
  pub is : records ≡ octets ∷ left
  pub front : BeginsWithRecord bytes octets (flat_map record_bytes left ++ more)
  pub next : (m : ℕ) (behind : List ℕ) → m + 1 ≡ n → behind ≡ flat_map record_bytes left ++ more → BeginsWithRecords m behind left more

pub next_record : (n : ℕ) (bytes : List ℕ) (records : List (List ℕ)) (more : List ℕ) → BeginsWithRecords n bytes records more → 0 < n → NextRecord n bytes records more
next_record n bytes [] more h l = absurd (omega (arith, h.counted))
next_record n bytes (octets ∷ left) more h l = record {
  octets = octets;
  left = left;
  is = refl;
  front = record { short = h.short.0; laid = h.laid ∙ append_assoc (record_bytes octets) (flat_map record_bytes left) more };
  next = λ m behind k e. record { short = h.short.1; counted = (let c : n ≡ suc (length left) = h.counted in omega arith); laid = e };
}

pub no_record_left : (n : ℕ) (bytes : List ℕ) (records : List (List ℕ)) (more : List ℕ) → BeginsWithRecords n bytes records more → n ≡ 0 → bytes ≡ more
no_record_left n bytes [] more h e = h.laid
no_record_left n bytes (octets ∷ left) more h e = absurd (let c : n ≡ suc (length left) = h.counted in omega arith)

-- so many records are left
pub record LeftRecords (n : ℕ) (rest more : List ℕ) : Type 0 where
  pub left : List (List ℕ)
  pub are : BeginsWithRecords n rest left more

pub fewer_left : (n m : ℕ) (rest behind more : List ℕ) → LeftRecords n rest more → m + 1 ≡ n → ((octets rest_more : List ℕ) → BeginsWithRecord rest octets rest_more → behind ≡ rest_more) → LeftRecords m behind more
fewer_left n m rest behind more h k f =
    let s = next_record n rest h.left more h.are (omega arith) in
    record { left = s.left; are = s.next m behind k (f s.octets (flat_map record_bytes s.left ++ more) s.front) }

-- ---- the records of an RRset

short_all : (before : Option (List ℕ)) (records : List (List ℕ)) → RisingOctets before records → AllByRecursion (λ octets. length octets ≤ 65535) records
short_all before [] h = tt
short_all before (octets ∷ rest) h = (h.1, short_all (Some octets) rest h.2)

pub records_begin : (n : ℕ) (bytes : List ℕ) (records : List (List ℕ)) → AreRecords n bytes records → BeginsWithRecords n bytes records []
records_begin n bytes records h = record { short = short_all None records h.rising; counted = h.counted; laid = h.laid ∙ sym (append-nil (flat_map record_bytes records)) }

pub records_view : (n : ℕ) (bytes : List ℕ) (records : List (List ℕ)) → AreRecords n bytes records → records_seen (split_records n None bytes) ≡ records
records_view n bytes records h =
    ap (λ (k : ℕ). records_seen (split_records k None bytes)) h.counted
    ∙ ap (λ (l : List ℕ). records_seen (split_records (length records) None l)) (h.laid ∙ sym (append-nil (flat_map record_bytes records)))
    ∙ ap records_seen (records_back records None [] h.rising)

rising_rest : (octets : List ℕ) (records : List (List ℕ)) → RisingOctets (Some octets) records → RisingOctets None records
rising_rest octets [] h = tt
rising_rest octets (next ∷ records) h = (tt, h.1, h.2)

-- a record, and the others
pub record RecordsOn (n : ℕ) (bytes : List ℕ) : Type 0 where
  pub octets : List ℕ
  pub left : List (List ℕ)
  pub is : records_seen (split_records n None bytes) ≡ octets ∷ left
  pub front : BeginsWithRecord bytes octets (flat_map record_bytes left)
  pub next : (m : ℕ) (behind : List ℕ) → m + 1 ≡ n → behind ≡ flat_map record_bytes left → AreRecords m behind left

pub records_on : (n : ℕ) (bytes : List ℕ) (records : List (List ℕ)) → AreRecords n bytes records → 0 < n → RecordsOn n bytes
records_on n bytes [] h l = absurd (omega (arith, h.counted))
records_on n bytes (octets ∷ left) h l = record {
  octets = octets;
  left = left;
  is = records_view n bytes (octets ∷ left) h;
  front = record { short = h.rising.1; laid = h.laid };
  next = λ m behind k e. record { rising = rising_rest octets left h.rising.2; counted = (let c : n ≡ suc (length left) = h.counted in omega arith); laid = e };
}

pub records_ended : (n : ℕ) (bytes : List ℕ) (records : List (List ℕ)) → AreRecords n bytes records → n ≡ 0 → records_seen (split_records n None bytes) ≡ []
records_ended n bytes [] h e = records_view n bytes [] h
records_ended n bytes (octets ∷ left) h e = absurd (let c : n ≡ suc (length left) = h.counted in omega arith)

-- ---- an RRset in front

set_laid : (bytes : List ℕ) (s : Rrset) (more : List ℕ) → BeginsWithSet bytes s more → bytes ≡ to_be_bytes w16 s.rtype ++ (to_be_bytes w32 s.ttl ++ (to_be_bytes w16 (length s.records) ++ (flat_map record_bytes s.records ++ more)))
set_laid bytes s more h = h.laid

pub set_long : (bytes : List ℕ) (s : Rrset) (more : List ℕ) → BeginsWithSet bytes s more → 8 ≤ length bytes
set_long bytes s more h = subst (λ (l : List ℕ). 8 ≤ length l) (sym (set_laid bytes s more h)) (omega arith)

-- the type, the time to live and the number of records, and what is behind each
pub record IsSetHead (bytes a behind_a b behind_b c behind_c : List ℕ) : Type 0 where
  pub a_is : a ≡ take 2 bytes
  pub behind_a_is : behind_a ≡ drop 2 bytes
  pub b_is : b ≡ take 4 behind_a
  pub behind_b_is : behind_b ≡ drop 4 behind_a
  pub c_is : c ≡ take 2 behind_b
  pub behind_c_is : behind_c ≡ drop 2 behind_b

pub record SetHead (s : Rrset) (more a b c behind_c : List ℕ) : Type 0 where
  pub rtype : from_be_bytes w16 a ≡ s.rtype
  pub ttl : from_be_bytes w32 b ≡ s.ttl
  pub records : BeginsWithRecords (from_be_bytes w16 c) behind_c s.records more

pub set_head : (bytes : List ℕ) (s : Rrset) (more a behind_a b behind_b c behind_c : List ℕ) → BeginsWithSet bytes s more → IsSetHead bytes a behind_a b behind_b c behind_c → SetHead s more a b c behind_c
set_head bytes s more a behind_a b behind_b c behind_c h p =
    let e = set_laid bytes s more h in
    let x : behind_a ≡ to_be_bytes w32 s.ttl ++ (to_be_bytes w16 (length s.records) ++ (flat_map record_bytes s.records ++ more)) = p.behind_a_is ∙ ap (drop 2) e in
    let y : behind_b ≡ to_be_bytes w16 (length s.records) ++ (flat_map record_bytes s.records ++ more) = p.behind_b_is ∙ ap (drop 4) x in
    record {
      rtype = ap (from_be_bytes w16) (p.a_is ∙ ap (take 2) e) ∙ from_be_bytes-to_be_bytes_2 s.rtype (omega (arith, h.proper.rtype));
      ttl = ap (from_be_bytes w32) (p.b_is ∙ ap (take 4) x) ∙ from_be_bytes-to_be_bytes_4 s.ttl (omega (arith, h.proper.ttl));
      records = record {
        short = short_all None s.records h.proper.rising;
        counted = ap (from_be_bytes w16) (p.c_is ∙ ap (take 2) y) ∙ from_be_bytes-to_be_bytes_2 (length s.records) h.few;
        laid = p.behind_c_is ∙ ap (drop 2) y;
      };
    }

pub set_records : (s : Rrset) (more a b c behind_c : List ℕ) (n : ℕ) → SetHead s more a b c behind_c → n ≡ from_be_bytes w16 c → BeginsWithRecords n behind_c s.records more
set_records s more a b c behind_c n h e = subst (λ (k : ℕ). BeginsWithRecords k behind_c s.records more) (sym e) h.records

-- the octets in front of what is behind records
pub before_more : (n : ℕ) (bytes : List ℕ) (records : List (List ℕ)) (more behind : List ℕ) → BeginsWithRecords n bytes records more → behind ≡ more → (length behind ≤ length bytes) × (take (length bytes - length behind) bytes ≡ flat_map record_bytes records)
before_more n bytes records more behind h e =
    let size = ap (λ (l : List ℕ). length l) h.laid in
    let parts = length-append (flat_map record_bytes records) more in
    let same = ap (λ (l : List ℕ). length l) e in
    let k : length (flat_map record_bytes records) ≡ length bytes - length behind = omega arith in
    (omega arith, ap (take (length bytes - length behind)) h.laid ∙ take_at (flat_map record_bytes records) more (length bytes - length behind) k)

abbrev seen_set : ℕ → ℕ → List (List ℕ) → Rrset
seen_set rtype ttl records = record { rtype = rtype; ttl = ttl; records = records }

pub set_view : (s : Rrset) (rtype ttl n : ℕ) (octets : List ℕ) → rtype ≡ s.rtype → ttl ≡ s.ttl → AreRecords n octets s.records → seen_set rtype ttl (records_seen (split_records n None octets)) ≡ s
set_view s rtype ttl n octets a b h =
    ap (λ (t : ℕ). seen_set t ttl (records_seen (split_records n None octets))) a
    ∙ ap (λ (t : ℕ). seen_set s.rtype t (records_seen (split_records n None octets))) b
    ∙ ap (seen_set s.rtype s.ttl) (records_view n octets s.records h)

-- ---- the RRsets of an item

rising_sets_rest : (t : ℕ) (sets : Entry) → RisingSets (Some t) sets → RisingSets None sets
rising_sets_rest t [] h = tt
rising_sets_rest t (s ∷ sets) h = (h.1, h.2)

pub sets_view : (n : ℕ) (bytes : List ℕ) (sets : Entry) → AreSets n bytes sets → sets_seen (split_sets n None bytes) ≡ sets
sets_view n bytes sets h =
    let few : length (flat_map rrset_bytes sets) < 2 ^ 16 = subst (λ (l : List ℕ). length l < 2 ^ 16) h.laid h.few in
    ap (λ (k : ℕ). sets_seen (split_sets k None bytes)) h.counted
    ∙ ap (λ (l : List ℕ). sets_seen (split_sets (length sets) None l)) (h.laid ∙ sym (append-nil (flat_map rrset_bytes sets)))
    ∙ ap sets_seen (sets_back sets None [] h.rising few)

-- an RRset, and the others
pub record SetsOn (n : ℕ) (bytes : List ℕ) : Type 0 where
  pub set : Rrset
  pub left : Entry
  pub is : sets_seen (split_sets n None bytes) ≡ set ∷ left
  pub front : BeginsWithSet bytes set (flat_map rrset_bytes left)
  pub next : (m : ℕ) (behind : List ℕ) → m + 1 ≡ n → behind ≡ flat_map rrset_bytes left → AreSets m behind left

pub sets_on : (n : ℕ) (bytes : List ℕ) (sets : Entry) → AreSets n bytes sets → 0 < n → SetsOn n bytes
sets_on n bytes [] h l = absurd (omega (arith, h.counted))
sets_on n bytes (s ∷ left) h l =
    let few : length (rrset_bytes s ++ flat_map rrset_bytes left) < 2 ^ 16 = subst (λ (l : List ℕ). length l < 2 ^ 16) h.laid h.few in
    let parts = length-append (rrset_bytes s) (flat_map rrset_bytes left) in
    record {
      set = s;
      left = left;
      is = sets_view n bytes (s ∷ left) h;
      front = record { proper = h.rising.0; few = (let f = few_in_set s in omega arith); laid = h.laid };
      next = λ m behind k e. record {
        rising = rising_sets_rest s.rtype left h.rising.1;
        few = subst (λ (l : List ℕ). length l < 2 ^ 16) (sym e) (omega arith);
        counted = (let c : n ≡ suc (length left) = h.counted in omega arith);
        laid = e;
      };
    }

pub sets_ended : (n : ℕ) (bytes : List ℕ) (sets : Entry) → AreSets n bytes sets → n ≡ 0 → sets_seen (split_sets n None bytes) ≡ []
sets_ended n bytes [] h e = sets_view n bytes [] h
sets_ended n bytes (s ∷ left) h e = absurd (let c : n ≡ suc (length left) = h.counted in omega arith)

-- ---- an item

no_sets : (bytes : List ℕ) → bytes ≡ [] → AreSets 0 bytes []
no_sets bytes e = record { rising = tt; few = subst (λ (l : List ℕ). length l < 2 ^ 16) (sym e) (omega arith); counted = refl; laid = e }

pub says_nothing : (owner : Name) (bytes : List ℕ) (entry : Entry) → SaysEntry owner bytes entry → bytes ≡ [] → entry ≡ []
says_nothing owner [] entry h e = h
says_nothing owner (b ∷ bytes) entry h e = absurd cc

pub says_item : (owner : Name) (bytes : List ℕ) (entry : Entry) → SaysEntry owner bytes entry → 0 < length bytes → IsItem bytes owner entry
says_item owner [] entry h l = absurd (omega arith)
says_item owner (b ∷ bytes) entry h l = h

item_laid : (owner : Name) (bytes : List ℕ) (entry : Entry) → IsItem bytes owner entry → bytes ≡ wire owner ++ (to_be_bytes w16 (length entry) ++ flat_map rrset_bytes entry)
item_laid owner bytes entry h = h.octets ∙ append_assoc (wire owner) (to_be_bytes w16 (length entry)) (flat_map rrset_bytes entry)

pub item_long : (owner : Name) (bytes : List ℕ) (entry : Entry) → IsItem bytes owner entry → length (wire owner) + 2 ≤ length bytes
item_long owner bytes entry h =
    subst (λ (l : List ℕ). length (wire owner) + 2 ≤ length l) (sym (item_laid owner bytes entry h))
    (omega (arith, length-append (wire owner) (to_be_bytes w16 (length entry) ++ flat_map rrset_bytes entry)))

-- the number of RRsets, and these
pub item_sets : (owner : Name) (bytes entry_bytes count sets_bytes : List ℕ) (n : ℕ) (entry : Entry) → IsItem bytes owner entry → n ≡ length (wire owner) → entry_bytes ≡ drop n bytes → count ≡ take 2 entry_bytes → sets_bytes ≡ drop 2 entry_bytes
    → AreSets (from_be_bytes w16 count) sets_bytes entry
item_sets owner bytes entry_bytes count sets_bytes n entry h k a b d =
    let e = item_laid owner bytes entry h in
    let x : entry_bytes ≡ to_be_bytes w16 (length entry) ++ flat_map rrset_bytes entry = a ∙ ap (drop n) e ∙ drop_at (wire owner) (to_be_bytes w16 (length entry) ++ flat_map rrset_bytes entry) n (sym k) in
    let y : sets_bytes ≡ flat_map rrset_bytes entry = d ∙ ap (drop 2) x in
    let size = ap (λ (l : List ℕ). length l) h.octets in
    let parts = length-append (wire owner ++ to_be_bytes w16 (length entry)) (flat_map rrset_bytes entry) in
    let most = few_in_item owner entry in
    let short = h.short in
    record {
      rising = h.proper;
      few = subst (λ (l : List ℕ). length l < 2 ^ 16) (sym y) (omega arith);
      counted = ap (from_be_bytes w16) (b ∙ ap (take 2) x) ∙ from_be_bytes-to_be_bytes_2 (length entry) (omega arith);
      laid = y;
    }

pub nothing_seen : (owner : Name) (bytes : List ℕ) (entry : Entry) → SaysEntry owner bytes entry → bytes ≡ [] → sets_seen (split_sets 0 None bytes) ≡ entry
nothing_seen owner bytes entry h e = sets_view 0 bytes [] (no_sets bytes e) ∙ sym (says_nothing owner bytes entry h e)

-- the octets of an item say its entry
pub item_says : (owner : Name) (bytes : List ℕ) (entry : Entry) → IsItem bytes owner entry → SaysEntry owner bytes entry
item_says owner [] entry h = absurd (let l = item_long owner [] entry h in omega arith)
item_says owner (b ∷ bytes) entry h = h

pub not_nil : (n : ℕ) → eqb n 0 ≡ false → 0 < n
not_nil zero h = absurd cc
not_nil (suc n) h = omega arith

pub nothing_there : (bytes : List ℕ) → bytes ≡ [] → (sets : Entry) × AreSets 0 bytes sets
nothing_there bytes e = ([], no_sets bytes e)

-- ---- the RRset of a type

pub found_here : (rtype : ℕ) (all now left : Entry) (s : Rrset) → rrset_of rtype all ≡ rrset_of rtype now → now ≡ s ∷ left → s.rtype ≡ rtype → rrset_of rtype all ≡ Some s
found_here rtype all now left s h e t = let b : ℕ = 0 in h ∙ ap (rrset_of rtype) e ∙ here rtype s left t
  where
    here : (rtype : ℕ) (s : Rrset) (left : Entry) → s.rtype ≡ rtype → rrset_of rtype (s ∷ left) ≡ Some s
    here rtype s left t = grind arith

pub found_on : (rtype : ℕ) (all now left : Entry) (s : Rrset) → rrset_of rtype all ≡ rrset_of rtype now → now ≡ s ∷ left → (s.rtype ≡ rtype → ⊥) → rrset_of rtype all ≡ rrset_of rtype left
found_on rtype all now left s h e t = h ∙ ap (rrset_of rtype) e ∙ on rtype s left t
  where
    on : (rtype : ℕ) (s : Rrset) (left : Entry) → (s.rtype ≡ rtype → ⊥) → rrset_of rtype (s ∷ left) ≡ rrset_of rtype left
    on rtype s left t = grind arith
