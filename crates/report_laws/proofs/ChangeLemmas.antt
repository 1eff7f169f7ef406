-- A transaction leaves a zone that can be dumped one.
use Rattle.std.proofs.Common.{◌≡◌, ◌∙◌, ℕ, ◌<◌, ◌≤◌, Bool, true, false, cond, not, ◌&&◌, eqb, ltb, eqb-true, List, [], ◌∷◌, length, Option, Some, None, Result, Ok, Err, refl, sym, ap, subst, arith}
use Rattle.std.proofs.lemmas.Bool.Decides.{nat_tests}
use borrow.Author.Tests.{ltb-false}
use Rattle.std.specs.Prelude.{is_some, is_none}
use Rattle.std.specs.List.{AllByRecursion}
use Rattle.std.specs.Map.{remove_entry}
use Rattle.std.specs.BTreeMap.{insert_entry, is_at}
use Rattle.zone_model.specs.Names.{Name, name_cmp, same_name}
use Rattle.zone_model.specs.Records.{Rrset, Entry, rrset_of, item, with_rr, without_rr, without_set, IsEntry, item_limit}
use Rattle.zone_model.specs.Versions.{Version, Operation, Add, DeleteName, DeleteSet, DeleteRecord, Addition, owned, put, has_soa, holds, with_soa, with_added, is_lone, is_low_soa, fitting, keeping_soa, owner_of, changed, and_then, apply, all_applied, soa_type}
use Rattle.zone_model.specs.Transactions.{Transaction, all_met, whole}
use Rattle.zone_model.specs.declared.Refusal.{Refusal}
use Rattle.zone_model.specs.declared.Refusal.TheVariants.{Prereq, Soa, Cname, Long}
use Rattle.zone_model.specs.MasterFile.{soa_count}
use Rattle.zone_model.specs.Rows.{Row}
use Rattle.zone_model.proofs.NameLemmas.{same_name-true}
use Rattle.zone_model.proofs.EntryLaws.{entry_with, entry_without, entry_without_set}
use Rattle.master_file.specs.Rows.{IsRecord, CanBeDumped}
use Rattle.report_laws.specs.Changes.{IsInside, IsSaid, AllSaid, row_of}
use Rattle.report_laws.proofs.EntryLemmas.{AllSets, IsRr, sets_with, sets_without, sets_without_set, one_soa, few_with, few_without, few_without_set, soa_stays, soa_joins, lone_without, lone_without_set, item_without, item_without_set}
use Rattle.report_laws.proofs.WellFormedLemmas.{IsOwned, IsWellFormed, Owns, owns, well_formed_put, well_formed_left, put_owned, others_put, others_left, can_be_dumped, well_formed, soa_there, owns_nothing}

-- a record of its owner, as an RRset of one
pub rr_is : (origin : Name) (row : Row) → IsRecord row → (eqb row.rtype soa_type && not (same_name row.owner origin)) ≡ false → IsRr origin row.owner row.rtype row.ttl row.octets
rr_is origin row h place = record { number = h.number; kind = h.kind; time = h.time; each = (record { bytes = h.bytes; short = h.short; form = h.form }, tt); place = place }

abbrev HasSoa : Entry → Type 0
HasSoa entry = is_some (rrset_of 6 entry) ≡ true

-- ---- an addition

-- an entry with one more record, perhaps too long, and perhaps with an alias beside others
pub record Joins (origin owner : Name) (before after : Entry) : Type 0 where
  pub few : soa_count after ≤ 1
  pub proper : IsEntry after
  pub sets : AllSets origin owner after
  pub soa : HasSoa before → HasSoa after

rr_joins : (origin owner : Name) (rtype ttl : ℕ) (octets : List ℕ) (entry : Entry) → (rtype ≡ 6 → ⊥) → IsRr origin owner rtype ttl octets → Owns origin owner entry → Joins origin owner entry (with_rr rtype ttl octets entry)
rr_joins origin owner rtype ttl octets entry n rr o = record {
  few = few_with rtype ttl octets entry n o.proper o.few;
  proper = entry_with rtype ttl octets entry rr.number (let t = rr.time in omega arith) rr.each.0.short o.proper;
  sets = sets_with origin owner rtype ttl octets entry rr o.sets;
  soa = soa_stays rtype ttl octets entry;
}

soa_takes_place : (origin owner : Name) (ttl : ℕ) (octets : List ℕ) (entry : Entry) → IsRr origin owner 6 ttl octets → Owns origin owner entry → Joins origin owner entry (with_rr 6 ttl octets (without_set 6 entry))
soa_takes_place origin owner ttl octets entry rr o = record {
  few = one_soa ttl octets entry o.proper;
  proper = entry_with 6 ttl octets (without_set 6 entry) rr.number (let t = rr.time in omega arith) rr.each.0.short (entry_without_set 6 entry o.proper);
  sets = sets_with origin owner 6 ttl octets (without_set 6 entry) rr (sets_without_set origin owner 6 entry o.sets);
  soa = λ h. soa_joins ttl octets (without_set 6 entry);
}

stays : (origin owner : Name) (entry : Entry) → Owns origin owner entry → Joins origin owner entry entry
stays origin owner entry o = record { few = o.few; proper = o.proper; sets = o.sets; soa = λ h. h }

soa_added : (origin owner : Name) (ttl : ℕ) (octets : List ℕ) (entry : Entry) → IsRr origin owner 6 ttl octets → Owns origin owner entry → Joins origin owner entry (with_soa ttl octets entry)
soa_added origin owner ttl octets entry rr o = by_test (holds soa_type octets entry)
  where
    by_test : (b : Bool) → Joins origin owner entry (cond b entry (with_rr soa_type ttl octets (without_set soa_type entry)))
    by_test true = stays origin owner entry o
    by_test false = soa_takes_place origin owner ttl octets entry rr o

added : (origin : Name) (a : Addition) (entry : Entry) → IsRr origin a.owner a.rtype a.ttl a.octets → Owns origin a.owner entry → Joins origin a.owner entry (with_added a entry)
added origin a entry rr o = by_type (eqb a.rtype 6) refl
  where
    by_type : (b : Bool) → eqb a.rtype 6 ≡ b → Joins origin a.owner entry (cond b (with_soa a.ttl a.octets entry) (with_rr a.rtype a.ttl a.octets entry))
    by_type true e = soa_added origin a.owner a.ttl a.octets entry (subst (λ (t : ℕ). IsRr origin a.owner t a.ttl a.octets) (eqb-true a.rtype 6 e) rr) o
    by_type false e = rr_joins origin a.owner a.rtype a.ttl a.octets entry (λ same. grind (arith, nat_tests)) rr o

-- ---- what an operation makes of an entry

record Changes (origin owner : Name) (before after : Entry) : Type 0 where
  owns : Owns origin owner after
  soa : HasSoa before → HasSoa after

fits : (origin owner : Name) (before joined next : Entry) → Joins origin owner before joined → fitting owner joined ≡ Ok next → Changes origin owner before next
fits origin owner before joined next j e = by_lone (is_lone joined) refl e
  where
    by_length : is_lone joined ≡ true → (b : Bool) → ltb item_limit (length (item owner joined)) ≡ b → cond b (Err Long) (Ok joined) ≡ Ok next → Changes origin owner before next
    by_length l true t h = absurd cc
    by_length l false t h =
        let is : joined ≡ next = cc in
        subst (λ (x : Entry). Changes origin owner before x) is
        (record { owns = record { lone = l; few = j.few; proper = j.proper; short = λ some. ltb-false item_limit (length (item owner joined)) t; sets = j.sets }; soa = j.soa })

    by_lone : (b : Bool) → is_lone joined ≡ b → cond (not b) (Err Cname) (cond (ltb item_limit (length (item owner joined))) (Err Long) (Ok joined)) ≡ Ok next → Changes origin owner before next
    by_lone true l h = by_length l (ltb item_limit (length (item owner joined))) refl h
    by_lone false l h = absurd cc

keeps : (origin owner : Name) (before left next : Entry) → Owns origin owner left → keeping_soa before left ≡ Ok next → Changes origin owner before next
keeps origin owner before left next o e = by_soas (is_some (rrset_of 6 before)) (is_some (rrset_of 6 left)) refl refl (losing (rrset_of 6 left)) e
  where
    losing : (s : Option Rrset) → is_none s ≡ not (is_some s)
    losing None = refl
    losing (Some s) = refl

    let_stand : (HasSoa before → HasSoa left) → left ≡ next → Changes origin owner before next
    let_stand soa is = subst (λ (x : Entry). Changes origin owner before x) is (record { owns = o; soa = soa })

    by_soas : (a b : Bool) → is_some (rrset_of 6 before) ≡ a → is_some (rrset_of 6 left) ≡ b → is_none (rrset_of 6 left) ≡ not (is_some (rrset_of 6 left)) → cond (is_some (rrset_of 6 before) && is_none (rrset_of 6 left)) (Err Soa) (Ok left) ≡ Ok next → Changes origin owner before next
    by_soas true true p q n h =
        let_stand (λ x. q) (let k : ◌≡◌ {A = Result Entry Refusal} (Ok left) (Ok next) = sym (ap (λ (b : Bool). cond b (Err Soa) (Ok left)) (ap (λ (b : Bool). b && is_none (rrset_of 6 left)) p ∙ n ∙ ap not q)) ∙ h in cc)
    by_soas true false p q n h =
        let k : ◌≡◌ {A = Result Entry Refusal} (Err Soa) (Ok next) = sym (ap (λ (b : Bool). cond b (Err Soa) (Ok left)) (ap (λ (b : Bool). b && is_none (rrset_of 6 left)) p ∙ n ∙ ap not q)) ∙ h in absurd cc
    by_soas false b p q n h =
        let_stand (λ x. absurd cc) (let k : ◌≡◌ {A = Result Entry Refusal} (Ok left) (Ok next) = sym (ap (λ (b : Bool). cond b (Err Soa) (Ok left)) (ap (λ (b : Bool). b && is_none (rrset_of 6 left)) p)) ∙ h in cc)

-- an entry that has something had something before a part of it left
some_before : (owner : Name) (left before : Entry) → (before ≡ [] → left ≡ []) → 0 < length left → 0 < length before
some_before owner left [] none some = let e : length left ≡ 0 = ap (λ (x : Entry). length x) (none refl) in absurd (omega arith)
some_before owner left (s ∷ before) none some = omega arith

set_left : (origin owner : Name) (rtype : ℕ) (before : Entry) → Owns origin owner before → Owns origin owner (without_set rtype before)
set_left origin owner rtype before o = record {
  lone = lone_without_set rtype before o.lone;
  few = few_without_set rtype before o.proper o.few;
  proper = entry_without_set rtype before o.proper;
  short = λ some. let le = o.short (some_before owner (without_set rtype before) before (λ e. ap (without_set rtype) e) some) in omega (arith, item_without_set owner rtype before);
  sets = sets_without_set origin owner rtype before o.sets;
}

record_left : (origin owner : Name) (rtype : ℕ) (octets : List ℕ) (before : Entry) → Owns origin owner before → Owns origin owner (without_rr rtype octets before)
record_left origin owner rtype octets before o = record {
  lone = lone_without rtype octets before o.lone;
  few = few_without rtype octets before o.proper o.few;
  proper = entry_without rtype octets before o.proper;
  short = λ some. let le = o.short (some_before owner (without_rr rtype octets before) before (λ e. ap (without_rr rtype octets) e) some) in omega (arith, item_without owner rtype octets before);
  sets = sets_without origin owner rtype octets before o.sets;
}

changes : (origin : Name) (operation : Operation) (before next : Entry) → IsSaid origin operation → Owns origin (owner_of operation) before → changed origin operation before ≡ Ok next → Changes origin (owner_of operation) before next
changes origin (Add a) before next said o e = by_low (is_low_soa origin a) refl e
  where
    by_low : (b : Bool) → is_low_soa origin a ≡ b → cond b (Err Soa) (fitting a.owner (with_added a before)) ≡ Ok next → Changes origin a.owner before next
    by_low true l h = absurd cc
    by_low false l h = fits origin a.owner before (with_added a before) next (added origin a before (rr_is origin (row_of a) said.1 l) o) h
changes origin (DeleteName owner) before next said o e = keeps origin owner before [] next (owns_nothing origin owner) e
changes origin (DeleteSet owner rtype) before next said o e = keeps origin owner before (without_set rtype before) next (set_left origin owner rtype before o) e
changes origin (DeleteRecord owner rtype octets) before next said o e = keeps origin owner before (without_rr rtype octets before) next (record_left origin owner rtype octets before o) e

inside : (origin : Name) (operation : Operation) → IsSaid origin operation → IsInside origin (owner_of operation)
inside origin (Add a) said = said.0
inside origin (DeleteName owner) said = said
inside origin (DeleteSet owner rtype) said = said
inside origin (DeleteRecord owner rtype octets) said = said

-- ---- and of a version

-- a version whose names own what a zone's may, with an SOA
pub record IsZone (origin : Name) (version : Version) : Type 0 where
  pub well_formed : IsWellFormed origin version
  pub soa : has_soa origin version ≡ true

pub owned_is : (origin owner : Name) (entry : Entry) → 0 < length entry → IsInside origin owner → Owns origin owner entry → IsOwned origin (owner, entry)
owned_is origin owner entry some is o =
    record { under = is.under; lone = o.lone; few = o.few; item = record { name = is.name; some = some; proper = o.proper; octets = refl; short = o.short some }; sets = o.sets }

-- an entry is put that has an SOA where what it takes the place of has one
is_put : (origin owner : Name) (entry : Entry) (version : Version) → IsInside origin owner → Changes origin owner (owned owner version) entry → IsZone origin version → IsZone origin (put owner entry version)
is_put origin owner [] version is c z = record { well_formed = well_formed_left origin (is_at (name_cmp owner)) version z.well_formed; soa = by_name (same_name origin owner) refl }
  where
    by_name : (b : Bool) → same_name origin owner ≡ b → has_soa origin (remove_entry (is_at (name_cmp owner)) version) ≡ true
    by_name true e =
        let bad : HasSoa [] = c.soa (subst (λ (n : Name). HasSoa (owned n version)) (same_name-true origin owner e) z.soa) in absurd cc
    by_name false e = ap (λ (x : Entry). is_some (rrset_of 6 x)) (others_left origin owner version e) ∙ z.soa
is_put origin owner (s ∷ entry) version is c z =
    record { well_formed = well_formed_put origin owner (s ∷ entry) version (owned_is origin owner (s ∷ entry) (omega arith) is c.owns) z.well_formed; soa = by_name (same_name origin owner) refl }
  where
    by_name : (b : Bool) → same_name origin owner ≡ b → has_soa origin (insert_entry name_cmp version owner (s ∷ entry)) ≡ true
    by_name true e =
        let same = same_name-true origin owner e in
        let there : HasSoa (s ∷ entry) = c.soa (subst (λ (n : Name). HasSoa (owned n version)) same z.soa) in
        subst (λ (n : Name). HasSoa (owned n (insert_entry name_cmp version owner (s ∷ entry)))) (sym same) (subst HasSoa (sym (put_owned owner (s ∷ entry) version)) there)
    by_name false e = ap (λ (x : Entry). is_some (rrset_of 6 x)) (others_put origin owner (s ∷ entry) version e) ∙ z.soa

pub applied : (origin : Name) (operation : Operation) (version next : Version) → IsSaid origin operation → IsZone origin version → apply origin operation version ≡ Ok next → IsZone origin next
applied origin operation version next said z e = by_result (changed origin operation (owned owner version)) refl e
  where
    owner : Name
    owner = owner_of operation

    by_result : (r : Result Entry Refusal) → changed origin operation (owned owner version) ≡ r → and_then r (λ entry. Ok (put owner entry version)) ≡ Ok next → IsZone origin next
    by_result (Err refusal) c h = absurd cc
    by_result (Ok entry) c h =
        let is : put owner entry version ≡ next = cc in
        subst (λ (v : Version). IsZone origin v) is
        (is_put origin owner entry version (inside origin operation said) (changes origin operation (owned owner version) entry said (owns origin owner version z.well_formed.each) c) z)

pub all_said : (origin : Name) (operations : List Operation) (version next : Version) → AllByRecursion (IsSaid origin) operations → IsZone origin version → all_applied origin operations version ≡ Ok next → IsZone origin next
all_said origin [] version next said z e = let is : version ≡ next = cc in subst (λ (v : Version). IsZone origin v) is z
all_said origin (first ∷ rest) version next said z e = by_result (λ (v : Version). all_said origin rest v next said.1) (apply origin first version) refl e
  where
    by_result : ((v : Version) → IsZone origin v → all_applied origin rest v ≡ Ok next → IsZone origin next) → (r : Result Version Refusal) → apply origin first version ≡ r → and_then r (all_applied origin rest) ≡ Ok next → IsZone origin next
    by_result others (Err refusal) a h = absurd cc
    by_result others (Ok v) a h = others v (applied origin first version v said.0 z a) h

pub zone_whole : (origin : Name) (t : Transaction) (version next : Version) → AllSaid origin t → IsZone origin version → whole origin t version ≡ Ok next → IsZone origin next
zone_whole origin t version next said z e = by_needs (all_met version t.needs) e
  where
    by_needs : (b : Bool) → cond b (all_applied origin t.operations version) (Err Prereq) ≡ Ok next → IsZone origin next
    by_needs true h = all_said origin t.operations version next said z h
    by_needs false h = absurd cc

pub is_zone : (origin : Name) (version : Version) → CanBeDumped origin version → IsZone origin version
is_zone origin version h = record { well_formed = well_formed origin version h; soa = soa_there origin version h }

pub whole_dumped : (origin : Name) (t : Transaction) (version next : Version) → whole origin t version ≡ Ok next → CanBeDumped origin version → AllSaid origin t → CanBeDumped origin next
whole_dumped origin t version next e h said = let z = zone_whole origin t version next said (is_zone origin version h) e in can_be_dumped origin next h.name z.well_formed z.soa
