-- The difference of two zones makes of the one before the one after.
use Rattle.std.proofs.Common.{◌≡◌, ◌∙◌, ℕ, ◌<◌, ◌≤◌, Bool, true, false, not, ◌&&◌, cond, eqb, List, [], ◌∷◌, ◌++◌, length, refl, sym, ap, subst, arith, Option, Some, None, Result, Ok, Err}
use borrow.Author.Tests.{eqb-true}
use Rattle.std.specs.Cmp.{first_so}
use Rattle.std.specs.List.{AllByRecursion, list_any}
use Rattle.std.specs.List.Sorted.{IsStrictlySortedBy}
use Rattle.std.specs.Option.{is_some}
use Rattle.std.specs.declared.cmp.Ordering.{Ordering}
use Rattle.std.specs.declared.cmp.Ordering.TheVariants.{Less, Equal, Greater}
use Rattle.std.specs.Ordering.{is_eq, nat_cmp, match_ordering}
use Rattle.zone_model.specs.Names.{Name, same_name}
use Rattle.zone_model.specs.Records.{Rrset, Entry, rrset_of, changed_at, fresh}
use Rattle.zone_model.specs.Versions.{Version, Operation, DeleteName, owned, put, has_soa, all_applied, and_then}
use Rattle.zone_model.specs.MasterFile.{soa_count}
use Rattle.zone_model.specs.declared.Refusal.{Refusal}
use Rattle.zone_change.proofs.FoundLaws.{is_found, left_alone, same_set}
use Rattle.master_file.specs.Rows.{CanBeDumped}
use Rattle.report_laws.proofs.EntryLemmas.{IsData, IsSet}
use Rattle.report_laws.proofs.WellFormedLemmas.{IsOwned, IsWellFormed, well_formed, soa_there, owned_at}
use Rattle.report_laws.proofs.FirstLemmas.{zone_first}
use Rattle.zone_diff.specs.declared.Serial.{Serial}
use Rattle.zone_diff.specs.declared.Serial.TheVariants.{Keep}
use Rattle.zone_diff.specs.Serials.{counts_as}
use Rattle.zone_diff.specs.Differences.{stays, staying, entry_difference, merged, difference, with_set, made_entry, made}
use Rattle.zone_diff.proofs.RecordLemmas.{it_is, or_none}
use Rattle.zone_diff.proofs.FitLemmas.{IsFit}
use Rattle.zone_diff.proofs.SoaLemmas.{OneSoa, soa_is, SoaPair}
use Rattle.zone_diff.proofs.SoaForms.{soa_long}
use Rattle.zone_diff.proofs.EntryLaws.{Exchange, entry_exchanged, stays_counts}
use Rattle.zone_diff.proofs.VersionLemmas.{self_name, turned, IsAhead, stood_is, put_stood, stood_applied, behind_applied, both_applied, applied_on, entry_of_name, difference_behind, IsPlainPair, IsPlainVersion, plain_difference}

-- ---- what a zone's names own

pub found_all : (P : Rrset → Type 0) (t : ℕ) (entry : Entry) (s : Rrset) → AllByRecursion P entry → rrset_of t entry ≡ Some s → P s
found_all P t [] s h e = absurd cc
found_all P t (x ∷ entry) s h e = by_test (λ f. found_all P t entry s h.1 f) (eqb x.rtype t) e
  where
    by_test : (rrset_of t entry ≡ Some s → P s) → (b : Bool) → cond b (Some x) (rrset_of t entry) ≡ Some s → P s
    by_test more true f = let same : x ≡ s = cc in subst P same h.0
    by_test more false f = more f

fit_of : (origin : Name) (pair : Name × Entry) → IsOwned origin pair → IsFit pair.0 pair.1
fit_of origin pair o = record { lone = o.lone; short = o.item.short }

no_soa_at : (origin : Name) (pair : Name × Entry) → IsOwned origin pair → same_name pair.0 origin ≡ false → rrset_of 6 pair.1 ≡ None
no_soa_at origin pair o other = by_found (rrset_of 6 pair.1) refl
  where
    by_found : (f : Option Rrset) → rrset_of 6 pair.1 ≡ f → f ≡ None
    by_found None e = refl
    by_found (Some s) e =
        let set = found_all (IsSet origin pair.0) 6 pair.1 s o.sets e in
        let is : s.rtype ≡ 6 = (is_found None 6 pair.1 s o.item.proper e).1 in
        let bad : (eqb 6 6 && not false) ≡ false = subst (λ (b : Bool). (eqb 6 6 && not b) ≡ false) other (subst (λ (t : ℕ). (eqb t 6 && not (same_name pair.0 origin)) ≡ false) is set.place) in
        absurd cc

count_of : (entry : Entry) (s : Rrset) → rrset_of 6 entry ≡ Some s → soa_count entry ≡ length s.records
count_of entry s e = rw e refl

one_of : (records : List (List ℕ)) → 0 < length records → length records ≤ 1 → (octets : List ℕ) × (records ≡ octets ∷ [])
one_of [] some few = absurd (omega arith)
one_of (x ∷ []) some few = (x, refl)
one_of (x ∷ y ∷ more) some few = absurd (omega arith)

one_soa : (origin : Name) (pair : Name × Entry) → IsOwned origin pair → (s : Rrset) → rrset_of 6 pair.1 ≡ Some s → OneSoa s
one_soa origin pair o s e =
    let found = is_found None 6 pair.1 s o.item.proper e in
    let few : length s.records ≤ 1 = subst (λ (n : ℕ). n ≤ 1) (count_of pair.1 s e) o.few in
    let one = one_of s.records found.0.some few in
    let set = found_all (IsSet origin pair.0) 6 pair.1 s o.sets e in
    let each : AllByRecursion (IsData s.rtype) (one.0 ∷ []) = subst (AllByRecursion (IsData s.rtype)) one.1 set.each in
    let data_is : IsData 6 one.0 = subst (λ (t : ℕ). IsData t one.0) found.1 each.0 in
    record { octets = one.0; rtype_is = found.1; records_are = one.1; long = soa_long one.0 data_is.bytes data_is.form }

-- names behind the origin own no SOA
plain_rest : (origin : Name) (rest : Version) → IsAhead origin rest → AllByRecursion (IsOwned origin) rest → AllByRecursion IsPlainPair rest
plain_rest origin [] h o = tt
plain_rest origin (pair ∷ rest) h o =
    let one = o.0 in
    (record { proper = one.item.proper; some = one.item.some; fit = fit_of origin pair o.0; no_soa = no_soa_at origin pair o.0 (ap is_eq (turned origin pair.0 h.0)) }, plain_rest origin rest h.1 o.1)

soa_pair : (origin : Name) (x y : Option Rrset) → is_some x ≡ true → is_some y ≡ true → ((s : Rrset) → x ≡ Some s → OneSoa s) → ((t : Rrset) → y ≡ Some t → OneSoa t) → SoaPair origin origin x y
soa_pair origin None y a b f g = absurd cc
soa_pair origin (Some s) None a b f g = absurd cc
soa_pair origin (Some s) (Some t) a b f g = (f s refl, g t refl, ap is_eq (self_name origin))

-- ---- a zone that begins with its origin

record Begins (origin : Name) (entry : Entry) (rest : Version) : Type 0 where
  own : IsOwned origin (origin, entry)
  soa : is_some (rrset_of 6 entry) ≡ true
  ahead : IsAhead origin rest
  plain : IsPlainVersion rest

begins : (origin : Name) (entry : Entry) (rest : Version) → IsWellFormed origin ((origin, entry) ∷ rest) → has_soa origin ((origin, entry) ∷ rest) ≡ true → Begins origin entry rest
unfolding IsStrictlySortedBy
begins origin entry rest w s = record {
  own = w.each.0;
  soa = sym (ap (λ (e : Entry). is_some (rrset_of 6 e)) (owned_at origin entry rest)) ∙ s;
  ahead = w.rising.0;
  plain = record { rising = w.rising.1; each = plain_rest origin rest w.rising.0 w.each.1 };
}

some_placed : (t : ℕ) (s : Rrset) (entry : Entry) → 0 < length (changed_at t (λ f. s ∷ []) entry)
some_placed t s [] = omega arith
some_placed t s (x ∷ rest) = by_order (nat_cmp t x.rtype)
  where
    by_order : (o : Ordering) → 0 < length (match_ordering o (s ∷ (x ∷ rest)) (s ∷ rest) (x ∷ changed_at t (λ f. s ∷ []) rest))
    by_order Less = omega arith
    by_order Equal = omega arith
    by_order Greater = omega arith

some_made : (k : Option Rrset) (entry : Entry) → 0 < length entry → 0 < length (with_set k entry)
some_made None entry some = some
some_made (Some s) entry some = some_placed s.rtype s entry

exchange_at : (origin : Name) (e f : Entry) (rest more : Version) → Begins origin e rest → Begins origin f more → Exchange origin origin e f
exchange_at origin e f rest more b c =
    let own = b.own in
    let other = c.own in
    record {
      before_is = own.item.proper;
      after_is = other.item.proper;
      fit = fit_of origin (origin, f) c.own;
      soa = soa_pair origin (rrset_of 6 e) (rrset_of 6 f) b.soa c.soa (one_soa origin (origin, e) b.own) (one_soa origin (origin, f) c.own);
    }

made_is : (mode : Serial) (origin : Name) (e f : Entry) (rest more : Version) → Begins origin e rest → Begins origin f more → made mode origin ((origin, e) ∷ rest) ((origin, f) ∷ more) ≡ (origin, made_entry mode e f) ∷ more
made_is mode origin e f rest more b c =
    let other = c.own in
    ap (λ (x : Entry). put origin (made_entry mode x (owned origin ((origin, f) ∷ more))) ((origin, f) ∷ more)) (owned_at origin e rest)
    ∙ ap (λ (x : Entry). put origin (made_entry mode e x) ((origin, f) ∷ more)) (owned_at origin f more)
    ∙ ap (put origin (made_entry mode e f)) (sym (stood_is origin f more other.item.some))
    ∙ put_stood origin (made_entry mode e f) f more c.ahead
    ∙ stood_is origin (made_entry mode e f) more (some_made (staying mode (rrset_of 6 e) (rrset_of 6 f)) f other.item.some)

at_first : (mode : Serial) (origin : Name) (e f : Entry) (rest more : Version) → Begins origin e rest → Begins origin f more
    → all_applied origin (difference mode ((origin, e) ∷ rest) ((origin, f) ∷ more)) ((origin, e) ∷ rest) ≡ Ok (made mode origin ((origin, e) ∷ rest) ((origin, f) ∷ more))
at_first mode origin e f rest more b c =
    let own = b.own in
    let other = c.own in
    let m : Entry = made_entry mode e f in
    let is_merged : difference mode ((origin, e) ∷ rest) ((origin, f) ∷ more) ≡ entry_difference mode origin e f ++ difference mode rest more =
    ap (λ (o : Ordering). match_ordering o (DeleteName origin ∷ difference mode rest ((origin, f) ∷ more)) (entry_difference mode origin e f ++ difference mode rest more) (entry_difference mode origin [] f ++ merged mode (origin, e) (difference mode rest) more)) (self_name origin) in
    let first : all_applied origin (entry_difference mode origin e f) ((origin, e) ∷ rest) ≡ Ok ((origin, made_entry mode e f) ∷ rest) =
    ap (all_applied origin (entry_difference mode origin e f)) (sym (stood_is origin e rest own.item.some))
    ∙ stood_applied origin origin (entry_difference mode origin e f) e (made_entry mode e f) rest b.ahead (entry_of_name mode origin e f) (entry_exchanged mode origin origin e f (exchange_at origin e f rest more b c))
    ∙ ap (λ (v : Version). Ok v) (stood_is origin (made_entry mode e f) rest (some_made (staying mode (rrset_of 6 e) (rrset_of 6 f)) f other.item.some)) in
    ap (λ (l : List Operation). all_applied origin l ((origin, e) ∷ rest)) is_merged
    ∙ applied_on origin (entry_difference mode origin e f) (difference mode rest more) ((origin, e) ∷ rest) ((origin, made_entry mode e f) ∷ rest) first
    ∙ behind_applied origin (difference mode rest more) (origin, made_entry mode e f) rest more (difference_behind mode origin rest more b.ahead c.ahead) (plain_difference mode origin rest more b.plain c.plain)
    ∙ ap (λ (v : Version). Ok v) (sym (made_is mode origin e f rest more b c))

begun : (origin : Name) (version : Version) → CanBeDumped origin version → (entry : Entry) → (rest : Version) → version ≡ (origin, entry) ∷ rest → Begins origin entry rest
begun origin version h entry rest e =
    begins origin entry rest (subst (IsWellFormed origin) e (well_formed origin version h)) (subst (λ (v : Version). has_soa origin v ≡ true) e (soa_there origin version h))

-- ---- the law

pub difference_makes : (mode : Serial) (origin : Name) (before after : Version) → CanBeDumped origin before → CanBeDumped origin after → all_applied origin (difference mode before after) before ≡ Ok (made mode origin before after)
difference_makes mode origin before after h k =
    let a = zone_first origin before h in
    let b = zone_first origin after k in
    subst (λ (v : Version). all_applied origin (difference mode v after) v ≡ Ok (made mode origin v after)) (sym a.2)
    (subst (λ (w : Version). all_applied origin (difference mode ((origin, a.0) ∷ a.1) w) ((origin, a.0) ∷ a.1) ≡ Ok (made mode origin ((origin, a.0) ∷ a.1) w)) (sym b.2)
    (at_first mode origin a.0 b.0 a.1 b.1 (begun origin before h a.0 a.1 a.2) (begun origin after k b.0 b.1 b.2)))

-- ---- where each serial counts, it is the one after

same_soa : (s t : Rrset) → OneSoa s → OneSoa t → list_any (stays Keep s t.ttl) t.records ≡ true → s ≡ t
same_soa s t one other e =
    let a : stays Keep s t.ttl other.octets ≡ true = or_none (stays Keep s t.ttl other.octets) (subst (λ (l : List (List ℕ)). list_any (stays Keep s t.ttl) l ≡ true) other.records_are e) in
    let time : s.ttl ≡ t.ttl = eqb-true s.ttl t.ttl (first_so (eqb s.ttl t.ttl) (list_any (counts_as Keep other.octets) s.records) a) in
    let octets : one.octets ≡ other.octets = sym (it_is other.octets one.octets (stays_counts Keep s t one other e)) in
    soa_is s one ∙ ap (λ (n : ℕ). fresh 6 n one.octets) time ∙ ap (λ (l : List ℕ). fresh 6 t.ttl l) octets ∙ sym (soa_is t other)

kept_entry : (origin : Name) (e f : Entry) → Exchange origin origin e f → made_entry Keep e f ≡ f
kept_entry origin e f x = by_pair (rrset_of 6 e) (rrset_of 6 f) refl x.soa
  where
    by_pair : (s t : Option Rrset) → rrset_of 6 f ≡ t → SoaPair origin origin s t → with_set (staying Keep s t) f ≡ f
    by_pair None t g p = refl
    by_pair (Some s) None g p = refl
    by_pair (Some s) (Some t) g p = by_stays (list_any (stays Keep s t.ttl) t.records) refl
      where
        by_stays : (b : Bool) → list_any (stays Keep s t.ttl) t.records ≡ b → with_set (cond b (Some s) None) f ≡ f
        by_stays false q = refl
        by_stays true q =
            let one = p.0 in
            ap (λ (n : ℕ). changed_at n (λ y. s ∷ []) f) one.rtype_is
            ∙ left_alone 6 (λ y. s ∷ []) f x.after_is (ap (λ (u : Rrset). u ∷ []) (same_soa s t p.0 p.1 q) ∙ sym (ap same_set g))

pub made_keep : (origin : Name) (before after : Version) → CanBeDumped origin before → CanBeDumped origin after → made Keep origin before after ≡ after
made_keep origin before after h k =
    let a = zone_first origin before h in
    let b = zone_first origin after k in
    let x = begun origin before h a.0 a.1 a.2 in
    let y = begun origin after k b.0 b.1 b.2 in
    ap (λ (v : Version). made Keep origin v after) a.2 ∙ ap (made Keep origin ((origin, a.0) ∷ a.1)) b.2 ∙ made_is Keep origin a.0 b.0 a.1 b.1 x y
    ∙ ap (λ (m : Entry). (origin, m) ∷ b.1) (kept_entry origin a.0 b.0 (exchange_at origin a.0 b.0 a.1 b.1 x y)) ∙ sym b.2

-- ---- so each part of it is taken

pub front_taken : (origin : Name) (front back : List Operation) (version last : Version) → all_applied origin (front ++ back) version ≡ Ok last → (middle : Version) × (all_applied origin front version ≡ Ok middle) × (all_applied origin back middle ≡ Ok last)
front_taken origin front back version last e = by_result (all_applied origin front version) (sym (both_applied origin front back version) ∙ e)
  where
    by_result : (r : Result Version Refusal) → and_then r (all_applied origin back) ≡ Ok last → (middle : Version) × (r ≡ Ok middle) × (all_applied origin back middle ≡ Ok last)
    by_result (Ok v) f = (v, refl, f)
    by_result (Err refusal) f = absurd cc
