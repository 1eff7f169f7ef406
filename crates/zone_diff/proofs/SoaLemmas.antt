-- How the SOA of one entry takes the place of another's.
use Rattle.std.proofs.Common.{◌≡◌, ◌≢◌, ◌∙◌, ℕ, ◌+◌, ◌-◌, ◌%◌, ◌<◌, ◌≤◌, Bool, true, false, not, ◌||◌, cond, List, [], ◌∷◌, ◌++◌, length, take, drop, get_or, refl, sym, ap, subst, arith, Option, Some, None, Result, Ok, Err, length-append, length-take, length-drop, length-set, get_or-set_same}
use Rattle.std.specs.declared.cmp.Ordering.{Ordering}
use Rattle.std.specs.declared.cmp.Ordering.TheVariants.{Less, Equal, Greater}
use Rattle.std.specs.Ordering.{nat_cmp, match_ordering}
use Rattle.zone_model.specs.Names.{Name, same_name}
use Rattle.zone_model.specs.Records.{Rrset, Entry, rrset_of, has_record, joined, fresh, with_rr, without_set, RisingOctets, RisingSets, IsEntry, IsRrset}
use Rattle.zone_model.proofs.EntryLaws.{entry_with, entry_without_set}
use Rattle.zone_model.specs.Versions.{Operation, holds, changed, and_then, fitting}
use Rattle.zone_model.specs.declared.Refusal.{Refusal}
use Rattle.zone_model.specs.declared.Refusal.TheVariants.{Soa}
use Rattle.zone_change.specs.Counts.{candidate}
use Rattle.zone_change.proofs.FoundLaws.{found_changed, found_beside, replaced, rises_on}
use Rattle.zone_diff.specs.declared.Serial.{Serial}
use Rattle.zone_diff.specs.declared.Serial.TheVariants.{Keep, Ignore}
use Rattle.zone_diff.specs.Serials.{without_serial, renumbered, counts_as}
use Rattle.zone_diff.specs.Differences.{addition, stays, soa_additions, staying}
use Rattle.zone_diff.proofs.RecordLemmas.{has_other, has_same, it_is}
use Rattle.zone_diff.proofs.EntryLemmas.{all_made}
use Rattle.zone_diff.proofs.FitLemmas.{IsFit, fits, all_changed, placed, fit_placed, fresh_length}

-- ---- another serial

pub renumbered_length : (octets : List ℕ) → length (renumbered octets) ≡ length octets
renumbered_length octets = length-set octets (length octets - 17) ((get_or octets (length octets - 17) 0 + 1) % 256)

counts_up : (n : ℕ) → (n + 1) % 256 ≢ n
counts_up n e = absurd (omega arith)

pub renumbered_other : (octets : List ℕ) → 20 ≤ length octets → renumbered octets ≢ octets
renumbered_other octets long e =
    let lt : length octets - 17 < length octets = omega arith in
    let at : get_or (renumbered octets) (length octets - 17) 0 ≡ (get_or octets (length octets - 17) 0 + 1) % 256 = get_or-set_same octets (length octets - 17) ((get_or octets (length octets - 17) 0 + 1) % 256) 0 lt in
    counts_up (get_or octets (length octets - 17) 0) (sym at ∙ ap (λ (l : List ℕ). get_or l (length octets - 17) 0) e)

without_length : (octets : List ℕ) → 20 ≤ length octets → length (without_serial octets) + 4 ≡ length octets
without_length octets long =
    let a = length-append (take (length octets - 20) octets) (drop (length octets - 16) octets) in
    let b = length-take (length octets - 20) octets in
    let c = length-drop (length octets - 16) octets in
    omega (arith, a, b, c)

-- what counts as the same is as long
pub counts_length : (mode : Serial) (a b : List ℕ) → 20 ≤ length a → 20 ≤ length b → counts_as mode a b ≡ true → length a ≡ length b
counts_length Keep a b long more e = ap (λ (l : List ℕ). length l) (it_is a b e)
counts_length Ignore a b long more e =
    let same : without_serial a ≡ without_serial b = it_is (without_serial a) (without_serial b) e in
    let lengths : length (without_serial a) ≡ length (without_serial b) = ap (λ (l : List ℕ). length l) same in
    omega (arith, without_length a long, without_length b more, lengths)

-- ---- one SOA

pub record OneSoa (s : Rrset) : Type 0 where
  pub octets : List ℕ
  pub rtype_is : s.rtype ≡ 6
  pub records_are : s.records ≡ octets ∷ []
  pub long : 20 ≤ length octets

pub soa_is : (s : Rrset) (one : OneSoa s) → s ≡ fresh 6 s.ttl one.octets
soa_is s one = ap (λ (t : ℕ). record s { rtype = t }) one.rtype_is ∙ ap (λ (l : List (List ℕ)). record { rtype = 6; ttl = s.ttl; records = l }) one.records_are

-- ---- an SOA that comes

holds_not : (octets : List ℕ) (entry : Entry) (s : Rrset) → rrset_of 6 entry ≡ Some s → has_record octets s.records ≡ false → holds 6 octets entry ≡ false
holds_not octets entry s e h = rw e h

soa_comes : (owner : Name) (ttl : ℕ) (octets : List ℕ) (entry : Entry) (s : Rrset) → IsEntry entry → rrset_of 6 entry ≡ Some s → has_record octets s.records ≡ false
    → candidate (addition owner 6 ttl octets) entry ≡ placed 6 (fresh 6 ttl octets) entry
soa_comes owner ttl octets entry s h e other =
    ap (λ (b : Bool). cond b entry (with_rr 6 ttl octets (without_set 6 entry))) (holds_not octets entry s e other) ∙ replaced None 6 (joined 6 ttl octets) entry h

pub placed_proper : (ttl : ℕ) (octets : List ℕ) (entry : Entry) → ttl ≤ 4294967295 → length octets ≤ 65535 → IsEntry entry → IsEntry (placed 6 (fresh 6 ttl octets) entry)
placed_proper ttl octets entry a b h =
    subst IsEntry (replaced None 6 (joined 6 ttl octets) entry h) (entry_with 6 ttl octets (without_set 6 entry) (omega arith) a b (entry_without_set 6 entry h))

pub placed_found : (s : Rrset) (entry : Entry) → s.rtype ≡ 6 → IsEntry entry → rrset_of 6 (placed 6 s entry) ≡ Some s
placed_found s entry is h = found_changed None 6 (λ f. s ∷ []) entry (λ f. is) h

pub placed_beside : (k : ℕ) (s : Rrset) (entry : Entry) → k ≢ 6 → s.rtype ≡ 6 → rrset_of k (placed 6 s entry) ≡ rrset_of k entry
placed_beside k s entry apart is = found_beside k 6 (λ f. s ∷ []) entry apart (λ f. is)

-- another takes its place
pub placed_twice : (s u : Rrset) (entry : Entry) → u.rtype ≡ 6 → IsEntry entry → placed 6 s (placed 6 u entry) ≡ placed 6 s entry
placed_twice s u entry is h = twice None entry h
  where
    at_one : (rest : Entry) → placed 6 s (u ∷ rest) ≡ s ∷ rest
    at_one rest = ap (λ (o : Ordering). match_ordering o (s ∷ (u ∷ rest)) (s ∷ rest) (u ∷ placed 6 s rest)) (ap (nat_cmp 6) is)

    twice : (before : Option ℕ) (entry : Entry) → RisingSets before entry → placed 6 s (placed 6 u entry) ≡ placed 6 s entry
    twice before [] h = at_one []
    twice before (x ∷ rest) h = by_order (nat_cmp 6 x.rtype) refl (twice (Some x.rtype) rest (rises_on before x rest h))
      where
        by_order : (o : Ordering) → nat_cmp 6 x.rtype ≡ o → placed 6 s (placed 6 u rest) ≡ placed 6 s rest
            → placed 6 s (match_ordering o (u ∷ (x ∷ rest)) (u ∷ rest) (x ∷ placed 6 u rest)) ≡ match_ordering o (s ∷ (x ∷ rest)) (s ∷ rest) (x ∷ placed 6 s rest)
        by_order Less e on = at_one (x ∷ rest)
        by_order Equal e on = at_one rest
        by_order Greater e on = ap (λ (o : Ordering). match_ordering o (s ∷ (x ∷ placed 6 u rest)) (s ∷ placed 6 u rest) (x ∷ placed 6 s (placed 6 u rest))) e ∙ ap (λ (l : Entry). x ∷ l) on

soa_let : (origin owner : Name) (ttl : ℕ) (octets : List ℕ) (entry : Entry) → same_name owner origin ≡ true → IsFit owner (candidate (addition owner 6 ttl octets) entry)
    → changed origin (addition owner 6 ttl octets) entry ≡ Ok (candidate (addition owner 6 ttl octets) entry)
soa_let origin owner ttl octets entry at f =
    ap (λ (b : Bool). cond (not b) (Err Soa) (fitting owner (candidate (addition owner 6 ttl octets) entry))) at ∙ fits owner (candidate (addition owner 6 ttl octets) entry) f

-- what the operations on the SOA make of an entry
pub record SoaDone (origin owner : Name) (operations : List Operation) (entry : Entry) (soa : Option Rrset) : Type 0 where
  pub proper : IsEntry (all_made operations entry)
  pub others : (k : ℕ) → k ≢ 6 → rrset_of k (all_made operations entry) ≡ rrset_of k entry
  pub found : rrset_of 6 (all_made operations entry) ≡ soa
  pub is_let : IsFit owner (all_made operations entry) → all_changed origin operations entry ≡ Ok (all_made operations entry)

-- the RRset that stays, or else the other one
abbrev pub kept_or : Option Rrset → Option Rrset → Option Rrset
kept_or None other = other
kept_or (Some s) other = Some s

one_comes : (origin owner : Name) (ttl : ℕ) (octets : List ℕ) (entry : Entry) (s : Rrset) → same_name owner origin ≡ true → ttl ≤ 4294967295 → length octets ≤ 65535 → IsEntry entry → rrset_of 6 entry ≡ Some s → has_record octets s.records ≡ false
    → SoaDone origin owner (addition owner 6 ttl octets ∷ []) entry (Some (fresh 6 ttl octets))
one_comes origin owner ttl octets entry s at a b h e other =
    let is = soa_comes owner ttl octets entry s h e other in
    record {
      proper = subst IsEntry (sym is) (placed_proper ttl octets entry a b h);
      others = λ k apart. ap (rrset_of k) is ∙ placed_beside k (fresh 6 ttl octets) entry apart refl;
      found = ap (rrset_of 6) is ∙ placed_found (fresh 6 ttl octets) entry refl h;
      is_let = λ f. ap (λ (r : Result Entry Refusal). and_then r (all_changed origin [])) (soa_let origin owner ttl octets entry at f);
    }

two_come : (origin owner : Name) (ttl : ℕ) (octets : List ℕ) (entry : Entry) (s : Rrset) → same_name owner origin ≡ true → ttl ≤ 4294967295 → length octets ≤ 65535 → 20 ≤ length octets → IsEntry entry → rrset_of 6 entry ≡ Some s → has_record (renumbered octets) s.records ≡ false
    → SoaDone origin owner (addition owner 6 ttl (renumbered octets) ∷ addition owner 6 ttl octets ∷ []) entry (Some (fresh 6 ttl octets))
two_come origin owner ttl octets entry s at a b long h e other =
    let short : length (renumbered octets) ≤ 65535 = subst (λ (n : ℕ). n ≤ 65535) (sym (renumbered_length octets)) b in
    let first = one_comes origin owner ttl (renumbered octets) entry s at a short h e other in
    let apart : octets ≢ renumbered octets = λ (x : octets ≡ renumbered octets). renumbered_other octets long (sym x) in
    let not_there = has_other octets (renumbered octets) apart in
    let second = one_comes origin owner ttl octets (candidate (addition owner 6 ttl (renumbered octets)) entry) (fresh 6 ttl (renumbered octets)) at a b first.proper first.found not_there in
    let mid_is = soa_comes owner ttl (renumbered octets) entry s h e other in
    let end_is = soa_comes owner ttl octets (candidate (addition owner 6 ttl (renumbered octets)) entry) (fresh 6 ttl (renumbered octets)) first.proper first.found not_there in
    record {
      proper = second.proper;
      others = λ k x. second.others k x ∙ first.others k x;
      found = second.found;
      is_let = λ f.
          let over : candidate (addition owner 6 ttl octets) (candidate (addition owner 6 ttl (renumbered octets)) entry) ≡ placed 6 (fresh 6 ttl octets) entry =
          end_is ∙ ap (placed 6 (fresh 6 ttl octets)) mid_is ∙ placed_twice (fresh 6 ttl octets) (fresh 6 ttl (renumbered octets)) entry refl h in
          let fit : IsFit owner (placed 6 (fresh 6 ttl (renumbered octets)) entry) =
          fit_placed owner (fresh 6 ttl (renumbered octets)) (fresh 6 ttl octets) entry refl refl (fresh_length ttl ttl (renumbered octets) octets (renumbered_length octets)) (subst (IsFit owner) over f) in
          ap (λ (r : Result Entry Refusal). and_then r (all_changed origin (addition owner 6 ttl octets ∷ []))) (soa_let origin owner ttl (renumbered octets) entry at (subst (IsFit owner) (sym mid_is) fit))
          ∙ second.is_let f;
    }

-- ---- the exchange

pub soa_done : (mode : Serial) (origin owner : Name) (s t : Rrset) (entry : Entry) → OneSoa s → OneSoa t → IsRrset t → same_name owner origin ≡ true → IsEntry entry → rrset_of 6 entry ≡ Some s
    → SoaDone origin owner (soa_additions mode owner (Some s) (Some t)) entry (kept_or (staying mode (Some s) (Some t)) (Some t))
soa_done mode origin owner s t entry one other is at h e =
    let short : length other.octets ≤ 65535 = (let r = subst (λ (l : List (List ℕ)). RisingOctets None l) other.records_are is.rising in r.1) in
    let time = is.ttl in
    let long = other.long in
    subst (λ (x : Rrset). SoaDone origin owner (soa_additions mode owner (Some x) (Some t)) entry (kept_or (staying mode (Some x) (Some t)) (Some t))) (sym (soa_is s one))
    (subst (λ (y : Rrset). SoaDone origin owner (soa_additions mode owner (Some (fresh 6 s.ttl one.octets)) (Some y)) entry (kept_or (staying mode (Some (fresh 6 s.ttl one.octets)) (Some y)) (Some y))) (sym (soa_is t other))
    (plain s.ttl t.ttl one.octets other.octets time short long (e ∙ ap (λ (x : Rrset). Some x) (soa_is s one))))
  where
    plain : (b a : ℕ) (o p : List ℕ) → a ≤ 4294967295 → length p ≤ 65535 → 20 ≤ length p → rrset_of 6 entry ≡ Some (fresh 6 b o)
        → SoaDone origin owner (soa_additions mode owner (Some (fresh 6 b o)) (Some (fresh 6 a p))) entry (kept_or (staying mode (Some (fresh 6 b o)) (Some (fresh 6 a p))) (Some (fresh 6 a p)))
    plain b a o p time short long f = by_stays (stays mode (fresh 6 b o) a p) (has_record p (o ∷ [])) refl
      where
        by_there : (k : Bool) → has_record p (o ∷ []) ≡ k → SoaDone origin owner (cond k (addition owner 6 a (renumbered p) ∷ addition owner 6 a p ∷ []) (addition owner 6 a p ∷ []) ++ []) entry (Some (fresh 6 a p))
        by_there true q =
            let same : p ≡ o = has_same p o q in
            let other : has_record (renumbered p) (o ∷ []) ≡ false = has_other (renumbered p) o (λ x. renumbered_other p long (x ∙ sym same)) in
            two_come origin owner a p entry (fresh 6 b o) at time short long h f other
        by_there false q = one_comes origin owner a p entry (fresh 6 b o) at time short h f q

        by_stays : (c k : Bool) → has_record p (o ∷ []) ≡ k
            → SoaDone origin owner (cond c [] (cond k (addition owner 6 a (renumbered p) ∷ addition owner 6 a p ∷ []) (addition owner 6 a p ∷ [])) ++ []) entry (kept_or (cond (c || false) (Some (fresh 6 b o)) None) (Some (fresh 6 a p)))
        by_stays true k q = record { proper = h; others = λ k x. refl; found = f; is_let = λ g. refl }
        by_stays false k q = by_there k q

-- ---- what is wanted of the SOA

-- one SOA at the origin, or none
abbrev pub SoaPair : Name → Name → Option Rrset → Option Rrset → Type 0
SoaPair origin owner None None = Unit {0}
SoaPair origin owner (Some s) None = ⊥
SoaPair origin owner None (Some t) = ⊥
SoaPair origin owner (Some s) (Some t) = OneSoa s × OneSoa t × (same_name owner origin ≡ true)
