-- What changes an entry leaves it one: types and records go on rising, and no RRset is empty.
use Rattle.std.proofs.Common.{◌≡◌, ◌∙◌, ℕ, ◌<◌, ◌≤◌, Bool, true, false, cond, eqb, List, [], ◌∷◌, ◌++◌, length, refl, sym, ap, subst, arith, Option, Some, None}
use Rattle.std.proofs.lemmas.Bool.Decides.{nat_tests}
use Rattle.std.specs.declared.cmp.Ordering.{Ordering}
use Rattle.std.specs.declared.cmp.Ordering.TheVariants.{Less, Equal, Greater}
use Rattle.std.specs.Ordering.{nat_cmp, match_ordering, ordering_reverse}
use Rattle.std.proofs.lemmas.Cmp.{nat_list_cmp_total, ranked}
use Rattle.zone_model.specs.Records.{Rrset, Entry, octets_cmp, changed_at, with_record, without_record, joined, lessened, with_rr, without_rr, without_set, AboveOctets, RisingOctets, IsRrset, RisingSets, IsEntry}

-- ---- records

turned : (a b : List ℕ) → octets_cmp a b ≡ Greater → octets_cmp b a ≡ Less
turned a b e = nat_list_cmp_total.antisymm b a ∙ ap ordering_reverse e

above_with : (before : Option (List ℕ)) (a b : List ℕ) → AboveOctets before a → octets_cmp a b ≡ Less → AboveOctets before b
above_with None a b h e = tt
above_with (Some c) a b h e = nat_list_cmp_total.trans c a b h e

rising_above : (before : Option (List ℕ)) (a : List ℕ) (records : List (List ℕ)) → AboveOctets before a → RisingOctets (Some a) records → RisingOctets before records
rising_above before a [] h r = tt
rising_above before a (b ∷ records) h r = (above_with before a b h r.0, r.1, r.2)

with_at : (before : Option (List ℕ)) (octets first : List ℕ) (rest more : List (List ℕ)) (o : Ordering) → octets_cmp octets first ≡ o → AboveOctets before octets → length octets ≤ 65535 → RisingOctets before (first ∷ rest)
    → (AboveOctets (Some first) octets → RisingOctets (Some first) more) → RisingOctets before (match_ordering o (octets ∷ (first ∷ rest)) (first ∷ rest) (first ∷ more))
with_at before octets first rest more Less e a l r f = (a, l, (e, r.1, r.2))
with_at before octets first rest more Equal e a l r f = r
with_at before octets first rest more Greater e a l r f = (r.0, r.1, f (turned octets first e))

pub rising_with : (before : Option (List ℕ)) (octets : List ℕ) (records : List (List ℕ)) → AboveOctets before octets → length octets ≤ 65535 → RisingOctets before records → RisingOctets before (with_record octets records)
rising_with before octets [] a l r = (a, l, tt)
rising_with before octets (first ∷ rest) a l r =
    with_at before octets first rest (with_record octets rest) (octets_cmp octets first) refl a l r (λ b. rising_with (Some first) octets rest b l r.2)

without_at : (before : Option (List ℕ)) (octets first : List ℕ) (rest fewer : List (List ℕ)) (o : Ordering) → RisingOctets before (first ∷ rest) → RisingOctets (Some first) fewer → RisingOctets before (match_ordering o (first ∷ rest) rest (first ∷ fewer))
without_at before octets first rest fewer Less r f = r
without_at before octets first rest fewer Equal r f = rising_above before first rest r.0 r.2
without_at before octets first rest fewer Greater r f = (r.0, r.1, f)

pub rising_without : (before : Option (List ℕ)) (octets : List ℕ) (records : List (List ℕ)) → RisingOctets before records → RisingOctets before (without_record octets records)
rising_without before octets [] r = tt
rising_without before octets (first ∷ rest) r = without_at before octets first rest (without_record octets rest) (octets_cmp octets first) r (rising_without (Some first) octets rest r.2)

some_with : (octets : List ℕ) (records : List (List ℕ)) → 0 < length (with_record octets records)
some_with octets [] = omega arith
some_with octets (first ∷ rest) = by_order (octets_cmp octets first)
  where
    by_order : (o : Ordering) → 0 < length (match_ordering o (octets ∷ (first ∷ rest)) (first ∷ rest) (first ∷ with_record octets rest))
    by_order Less = omega arith
    by_order Equal = omega arith
    by_order Greater = omega arith

-- ---- RRsets

abbrev AboveType : Option ℕ → ℕ → Type 0
AboveType None t = Unit {0}
AboveType (Some before) t = before < t

above_more : (before : Option ℕ) (t u : ℕ) → AboveType before t → t < u → AboveType before u
above_more None t u a h = tt
above_more (Some b) t u a h = omega arith

no_sets : (before : Option ℕ) → RisingSets before []
no_sets None = tt
no_sets (Some b) = tt

begins : (before : Option ℕ) (s : Rrset) (rest : Entry) → AboveType before s.rtype → IsRrset s → RisingSets (Some s.rtype) rest → RisingSets before (s ∷ rest)
begins None s rest a h r = (h, r)
begins (Some b) s rest a h r = (a, h, r)

first_above : (before : Option ℕ) (s : Rrset) (rest : Entry) → RisingSets before (s ∷ rest) → AboveType before s.rtype
first_above None s rest h = tt
first_above (Some b) s rest h = h.0

first_set : (before : Option ℕ) (s : Rrset) (rest : Entry) → RisingSets before (s ∷ rest) → IsRrset s
first_set None s rest h = h.0
first_set (Some b) s rest h = h.1

rest_rises : (before : Option ℕ) (s : Rrset) (rest : Entry) → RisingSets before (s ∷ rest) → RisingSets (Some s.rtype) rest
rest_rises None s rest h = h.1
rest_rises (Some b) s rest h = h.2

sets_above : (before : Option ℕ) (t : ℕ) (sets : Entry) → AboveType before t → RisingSets (Some t) sets → RisingSets before sets
sets_above before t [] a h = no_sets before
sets_above before t (s ∷ rest) a h = begins before s rest (above_more before t s.rtype a h.0) h.1 h.2

-- no RRset, or one of a type
abbrev IsOne : ℕ → List Rrset → Type 0
IsOne rtype [] = Unit {0}
IsOne rtype (s ∷ []) = (s.rtype ≡ rtype) × IsRrset s
IsOne rtype (s ∷ t ∷ rest) = ⊥

in_front : (before : Option ℕ) (rtype : ℕ) (l : List Rrset) (rest : Entry) → AboveType before rtype → IsOne rtype l → RisingSets (Some rtype) rest → RisingSets before (l ++ rest)
in_front before rtype [] rest a o r = sets_above before rtype rest a r
in_front before rtype (s ∷ []) rest a o r =
    begins before s rest (subst (λ (t : ℕ). AboveType before t) (sym o.0) a) o.1 (subst (λ (t : ℕ). RisingSets (Some t) rest) (sym o.0) r)
in_front before rtype (s ∷ t ∷ l) rest a o r = absurd o

alone : (before : Option ℕ) (rtype : ℕ) (l : List Rrset) → AboveType before rtype → IsOne rtype l → RisingSets before l
alone before rtype [] a o = no_sets before
alone before rtype (s ∷ []) a o = begins before s [] (subst (λ (t : ℕ). AboveType before t) (sym o.0) a) o.1 (no_sets (Some s.rtype))
alone before rtype (s ∷ t ∷ l) a o = absurd o

-- a change makes of the RRset of a type, or of its absence, none or one of that type
record Keeps (rtype : ℕ) (change : Option Rrset → List Rrset) : Type 0 where
  none : IsOne rtype (change None)
  some : (s : Rrset) → IsRrset s → s.rtype ≡ rtype → IsOne rtype (change (Some s))

changed_here : (before : Option ℕ) (rtype : ℕ) (change : Option Rrset → List Rrset) (first : Rrset) (rest next : Entry) (o : Ordering) → nat_cmp rtype first.rtype ≡ o → Keeps rtype change → AboveType before rtype → RisingSets before (first ∷ rest)
    → (first.rtype < rtype → RisingSets (Some first.rtype) next) → RisingSets before (match_ordering o (change None ++ (first ∷ rest)) (change (Some first) ++ rest) (first ∷ next))
changed_here before rtype change first rest next Less e k a h f =
    let lt : rtype < first.rtype = ranked rtype first.rtype Less (sym e) in
    in_front before rtype (change None) (first ∷ rest) a k.none (lt, first_set before first rest h, rest_rises before first rest h)
changed_here before rtype change first rest next Equal e k a h f =
    let same : rtype ≡ first.rtype = ranked rtype first.rtype Equal (sym e) in
    in_front before rtype (change (Some first)) rest a (k.some first (first_set before first rest h) (sym same)) (subst (λ (t : ℕ). RisingSets (Some t) rest) (sym same) (rest_rises before first rest h))
changed_here before rtype change first rest next Greater e k a h f =
    begins before first next (first_above before first rest h) (first_set before first rest h) (f (ranked rtype first.rtype Greater (sym e)))

rising_changed : (before : Option ℕ) (rtype : ℕ) (change : Option Rrset → List Rrset) (entry : Entry) → Keeps rtype change → AboveType before rtype → RisingSets before entry → RisingSets before (changed_at rtype change entry)
rising_changed before rtype change [] k a h = alone before rtype (change None) a k.none
rising_changed before rtype change (first ∷ rest) k a h =
    changed_here before rtype change first rest (changed_at rtype change rest) (nat_cmp rtype first.rtype) refl k a h
    (λ b. rising_changed (Some first.rtype) rtype change rest k b (rest_rises before first rest h))

-- ---- entries

pub entry_with : (rtype ttl : ℕ) (octets : List ℕ) (entry : Entry) → rtype ≤ 65535 → ttl ≤ 4294967295 → length octets ≤ 65535 → IsEntry entry → IsEntry (with_rr rtype ttl octets entry)
entry_with rtype ttl octets entry t l n h = rising_changed None rtype (joined rtype ttl octets) entry keeps tt h
  where
    keeps : Keeps rtype (joined rtype ttl octets)
    keeps = record {
      none = (refl, record { rtype = t; ttl = l; some = omega arith; rising = (tt, n, tt) });
      some = λ s k e. (e, record { rtype = k.rtype; ttl = k.ttl; some = some_with octets s.records; rising = rising_with None octets s.records tt n k.rising });
    }

unless_one : (rtype : ℕ) (s : Rrset) (b : Bool) → eqb (length s.records) 0 ≡ b → s.rtype ≤ 65535 → s.ttl ≤ 4294967295 → RisingOctets None s.records → s.rtype ≡ rtype → IsOne rtype (cond b [] (s ∷ []))
unless_one rtype s true e t l r k = tt
unless_one rtype s false e t l r k = (k, record { rtype = t; ttl = l; some = grind (arith, nat_tests); rising = r })

pub entry_without : (rtype : ℕ) (octets : List ℕ) (entry : Entry) → IsEntry entry → IsEntry (without_rr rtype octets entry)
entry_without rtype octets entry h = rising_changed None rtype (lessened octets) entry keeps tt h
  where
    keeps : Keeps rtype (lessened octets)
    keeps = record {
      none = tt;
      some = λ s k e. unless_one rtype (record s { records = without_record octets s.records }) (eqb (length (without_record octets s.records)) 0) refl k.rtype k.ttl (rising_without None octets s.records k.rising) e;
    }

pub entry_without_set : (rtype : ℕ) (entry : Entry) → IsEntry entry → IsEntry (without_set rtype entry)
entry_without_set rtype entry h = rising_changed None rtype (λ s. []) entry (record { none = tt; some = λ s k e. tt }) tt h
