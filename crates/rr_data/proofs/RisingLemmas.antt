-- Records and RRsets in rising order: what stands before a lower one is lower, too.
use Rattle.std.proofs.Common.{◌≡◌, ◌∙◌, ℕ, zero, suc, ◌<◌, ◌≤◌, Bool, true, false, cond, eqb, List, [], ◌∷◌, ◌++◌, length, take, drop, get_or, refl, sym, ap, subst, arith, Option, Some, None}
use Rattle.std.proofs.lemmas.Bool.Decides.{nat_tests}
use Rattle.std.specs.declared.cmp.Ordering.{Ordering}
use Rattle.std.specs.declared.cmp.Ordering.TheVariants.{Less, Equal, Greater}
use Rattle.std.specs.Ordering.{nat_cmp, match_ordering, ordering_reverse}
use Rattle.std.proofs.lemmas.Cmp.{nat_list_cmp_total, ranked}
use Rattle.zone_model.specs.Records.{Rrset, Entry, octets_cmp, rrset_of, changed_at, with_record, RisingOctets, IsRrset, RisingSets}
use Rattle.rr_data.specs.Places.{AreLower}

turned : (a b : List ℕ) → octets_cmp a b ≡ Greater → octets_cmp b a ≡ Less
turned a b e = nat_list_cmp_total.antisymm b a ∙ ap ordering_reverse e

turned_back : (a b : List ℕ) → octets_cmp a b ≡ Less → octets_cmp b a ≡ Greater
turned_back a b e = nat_list_cmp_total.antisymm b a ∙ ap ordering_reverse e

-- ---- records

above_all : (before : List ℕ) (records : List (List ℕ)) (at : ℕ) (here : List ℕ) → RisingOctets (Some before) records → at < length records → here ≡ get_or records at here → octets_cmp before here ≡ Less
above_all before [] at here r l is = absurd (omega arith)
above_all before (x ∷ records) zero here r l is = subst (λ (o : List ℕ). octets_cmp before o ≡ Less) (sym is) r.0
above_all before (x ∷ records) (suc at) here r l is = nat_list_cmp_total.trans before x here r.0 (above_all x records at here r.2 (omega arith) is)

goes_behind : (octets first : List ℕ) (rest : List (List ℕ)) → octets_cmp octets first ≡ Greater → with_record octets (first ∷ rest) ≡ first ∷ with_record octets rest
goes_behind octets first rest e = ap (λ (o : Ordering). match_ordering o (octets ∷ (first ∷ rest)) (first ∷ rest) (first ∷ with_record octets rest)) e

goes_behind_lower : (octets : List ℕ) (before : Option (List ℕ)) (records : List (List ℕ)) (at : ℕ) (here : List ℕ) → RisingOctets before records → at < length records → here ≡ get_or records at here → octets_cmp octets here ≡ Greater
    → with_record octets records ≡ take (suc at) records ++ with_record octets (drop (suc at) records)
goes_behind_lower octets before [] at here r l is e = absurd (omega arith)
goes_behind_lower octets before (x ∷ records) zero here r l is e = goes_behind octets x records (subst (λ (o : List ℕ). octets_cmp octets o ≡ Greater) is e)
goes_behind_lower octets before (x ∷ records) (suc at) here r l is e =
    let low : octets_cmp x here ≡ Less = above_all x records at here r.2 (omega arith) is in
    let first : octets_cmp octets x ≡ Greater = turned_back x octets (nat_list_cmp_total.trans x here octets low (turned octets here e)) in
    goes_behind octets x records first ∙ ap (λ (l : List (List ℕ)). x ∷ l) (goes_behind_lower octets (Some x) records at here r.2 (omega arith) is e)

pub goes_behind_at : (octets : List ℕ) (records : List (List ℕ)) (at next : ℕ) (here : List ℕ) → RisingOctets None records → at < length records → here ≡ get_or records at here → octets_cmp octets here ≡ Greater → next ≡ suc at
    → with_record octets records ≡ take next records ++ with_record octets (drop next records)
goes_behind_at octets records at next here r l is e n = subst (λ (k : ℕ). with_record octets records ≡ take k records ++ with_record octets (drop k records)) (sym n) (goes_behind_lower octets None records at here r l is e)

-- ---- RRsets

rises_on : (before : Option ℕ) (s : Rrset) (rest : Entry) → RisingSets before (s ∷ rest) → RisingSets (Some s.rtype) rest
rises_on None s rest h = h.1
rises_on (Some b) s rest h = h.2

is_set : (before : Option ℕ) (s : Rrset) (rest : Entry) → RisingSets before (s ∷ rest) → IsRrset s
is_set None s rest h = h.0
is_set (Some b) s rest h = h.1

-- the records of each of them rise
pub records_rise : (before : Option ℕ) (sets : Entry) (at : ℕ) (here : Rrset) → RisingSets before sets → at < length sets → here ≡ get_or sets at here → RisingOctets None here.records
records_rise before [] at here r l is = absurd (omega arith)
records_rise before (s ∷ sets) zero here r l is = subst (λ (x : Rrset). RisingOctets None x.records) (sym is) (is_set before s sets r).rising
records_rise before (s ∷ sets) (suc at) here r l is = records_rise (Some s.rtype) sets at here (rises_on before s sets r) (omega arith) is

above_each : (low : ℕ) (sets : Entry) (at : ℕ) (here : Rrset) → RisingSets (Some low) sets → at < length sets → here ≡ get_or sets at here → low < here.rtype
above_each low [] at here r l is = absurd (omega arith)
above_each low (s ∷ sets) zero here r l is = subst (λ (x : Rrset). low < x.rtype) (sym is) r.0
above_each low (s ∷ sets) (suc at) here r l is = let a = r.0 in let b = above_each s.rtype sets at here r.2 (omega arith) is in omega arith

goes_past : (t : ℕ) (change : Option Rrset → List Rrset) (s : Rrset) (rest : Entry) → s.rtype < t → changed_at t change (s ∷ rest) ≡ s ∷ changed_at t change rest
goes_past t change s rest lt = by_order (nat_cmp t s.rtype) refl
  where
    by_order : (o : Ordering) → nat_cmp t s.rtype ≡ o → match_ordering o (change None ++ (s ∷ rest)) (change (Some s) ++ rest) (s ∷ changed_at t change rest) ≡ s ∷ changed_at t change rest
    by_order Less e = let l : t < s.rtype = ranked t s.rtype Less (sym e) in absurd (omega arith)
    by_order Equal e = let l : t ≡ s.rtype = ranked t s.rtype Equal (sym e) in absurd (omega arith)
    by_order Greater e = refl

goes_past_lower : (t : ℕ) (change : Option Rrset → List Rrset) (before : Option ℕ) (sets : Entry) (at : ℕ) (here : Rrset) → RisingSets before sets → at < length sets → here ≡ get_or sets at here → here.rtype < t
    → changed_at t change sets ≡ take (suc at) sets ++ changed_at t change (drop (suc at) sets)
goes_past_lower t change before [] at here r l is lt = absurd (omega arith)
goes_past_lower t change before (s ∷ sets) zero here r l is lt = goes_past t change s sets (subst (λ (x : Rrset). x.rtype < t) is lt)
goes_past_lower t change before (s ∷ sets) (suc at) here r l is lt =
    let low = above_each s.rtype sets at here (rises_on before s sets r) (omega arith) is in
    goes_past t change s sets (omega arith) ∙ ap (λ (x : Entry). s ∷ x) (goes_past_lower t change (Some s.rtype) sets at here (rises_on before s sets r) (omega arith) is lt)

pub are_lower : (t : ℕ) (sets : Entry) (at next : ℕ) (here : Rrset) → RisingSets None sets → at < length sets → here ≡ get_or sets at here → here.rtype < t → next ≡ suc at → AreLower t sets next
are_lower t sets at next here r l is lt e = subst (AreLower t sets) (sym e) (record { changed = λ change. goes_past_lower t change None sets at here r l is lt })

-- there is none of a lower type
none_above : (t b : ℕ) (sets : Entry) → t ≤ b → RisingSets (Some b) sets → rrset_of t sets ≡ None
none_above t b [] le h = refl
none_above t b (s ∷ rest) le h =
    let lt : b < s.rtype = h.0 in
    let other : eqb s.rtype t ≡ false = grind (arith, nat_tests) in
    ap (λ (c : Bool). cond c (Some s) (rrset_of t rest)) other ∙ none_above t s.rtype rest (omega arith) h.2

pub none_from : (t : ℕ) (before : Option ℕ) (sets : Entry) (at : ℕ) (here : Rrset) → RisingSets before sets → at < length sets → here ≡ get_or sets at here → t < here.rtype → rrset_of t (drop at sets) ≡ None
none_from t before [] at here r l is lt = absurd (omega arith)
none_from t before (s ∷ sets) zero here r l is lt =
    let less : t < s.rtype = subst (λ (x : Rrset). t < x.rtype) is lt in
    let other : eqb s.rtype t ≡ false = grind (arith, nat_tests) in
    ap (λ (c : Bool). cond c (Some s) (rrset_of t sets)) other ∙ none_above t s.rtype sets (omega arith) (rises_on before s sets r)
none_from t before (s ∷ sets) (suc at) here r l is lt = none_from t (Some s.rtype) sets at here (rises_on before s sets r) (omega arith) is lt
