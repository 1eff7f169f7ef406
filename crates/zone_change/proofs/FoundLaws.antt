-- What is found in an entry when it was changed at a type.
use Rattle.std.proofs.Common.{◌||◌, ◌≡◌, ◌≢◌, ◌∙◌, ℕ, suc, ◌+◌, ◌<◌, ◌≤◌, Bool, true, false, cond, eqb, List, [], ◌∷◌, ◌++◌, length, refl, sym, ap, subst, arith, Option, Some, None}
use Rattle.std.proofs.lemmas.Bool.Decides.{nat_tests}
use Rattle.std.specs.declared.cmp.Ordering.{Ordering}
use Rattle.std.specs.declared.cmp.Ordering.TheVariants.{Less, Equal, Greater}
use Rattle.std.specs.Ordering.{nat_cmp, match_ordering, is_eq}
use Rattle.std.proofs.lemmas.Cmp.{nat_list_cmp_total, ranked}
use Rattle.zone_model.specs.Records.{Rrset, Entry, octets_cmp, rrset_of, changed_at, with_record, without_record, has_record, RisingOctets, IsRrset, RisingSets}

-- what changes an RRset, or its absence
abbrev pub Change : Type 0
Change = Option Rrset → List Rrset

-- ---- what rises

pub rises_on : (before : Option ℕ) (s : Rrset) (rest : Entry) → RisingSets before (s ∷ rest) → RisingSets (Some s.rtype) rest
rises_on None s rest h = h.1
rises_on (Some b) s rest h = h.2

pub is_set : (before : Option ℕ) (s : Rrset) (rest : Entry) → RisingSets before (s ∷ rest) → IsRrset s
is_set None s rest h = h.0
is_set (Some b) s rest h = h.1

-- above a type there is no RRset of it, and one would stand in front
pub none_above : (t b : ℕ) (entry : Entry) → t ≤ b → RisingSets (Some b) entry → rrset_of t entry ≡ None
none_above t b [] le h = refl
none_above t b (s ∷ rest) le h =
    let lt : b < s.rtype = h.0 in
    let other : eqb s.rtype t ≡ false = grind (arith, nat_tests) in
    ap (λ (c : Bool). cond c (Some s) (rrset_of t rest)) other ∙ none_above t s.rtype rest (omega arith) h.2

front_above : (t b : ℕ) (change : Change) (entry : Entry) → t ≤ b → RisingSets (Some b) entry → changed_at t change entry ≡ change None ++ entry
front_above t b change [] le h = sym (nothing_behind (change None))
  where
    nothing_behind : (l : Entry) → l ++ [] ≡ l
    nothing_behind [] = refl
    nothing_behind (x ∷ l) = ap (λ (r : Entry). x ∷ r) (nothing_behind l)
front_above t b change (s ∷ rest) le h = by_order (nat_cmp t s.rtype) refl
  where
    by_order : (o : Ordering) → nat_cmp t s.rtype ≡ o → match_ordering o (change None ++ (s ∷ rest)) (change (Some s) ++ rest) (s ∷ changed_at t change rest) ≡ change None ++ (s ∷ rest)
    by_order Less e = refl
    by_order Equal e = let same : t ≡ s.rtype = ranked t s.rtype Equal (sym e) in let lt = h.0 in absurd (omega arith)
    by_order Greater e = let more : s.rtype < t = ranked t s.rtype Greater (sym e) in let lt = h.0 in absurd (omega arith)

-- ---- by what is found

-- what is found in front of what was found so far
abbrev at_front : ℕ → Rrset → Entry → Option Rrset
at_front t s rest = cond (eqb s.rtype t) (Some s) (rrset_of t rest)

passed : (t : ℕ) (s : Rrset) (rest : Entry) → s.rtype ≢ t → at_front t s rest ≡ rrset_of t rest
passed t s rest other = let test : eqb s.rtype t ≡ false = grind (arith, nat_tests) in ap (λ (c : Bool). cond c (Some s) (rrset_of t rest)) test

here : (t : ℕ) (s : Rrset) (rest : Entry) → s.rtype ≡ t → at_front t s rest ≡ Some s
here t s rest same = let test : eqb s.rtype t ≡ true = grind (arith, nat_tests) in ap (λ (c : Bool). cond c (Some s) (rrset_of t rest)) test

-- How an entry whose RRsets rise stands to a type: it is behind the first RRset, or it is the first one's, or there is none of it.
abbrev Stands : ℕ → Rrset → Entry → Ordering → Type 0
Stands t s rest Less = (t < s.rtype) × (at_front t s rest ≡ None)
Stands t s rest Equal = (s.rtype ≡ t) × (at_front t s rest ≡ Some s)
Stands t s rest Greater = (s.rtype < t) × (at_front t s rest ≡ rrset_of t rest)

stands : (before : Option ℕ) (t : ℕ) (s : Rrset) (rest : Entry) → RisingSets before (s ∷ rest) → (o : Ordering) → nat_cmp t s.rtype ≡ o → Stands t s rest o
stands before t s rest h Less e =
    let lt : t < s.rtype = ranked t s.rtype Less (sym e) in
    (lt, passed t s rest (λ same. absurd (omega arith)) ∙ none_above t s.rtype rest (omega arith) (rises_on before s rest h))
stands before t s rest h Equal e = let same : t ≡ s.rtype = ranked t s.rtype Equal (sym e) in (sym same, here t s rest (sym same))
stands before t s rest h Greater e = let more : s.rtype < t = ranked t s.rtype Greater (sym e) in (more, passed t s rest (λ same. absurd (omega arith)))

pub found_by : (before : Option ℕ) (t : ℕ) (s : Rrset) (rest : Entry) → RisingSets before (s ∷ rest) → cond (eqb s.rtype t) (Some s) (rrset_of t rest) ≡ match_ordering (nat_cmp t s.rtype) None (Some s) (rrset_of t rest)
found_by before t s rest h = by_order (nat_cmp t s.rtype) (stands before t s rest h (nat_cmp t s.rtype) refl)
  where
    by_order : (o : Ordering) → Stands t s rest o → at_front t s rest ≡ match_ordering o None (Some s) (rrset_of t rest)
    by_order Less at = at.1
    by_order Equal at = at.1
    by_order Greater at = at.1

-- a change is one of what is found
pub changed_alike : (before : Option ℕ) (t : ℕ) (c d : Change) (entry : Entry) → RisingSets before entry → c (rrset_of t entry) ≡ d (rrset_of t entry) → changed_at t c entry ≡ changed_at t d entry
changed_alike before t c d [] h e = e
changed_alike before t c d (s ∷ rest) h e = by_order (nat_cmp t s.rtype) (stands before t s rest h (nat_cmp t s.rtype) refl) (changed_alike (Some s.rtype) t c d rest (rises_on before s rest h))
  where
    by_order : (o : Ordering) → Stands t s rest o → (c (rrset_of t rest) ≡ d (rrset_of t rest) → changed_at t c rest ≡ changed_at t d rest)
        → match_ordering o (c None ++ (s ∷ rest)) (c (Some s) ++ rest) (s ∷ changed_at t c rest) ≡ match_ordering o (d None ++ (s ∷ rest)) (d (Some s) ++ rest) (s ∷ changed_at t d rest)
    by_order Less at on = ap (λ (l : Entry). l ++ (s ∷ rest)) (subst (λ (f : Option Rrset). c f ≡ d f) at.1 e)
    by_order Equal at on = ap (λ (l : Entry). l ++ rest) (subst (λ (f : Option Rrset). c f ≡ d f) at.1 e)
    by_order Greater at on = ap (λ (l : Entry). s ∷ l) (on (subst (λ (f : Option Rrset). c f ≡ d f) at.1 e))

-- the RRset as it is, or none
abbrev pub same_set : Change
same_set None = []
same_set (Some s) = s ∷ []

unchanged : (before : Option ℕ) (t : ℕ) (entry : Entry) → RisingSets before entry → changed_at t same_set entry ≡ entry
unchanged before t [] h = refl
unchanged before t (s ∷ rest) h = by_order (nat_cmp t s.rtype) (unchanged (Some s.rtype) t rest (rises_on before s rest h))
  where
    by_order : (o : Ordering) → changed_at t same_set rest ≡ rest → match_ordering o (s ∷ rest) (s ∷ rest) (s ∷ changed_at t same_set rest) ≡ s ∷ rest
    by_order Less on = refl
    by_order Equal on = refl
    by_order Greater on = ap (λ (l : Entry). s ∷ l) on

-- what leaves what is found as it is changes nothing
pub left_alone : (t : ℕ) (c : Change) (entry : Entry) → RisingSets None entry → c (rrset_of t entry) ≡ same_set (rrset_of t entry) → changed_at t c entry ≡ entry
left_alone t c entry h e = changed_alike None t c same_set entry h e ∙ unchanged None t entry h

-- what is put where an RRset was taken out takes its place
pub replaced : (before : Option ℕ) (t : ℕ) (c : Change) (entry : Entry) → RisingSets before entry → changed_at t c (changed_at t (λ f. []) entry) ≡ changed_at t (λ f. c None) entry
replaced before t c [] h = refl
replaced before t c (s ∷ rest) h = by_order (nat_cmp t s.rtype) refl (replaced (Some s.rtype) t c rest (rises_on before s rest h))
  where
    by_order : (o : Ordering) → nat_cmp t s.rtype ≡ o → changed_at t c (changed_at t (λ f. []) rest) ≡ changed_at t (λ f. c None) rest
        → changed_at t c (match_ordering o (s ∷ rest) rest (s ∷ changed_at t (λ f. []) rest)) ≡ match_ordering o (c None ++ (s ∷ rest)) (c None ++ rest) (s ∷ changed_at t (λ f. c None) rest)
    by_order Less e on = ap (λ (p : Ordering). match_ordering p (c None ++ (s ∷ rest)) (c (Some s) ++ rest) (s ∷ changed_at t c rest)) e
    by_order Equal e on = let same : t ≡ s.rtype = ranked t s.rtype Equal (sym e) in front_above t s.rtype c rest (omega arith) (rises_on before s rest h)
    by_order Greater e on =
        ap (λ (p : Ordering). match_ordering p (c None ++ (s ∷ changed_at t (λ f. []) rest)) (c (Some s) ++ changed_at t (λ f. []) rest) (s ∷ changed_at t c (changed_at t (λ f. []) rest))) e
        ∙ ap (λ (l : Entry). s ∷ l) on

-- ---- what is found afterwards

-- none, or one of a type
abbrev pub IsOf : ℕ → List Rrset → Type 0
IsOf t [] = Unit {0}
IsOf t (s ∷ []) = s.rtype ≡ t
IsOf t (s ∷ u ∷ rest) = ⊥

abbrev pub first_of : List Rrset → Option Rrset
first_of [] = None
first_of (s ∷ rest) = Some s

-- a change makes of what it is given none, or one of the type
abbrev pub StaysOf : ℕ → Change → Type 0
StaysOf t c = (f : Option Rrset) → IsOf t (c f)

ahead : (t : ℕ) (l : List Rrset) (rest : Entry) → IsOf t l → rrset_of t rest ≡ None → rrset_of t (l ++ rest) ≡ first_of l
ahead t [] rest of none = none
ahead t (s ∷ []) rest of none = here t s rest of
ahead t (s ∷ u ∷ l) rest of none = absurd of

beside : (k t : ℕ) (l : List Rrset) (rest : Entry) → k ≢ t → IsOf t l → rrset_of k (l ++ rest) ≡ rrset_of k rest
beside k t [] rest apart of = refl
beside k t (s ∷ []) rest apart of = passed k s rest (λ same. apart (sym same ∙ of))
beside k t (s ∷ u ∷ l) rest apart of = absurd of

pub found_changed : (before : Option ℕ) (t : ℕ) (c : Change) (entry : Entry) → StaysOf t c → RisingSets before entry → rrset_of t (changed_at t c entry) ≡ first_of (c (rrset_of t entry))
found_changed before t c [] of h = by_made (c None) (of None)
  where
    by_made : (l : List Rrset) → IsOf t l → rrset_of t l ≡ first_of l
    by_made [] of = refl
    by_made (s ∷ []) of = here t s [] of
    by_made (s ∷ u ∷ l) of = absurd of
found_changed before t c (s ∷ rest) of h = by_order (nat_cmp t s.rtype) (stands before t s rest h (nat_cmp t s.rtype) refl) (found_changed (Some s.rtype) t c rest of (rises_on before s rest h))
  where
    by_order : (o : Ordering) → Stands t s rest o → rrset_of t (changed_at t c rest) ≡ first_of (c (rrset_of t rest))
        → rrset_of t (match_ordering o (c None ++ (s ∷ rest)) (c (Some s) ++ rest) (s ∷ changed_at t c rest)) ≡ first_of (c (at_front t s rest))
    by_order Less at on = ahead t (c None) (s ∷ rest) (of None) at.1 ∙ ap (λ (f : Option Rrset). first_of (c f)) (sym at.1)
    by_order Equal at on =
        let same : s.rtype ≡ t = at.0 in
        ahead t (c (Some s)) rest (of (Some s)) (none_above t s.rtype rest (omega arith) (rises_on before s rest h)) ∙ ap (λ (f : Option Rrset). first_of (c f)) (sym at.1)
    by_order Greater at on =
        let lt : s.rtype < t = at.0 in
        passed t s (changed_at t c rest) (λ same. absurd (omega arith)) ∙ on ∙ ap (λ (f : Option Rrset). first_of (c f)) (sym at.1)

pub found_beside : (k t : ℕ) (c : Change) (entry : Entry) → k ≢ t → StaysOf t c → rrset_of k (changed_at t c entry) ≡ rrset_of k entry
found_beside k t c [] apart of = by_made (c None) (of None)
  where
    by_made : (l : List Rrset) → IsOf t l → rrset_of k l ≡ None
    by_made [] of = refl
    by_made (s ∷ []) of = passed k s [] (λ same. apart (sym same ∙ of))
    by_made (s ∷ u ∷ l) of = absurd of
found_beside k t c (s ∷ rest) apart of = by_order (nat_cmp t s.rtype) refl (found_beside k t c rest apart of)
  where
    by_order : (o : Ordering) → nat_cmp t s.rtype ≡ o → rrset_of k (changed_at t c rest) ≡ rrset_of k rest
        → rrset_of k (match_ordering o (c None ++ (s ∷ rest)) (c (Some s) ++ rest) (s ∷ changed_at t c rest)) ≡ at_front k s rest
    by_order Less e on = beside k t (c None) (s ∷ rest) apart (of None)
    by_order Equal e on =
        let same : t ≡ s.rtype = ranked t s.rtype Equal (sym e) in
        beside k t (c (Some s)) rest apart (of (Some s)) ∙ sym (passed k s rest (λ is. apart (sym is ∙ sym same)))
    by_order Greater e on = ap (λ (f : Option Rrset). cond (eqb s.rtype k) (Some s) f) on

-- an RRset that is found is one
pub is_found : (before : Option ℕ) (t : ℕ) (entry : Entry) (f : Rrset) → RisingSets before entry → rrset_of t entry ≡ Some f → IsRrset f × (f.rtype ≡ t)
is_found before t [] f h e = absurd cc
is_found before t (s ∷ rest) f h e = by_test (λ is. is_found (Some s.rtype) t rest f (rises_on before s rest h) is) (eqb s.rtype t) refl e
  where
    by_test : (rrset_of t rest ≡ Some f → IsRrset f × (f.rtype ≡ t)) → (b : Bool) → eqb s.rtype t ≡ b → cond b (Some s) (rrset_of t rest) ≡ Some f → IsRrset f × (f.rtype ≡ t)
    by_test on true k is = let same : s ≡ f = cc in subst (λ (x : Rrset). IsRrset x × (x.rtype ≡ t)) same (is_set before s rest h, grind (arith, nat_tests))
    by_test on false k is = on is

-- ---- records

none_behind : (octets b : List ℕ) (records : List (List ℕ)) → octets_cmp octets b ≡ Less → RisingOctets (Some b) records → has_record octets records ≡ false
none_behind octets b [] e h = refl
none_behind octets b (r ∷ records) e h =
    let lt : octets_cmp octets r ≡ Less = nat_list_cmp_total.trans octets b r e h.0 in
    ap (λ (o : Ordering). is_eq o || has_record octets records) lt ∙ none_behind octets r records lt h.2

-- what records weigh together
abbrev pub weighed : (List ℕ → ℕ) → List (List ℕ) → ℕ
weighed w [] = 0
weighed w (r ∷ records) = w r + weighed w records

pub record_joins : (w : List ℕ → ℕ) (octets : List ℕ) (before : Option (List ℕ)) (records : List (List ℕ)) → RisingOctets before records → weighed w (with_record octets records) ≡ weighed w records + cond (has_record octets records) 0 (w octets)
record_joins w octets before [] h = omega arith
record_joins w octets before (r ∷ records) h = by_order (octets_cmp octets r) refl (record_joins w octets (Some r) records h.2)
  where
    by_order : (o : Ordering) → octets_cmp octets r ≡ o → weighed w (with_record octets records) ≡ weighed w records + cond (has_record octets records) 0 (w octets)
        → weighed w (match_ordering o (octets ∷ (r ∷ records)) (r ∷ records) (r ∷ with_record octets records)) ≡ w r + weighed w records + cond (is_eq o || has_record octets records) 0 (w octets)
    by_order Less e on = subst (λ (b : Bool). w octets + (w r + weighed w records) ≡ w r + weighed w records + cond b 0 (w octets)) (sym (none_behind octets r records e h.2)) (omega arith)
    by_order Equal e on = omega arith
    by_order Greater e on = omega (arith, on)

pub record_leaves : (octets : List ℕ) (before : Option (List ℕ)) (records : List (List ℕ)) → RisingOctets before records → length (without_record octets records) + cond (has_record octets records) 1 0 ≡ length records
record_leaves octets before [] h = refl
record_leaves octets before (r ∷ records) h = by_order (octets_cmp octets r) refl (record_leaves octets (Some r) records h.2)
  where
    by_order : (o : Ordering) → octets_cmp octets r ≡ o → length (without_record octets records) + cond (has_record octets records) 1 0 ≡ length records
        → length (match_ordering o (r ∷ records) records (r ∷ without_record octets records)) + cond (is_eq o || has_record octets records) 1 0 ≡ suc (length records)
    by_order Less e on = subst (λ (b : Bool). suc (length records) + cond b 1 0 ≡ suc (length records)) (sym (none_behind octets r records e h.2)) (omega arith)
    by_order Equal e on = omega arith
    by_order Greater e on = omega (arith, on)
