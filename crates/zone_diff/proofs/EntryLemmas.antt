-- What is found in an entry that operations changed, RRset by RRset.
use Rattle.std.proofs.Common.{◌≡◌, ◌≢◌, ◌∙◌, ℕ, suc, ◌<◌, ◌≤◌, Bool, true, false, cond, eqb, List, [], ◌∷◌, ◌++◌, length, map, refl, sym, ap, subst, arith, Option, Some, None}
use Rattle.std.proofs.lemmas.Bool.Decides.{nat_tests}
use borrow.Author.Tests.{eqb-true}
use Rattle.std.specs.List.{AllByRecursion, flat_map}
use Rattle.std.specs.declared.cmp.Ordering.{Ordering}
use Rattle.std.specs.declared.cmp.Ordering.TheVariants.{Less, Equal, Greater}
use Rattle.std.specs.Ordering.{nat_cmp, match_ordering}
use Rattle.std.proofs.lemmas.Cmp.{ranked}
use Rattle.zone_model.specs.Names.{Name}
use Rattle.zone_model.specs.Records.{Rrset, Entry, octets_cmp, rrset_of, changed_at, with_record, without_record, joined, lessened, unless_empty, with_rr, without_rr, without_set, IsRrset, RisingSets, IsEntry}
use Rattle.zone_model.proofs.EntryLaws.{entry_with, entry_without, entry_without_set}
use Rattle.zone_model.specs.Versions.{Addition, Operation, Add, DeleteName, DeleteSet, DeleteRecord, with_added, with_soa}
use Rattle.zone_change.specs.Counts.{candidate}
use Rattle.zone_change.proofs.FoundLaws.{Change, rises_on, is_set, none_above, changed_alike, IsOf, first_of, found_changed, found_beside, is_found}
use Rattle.zone_diff.specs.declared.sets.Side.{Side}
use Rattle.zone_diff.specs.declared.sets.Side.TheVariants.{Before, After}
use Rattle.zone_diff.specs.Differences.{addition, record_change}
use Rattle.zone_diff.proofs.EachLemmas.{Each, all_of}
use Rattle.zone_diff.proofs.RecordLemmas.{with_all, without_all, AreShort, all_short}

-- ---- entries in which the same is found are one

pub passed : (t : ℕ) (s : Rrset) (rest : Entry) → s.rtype ≢ t → rrset_of t (s ∷ rest) ≡ rrset_of t rest
passed t s rest other = let test : eqb s.rtype t ≡ false = grind (arith, nat_tests) in ap (λ (c : Bool). cond c (Some s) (rrset_of t rest)) test

pub here : (t : ℕ) (s : Rrset) (rest : Entry) → s.rtype ≡ t → rrset_of t (s ∷ rest) ≡ Some s
here t s rest same = let test : eqb s.rtype t ≡ true = grind (arith, nat_tests) in ap (λ (c : Bool). cond c (Some s) (rrset_of t rest)) test

some_is : (s u : Rrset) → Some s ≡ Some u → s ≡ u
some_is s u e = cc

pub same_entries : (b c : Option ℕ) (xs ys : Entry) → RisingSets b xs → RisingSets c ys → ((t : ℕ) → rrset_of t xs ≡ rrset_of t ys) → xs ≡ ys
same_entries b c [] [] h k e = refl
same_entries b c [] (y ∷ ys) h k e = let bad : None ≡ Some y = e y.rtype ∙ here y.rtype y ys refl in cc
same_entries b c (x ∷ xs) [] h k e = let bad : Some x ≡ None = sym (here x.rtype x xs refl) ∙ e x.rtype in cc
same_entries b c (x ∷ xs) (y ∷ ys) h k e = by_order (same_entries (Some x.rtype) (Some y.rtype) xs ys (rises_on b x xs h) (rises_on c y ys k)) (nat_cmp x.rtype y.rtype) refl
  where
    by_order : (((t : ℕ) → rrset_of t xs ≡ rrset_of t ys) → xs ≡ ys) → (o : Ordering) → nat_cmp x.rtype y.rtype ≡ o → x ∷ xs ≡ y ∷ ys
    by_order more Less l =
        let lt : x.rtype < y.rtype = ranked x.rtype y.rtype Less (sym l) in
        let none : rrset_of x.rtype (y ∷ ys) ≡ None = passed x.rtype y ys (λ same. absurd (omega arith)) ∙ none_above x.rtype y.rtype ys (omega arith) (rises_on c y ys k) in
        let bad : Some x ≡ None = sym (here x.rtype x xs refl) ∙ e x.rtype ∙ none in cc
    by_order more Greater l =
        let lt : y.rtype < x.rtype = ranked x.rtype y.rtype Greater (sym l) in
        let none : rrset_of y.rtype (x ∷ xs) ≡ None = passed y.rtype x xs (λ same. absurd (omega arith)) ∙ none_above y.rtype x.rtype xs (omega arith) (rises_on b x xs h) in
        let bad : None ≡ Some y = sym none ∙ e y.rtype ∙ here y.rtype y ys refl in cc
    by_order more Equal l =
        let same : x.rtype ≡ y.rtype = ranked x.rtype y.rtype Equal (sym l) in
        let is : x ≡ y = some_is x y (sym (here x.rtype x xs refl) ∙ e x.rtype ∙ here x.rtype y ys (sym same)) in
        let rest : xs ≡ ys = more (λ t. others t (eqb x.rtype t) refl) in
        cc
      where
        others : (t : ℕ) (b : Bool) → eqb x.rtype t ≡ b → rrset_of t xs ≡ rrset_of t ys
        others t true q =
            let at : x.rtype ≡ t = eqb-true x.rtype t q in
            let same : x.rtype ≡ y.rtype = ranked x.rtype y.rtype Equal (sym l) in
            none_above t x.rtype xs (omega arith) (rises_on b x xs h) ∙ sym (none_above t y.rtype ys (omega arith) (rises_on c y ys k))
        others t false q =
            let other : x.rtype ≢ t = grind (arith, nat_tests) in
            let same : x.rtype ≡ y.rtype = ranked x.rtype y.rtype Equal (sym l) in
            sym (passed t x xs other) ∙ e t ∙ passed t y ys (λ s. other (same ∙ s))

-- ---- what is found where an entry changes

pub found_at : (t : ℕ) (c : Change) (entry : Entry) → IsOf t (c (rrset_of t entry)) → IsEntry entry → rrset_of t (changed_at t c entry) ≡ first_of (c (rrset_of t entry))
found_at t c entry of h =
    ap (rrset_of t) (changed_alike None t c (λ f. c (rrset_of t entry)) entry h refl) ∙ found_changed None t (λ f. c (rrset_of t entry)) entry (λ f. of) h

pub beside_at : (k t : ℕ) (c : Change) (entry : Entry) → k ≢ t → IsOf t (c (rrset_of t entry)) → IsEntry entry → rrset_of k (changed_at t c entry) ≡ rrset_of k entry
beside_at k t c entry apart of h =
    ap (rrset_of k) (changed_alike None t c (λ f. c (rrset_of t entry)) entry h refl) ∙ found_beside k t (λ f. c (rrset_of t entry)) entry apart (λ f. of)

-- the RRset of some records, or none
abbrev pub set_of : ℕ → ℕ → List (List ℕ) → Option Rrset
set_of t ttl [] = None
set_of t ttl (x ∷ records) = Some (record { rtype = t; ttl = ttl; records = x ∷ records })

pub set_is : (t ttl : ℕ) (records : List (List ℕ)) → 0 < length records → Some (record { rtype = t; ttl = ttl; records = records }) ≡ set_of t ttl records
set_is t ttl [] lt = absurd (omega arith)
set_is t ttl (x ∷ records) lt = refl

some_with : (octets : List ℕ) (records : List (List ℕ)) → 0 < length (with_record octets records)
some_with octets [] = omega arith
some_with octets (first ∷ rest) = by_order (octets_cmp octets first)
  where
    by_order : (o : Ordering) → 0 < length (match_ordering o (octets ∷ (first ∷ rest)) (first ∷ rest) (first ∷ with_record octets rest))
    by_order Less = omega arith
    by_order Equal = omega arith
    by_order Greater = omega arith

unless_of : (s : Rrset) (b : Bool) → IsOf s.rtype (cond b [] (s ∷ []))
unless_of s true = tt
unless_of s false = refl

not_zero : (n : ℕ) → eqb (suc n) 0 ≡ false
not_zero n = grind (arith, nat_tests)

unless_first : (t ttl : ℕ) (records : List (List ℕ)) → first_of (unless_empty (record { rtype = t; ttl = ttl; records = records })) ≡ set_of t ttl records
unless_first t ttl [] = refl
unless_first t ttl (x ∷ records) = ap (λ (b : Bool). first_of (cond b [] ((record { rtype = t; ttl = ttl; records = x ∷ records }) ∷ []))) (not_zero (length records))

-- a record goes
pub lessened_of : (t : ℕ) (octets : List ℕ) (f : Option Rrset) → ((s : Rrset) → f ≡ Some s → s.rtype ≡ t) → IsOf t (lessened octets f)
lessened_of t octets None is = tt
lessened_of t octets (Some s) is = subst (λ (n : ℕ). IsOf n (lessened octets (Some s))) (is s refl) (unless_of (record s { records = without_record octets s.records }) (eqb (length (without_record octets s.records)) 0))

pub found_is : (t : ℕ) (entry : Entry) → IsEntry entry → (s : Rrset) → rrset_of t entry ≡ Some s → s.rtype ≡ t
found_is t entry h s e = (is_found None t entry s h e).1

pub record_goes : (t ttl : ℕ) (octets : List ℕ) (records : List (List ℕ)) (entry : Entry) → IsEntry entry → rrset_of t entry ≡ set_of t ttl records → rrset_of t (without_rr t octets entry) ≡ set_of t ttl (without_record octets records)
record_goes t ttl octets [] entry h e =
    found_at t (lessened octets) entry (lessened_of t octets (rrset_of t entry) (found_is t entry h)) h ∙ ap (λ (f : Option Rrset). first_of (lessened octets f)) e
record_goes t ttl octets (x ∷ records) entry h e =
    found_at t (lessened octets) entry (lessened_of t octets (rrset_of t entry) (found_is t entry h)) h ∙ ap (λ (f : Option Rrset). first_of (lessened octets f)) e
    ∙ unless_first t ttl (without_record octets (x ∷ records))

-- a record comes
pub joined_of : (t ttl : ℕ) (octets : List ℕ) (f : Option Rrset) → ((s : Rrset) → f ≡ Some s → s.rtype ≡ t) → IsOf t (joined t ttl octets f)
joined_of t ttl octets None is = refl
joined_of t ttl octets (Some s) is = is s refl

pub record_comes : (t ttl : ℕ) (octets : List ℕ) (records : List (List ℕ)) (entry : Entry) → IsEntry entry → rrset_of t entry ≡ set_of t ttl records → rrset_of t (with_rr t ttl octets entry) ≡ set_of t ttl (with_record octets records)
record_comes t ttl octets [] entry h e =
    found_at t (joined t ttl octets) entry (joined_of t ttl octets (rrset_of t entry) (found_is t entry h)) h ∙ ap (λ (f : Option Rrset). first_of (joined t ttl octets f)) e
record_comes t ttl octets (x ∷ records) entry h e =
    found_at t (joined t ttl octets) entry (joined_of t ttl octets (rrset_of t entry) (found_is t entry h)) h ∙ ap (λ (f : Option Rrset). first_of (joined t ttl octets f)) e
    ∙ set_is t ttl (with_record octets (x ∷ records)) (some_with octets (x ∷ records))

-- an RRset goes
pub set_goes : (t : ℕ) (entry : Entry) → IsEntry entry → rrset_of t (without_set t entry) ≡ None
set_goes t entry h = found_at t (λ s. []) entry tt h

-- ---- operations on one type, which isn't the SOA's

abbrev pub IsPlain : ℕ → Operation → Type 0
IsPlain t (Add a) = (a.rtype ≡ t) × (a.rtype ≤ 65535) × (a.ttl ≤ 4294967295) × (length a.octets ≤ 65535)
IsPlain t (DeleteName owner) = ⊥
IsPlain t (DeleteSet owner rtype) = rtype ≡ t
IsPlain t (DeleteRecord owner rtype octets) = rtype ≡ t

pub added_plain : (a : Addition) (entry : Entry) → a.rtype ≢ 6 → with_added a entry ≡ with_rr a.rtype a.ttl a.octets entry
added_plain a entry other = let test : eqb a.rtype 6 ≡ false = grind (arith, nat_tests) in ap (λ (b : Bool). cond b (with_soa a.ttl a.octets entry) (with_rr a.rtype a.ttl a.octets entry)) test

pub plain_entry : (t : ℕ) (operation : Operation) (entry : Entry) → t ≢ 6 → IsPlain t operation → IsEntry entry → IsEntry (candidate operation entry)
plain_entry t (Add a) entry other p h =
    let same = p.0 in
    subst IsEntry (sym (added_plain a entry (λ e. other (sym same ∙ e)))) (entry_with a.rtype a.ttl a.octets entry p.1 p.2 p.3 h)
plain_entry t (DeleteName owner) entry other p h = absurd p
plain_entry t (DeleteSet owner rtype) entry other p h = entry_without_set rtype entry h
plain_entry t (DeleteRecord owner rtype octets) entry other p h = entry_without rtype octets entry h

pub plain_beside : (k t : ℕ) (operation : Operation) (entry : Entry) → t ≢ 6 → k ≢ t → IsPlain t operation → IsEntry entry → rrset_of k (candidate operation entry) ≡ rrset_of k entry
plain_beside k t (Add a) entry other apart p h =
    let same = p.0 in
    ap (rrset_of k) (added_plain a entry (λ e. other (sym same ∙ e)))
    ∙ beside_at k a.rtype (joined a.rtype a.ttl a.octets) entry (λ e. apart (e ∙ same)) (joined_of a.rtype a.ttl a.octets (rrset_of a.rtype entry) (found_is a.rtype entry h)) h
plain_beside k t (DeleteName owner) entry other apart p h = absurd p
plain_beside k t (DeleteSet owner rtype) entry other apart p h = beside_at k rtype (λ s. []) entry (λ e. apart (e ∙ p)) tt h
plain_beside k t (DeleteRecord owner rtype octets) entry other apart p h =
    beside_at k rtype (lessened octets) entry (λ e. apart (e ∙ p)) (lessened_of rtype octets (rrset_of rtype entry) (found_is rtype entry h)) h

abbrev pub AllPlain : ℕ → List Operation → Type 0
AllPlain t operations = AllByRecursion (IsPlain t) operations

-- what operations make of an entry, in order
abbrev pub all_made : List Operation → Entry → Entry
all_made [] entry = entry
all_made (first ∷ rest) entry = all_made rest (candidate first entry)

pub all_made-append : (front back : List Operation) (entry : Entry) → all_made (front ++ back) entry ≡ all_made back (all_made front entry)
all_made-append [] back entry = refl
all_made-append (first ∷ front) back entry = all_made-append front back (candidate first entry)

pub all_plain_entry : (t : ℕ) (operations : List Operation) (entry : Entry) → t ≢ 6 → AllPlain t operations → IsEntry entry → IsEntry (all_made operations entry)
all_plain_entry t [] entry other p h = h
all_plain_entry t (first ∷ rest) entry other p h = all_plain_entry t rest (candidate first entry) other p.1 (plain_entry t first entry other p.0 h)

pub all_plain_beside : (k t : ℕ) (operations : List Operation) (entry : Entry) → t ≢ 6 → k ≢ t → AllPlain t operations → IsEntry entry → rrset_of k (all_made operations entry) ≡ rrset_of k entry
all_plain_beside k t [] entry other apart p h = refl
all_plain_beside k t (first ∷ rest) entry other apart p h =
    all_plain_beside k t rest (candidate first entry) other apart p.1 (plain_entry t first entry other p.0 h) ∙ plain_beside k t first entry other apart p.0 h

-- ---- many records of one RRset

plain_record : (side : Side) (owner : Name) (s : Rrset) → IsRrset s → (octets : List ℕ) → length octets ≤ 65535 → IsPlain s.rtype (record_change side owner s octets)
plain_record Before owner s is octets l = refl
plain_record After owner s is octets l = (refl, is.rtype, is.ttl, l)

pub plain_each : (side : Side) (owner : Name) (s : Rrset) → IsRrset s → Each (IsPlain s.rtype) side owner s
plain_each side owner s is = record {
  whole = λ e. refl;
  records = all_of (λ (octets : List ℕ). length octets ≤ 65535) (λ (octets : List ℕ). IsPlain s.rtype (record_change side owner s octets)) (plain_record side owner s is) s.records (all_short None s.records is.rising);
}

pub records_go : (owner : Name) (t ttl : ℕ) (gone records : List (List ℕ)) (entry : Entry) → t ≢ 6 → IsEntry entry → rrset_of t entry ≡ set_of t ttl records
    → rrset_of t (all_made (map (DeleteRecord owner t) gone) entry) ≡ set_of t ttl (without_all gone records)
records_go owner t ttl [] records entry other h e = e
records_go owner t ttl (x ∷ gone) records entry other h e =
    records_go owner t ttl gone (without_record x records) (without_rr t x entry) other (entry_without t x entry h) (record_goes t ttl x records entry h e)

pub records_come : (owner : Name) (t ttl : ℕ) (more records : List (List ℕ)) (entry : Entry) → t ≢ 6 → t ≤ 65535 → ttl ≤ 4294967295 → AreShort more → IsEntry entry → rrset_of t entry ≡ set_of t ttl records
    → rrset_of t (all_made (map (addition owner t ttl) more) entry) ≡ set_of t ttl (with_all more records)
records_come owner t ttl [] records entry other a b s h e = e
records_come owner t ttl (x ∷ more) records entry other a b s h e =
    let added : candidate (addition owner t ttl x) entry ≡ with_rr t ttl x entry = added_plain (record { owner = owner; rtype = t; ttl = ttl; octets = x }) entry other in
    ap (λ (l : Entry). rrset_of t (all_made (map (addition owner t ttl) more) l)) added
    ∙ records_come owner t ttl more (with_record x records) (with_rr t ttl x entry) other a b s.1 (entry_with t ttl x entry a b s.0 h) (record_comes t ttl x records entry h e)

-- ---- RRset by RRset

abbrev pub AboveType : Option ℕ → ℕ → Type 0
AboveType None t = Unit {0}
AboveType (Some before) t = before < t

above_rest : (before : Option ℕ) (s : Rrset) (rest : Entry) (t : ℕ) → RisingSets before (s ∷ rest) → s.rtype < t → AboveType before t
above_rest None s rest t h l = tt
above_rest (Some b) s rest t h l = let lt = h.0 in omega arith

above_first : (before : Option ℕ) (s : Rrset) (rest : Entry) → RisingSets before (s ∷ rest) → AboveType before s.rtype
above_first None s rest h = tt
above_first (Some b) s rest h = h.0

-- the operations for an RRset make of what is found of its type what is due, and leave all else
pub record Works (operations : List Operation) (t : ℕ) (from to : Option Rrset) : Type 0 where
  pub done : (entry : Entry) → IsEntry entry → rrset_of t entry ≡ from → rrset_of t (all_made operations entry) ≡ to
  pub others : (entry : Entry) (k : ℕ) → k ≢ t → IsEntry entry → rrset_of k (all_made operations entry) ≡ rrset_of k entry
  pub proper : (entry : Entry) → IsEntry entry → IsEntry (all_made operations entry)

-- what is found in the end: what is due, where there was an RRset to work on
abbrev pub found_then : Option Rrset → Option Rrset → Option Rrset → Option Rrset
found_then None to before = before
found_then (Some s) to before = to

pub record Walked (sets : Entry) (to : ℕ → Option Rrset) (before after : Entry) : Type 0 where
  pub proper : IsEntry after
  pub found : (t : ℕ) → rrset_of t after ≡ found_then (rrset_of t sets) (to t) (rrset_of t before)

module _ (f : Rrset → List Operation) (whole from to : ℕ → Option Rrset) (works : (s : Rrset) → IsRrset s → whole s.rtype ≡ Some s → Works (f s) s.rtype (from s.rtype) (to s.rtype)) where
  pub walked : (before : Option ℕ) (sets entry : Entry) → RisingSets before sets → IsEntry entry → ((t : ℕ) → AboveType before t → rrset_of t sets ≡ whole t) → ((t : ℕ) → AboveType before t → rrset_of t entry ≡ from t)
      → Walked sets to entry (all_made (flat_map f sets) entry)
  walked before [] entry h k w e = record { proper = k; found = λ t. refl }
  walked before (s ∷ rest) entry h k w e =
      let first : Works (f s) s.rtype (from s.rtype) (to s.rtype) = works s (is_set before s rest h) (sym (w s.rtype (above_first before s rest h)) ∙ here s.rtype s rest refl) in
      let on : Walked rest to (all_made (f s) entry) (all_made (flat_map f rest) (all_made (f s) entry)) =
      walked (Some s.rtype) rest (all_made (f s) entry) (rises_on before s rest h) (first.proper entry k)
      (λ t l. sym (passed t s rest (λ same. absurd (omega arith))) ∙ w t (above_rest before s rest t h l))
      (λ t l. first.others entry t (λ same. absurd (omega arith)) k ∙ e t (above_rest before s rest t h l)) in
      subst (Walked (s ∷ rest) to entry) (sym (all_made-append (f s) (flat_map f rest) entry))
      (record { proper = on.proper; found = λ t. by_order first on t (nat_cmp t s.rtype) refl })
    where
      aside : (t : ℕ) → Works (f s) s.rtype (from s.rtype) (to s.rtype) → Walked rest to (all_made (f s) entry) (all_made (flat_map f rest) (all_made (f s) entry)) → t ≢ s.rtype
          → rrset_of t (all_made (flat_map f rest) (all_made (f s) entry)) ≡ found_then (rrset_of t (s ∷ rest)) (to t) (rrset_of t entry)
      aside t first on apart =
          on.found t ∙ ap (λ (x : Option Rrset). found_then (rrset_of t rest) (to t) x) (first.others entry t apart k)
          ∙ ap (λ (x : Option Rrset). found_then x (to t) (rrset_of t entry)) (sym (passed t s rest (λ same. apart (sym same))))

      by_order : Works (f s) s.rtype (from s.rtype) (to s.rtype) → Walked rest to (all_made (f s) entry) (all_made (flat_map f rest) (all_made (f s) entry)) → (t : ℕ) (o : Ordering) → nat_cmp t s.rtype ≡ o
          → rrset_of t (all_made (flat_map f rest) (all_made (f s) entry)) ≡ found_then (rrset_of t (s ∷ rest)) (to t) (rrset_of t entry)
      by_order first on t Less q = let lt : t < s.rtype = ranked t s.rtype Less (sym q) in aside t first on (λ same. absurd (omega arith))
      by_order first on t Greater q = let gt : s.rtype < t = ranked t s.rtype Greater (sym q) in aside t first on (λ same. absurd (omega arith))
      by_order first on t Equal q =
          let same : t ≡ s.rtype = ranked t s.rtype Equal (sym q) in
          let there : rrset_of s.rtype (all_made (flat_map f rest) (all_made (f s) entry)) ≡ to s.rtype =
          on.found s.rtype ∙ ap (λ (x : Option Rrset). found_then x (to s.rtype) (rrset_of s.rtype (all_made (f s) entry))) (none_above s.rtype s.rtype rest (omega arith) (rises_on before s rest h))
          ∙ first.done entry k (e s.rtype (above_first before s rest h)) in
          subst (λ (n : ℕ). rrset_of n (all_made (flat_map f rest) (all_made (f s) entry)) ≡ to n) (sym same) there
          ∙ ap (λ (x : Option Rrset). found_then x (to t) (rrset_of t entry)) (sym (here t s rest (sym same)))
