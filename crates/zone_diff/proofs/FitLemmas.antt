-- No rule refuses the operations: what goes is no SOA, and what an entry has on the way is not more than in the end.
use Rattle.std.proofs.Common.{◌≡◌, ◌≢◌, ◌∙◌, ℕ, suc, ◌+◌, ◌<◌, ◌≤◌, Bool, true, false, not, ◌&&◌, ◌||◌, cond, eqb, leb, ltb, List, [], ◌∷◌, ◌++◌, length, refl, sym, ap, subst, arith, Option, Some, None, Result, Ok, Err, length-append}
use Rattle.std.proofs.lemmas.Bool.Decides.{nat_tests}
use borrow.Author.Tests.{eqb-true, le-leb, le-ltb, leb-true, ne_eqb}
use Rattle.std.specs.List.{AllByRecursion, flat_map}
use Rattle.std.specs.Option.{is_some, is_none}
use Rattle.std.specs.Int.{w16, to_be_bytes}
use Rattle.std.specs.declared.cmp.Ordering.{Ordering}
use Rattle.std.specs.declared.cmp.Ordering.TheVariants.{Less, Equal, Greater}
use Rattle.std.specs.Ordering.{nat_cmp, match_ordering}
use Rattle.zone_model.specs.Names.{Name, wire, same_name}
use Rattle.zone_model.specs.Records.{Rrset, Entry, octets_cmp, rrset_of, changed_at, with_record, joined, fresh, with_rr, without_rr, without_set, record_bytes, rrset_bytes, item, item_limit, IsEntry}
use Rattle.zone_model.specs.Versions.{Operation, Add, DeleteName, DeleteSet, DeleteRecord, with_added, changed, and_then, fitting, keeping_soa, is_lone, owner_of}
use Rattle.zone_model.specs.declared.Refusal.{Refusal}
use Rattle.zone_model.specs.declared.Refusal.TheVariants.{Soa, Cname, Long}
use Rattle.zone_change.specs.Counts.{candidate}
use Rattle.zone_change.proofs.CountLaws.{set_is}
use Rattle.zone_change.proofs.FoundLaws.{first_of, found_beside}
use Rattle.zone_diff.proofs.EntryLemmas.{found_at, beside_at, IsPlain, all_made, plain_entry, plain_beside, added_plain, joined_of, found_is}

-- what operations of one name make of its entry, or the first refusal
abbrev pub all_changed : Name → List Operation → Entry → Result Entry Refusal
all_changed origin [] entry = Ok entry
all_changed origin (first ∷ rest) entry = and_then (changed origin first entry) (all_changed origin rest)

pub changed_on : (origin : Name) (front back : List Operation) (entry next : Entry) → all_changed origin front entry ≡ Ok next → all_changed origin (front ++ back) entry ≡ all_changed origin back next
changed_on origin [] back entry next e = let same : entry ≡ next = cc in ap (all_changed origin back) same
changed_on origin (first ∷ rest) back entry next e = by_first (λ (x : Entry) (h : all_changed origin rest x ≡ Ok next). changed_on origin rest back x next h) (changed origin first entry) e
  where
    by_first : ((x : Entry) → all_changed origin rest x ≡ Ok next → all_changed origin (rest ++ back) x ≡ all_changed origin back next) → (r : Result Entry Refusal) → and_then r (all_changed origin rest) ≡ Ok next → and_then r (all_changed origin (rest ++ back)) ≡ all_changed origin back next
    by_first further (Ok x) h = further x h
    by_first further (Err refusal) h = absurd cc

-- ---- what fits

pub record IsFit (owner : Name) (entry : Entry) : Type 0 where
  pub lone : is_lone entry ≡ true
  pub short : length (item owner entry) ≤ item_limit

pub fits : (owner : Name) (entry : Entry) → IsFit owner entry → fitting owner entry ≡ Ok entry
fits owner entry f =
    let short = f.short in
    let test : ltb item_limit (length (item owner entry)) ≡ false = le-ltb item_limit (length (item owner entry)) short in
    ap (λ (b : Bool). cond (not b) (Err Cname) (cond (ltb item_limit (length (item owner entry))) (Err Long) (Ok entry))) f.lone
    ∙ ap (λ (b : Bool). cond b (Err Long) (Ok entry)) test

item_length : (owner : Name) (entry : Entry) → length (item owner entry) ≡ length (wire owner) + 2 + length (flat_map rrset_bytes entry)
item_length owner entry =
    length-append (wire owner ++ to_be_bytes w16 (length entry)) (flat_map rrset_bytes entry) ∙ ap (λ (n : ℕ). n + length (flat_map rrset_bytes entry)) (length-append (wire owner) (to_be_bytes w16 (length entry)))

-- ---- an alias alone, by what is found

-- one alias at most, and then nothing else
abbrev lone_test : Option Rrset → ℕ → Type 0
lone_test None n = Unit {0}
lone_test (Some s) n = (n ≡ 1) × (length s.records ≤ 1)

lone_says : (entry : Entry) → is_lone entry ≡ true → lone_test (rrset_of 5 entry) (length entry)
lone_says [] e = tt
lone_says (s ∷ []) e = by_type (eqb s.rtype 5) e
  where
    by_type : (b : Bool) → (not b || leb (length s.records) 1) ≡ true → lone_test (cond b (Some s) None) 1
    by_type true t = (refl, leb-true (length s.records) 1 t)
    by_type false t = tt
lone_says (s ∷ t ∷ more) e = by_found (rrset_of 5 (s ∷ t ∷ more)) e
  where
    by_found : (f : Option Rrset) → is_none f ≡ true → lone_test f (suc (suc (length more)))
    by_found None h = tt
    by_found (Some x) h = absurd cc

says_lone : (entry : Entry) → lone_test (rrset_of 5 entry) (length entry) → is_lone entry ≡ true
says_lone [] e = refl
says_lone (s ∷ []) e = by_type (eqb s.rtype 5) e
  where
    by_type : (b : Bool) → lone_test (cond b (Some s) None) 1 → (not b || leb (length s.records) 1) ≡ true
    by_type true t = le-leb (length s.records) 1 t.1
    by_type false t = refl
says_lone (s ∷ t ∷ more) e = by_found (rrset_of 5 (s ∷ t ∷ more)) e
  where
    by_found : (f : Option Rrset) → lone_test f (suc (suc (length more))) → is_none f ≡ true
    by_found None h = refl
    by_found (Some x) h = let one = h.0 in absurd (omega arith)

abbrev IsSomeSet : Option Rrset → Type 0
IsSomeSet None = ⊥
IsSomeSet (Some s) = Unit {0}

-- ---- more records

-- as many RRsets or more, and as many octets or more
record IsMore (more less : Entry) : Type 0 where
  sets : length less ≤ length more
  octets : length (flat_map rrset_bytes less) ≤ length (flat_map rrset_bytes more)

more_records : (octets : List ℕ) (records : List (List ℕ)) → length (flat_map record_bytes records) ≤ length (flat_map record_bytes (with_record octets records))
more_records octets [] = omega arith
more_records octets (first ∷ rest) = by_order (octets_cmp octets first) (more_records octets rest)
  where
    by_order : (o : Ordering) → length (flat_map record_bytes rest) ≤ length (flat_map record_bytes (with_record octets rest))
        → length (flat_map record_bytes (first ∷ rest)) ≤ length (flat_map record_bytes (match_ordering o (octets ∷ (first ∷ rest)) (first ∷ rest) (first ∷ with_record octets rest)))
    by_order Less on = omega (arith, length-append (record_bytes octets) (flat_map record_bytes (first ∷ rest)))
    by_order Equal on = omega arith
    by_order Greater on = omega (arith, on, length-append (record_bytes first) (flat_map record_bytes rest), length-append (record_bytes first) (flat_map record_bytes (with_record octets rest)))

as_many : (octets : List ℕ) (records : List (List ℕ)) → length records ≤ length (with_record octets records)
as_many octets [] = omega arith
as_many octets (first ∷ rest) = by_order (octets_cmp octets first) (as_many octets rest)
  where
    by_order : (o : Ordering) → length rest ≤ length (with_record octets rest) → length (first ∷ rest) ≤ length (match_ordering o (octets ∷ (first ∷ rest)) (first ∷ rest) (first ∷ with_record octets rest))
    by_order Less on = omega arith
    by_order Equal on = omega arith
    by_order Greater on = omega (arith, on)

one_more : (s : Rrset) (rest : Entry) → length (flat_map rrset_bytes (s ∷ rest)) ≡ length (rrset_bytes s) + length (flat_map rrset_bytes rest)
one_more s rest = length-append (rrset_bytes s) (flat_map rrset_bytes rest)

more_with : (t ttl : ℕ) (octets : List ℕ) (entry : Entry) → IsMore (with_rr t ttl octets entry) entry
more_with t ttl octets [] = record { sets = omega arith; octets = omega arith }
more_with t ttl octets (s ∷ rest) = by_order (nat_cmp t s.rtype) (more_with t ttl octets rest)
  where
    grown : Rrset
    grown = record s { records = with_record octets s.records }

    by_order : (o : Ordering) → IsMore (with_rr t ttl octets rest) rest
        → IsMore (match_ordering o (fresh t ttl octets ∷ (s ∷ rest)) ((record s { records = with_record octets s.records }) ∷ rest) (s ∷ with_rr t ttl octets rest)) (s ∷ rest)
    by_order Less on = record { sets = omega arith; octets = omega (arith, one_more (fresh t ttl octets) (s ∷ rest)) }
    by_order Equal on = record {
      sets = omega arith;
      octets = omega (arith, one_more s rest, one_more (record s { records = with_record octets s.records }) rest, set_is s, set_is (record s { records = with_record octets s.records }), more_records octets s.records);
    }
    by_order Greater on = record { sets = omega (arith, on.sets); octets = omega (arith, on.octets, one_more s rest, one_more s (with_rr t ttl octets rest)) }

-- what is found of aliases is no less
abbrev IsGrown : Option Rrset → Option Rrset → Type 0
IsGrown None f = Unit {0}
IsGrown (Some s) None = ⊥
IsGrown (Some s) (Some u) = length s.records ≤ length u.records

grown_same : (f : Option Rrset) → IsGrown f f
grown_same None = tt
grown_same (Some s) = omega arith

grown_joined : (t ttl : ℕ) (octets : List ℕ) (f : Option Rrset) → IsGrown f (first_of (joined t ttl octets f))
grown_joined t ttl octets None = tt
grown_joined t ttl octets (Some s) = as_many octets s.records

aliases_grow : (t ttl : ℕ) (octets : List ℕ) (entry : Entry) → IsEntry entry → IsGrown (rrset_of 5 entry) (rrset_of 5 (with_rr t ttl octets entry))
aliases_grow t ttl octets entry h = by_type (eqb t 5) refl
  where
    by_type : (b : Bool) → eqb t 5 ≡ b → IsGrown (rrset_of 5 entry) (rrset_of 5 (with_rr t ttl octets entry))
    by_type true e =
        let same : t ≡ 5 = eqb-true t 5 e in
        subst (λ (n : ℕ). IsGrown (rrset_of n entry) (rrset_of n (with_rr t ttl octets entry))) same
        (subst (IsGrown (rrset_of t entry)) (sym (found_at t (joined t ttl octets) entry (joined_of t ttl octets (rrset_of t entry) (found_is t entry h)) h)) (grown_joined t ttl octets (rrset_of t entry)))
    by_type false e =
        let other : 5 ≢ t = apart t e in
        subst (IsGrown (rrset_of 5 entry)) (sym (beside_at 5 t (joined t ttl octets) entry other (joined_of t ttl octets (rrset_of t entry) (found_is t entry h)) h)) (grown_same (rrset_of 5 entry))
      where
        apart : (t : ℕ) → eqb t 5 ≡ false → 5 ≢ t
        apart t e = grind (arith, nat_tests)

lone_before : (f g : Option Rrset) (n m : ℕ) → n ≤ m → (IsSomeSet f → 0 < n) → IsGrown f g → lone_test g m → lone_test f n
lone_before None g n m le some grown l = tt
lone_before (Some s) None n m le some grown l = absurd grown
lone_before (Some s) (Some u) n m le some grown l = let one = l.0 in let few = l.1 in let positive = some tt in (omega arith, omega arith)

some_set : (t : ℕ) (entry : Entry) → IsSomeSet (rrset_of t entry) → 0 < length entry
some_set t [] s = absurd s
some_set t (x ∷ entry) s = omega arith

pub fit_before : (owner : Name) (t ttl : ℕ) (octets : List ℕ) (entry : Entry) → IsEntry entry → IsFit owner (with_rr t ttl octets entry) → IsFit owner entry
fit_before owner t ttl octets entry h f =
    let more = more_with t ttl octets entry in
    let a = more.sets in
    let b = more.octets in
    let c = f.short in
    record {
      lone = says_lone entry (lone_before (rrset_of 5 entry) (rrset_of 5 (with_rr t ttl octets entry)) (length entry) (length (with_rr t ttl octets entry)) a (some_set 5 entry) (aliases_grow t ttl octets entry h) (lone_says (with_rr t ttl octets entry) f.lone));
      short = omega (arith, item_length owner entry, item_length owner (with_rr t ttl octets entry), b, c);
    }

-- ---- one SOA in the place of another

-- an RRset in the place of one of its type, or of none
abbrev pub placed : ℕ → Rrset → Entry → Entry
placed t s = changed_at t (λ f. s ∷ [])

placed_sets : (t : ℕ) (s u : Rrset) (entry : Entry) → length (placed t s entry) ≡ length (placed t u entry)
placed_sets t s u [] = refl
placed_sets t s u (x ∷ rest) = by_order (nat_cmp t x.rtype) (placed_sets t s u rest)
  where
    by_order : (o : Ordering) → length (placed t s rest) ≡ length (placed t u rest) → length (match_ordering o (s ∷ (x ∷ rest)) (s ∷ rest) (x ∷ placed t s rest)) ≡ length (match_ordering o (u ∷ (x ∷ rest)) (u ∷ rest) (x ∷ placed t u rest))
    by_order Less on = refl
    by_order Equal on = refl
    by_order Greater on = ap (λ (n : ℕ). suc n) on

placed_octets : (t : ℕ) (s u : Rrset) (entry : Entry) → length (rrset_bytes s) ≡ length (rrset_bytes u) → length (flat_map rrset_bytes (placed t s entry)) ≡ length (flat_map rrset_bytes (placed t u entry))
placed_octets t s u [] e = omega (arith, e, one_more s [], one_more u [])
placed_octets t s u (x ∷ rest) e = by_order (nat_cmp t x.rtype) (placed_octets t s u rest e)
  where
    by_order : (o : Ordering) → length (flat_map rrset_bytes (placed t s rest)) ≡ length (flat_map rrset_bytes (placed t u rest))
        → length (flat_map rrset_bytes (match_ordering o (s ∷ (x ∷ rest)) (s ∷ rest) (x ∷ placed t s rest))) ≡ length (flat_map rrset_bytes (match_ordering o (u ∷ (x ∷ rest)) (u ∷ rest) (x ∷ placed t u rest)))
    by_order Less on = omega (arith, e, one_more s (x ∷ rest), one_more u (x ∷ rest))
    by_order Equal on = omega (arith, e, one_more s rest, one_more u rest)
    by_order Greater on = omega (arith, on, one_more x (placed t s rest), one_more x (placed t u rest))

pub fit_placed : (owner : Name) (s u : Rrset) (entry : Entry) → s.rtype ≡ 6 → u.rtype ≡ 6 → length (rrset_bytes s) ≡ length (rrset_bytes u) → IsFit owner (placed 6 u entry) → IsFit owner (placed 6 s entry)
fit_placed owner s u entry a b e f =
    let same : rrset_of 5 (placed 6 u entry) ≡ rrset_of 5 (placed 6 s entry) =
    found_beside 5 6 (λ f. u ∷ []) entry (omega arith) (λ f. b) ∙ sym (found_beside 5 6 (λ f. s ∷ []) entry (omega arith) (λ f. a)) in
    let many : length (placed 6 u entry) ≡ length (placed 6 s entry) = placed_sets 6 u s entry in
    let long : length (flat_map rrset_bytes (placed 6 s entry)) ≡ length (flat_map rrset_bytes (placed 6 u entry)) = placed_octets 6 s u entry e in
    let c = f.short in
    record {
      lone = says_lone (placed 6 s entry) (subst (λ (n : ℕ). lone_test (rrset_of 5 (placed 6 s entry)) n) many (subst (λ (g : Option Rrset). lone_test g (length (placed 6 u entry))) same (lone_says (placed 6 u entry) f.lone)));
      short = omega (arith, long, item_length owner (placed 6 s entry), item_length owner (placed 6 u entry), c);
    }

pub fresh_length : (ttl ttl' : ℕ) (p q : List ℕ) → length p ≡ length q → length (rrset_bytes (fresh 6 ttl p)) ≡ length (rrset_bytes (fresh 6 ttl' q))
fresh_length ttl ttl' p q e =
    let one = length-append (record_bytes p) [] in
    let two = length-append (record_bytes q) [] in
    let three = length-append (to_be_bytes w16 (length p)) p in
    let four = length-append (to_be_bytes w16 (length q)) q in
    omega (arith, set_is (fresh 6 ttl p), set_is (fresh 6 ttl' q), one, two, three, four, e)

-- ---- operations in order

-- what goes, but for an SOA, is let go
abbrev pub IsDeletion : Operation → Type 0
IsDeletion (Add a) = ⊥
IsDeletion (DeleteName owner) = ⊥
IsDeletion (DeleteSet owner rtype) = Unit {0}
IsDeletion (DeleteRecord owner rtype octets) = Unit {0}

keeps : (before after : Entry) → rrset_of 6 after ≡ rrset_of 6 before → keeping_soa before after ≡ Ok after
keeps before after e = ap (λ (f : Option Rrset). cond (is_some (rrset_of 6 before) && is_none f) (Err Soa) (Ok after)) e ∙ by_found (rrset_of 6 before)
  where
    by_found : (f : Option Rrset) → cond (is_some f && is_none f) (Err Soa) (Ok after) ≡ Ok after
    by_found None = refl
    by_found (Some s) = refl

pub deletion_let : (origin : Name) (t : ℕ) (operation : Operation) (entry : Entry) → t ≢ 6 → IsPlain t operation → IsDeletion operation → IsEntry entry → changed origin operation entry ≡ Ok (candidate operation entry)
deletion_let origin t (Add a) entry other p d h = absurd d
deletion_let origin t (DeleteName owner) entry other p d h = absurd d
deletion_let origin t (DeleteSet owner rtype) entry other p d h = keeps entry (without_set rtype entry) (plain_beside 6 t (DeleteSet owner rtype) entry other (λ e. other (sym e)) p h)
deletion_let origin t (DeleteRecord owner rtype octets) entry other p d h = keeps entry (without_rr rtype octets entry) (plain_beside 6 t (DeleteRecord owner rtype octets) entry other (λ e. other (sym e)) p h)

-- an operation on some type but the SOA's
pub record IsOther (operation : Operation) : Type 0 where
  pub rtype : ℕ
  pub other : rtype ≢ 6
  pub plain : IsPlain rtype operation

abbrev pub AreDeletions : List Operation → Type 0
AreDeletions operations = AllByRecursion (λ (operation : Operation). IsOther operation × IsDeletion operation) operations

abbrev pub IsAddition : Operation → Type 0
IsAddition (Add a) = Unit {0}
IsAddition (DeleteName owner) = ⊥
IsAddition (DeleteSet owner rtype) = ⊥
IsAddition (DeleteRecord owner rtype octets) = ⊥

abbrev pub AreAdditions : Name → List Operation → Type 0
AreAdditions owner operations = AllByRecursion (λ (operation : Operation). IsOther operation × IsAddition operation × (owner_of operation ≡ owner)) operations

pub deletions_let : (origin : Name) (operations : List Operation) (entry : Entry) → AreDeletions operations → IsEntry entry → all_changed origin operations entry ≡ Ok (all_made operations entry)
deletions_let origin [] entry d h = refl
deletions_let origin (first ∷ rest) entry d h =
    let o = d.0.0 in
    ap (λ (r : Result Entry Refusal). and_then r (all_changed origin rest)) (deletion_let origin o.rtype first entry o.other o.plain d.0.1 h)
    ∙ deletions_let origin rest (candidate first entry) d.1 (plain_entry o.rtype first entry o.other o.plain h)

added_fit : (owner : Name) (operation : Operation) (entry : Entry) → IsOther operation → IsAddition operation → IsEntry entry → IsFit owner (candidate operation entry) → IsFit owner entry
added_fit owner (Add a) entry o d h f =
    let same = o.plain.0 in
    fit_before owner a.rtype a.ttl a.octets entry h (subst (IsFit owner) (added_plain a entry (λ e. o.other (sym same ∙ e))) f)
added_fit owner (DeleteName x) entry o d h f = absurd d
added_fit owner (DeleteSet x rtype) entry o d h f = absurd d
added_fit owner (DeleteRecord x rtype octets) entry o d h f = absurd d

-- what fits in the end fits before
pub fit_first : (owner : Name) (operations : List Operation) (entry : Entry) → AreAdditions owner operations → IsEntry entry → IsFit owner (all_made operations entry) → IsFit owner entry
fit_first owner [] entry d h f = f
fit_first owner (first ∷ rest) entry d h f =
    let o = d.0.0 in
    added_fit owner first entry o d.0.1 h (fit_first owner rest (candidate first entry) d.1 (plain_entry o.rtype first entry o.other o.plain h) f)

addition_let : (origin : Name) (operation : Operation) (entry : Entry) → IsOther operation → IsAddition operation → IsFit (owner_of operation) (candidate operation entry) → changed origin operation entry ≡ Ok (candidate operation entry)
addition_let origin (Add a) entry o d f =
    let same = o.plain.0 in
    let test : eqb a.rtype 6 ≡ false = ne_eqb a.rtype 6 (λ e. o.other (sym same ∙ e)) in
    ap (λ (b : Bool). cond (b && not (same_name a.owner origin)) (Err Soa) (fitting a.owner (with_added a entry))) test ∙ fits a.owner (with_added a entry) f
addition_let origin (DeleteName x) entry o d f = absurd d
addition_let origin (DeleteSet x rtype) entry o d f = absurd d
addition_let origin (DeleteRecord x rtype octets) entry o d f = absurd d

pub additions_let : (origin owner : Name) (operations : List Operation) (entry : Entry) → AreAdditions owner operations → IsEntry entry → IsFit owner (all_made operations entry) → all_changed origin operations entry ≡ Ok (all_made operations entry)
additions_let origin owner [] entry d h f = refl
additions_let origin owner (first ∷ rest) entry d h f =
    let o = d.0.0 in
    let next : IsEntry (candidate first entry) = plain_entry o.rtype first entry o.other o.plain h in
    let fit : IsFit owner (candidate first entry) = fit_first owner rest (candidate first entry) d.1 next f in
    ap (λ (r : Result Entry Refusal). and_then r (all_changed origin rest)) (addition_let origin first entry o d.0.1 (subst (λ (n : Name). IsFit n (candidate first entry)) (sym d.0.2) fit))
    ∙ additions_let origin owner rest (candidate first entry) d.1 next f
