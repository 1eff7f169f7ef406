-- What an operation makes of what is counted of an entry, and why it is refused.
use Rattle.std.proofs.Common.{◌≡◌, ◌≢◌, ◌∙◌, ℕ, zero, suc, ◌+◌, ◌-◌, ◌<◌, ◌≤◌, Bool, true, false, ◌||◌, ◌&&◌, not, cond, eqb, leb, ltb, List, [], ◌∷◌, ◌++◌, length, refl, sym, ap, subst, arith, Option, Some, None, Ok, Err, length-append}
use Rattle.std.proofs.lemmas.Bool.Decides.{nat_tests}
use borrow.Author.Tests.{eqb-true}
use Rattle.std.specs.List.{flat_map}
use Rattle.std.specs.Prelude.{MatchOption}
use Rattle.std.specs.Option.{is_some, is_none}
use Rattle.std.specs.Int.{w16, w32, to_be_bytes}
use Rattle.std.specs.declared.cmp.Ordering.{Ordering}
use Rattle.std.specs.declared.cmp.Ordering.TheVariants.{Less, Equal, Greater}
use Rattle.std.specs.Ordering.{nat_cmp, match_ordering}
use Rattle.zone_model.specs.Names.{Name, wire}
use Rattle.zone_model.specs.Records.{Rrset, Entry, rrset_of, changed_at, with_record, without_record, has_record, with_rr, without_rr, without_set, fresh, joined, lessened, record_bytes, rrset_bytes, item, IsRrset, IsEntry, RisingSets, item_limit}
use Rattle.zone_model.proofs.EntryLaws.{entry_with, entry_without_set}
use Rattle.zone_model.proofs.ItemLemmas.{few_in_item}
use Rattle.zone_model.specs.Versions.{Addition, Add, with_added, with_soa, holds, is_lone, loses_soa, keeping_soa, fitting, is_low_soa, changed}
use Rattle.zone_model.specs.declared.Refusal.{Refusal}
use Rattle.zone_model.specs.declared.Refusal.TheVariants.{Soa, Cname, Long}
use Rattle.rr_data.specs.ItemViews.{SaysEntry}
use Rattle.zone_change.specs.Counts.{records_in, count_of, lone_by}
use Rattle.zone_change.specs.declared.counting.Count.{Count}
use Rattle.zone_change.proofs.FoundLaws.{Change, rises_on, changed_alike, replaced, found_changed, found_beside, first_of, IsOf, is_found, weighed, record_joins, record_leaves, found_by}

-- ---- weights

abbrev total : (Rrset → ℕ) → Entry → ℕ
total w [] = 0
total w (s ∷ rest) = w s + total w rest

abbrev there : (Rrset → ℕ) → Option Rrset → ℕ
there w None = 0
there w (Some s) = w s

total-append : (w : Rrset → ℕ) (xs ys : Entry) → total w (xs ++ ys) ≡ total w xs + total w ys
total-append w [] ys = omega arith
total-append w (s ∷ xs) ys = let e = total-append w xs ys in omega arith

-- what a change adds is weighed for what it found
weighs : (w : Rrset → ℕ) (t : ℕ) (c : Change) (before : Option ℕ) (entry : Entry) → RisingSets before entry → total w (changed_at t c entry) + there w (rrset_of t entry) ≡ total w entry + total w (c (rrset_of t entry))
weighs w t c before [] h = omega arith
weighs w t c before (s ∷ rest) h = by_order (nat_cmp t s.rtype) (found_by before t s rest h) (weighs w t c (Some s.rtype) rest (rises_on before s rest h))
  where
    Found : Option Rrset → Ordering → Type 0
    Found f o = total w (match_ordering o (c None ++ (s ∷ rest)) (c (Some s) ++ rest) (s ∷ changed_at t c rest)) + there w f ≡ w s + total w rest + total w (c f)

    by_order : (o : Ordering) → cond (eqb s.rtype t) (Some s) (rrset_of t rest) ≡ match_ordering o None (Some s) (rrset_of t rest) → total w (changed_at t c rest) + there w (rrset_of t rest) ≡ total w rest + total w (c (rrset_of t rest))
        → Found (cond (eqb s.rtype t) (Some s) (rrset_of t rest)) o
    by_order Less is on = subst (λ (f : Option Rrset). Found f Less) (sym is) (omega (arith, total-append w (c None) (s ∷ rest)))
    by_order Equal is on = subst (λ (f : Option Rrset). Found f Equal) (sym is) (omega (arith, total-append w (c (Some s)) rest))
    by_order Greater is on = subst (λ (f : Option Rrset). Found f Greater) (sym is) (omega (arith, on))

abbrev one : Rrset → ℕ
one s = 1

many : (entry : Entry) → total one entry ≡ length entry
many [] = refl
many (s ∷ entry) = let e = many entry in omega arith

abbrev octets_of : Rrset → ℕ
octets_of s = length (rrset_bytes s)

bytes_are : (entry : Entry) → length (flat_map rrset_bytes entry) ≡ total octets_of entry
bytes_are [] = refl
bytes_are (s ∷ entry) = let e = bytes_are entry in omega (arith, length-append (rrset_bytes s) (flat_map rrset_bytes entry))

item_is : (owner : Name) (entry : Entry) → length (item owner entry) ≡ length (wire owner) + 2 + total octets_of entry
item_is owner entry =
    length-append (wire owner ++ to_be_bytes w16 (length entry)) (flat_map rrset_bytes entry)
    ∙ ap (λ (n : ℕ). n + length (flat_map rrset_bytes entry)) (length-append (wire owner) (to_be_bytes w16 (length entry)))
    ∙ ap (λ (n : ℕ). length (wire owner) + 2 + n) (bytes_are entry)

abbrev in_item : List ℕ → ℕ
in_item r = 2 + length r

records_are : (records : List (List ℕ)) → length (flat_map record_bytes records) ≡ weighed in_item records
records_are [] = refl
records_are (r ∷ records) = let e = records_are records in omega (arith, length-append (record_bytes r) (flat_map record_bytes records), length-append (to_be_bytes w16 (length r)) r)

pub set_is : (s : Rrset) → length (rrset_bytes s) ≡ 8 + length (flat_map record_bytes s.records)
set_is s =
    let a = length-append (to_be_bytes w16 s.rtype) (to_be_bytes w32 s.ttl ++ to_be_bytes w16 (length s.records) ++ flat_map record_bytes s.records) in
    let b = length-append (to_be_bytes w32 s.ttl) (to_be_bytes w16 (length s.records) ++ flat_map record_bytes s.records) in
    let c = length-append (to_be_bytes w16 (length s.records)) (flat_map record_bytes s.records) in
    omega (arith, a, b, c)

abbrev counted : List ℕ → ℕ
counted r = 1

as_many : (records : List (List ℕ)) → weighed counted records ≡ length records
as_many [] = refl
as_many (r ∷ records) = let e = as_many records in omega arith

-- ---- an addition

-- One RRset takes the place of the one of its type, or of none.
record OneChanged (owner : Name) (t : ℕ) (entry : Entry) (x : Rrset) (next : Entry) : Type 0 where
  sets : length next + there one (rrset_of t entry) ≡ length entry + 1
  octets : length (item owner next) + there octets_of (rrset_of t entry) ≡ length (item owner entry) + length (rrset_bytes x)
  found : rrset_of t next ≡ Some x
  others : (k : ℕ) → k ≢ t → rrset_of k next ≡ rrset_of k entry

one_changed : (owner : Name) (t : ℕ) (entry : Entry) (x : Rrset) → IsEntry entry → x.rtype ≡ t → OneChanged owner t entry x (changed_at t (λ f. x ∷ []) entry)
one_changed owner t entry x h is =
    let c : Change = λ f. x ∷ [] in
    let next = changed_at t c entry in
    let a = weighs one t c None entry h in
    let b = weighs octets_of t c None entry h in
    record {
      sets = omega (arith, a, many next, many entry);
      octets = omega (arith, b, item_is owner next, item_is owner entry);
      found = found_changed None t c entry (λ f. is) h;
      others = λ k apart. found_beside k t c entry apart (λ f. is);
    }

changed_as : (owner : Name) (t : ℕ) (entry : Entry) (x : Rrset) (c : Change) → IsEntry entry → x.rtype ≡ t → c (rrset_of t entry) ≡ x ∷ [] → OneChanged owner t entry x (changed_at t c entry)
changed_as owner t entry x c h is e = subst (λ (l : Entry). OneChanged owner t entry x l) (sym (changed_alike None t c (λ f. x ∷ []) entry h e)) (one_changed owner t entry x h is)

-- an SOA where none was, or another
soa_added : (owner : Name) (ttl : ℕ) (octets : List ℕ) (entry : Entry) → IsEntry entry → holds 6 octets entry ≡ false → OneChanged owner 6 entry (fresh 6 ttl octets) (with_soa ttl octets entry)
soa_added owner ttl octets entry h other =
    let is : with_soa ttl octets entry ≡ changed_at 6 (λ f. fresh 6 ttl octets ∷ []) entry =
    ap (λ (b : Bool). cond b entry (with_rr 6 ttl octets (without_set 6 entry))) other ∙ replaced None 6 (joined 6 ttl octets) entry h in
    subst (λ (l : Entry). OneChanged owner 6 entry (fresh 6 ttl octets) l) (sym is) (one_changed owner 6 entry (fresh 6 ttl octets) h refl)

with_other : (a : Addition) (entry : Entry) → eqb a.rtype 6 ≡ false → with_added a entry ≡ with_rr a.rtype a.ttl a.octets entry
with_other a entry t = ap (λ (b : Bool). cond b (with_soa a.ttl a.octets entry) (with_rr a.rtype a.ttl a.octets entry)) t

with_an_soa : (a : Addition) (entry : Entry) → eqb a.rtype 6 ≡ true → with_added a entry ≡ with_soa a.ttl a.octets entry
with_an_soa a entry t = ap (λ (b : Bool). cond b (with_soa a.ttl a.octets entry) (with_rr a.rtype a.ttl a.octets entry)) t

-- a record of another type
module _ (owner : Name) (a : Addition) (entry : Entry) (h : IsEntry entry) (other : eqb a.rtype 6 ≡ false) where
  set_begun : rrset_of a.rtype entry ≡ None → OneChanged owner a.rtype entry (fresh a.rtype a.ttl a.octets) (with_added a entry)
  set_begun none =
      subst (λ (l : Entry). OneChanged owner a.rtype entry (fresh a.rtype a.ttl a.octets) l) (sym (with_other a entry other))
      (changed_as owner a.rtype entry (fresh a.rtype a.ttl a.octets) (joined a.rtype a.ttl a.octets) h refl (ap (joined a.rtype a.ttl a.octets) none))

  set_joined : (s : Rrset) → rrset_of a.rtype entry ≡ Some s → OneChanged owner a.rtype entry (record s { records = with_record a.octets s.records }) (with_added a entry)
  set_joined s some =
      subst (λ (l : Entry). OneChanged owner a.rtype entry (record s { records = with_record a.octets s.records }) l) (sym (with_other a entry other))
      (changed_as owner a.rtype entry (record s { records = with_record a.octets s.records }) (joined a.rtype a.ttl a.octets) h (is_found None a.rtype entry s h some).1 (ap (joined a.rtype a.ttl a.octets) some))

-- ---- counts

abbrev count_with : ℕ → ℕ → ℕ → Count
count_with n m o = record { sets = n; aliases = m; octets = o }

count_is : (n m o n' m' o' : ℕ) → n ≡ n' → m ≡ m' → o ≡ o' → count_with n m o ≡ count_with n' m' o'
count_is n m o n' m' o' a b d = cc

counts : (owner : Name) (t : ℕ) (entry : Entry) (x : Rrset) (next : Entry) → OneChanged owner t entry x next → (f : Option Rrset) → rrset_of t entry ≡ f → (n m o : ℕ)
    → n + there one f ≡ length entry + 1 → m ≡ cond (eqb t 5) (length x.records) (records_in (rrset_of 5 entry)) → o + there octets_of f ≡ length (item owner entry) + length (rrset_bytes x)
    → record { sets = n; aliases = m; octets = o } ≡ count_of owner next
counts owner t entry x next k f is n m o a b d =
    let sets : n ≡ length next = (let e = subst (λ (g : Option Rrset). length next + there one g ≡ length entry + 1) is k.sets in omega arith) in
    let octets : o ≡ length (item owner next) = (let e = subst (λ (g : Option Rrset). length (item owner next) + there octets_of g ≡ length (item owner entry) + length (rrset_bytes x)) is k.octets in omega arith) in
    count_is n m o (length next) (records_in (rrset_of 5 next)) (length (item owner next)) sets (b ∙ by_type (eqb t 5) refl) octets
  where
    by_type : (b : Bool) → eqb t 5 ≡ b → cond b (length x.records) (records_in (rrset_of 5 entry)) ≡ records_in (rrset_of 5 next)
    by_type true e = sym (ap records_in (subst (λ (u : ℕ). rrset_of u next ≡ Some x) (eqb-true t 5 e) k.found))
    by_type false e = ap records_in (sym (k.others 5 (λ same. let bad : ⊥ = grind (arith, nat_tests) in absurd bad)))

fresh_octets : (t ttl : ℕ) (octets : List ℕ) → length (rrset_bytes (fresh t ttl octets)) ≡ 10 + length octets
fresh_octets t ttl octets = let a = set_is (fresh t ttl octets) in let b = records_are (octets ∷ []) in omega arith

joined_octets : (s : Rrset) (octets : List ℕ) → IsRrset s → length (rrset_bytes (record s { records = with_record octets s.records })) ≡ length (rrset_bytes s) + cond (has_record octets s.records) 0 (2 + length octets)
joined_octets s octets h =
    let a = set_is s in
    let b = set_is (record s { records = with_record octets s.records }) in
    let c = records_are s.records in
    let d = records_are (with_record octets s.records) in
    let e = record_joins in_item octets None s.records h.rising in
    omega arith

joined_many : (s : Rrset) (octets : List ℕ) → IsRrset s → length (with_record octets s.records) ≡ length s.records + cond (has_record octets s.records) 0 1
joined_many s octets h =
    let a = as_many s.records in
    let b = as_many (with_record octets s.records) in
    let e = record_joins counted octets None s.records h.rising in
    omega arith

module _ (a : Addition) (entry : Entry) (h : IsEntry entry) (c : Count) (is : c ≡ count_of a.owner entry) where
  sets_is : c.sets ≡ length entry
  sets_is = ap (λ (x : Count). x.sets) is

  octets_is : c.octets ≡ length (item a.owner entry)
  octets_is = ap (λ (x : Count). x.octets) is

  aliases_is : c.aliases ≡ records_in (rrset_of 5 entry)
  aliases_is = ap (λ (x : Count). x.aliases) is

  -- a set that is found is part of the item
  pub found_within : (t : ℕ) (s : Rrset) → rrset_of t entry ≡ Some s → length (rrset_bytes s) ≤ c.octets
  found_within t s found =
      let e = weighs octets_of t (λ f. []) None entry h in
      let g : total octets_of (changed_at t (λ f. []) entry) + length (rrset_bytes s) ≡ total octets_of entry + 0 = subst (λ (f : Option Rrset). total octets_of (changed_at t (λ f. []) entry) + there octets_of f ≡ total octets_of entry + 0) found e in
      let o = item_is a.owner entry in
      let p = octets_is in
      omega arith

  module _ (soa : a.rtype ≡ 6) (other : holds 6 a.octets entry ≡ false) where
    added : OneChanged a.owner 6 entry (fresh 6 a.ttl a.octets) (with_added a entry)
    added =
        let test : eqb a.rtype 6 ≡ true = grind (arith, nat_tests) in
        subst (λ (l : Entry). OneChanged a.owner 6 entry (fresh 6 a.ttl a.octets) l) (sym (with_an_soa a entry test)) (soa_added a.owner a.ttl a.octets entry h other)

    pub soa_begins : rrset_of 6 entry ≡ None → record { sets = c.sets + 1; aliases = c.aliases; octets = c.octets + 10 + length a.octets } ≡ count_of a.owner (with_added a entry)
    soa_begins none =
        let o = octets_is in
        let n = sets_is in
        let f = fresh_octets 6 a.ttl a.octets in
        counts a.owner 6 entry (fresh 6 a.ttl a.octets) (with_added a entry) added None none (c.sets + 1) c.aliases (c.octets + 10 + length a.octets) (omega arith) aliases_is (omega arith)

    pub soa_replaces : (s : Rrset) → rrset_of 6 entry ≡ Some s → (n : ℕ) → n ≡ length (rrset_bytes s) → record { sets = c.sets; aliases = c.aliases; octets = c.octets + 10 + length a.octets - n } ≡ count_of a.owner (with_added a entry)
    soa_replaces s some n size =
        let o = octets_is in
        let k = sets_is in
        let f = fresh_octets 6 a.ttl a.octets in
        let w = found_within 6 s some in
        counts a.owner 6 entry (fresh 6 a.ttl a.octets) (with_added a entry) added (Some s) some c.sets c.aliases (c.octets + 10 + length a.octets - n) (omega arith) aliases_is (omega arith)

  -- the same SOA again
  pub soa_stays : a.rtype ≡ 6 → holds 6 a.octets entry ≡ true → c ≡ count_of a.owner (with_added a entry)
  soa_stays soa held =
      let test : eqb a.rtype 6 ≡ true = grind (arith, nat_tests) in
      let same : with_added a entry ≡ entry = with_an_soa a entry test ∙ ap (λ (b : Bool). cond b entry (with_rr 6 a.ttl a.octets (without_set 6 entry))) held in
      is ∙ ap (count_of a.owner) (sym same)

  module _ (other : a.rtype ≢ 6) where
    no_soa : eqb a.rtype 6 ≡ false
    no_soa = grind (arith, nat_tests)

    pub set_begins : rrset_of a.rtype entry ≡ None → (m : ℕ) → m ≡ cond (eqb a.rtype 5) 1 c.aliases → record { sets = c.sets + 1; aliases = m; octets = c.octets + 10 + length a.octets } ≡ count_of a.owner (with_added a entry)
    set_begins none m aliases =
        let o = octets_is in
        let n = sets_is in
        let f = fresh_octets a.rtype a.ttl a.octets in
        counts a.owner a.rtype entry (fresh a.rtype a.ttl a.octets) (with_added a entry) (set_begun a.owner a entry h no_soa none) None none (c.sets + 1) m (c.octets + 10 + length a.octets) (omega arith)
        (aliases ∙ ap (cond (eqb a.rtype 5) 1) aliases_is) (omega arith)

    module _ (s : Rrset) (some : rrset_of a.rtype entry ≡ Some s) where
      set_of : IsRrset s
      set_of = (is_found None a.rtype entry s h some).0

      pub record_joined : has_record a.octets s.records ≡ false → (m : ℕ) → m ≡ cond (eqb a.rtype 5) (length s.records + 1) c.aliases → record { sets = c.sets; aliases = m; octets = c.octets + 2 + length a.octets } ≡ count_of a.owner (with_added a entry)
      record_joined new m aliases =
          let o = octets_is in
          let n = sets_is in
          let f = joined_octets s a.octets set_of ∙ ap (λ (b : Bool). length (rrset_bytes s) + cond b 0 (2 + length a.octets)) new in
          let k = joined_many s a.octets set_of ∙ ap (λ (b : Bool). length s.records + cond b 0 1) new in
          counts a.owner a.rtype entry (record s { records = with_record a.octets s.records }) (with_added a entry) (set_joined a.owner a entry h no_soa s some) (Some s) some c.sets m (c.octets + 2 + length a.octets) (omega arith)
          (aliases ∙ ap (λ (x : ℕ). cond (eqb a.rtype 5) x c.aliases) (sym k) ∙ ap (cond (eqb a.rtype 5) (length (with_record a.octets s.records))) aliases_is) (omega arith)

      pub record_stays : has_record a.octets s.records ≡ true → c ≡ count_of a.owner (with_added a entry)
      record_stays held =
          let o = octets_is in
          let n = sets_is in
          let f = joined_octets s a.octets set_of ∙ ap (λ (b : Bool). length (rrset_bytes s) + cond b 0 (2 + length a.octets)) held in
          let k = joined_many s a.octets set_of ∙ ap (λ (b : Bool). length s.records + cond b 0 1) held in
          counts a.owner a.rtype entry (record s { records = with_record a.octets s.records }) (with_added a entry) (set_joined a.owner a entry h no_soa s some) (Some s) some c.sets c.aliases c.octets (omega arith)
          (by_type (eqb a.rtype 5) refl k) (omega arith)
        where
          by_type : (b : Bool) → eqb a.rtype 5 ≡ b → length (with_record a.octets s.records) ≡ length s.records + 0 → c.aliases ≡ cond b (length (with_record a.octets s.records)) (records_in (rrset_of 5 entry))
          by_type true e k =
              let found : rrset_of 5 entry ≡ Some s = subst (λ (u : ℕ). rrset_of u entry ≡ Some s) (eqb-true a.rtype 5 e) some in
              let m : c.aliases ≡ length s.records = aliases_is ∙ ap records_in found in
              omega arith
          by_type false e k = aliases_is

-- ---- aliases

lone_is : (entry : Entry) → IsEntry entry → is_lone entry ≡ (eqb (records_in (rrset_of 5 entry)) 0 || (eqb (length entry) 1 && leb (records_in (rrset_of 5 entry)) 1))
lone_is [] h = refl
lone_is (s ∷ []) h = by_type (eqb s.rtype 5)
  where
    by_many : (n : ℕ) → leb n 1 ≡ (eqb n 0 || leb n 1)
    by_many zero = refl
    by_many (suc n) = grind (arith, nat_tests)

    by_type : (b : Bool) → (not b || leb (length s.records) 1) ≡ (eqb (records_in (cond b (Some s) None)) 0 || leb (records_in (cond b (Some s) None)) 1)
    by_type true = by_many (length s.records)
    by_type false = refl
lone_is (s ∷ t ∷ more) h = by_found (rrset_of 5 (s ∷ t ∷ more)) refl
  where
    by_found : (f : Option Rrset) → rrset_of 5 (s ∷ t ∷ more) ≡ f → is_none f ≡ (eqb (records_in f) 0 || (eqb (length (s ∷ t ∷ more)) 1 && leb (records_in f) 1))
    by_found None e = refl
    by_found (Some x) e =
        let some = (is_found None 5 (s ∷ t ∷ more) x h e).0.some in
        let more_sets : eqb (length (s ∷ t ∷ more)) 1 ≡ false = grind (arith, nat_tests) in
        let none : eqb (length x.records) 0 ≡ false = grind (arith, nat_tests) in
        sym (ap (λ (b : Bool). b || (eqb (length (s ∷ t ∷ more)) 1 && leb (length x.records) 1)) none ∙ ap (λ (b : Bool). b && leb (length x.records) 1) more_sets)

-- an addition leaves an entry
pub entry_added : (a : Addition) (entry : Entry) → a.rtype ≤ 65535 → a.ttl ≤ 4294967295 → length a.octets ≤ 65535 → IsEntry entry → IsEntry (with_added a entry)
entry_added a entry t l n h = by_type (eqb a.rtype 6) refl
  where
    by_held : (b : Bool) → IsEntry (cond b entry (with_rr 6 a.ttl a.octets (without_set 6 entry)))
    by_held true = h
    by_held false = entry_with 6 a.ttl a.octets (without_set 6 entry) (omega arith) l n (entry_without_set 6 entry h)

    by_type : (b : Bool) → eqb a.rtype 6 ≡ b → IsEntry (cond b (with_soa a.ttl a.octets entry) (with_rr a.rtype a.ttl a.octets entry))
    by_type true e = by_held (holds 6 a.octets entry)
    by_type false e = entry_with a.rtype a.ttl a.octets entry t l n h

-- ---- what is refused

module _ (origin : Name) (a : Addition) (entry : Entry) where
  pub low_refused : is_low_soa origin a ≡ true → changed origin (Add a) entry ≡ Err Soa
  low_refused low = ap (λ (b : Bool). cond b (Err Soa) (fitting a.owner (with_added a entry))) low

  module _ (low : is_low_soa origin a ≡ false) (c : Count) (is : c ≡ count_of a.owner (with_added a entry)) (h : IsEntry (with_added a entry)) where
    by_fitting : changed origin (Add a) entry ≡ fitting a.owner (with_added a entry)
    by_fitting = ap (λ (b : Bool). cond b (Err Soa) (fitting a.owner (with_added a entry))) low

    lone_counted : is_lone (with_added a entry) ≡ lone_by c
    lone_counted = lone_is (with_added a entry) h ∙ ap lone_by (sym is)

    by_lone : (b : Bool) → lone_by c ≡ b → fitting a.owner (with_added a entry) ≡ cond (not b) (Err Cname) (cond (ltb item_limit (length (item a.owner (with_added a entry)))) (Err Long) (Ok (with_added a entry)))
    by_lone b e = ap (λ (l : Bool). cond (not l) (Err Cname) (cond (ltb item_limit (length (item a.owner (with_added a entry)))) (Err Long) (Ok (with_added a entry)))) (lone_counted ∙ e)

    pub alias_refused : lone_by c ≡ false → changed origin (Add a) entry ≡ Err Cname
    alias_refused e = by_fitting ∙ by_lone false e

    long_is : c.octets ≡ length (item a.owner (with_added a entry))
    long_is = ap (λ (x : Count). x.octets) is

    pub long_refused : lone_by c ≡ true → item_limit < c.octets → changed origin (Add a) entry ≡ Err Long
    long_refused e lt =
        let o = long_is in
        let test : ltb item_limit (length (item a.owner (with_added a entry))) ≡ true = grind (arith, nat_tests) in
        by_fitting ∙ by_lone true e ∙ ap (λ (b : Bool). cond b (Err Long) (Ok (with_added a entry))) test

    pub added_fits : lone_by c ≡ true → c.octets ≤ item_limit → changed origin (Add a) entry ≡ Ok (with_added a entry)
    added_fits e le =
        let o = long_is in
        let test : ltb item_limit (length (item a.owner (with_added a entry))) ≡ false = grind (arith, nat_tests) in
        by_fitting ∙ by_lone true e ∙ ap (λ (b : Bool). cond b (Err Long) (Ok (with_added a entry))) test

-- ---- what takes an SOA away

pub kept_or_lost : (before after : Entry) (lost : Bool) (r : Option Refusal) → r ≡ cond lost (Some Soa) None → lost ≡ loses_soa before after → MatchOption r (keeping_soa before after ≡ Ok after) (λ refusal. keeping_soa before after ≡ Err refusal)
kept_or_lost before after lost r is e =
    subst (λ (o : Option Refusal). MatchOption o (keeping_soa before after ≡ Ok after) (λ refusal. keeping_soa before after ≡ Err refusal)) (sym is) (by_lost lost e)
  where
    by_lost : (b : Bool) → b ≡ loses_soa before after → MatchOption (cond b (Some Soa) None) (keeping_soa before after ≡ Ok after) (λ refusal. keeping_soa before after ≡ Err refusal)
    by_lost true e = ap (λ (b : Bool). cond b (Err Soa) (Ok after)) (sym e)
    by_lost false e = ap (λ (b : Bool). cond b (Err Soa) (Ok after)) (sym e)

pub all_lost : (entry : Entry) → is_some (rrset_of 6 entry) ≡ loses_soa entry []
all_lost entry = by_found (rrset_of 6 entry)
  where
    by_found : (f : Option Rrset) → is_some f ≡ (is_some f && true)
    by_found None = refl
    by_found (Some s) = refl

stays_there : (f : Option Rrset) → false ≡ (is_some f && is_none f)
stays_there None = refl
stays_there (Some s) = refl

pub set_lost : (t : ℕ) (entry : Entry) → IsEntry entry → (eqb t 6 && is_some (rrset_of 6 entry)) ≡ loses_soa entry (without_set t entry)
set_lost t entry h = by_type (eqb t 6) refl
  where
    by_found : (f : Option Rrset) → is_some f ≡ (is_some f && true)
    by_found None = refl
    by_found (Some s) = refl

    by_type : (b : Bool) → eqb t 6 ≡ b → (b && is_some (rrset_of 6 entry)) ≡ loses_soa entry (without_set t entry)
    by_type true e =
        let gone : rrset_of 6 (without_set t entry) ≡ None = subst (λ (u : ℕ). rrset_of u (without_set t entry) ≡ None) (eqb-true t 6 e) (found_changed None t (λ f. []) entry (λ f. tt) h) in
        by_found (rrset_of 6 entry) ∙ ap (λ (f : Option Rrset). is_some (rrset_of 6 entry) && is_none f) (sym gone)
    by_type false e =
        let apart : 6 ≢ t = (λ same. let bad : ⊥ = grind (arith, nat_tests) in absurd bad) in
        stays_there (rrset_of 6 entry) ∙ ap (λ (f : Option Rrset). is_some (rrset_of 6 entry) && is_none f) (sym (found_beside 6 t (λ f. []) entry apart (λ f. tt)))

lessened_of : (t : ℕ) (octets : List ℕ) (s : Rrset) → s.rtype ≡ t → IsOf t (lessened octets (Some s))
lessened_of t octets s is = by_test (eqb (length (without_record octets s.records)) 0)
  where
    by_test : (b : Bool) → IsOf t (cond b [] ((record s { records = without_record octets s.records }) ∷ []))
    by_test true = tt
    by_test false = is

pub record_lost : (octets : List ℕ) (entry : Entry) (s : Rrset) → IsEntry entry → rrset_of 6 entry ≡ Some s → (eqb (length s.records) 1 && has_record octets s.records) ≡ loses_soa entry (without_rr 6 octets entry)
record_lost octets entry s h found =
    let l = lessened octets (Some s) in
    let of : IsOf 6 l = lessened_of 6 octets s (is_found None 6 entry s h found).1 in
    let left : rrset_of 6 (without_rr 6 octets entry) ≡ first_of l =
    ap (rrset_of 6) (changed_alike None 6 (lessened octets) (λ f. l) entry h (ap (lessened octets) found)) ∙ found_changed None 6 (λ f. l) entry (λ f. of) h in
    by_left (has_record octets s.records) (record_leaves octets None s.records (is_found None 6 entry s h found).0.rising) (is_found None 6 entry s h found).0.some
    ∙ ap (λ (f : Option Rrset). true && is_none f) (sym left) ∙ ap (λ (f : Option Rrset). is_some f && is_none (rrset_of 6 (without_rr 6 octets entry))) (sym found)
  where
    by_gone : (n : ℕ) → n ≡ length (without_record octets s.records) → (b : Bool) → eqb n 0 ≡ b → b ≡ is_none (first_of (cond b [] ((record s { records = without_record octets s.records }) ∷ [])))
    by_gone n is true e = refl
    by_gone n is false e = refl

    by_left : (b : Bool) → length (without_record octets s.records) + cond b 1 0 ≡ length s.records → 0 < length s.records → (eqb (length s.records) 1 && b) ≡ is_none (first_of (lessened octets (Some s)))
    by_left true e some =
        let same : eqb (length s.records) 1 ≡ eqb (length (without_record octets s.records)) 0 = grind (arith, nat_tests) in
        ap (λ (c : Bool). c && true) same ∙ and_true (eqb (length (without_record octets s.records)) 0) ∙ by_gone (length (without_record octets s.records)) refl (eqb (length (without_record octets s.records)) 0) refl
      where
        and_true : (c : Bool) → (c && true) ≡ c
        and_true true = refl
        and_true false = refl
    by_left false e some =
        let none : eqb (length (without_record octets s.records)) 0 ≡ false = grind (arith, nat_tests) in
        and_false (eqb (length s.records) 1) ∙ ap (λ (c : Bool). is_none (first_of (cond c [] ((record s { records = without_record octets s.records }) ∷ [])))) (sym none)
      where
        and_false : (c : Bool) → (c && false) ≡ false
        and_false true = refl
        and_false false = refl

-- no SOA leaves with a record of another type, or where there is none
pub other_kept : (t : ℕ) (octets : List ℕ) (entry : Entry) → IsEntry entry → t ≢ 6 → false ≡ loses_soa entry (without_rr t octets entry)
other_kept t octets entry h apart =
    let l = lessened octets (rrset_of t entry) in
    let same : without_rr t octets entry ≡ changed_at t (λ f. l) entry = changed_alike None t (lessened octets) (λ f. l) entry h refl in
    let beside : rrset_of 6 (without_rr t octets entry) ≡ rrset_of 6 entry = ap (rrset_of 6) same ∙ found_beside 6 t (λ f. l) entry (λ is. apart (sym is)) (λ f. by_found (rrset_of t entry) refl) in
    stays_there (rrset_of 6 entry) ∙ ap (λ (f : Option Rrset). is_some (rrset_of 6 entry) && is_none f) (sym beside)
  where
    by_found : (f : Option Rrset) → rrset_of t entry ≡ f → IsOf t (lessened octets f)
    by_found None e = tt
    by_found (Some s) e = lessened_of t octets s (is_found None t entry s h e).1

pub none_kept : (after entry : Entry) → rrset_of 6 entry ≡ None → false ≡ loses_soa entry after
none_kept after entry none = ap (λ (f : Option Rrset). is_some f && is_none (rrset_of 6 after)) (sym none)

-- ---- an owner's item

pub says_entry : (owner : Name) (octets : List ℕ) (entry : Entry) → SaysEntry owner octets entry → IsEntry entry
says_entry owner [] entry h = subst IsEntry (sym h) tt
says_entry owner (b ∷ octets) entry h = h.proper

pub says_many : (owner : Name) (octets : List ℕ) (entry : Entry) → SaysEntry owner octets entry → length entry ≤ item_limit
says_many owner [] entry h = subst (λ (l : Entry). length l ≤ item_limit) (sym h) (omega arith)
says_many owner (b ∷ octets) entry h =
    let few = few_in_item owner entry in
    let short = h.short in
    let long = ap (λ (l : List ℕ). length l) h.octets in
    omega arith

pub nothing_counted : (owner : Name) (octets : List ℕ) (entry : Entry) → SaysEntry owner octets entry → length octets ≡ 0 → length (wire owner) + 2 ≡ length (item owner entry)
nothing_counted owner [] entry h e = let l = item_is owner entry ∙ ap (λ (x : Entry). length (wire owner) + 2 + total octets_of x) h in omega arith
nothing_counted owner (b ∷ octets) entry h e = absurd (omega arith)

pub item_counted : (owner : Name) (octets : List ℕ) (entry : Entry) → SaysEntry owner octets entry → 0 < length octets → length octets ≡ length (item owner entry)
item_counted owner [] entry h e = absurd (omega arith)
item_counted owner (b ∷ octets) entry h e = ap (λ (l : List ℕ). length l) h.octets

pub if_same : (t n m k : ℕ) → n ≡ m → cond (eqb t 5) n k ≡ cond (eqb t 5) m k
if_same t n m k e = ap (λ (x : ℕ). cond (eqb t 5) x k) e

pub eqb_of : (a b : ℕ) → a ≡ b → eqb a b ≡ true
eqb_of a b e = grind (arith, nat_tests)

pub says_short : (owner : Name) (octets : List ℕ) (entry : Entry) → SaysEntry owner octets entry → length octets ≤ item_limit
says_short owner [] entry h = omega arith
says_short owner (b ∷ octets) entry h = h.short

pub not_of : (a b : ℕ) → a ≢ b → eqb a b ≡ false
not_of a b e = grind (arith, nat_tests)

pub taken : (t : ℕ) (octets : List ℕ) (entry : Entry) (s : Rrset) → IsEntry entry → t ≡ 6 → rrset_of 6 entry ≡ Some s → (eqb (length s.records) 1 && has_record octets s.records) ≡ loses_soa entry (without_rr t octets entry)
taken t octets entry s h is found = subst (λ (u : ℕ). (eqb (length s.records) 1 && has_record octets s.records) ≡ loses_soa entry (without_rr u octets entry)) (sym is) (record_lost octets entry s h found)
