-- The operations of one name make of its entry before the one that is due, and none is refused.
use Rattle.std.proofs.Common.{◌≡◌, ◌≢◌, ◌∙◌, ℕ, ◌≤◌, Bool, true, false, cond, eqb, List, [], ◌∷◌, ◌++◌, length, map, refl, sym, ap, subst, arith, Option, Some, None, Ok}
use Rattle.std.proofs.lemmas.Bool.Decides.{nat_tests}
use borrow.Author.Tests.{eqb-false, eqb-true}
use Rattle.std.specs.Cmp.{second_so}
use Rattle.std.specs.List.{list_any}
use Rattle.zone_model.specs.Names.{Name}
use Rattle.zone_model.specs.Records.{Rrset, Entry, rrset_of, changed_at, rrset_bytes, RisingOctets, IsEntry, IsRrset}
use Rattle.zone_model.specs.Versions.{Operation, DeleteSet, DeleteRecord, owner_of}
use Rattle.zone_change.proofs.FoundLaws.{is_found, left_alone, same_set}
use Rattle.zone_diff.specs.declared.Serial.{Serial}
use Rattle.zone_diff.specs.Serials.{counts_as}
use Rattle.zone_diff.specs.declared.sets.Side.TheVariants.{Before, After}
use Rattle.zone_diff.specs.Differences.{addition, lacking, set_changes, set_deletions, set_additions, unless_soa, stays, soa_additions, staying, deletions, additions, entry_difference, with_set, made_entry}
use Rattle.zone_diff.proofs.EachLemmas.{Each, all_any, all_of, all_proper, lacking_all, of_set, of_sets}
use Rattle.zone_diff.proofs.RecordLemmas.{without_all, AreShort, exchanged, all_come, all_short, or_none}
use Rattle.zone_diff.proofs.EntryLemmas.{set_of, set_is, set_goes, all_made, IsPlain, AllPlain, all_plain_entry, all_plain_beside, plain_each, records_go, records_come, Works, Walked, walked, found_then, same_entries}
use Rattle.zone_diff.proofs.FitLemmas.{IsFit, all_changed, changed_on, placed, fit_placed, fresh_length, IsOther, IsDeletion, IsAddition, AreDeletions, AreAdditions, deletions_let, additions_let, fit_first}
use Rattle.zone_diff.proofs.SoaLemmas.{OneSoa, soa_is, counts_length, placed_proper, placed_found, placed_beside, SoaDone, SoaPair, soa_done, kept_or}

-- ---- what is left of an RRset when the deletions are made

abbrev left_of : Option Rrset → Rrset → Option Rrset
left_of None s = None
left_of (Some t) s = cond (eqb s.ttl t.ttl) (set_of s.rtype s.ttl (without_all (lacking t.records s.records) s.records)) None

some_set : (s : Rrset) → IsRrset s → Some s ≡ set_of s.rtype s.ttl s.records
some_set s is = set_is s.rtype s.ttl s.records is.some

-- operations of one type do nothing else
works : (operations : List Operation) (t : ℕ) (from to : Option Rrset) → t ≢ 6 → AllPlain t operations → ((entry : Entry) → IsEntry entry → rrset_of t entry ≡ from → rrset_of t (all_made operations entry) ≡ to) → Works operations t from to
works operations t from to other plain done =
    record { done = done; others = λ entry k apart h. all_plain_beside k t operations entry other apart plain h; proper = λ entry h. all_plain_entry t operations entry other plain h }

works_gone : (owner : Name) (y : Option Rrset) (s : Rrset) → IsRrset s → s.rtype ≢ 6 → Works (set_deletions owner y s) s.rtype (Some s) (left_of y s)
works_gone owner y s is other = works (set_changes Before owner y s) s.rtype (Some s) (left_of y s) other (of_set (IsPlain s.rtype) Before owner y s (plain_each Before owner s is)) (done y)
  where
    done : (y : Option Rrset) (entry : Entry) → IsEntry entry → rrset_of s.rtype entry ≡ Some s → rrset_of s.rtype (all_made (set_changes Before owner y s) entry) ≡ left_of y s
    done None entry h e = set_goes s.rtype entry h
    done (Some t) entry h e = by_time (eqb s.ttl t.ttl)
      where
        by_time : (b : Bool) → rrset_of s.rtype (all_made (cond b (map (DeleteRecord owner s.rtype) (lacking t.records s.records)) (DeleteSet owner s.rtype ∷ [])) entry) ≡ cond b (set_of s.rtype s.ttl (without_all (lacking t.records s.records) s.records)) None
        by_time true = records_go owner s.rtype s.ttl (lacking t.records s.records) s.records entry other h (e ∙ some_set s is)
        by_time false = set_goes s.rtype entry h

abbrev left_by : Option Rrset → Option Rrset → Option Rrset
left_by None y = None
left_by (Some s) y = left_of y s

-- an RRset of a type, where there is one
abbrev IsSetOf : ℕ → Option Rrset → Type 0
IsSetOf t None = Unit {0}
IsSetOf t (Some s) = IsRrset s × (s.rtype ≡ t)

works_come : (owner : Name) (x : Option Rrset) (t : Rrset) → IsRrset t → IsSetOf t.rtype x → t.rtype ≢ 6 → Works (set_additions owner x t) t.rtype (left_by x (Some t)) (Some t)
works_come owner x t is of other = works (set_changes After owner x t) t.rtype (left_by x (Some t)) (Some t) other (of_set (IsPlain t.rtype) After owner x t (plain_each After owner t is)) (done x of)
  where
    short : AreShort t.records
    short = all_short None t.records is.rising

    whole : (entry : Entry) → IsEntry entry → rrset_of t.rtype entry ≡ None → rrset_of t.rtype (all_made (map (addition owner t.rtype t.ttl) t.records) entry) ≡ Some t
    whole entry h e = records_come owner t.rtype t.ttl t.records [] entry other is.rtype is.ttl short h e ∙ ap (set_of t.rtype t.ttl) (all_come t.records is.rising short) ∙ sym (some_set t is)

    done : (x : Option Rrset) → IsSetOf t.rtype x → (entry : Entry) → IsEntry entry → rrset_of t.rtype entry ≡ left_by x (Some t) → rrset_of t.rtype (all_made (set_changes After owner x t) entry) ≡ Some t
    done None of entry h e = whole entry h e
    done (Some s) of entry h e = by_time (eqb t.ttl s.ttl) refl (e ∙ ap (λ (b : Bool). cond b (set_of s.rtype s.ttl (without_all (lacking t.records s.records) s.records)) None) (turned s.ttl t.ttl))
      where
        turned : (a b : ℕ) → eqb a b ≡ eqb b a
        turned a b = grind (arith, nat_tests)

        by_time : (b : Bool) → eqb t.ttl s.ttl ≡ b → rrset_of t.rtype entry ≡ cond b (set_of s.rtype s.ttl (without_all (lacking t.records s.records) s.records)) None
            → rrset_of t.rtype (all_made (cond b (map (addition owner t.rtype t.ttl) (lacking s.records t.records)) (map (addition owner t.rtype t.ttl) t.records)) entry) ≡ Some t
        by_time true q f =
            let one = of.0 in
            let few : AreShort (lacking s.records t.records) = lacking_all (λ (octets : List ℕ). length octets ≤ 65535) s.records t.records short in
            let alike : set_of s.rtype s.ttl (without_all (lacking t.records s.records) s.records) ≡ set_of t.rtype t.ttl (without_all (lacking t.records s.records) s.records) =
            ap (λ (n : ℕ). set_of n s.ttl (without_all (lacking t.records s.records) s.records)) of.1 ∙ ap (λ (n : ℕ). set_of t.rtype n (without_all (lacking t.records s.records) s.records)) (sym (eqb-true t.ttl s.ttl q)) in
            records_come owner t.rtype t.ttl (lacking s.records t.records) (without_all (lacking t.records s.records) s.records) entry other is.rtype is.ttl few h (f ∙ alike)
            ∙ ap (set_of t.rtype t.ttl) (exchanged s.records t.records one.rising is.rising few) ∙ sym (some_set t is)
        by_time false q f = whole entry h f

nothing : (t : ℕ) (from to : Option Rrset) → from ≡ to → Works [] t from to
nothing t from to e = record { done = λ entry h f. f ∙ e; others = λ entry k apart h. refl; proper = λ entry h. h }

deletion_works : (owner : Name) (s : Rrset) (x y : Option Rrset) → IsRrset s → x ≡ Some s → Works (unless_soa s (set_deletions owner y s)) s.rtype x (cond (eqb s.rtype 6) x (left_by x y))
deletion_works owner s x y is e =
    subst (λ (f : Option Rrset). Works (unless_soa s (set_deletions owner y s)) s.rtype f (cond (eqb s.rtype 6) f (left_by f y))) (sym e) (by_type (eqb s.rtype 6) refl)
  where
    by_type : (b : Bool) → eqb s.rtype 6 ≡ b → Works (cond b [] (set_deletions owner y s)) s.rtype (Some s) (cond b (Some s) (left_of y s))
    by_type true q = nothing s.rtype (Some s) (Some s) refl
    by_type false q = works_gone owner y s is (eqb-false s.rtype 6 q)

addition_works : (owner : Name) (t : Rrset) (x y soa : Option Rrset) → IsRrset t → IsSetOf t.rtype x → y ≡ Some t
    → Works (unless_soa t (set_additions owner x t)) t.rtype (cond (eqb t.rtype 6) soa (left_by x y)) (cond (eqb t.rtype 6) soa y)
addition_works owner t x y soa is of e =
    subst (λ (f : Option Rrset). Works (unless_soa t (set_additions owner x t)) t.rtype (cond (eqb t.rtype 6) soa (left_by x f)) (cond (eqb t.rtype 6) soa f)) (sym e) (by_type (eqb t.rtype 6) refl)
  where
    by_type : (b : Bool) → eqb t.rtype 6 ≡ b → Works (cond b [] (set_additions owner x t)) t.rtype (cond b soa (left_by x (Some t))) (cond b soa (Some t))
    by_type true q = nothing t.rtype soa soa refl
    by_type false q = works_come owner x t is of (eqb-false t.rtype 6 q)

found_set : (entry : Entry) (t : ℕ) → IsEntry entry → IsSetOf t (rrset_of t entry)
found_set entry t h = by_found (rrset_of t entry) refl
  where
    by_found : (f : Option Rrset) → rrset_of t entry ≡ f → IsSetOf t f
    by_found None e = tt
    by_found (Some s) e = is_found None t entry s h e

-- ---- which operations they are

other : (t : ℕ) → t ≢ 6 → (operation : Operation) → IsPlain t operation → IsOther operation
other t apart operation p = record { rtype = t; other = apart; plain = p }

are_deletions : (owner : Name) (after sets : Entry) → AreDeletions (deletions owner sets after)
are_deletions owner after sets = of_sets Gone Before owner after sets (all_any (λ (s : Rrset). s.rtype ≢ 6 → Each Gone Before owner s) (λ s apart. record {
  whole = λ e. (other s.rtype apart (DeleteSet owner s.rtype) refl, tt);
  records = all_any (λ (octets : List ℕ). Gone (DeleteRecord owner s.rtype octets)) (λ octets. (other s.rtype apart (DeleteRecord owner s.rtype octets) refl, tt)) s.records;
}) sets)
  where
    Gone : Operation → Type 0
    Gone operation = IsOther operation × IsDeletion operation

are_additions : (owner : Name) (before sets : Entry) → IsEntry sets → AreAdditions owner (additions owner before sets)
are_additions owner before sets h = of_sets Come After owner before sets (all_of IsRrset (λ (s : Rrset). s.rtype ≢ 6 → Each Come After owner s) (λ s is apart. let e : Each (IsPlain s.rtype) After owner s = plain_each After owner s is in record {
  whole = λ q. absurd cc;
  records = all_of (λ (octets : List ℕ). IsPlain s.rtype (addition owner s.rtype s.ttl octets)) (λ (octets : List ℕ). Come (addition owner s.rtype s.ttl octets)) (λ octets p. (other s.rtype apart (addition owner s.rtype s.ttl octets) p, tt, refl)) s.records e.records;
}) sets (all_proper None sets h))
  where
    Come : Operation → Type 0
    Come operation = IsOther operation × IsAddition operation × (owner_of operation ≡ owner)

-- ---- what is made

record MadeOf (owner : Name) (soa : Option Rrset) (after entry : Entry) : Type 0 where
  proper : IsEntry entry
  fit : IsFit owner entry
  found : (t : ℕ) → rrset_of t entry ≡ cond (eqb t 6) soa (rrset_of t after)

made_alike : (owner : Name) (y : Option Rrset) (after : Entry) → IsEntry after → IsFit owner after → rrset_of 6 after ≡ y → MadeOf owner y after after
made_alike owner y after h f e = record { proper = h; fit = f; found = λ t. by_type t (eqb t 6) refl }
  where
    by_type : (t : ℕ) (b : Bool) → eqb t 6 ≡ b → rrset_of t after ≡ cond b y (rrset_of t after)
    by_type t true q = ap (λ (n : ℕ). rrset_of n after) (eqb-true t 6 q) ∙ e
    by_type t false q = refl

made_kept : (owner : Name) (s t : Rrset) (after : Entry) (one : OneSoa s) (other : OneSoa t) → IsRrset s → length one.octets ≡ length other.octets → IsEntry after → IsFit owner after → rrset_of 6 after ≡ Some t → MadeOf owner (Some s) after (placed 6 s after)
made_kept owner s t after one other is e h f at =
    let same : placed 6 t after ≡ after = left_alone 6 (λ x. t ∷ []) after h (sym (ap same_set at)) in
    let s_is = soa_is s one in
    let t_is = soa_is t other in
    let rising : RisingOctets None (one.octets ∷ []) = subst (λ (l : List (List ℕ)). RisingOctets None l) one.records_are is.rising in
    let short : length one.octets ≤ 65535 = rising.1 in
    let lengths : length (rrset_bytes s) ≡ length (rrset_bytes t) = ap (λ (x : Rrset). length (rrset_bytes x)) s_is ∙ fresh_length s.ttl t.ttl one.octets other.octets e ∙ sym (ap (λ (x : Rrset). length (rrset_bytes x)) t_is) in
    record {
      proper = subst (λ (x : Rrset). IsEntry (placed 6 x after)) (sym s_is) (placed_proper s.ttl one.octets after is.ttl short h);
      fit = fit_placed owner s t after one.rtype_is other.rtype_is lengths (subst (IsFit owner) (sym same) f);
      found = λ k. by_type k (eqb k 6) refl;
    }
  where
    by_type : (k : ℕ) (b : Bool) → eqb k 6 ≡ b → rrset_of k (placed 6 s after) ≡ cond b (Some s) (rrset_of k after)
    by_type k true q = ap (λ (n : ℕ). rrset_of n (placed 6 s after)) (eqb-true k 6 q) ∙ placed_found s after one.rtype_is h
    by_type k false q = placed_beside k s after (eqb-false k 6 q) one.rtype_is

pub stays_counts : (mode : Serial) (s t : Rrset) (one : OneSoa s) (other : OneSoa t) → list_any (stays mode s t.ttl) t.records ≡ true → counts_as mode other.octets one.octets ≡ true
stays_counts mode s t one other e =
    let a : stays mode s t.ttl other.octets ≡ true = or_none (stays mode s t.ttl other.octets) (subst (λ (l : List (List ℕ)). list_any (stays mode s t.ttl) l ≡ true) other.records_are e) in
    let b : list_any (counts_as mode other.octets) s.records ≡ true = second_so (eqb s.ttl t.ttl) (list_any (counts_as mode other.octets) s.records) a in
    or_none (counts_as mode other.octets one.octets) (subst (λ (l : List (List ℕ)). list_any (counts_as mode other.octets) l ≡ true) one.records_are b)

-- ---- the exchange of an entry

pub record Exchange (origin owner : Name) (before after : Entry) : Type 0 where
  pub before_is : IsEntry before
  pub after_is : IsEntry after
  pub fit : IsFit owner after
  pub soa : SoaPair origin owner (rrset_of 6 before) (rrset_of 6 after)

made_done : (mode : Serial) (origin owner : Name) (before after : Entry) (x y : Option Rrset) → IsEntry before → IsEntry after → IsFit owner after → SoaPair origin owner x y → rrset_of 6 before ≡ x → rrset_of 6 after ≡ y
    → MadeOf owner (kept_or (staying mode x y) y) after (with_set (staying mode x y) after)
made_done mode origin owner before after None None b h f pair e g = made_alike owner None after h f g
made_done mode origin owner before after None (Some t) b h f pair e g = absurd pair
made_done mode origin owner before after (Some s) None b h f pair e g = absurd pair
made_done mode origin owner before after (Some s) (Some t) b h f pair e g = by_stays (list_any (stays mode s t.ttl) t.records) refl
  where
    by_stays : (c : Bool) → list_any (stays mode s t.ttl) t.records ≡ c → MadeOf owner (kept_or (cond c (Some s) None) (Some t)) after (with_set (cond c (Some s) None) after)
    by_stays true q =
        let one = pair.0 in
        let other = pair.1 in
        let lengths = counts_length mode other.octets one.octets other.long one.long (stays_counts mode s t one other q) in
        subst (λ (n : ℕ). MadeOf owner (Some s) after (changed_at n (λ x. s ∷ []) after)) (sym one.rtype_is)
        (made_kept owner s t after one other ((is_found None 6 before s b e).0) (sym lengths) h f g)
    by_stays false q = made_alike owner (Some t) after h f g

soa_part : (mode : Serial) (origin owner : Name) (after entry : Entry) (x y : Option Rrset) → IsEntry after → SoaPair origin owner x y → rrset_of 6 after ≡ y → IsEntry entry → rrset_of 6 entry ≡ x
    → SoaDone origin owner (soa_additions mode owner x y) entry (kept_or (staying mode x y) y)
soa_part mode origin owner after entry None None a pair g h e = record { proper = h; others = λ k x. refl; found = e; is_let = λ f. refl }
soa_part mode origin owner after entry None (Some t) a pair g h e = absurd pair
soa_part mode origin owner after entry (Some s) None a pair g h e = absurd pair
soa_part mode origin owner after entry (Some s) (Some t) a pair g h e = soa_done mode origin owner s t entry pair.0 pair.1 ((is_found None 6 after t a g).0) pair.2 h e

-- what is left of an RRset of each type
abbrev left_at : Entry → Entry → ℕ → Option Rrset
left_at before after t = cond (eqb t 6) (rrset_of t before) (left_by (rrset_of t before) (rrset_of t after))

-- what is there when the SOA is exchanged, and when all is done
abbrev then_at : Option Rrset → Entry → Entry → ℕ → Option Rrset
then_at soa before after t = cond (eqb t 6) soa (left_by (rrset_of t before) (rrset_of t after))

abbrev due_at : Option Rrset → Entry → ℕ → Option Rrset
due_at soa after t = cond (eqb t 6) soa (rrset_of t after)

first_walk : (owner : Name) (before after : Entry) → IsEntry before → Walked before (left_at before after) before (all_made (deletions owner before after) before)
first_walk owner before after h =
    walked (λ (s : Rrset). unless_soa s (set_deletions owner (rrset_of s.rtype after) s)) (λ t. rrset_of t before) (λ t. rrset_of t before) (left_at before after)
    (λ s is e. deletion_works owner s (rrset_of s.rtype before) (rrset_of s.rtype after) is e)
    None before before h h (λ t a. refl) (λ t a. refl)

second_walk : (owner : Name) (soa : Option Rrset) (before after entry : Entry) → IsEntry before → IsEntry after → IsEntry entry → ((t : ℕ) → rrset_of t entry ≡ then_at soa before after t)
    → Walked after (due_at soa after) entry (all_made (additions owner before after) entry)
second_walk owner soa before after entry b h k e =
    walked (λ (t : Rrset). unless_soa t (set_additions owner (rrset_of t.rtype before) t)) (λ t. rrset_of t after) (then_at soa before after) (due_at soa after)
    (λ t is f. addition_works owner t (rrset_of t.rtype before) (rrset_of t.rtype after) soa is (found_set before t.rtype b) f)
    None after entry h k (λ t a. refl) (λ t a. e t)

left_where : (t : ℕ) (x y : Option Rrset) → found_then x (cond (eqb t 6) x (left_by x y)) x ≡ cond (eqb t 6) x (left_by x y)
left_where t None y = by_type (eqb t 6)
  where
    nobody : Option Rrset
    nobody = None

    by_type : (b : Bool) → None ≡ cond b nobody None
    by_type true = refl
    by_type false = refl
left_where t (Some s) y = refl

due_where : (t : ℕ) (soa x y : Option Rrset) → found_then y (cond (eqb t 6) soa y) (cond (eqb t 6) soa (left_by x y)) ≡ cond (eqb t 6) soa y
due_where t soa x (Some u) = refl
due_where t soa None None = refl
due_where t soa (Some s) None = refl

-- what is found when the SOA is exchanged
at_middle : (before after gone middle : Entry) (soa : Option Rrset) → rrset_of 6 middle ≡ soa → ((k : ℕ) → k ≢ 6 → rrset_of k middle ≡ rrset_of k gone) → ((t : ℕ) → rrset_of t gone ≡ left_at before after t) → (t : ℕ) (b : Bool) → eqb t 6 ≡ b
    → rrset_of t middle ≡ then_at soa before after t
at_middle before after gone middle soa found others at t true q = subst (λ (n : ℕ). rrset_of n middle ≡ then_at soa before after n) (sym (eqb-true t 6 q)) found
at_middle before after gone middle soa found others at t false q =
    let left : Option Rrset = left_by (rrset_of t before) (rrset_of t after) in
    others t (eqb-false t 6 q) ∙ at t ∙ ap (λ (b : Bool). cond b (rrset_of t before) left) q ∙ sym (ap (λ (b : Bool). cond b soa left) q)

pub entry_exchanged : (mode : Serial) (origin owner : Name) (before after : Entry) → Exchange origin owner before after → all_changed origin (entry_difference mode owner before after) before ≡ Ok (made_entry mode before after)
entry_exchanged mode origin owner before after x =
    let old = rrset_of 6 before in
    let new = rrset_of 6 after in
    let soa = kept_or (staying mode old new) new in
    let between = soa_additions mode owner old new in
    let gone : Entry = all_made (deletions owner before after) before in
    let middle : Entry = all_made between gone in
    let last : Entry = all_made (additions owner before after) middle in
    let first = first_walk owner before after x.before_is in
    let at_gone : (t : ℕ) → rrset_of t (all_made (deletions owner before after) before) ≡ left_at before after t = λ t. first.found t ∙ left_where t (rrset_of t before) (rrset_of t after) in
    let second = soa_part mode origin owner after gone old new x.after_is x.soa refl first.proper (at_gone 6) in
    let there = λ (t : ℕ). at_middle before after gone middle soa second.found second.others at_gone t (eqb t 6) refl in
    let third = second_walk owner soa before after middle x.before_is x.after_is second.proper there in
    let due = made_done mode origin owner before after old new x.before_is x.after_is x.fit x.soa refl refl in
    let same : last ≡ made_entry mode before after =
    same_entries None None last (made_entry mode before after) third.proper due.proper
    (λ t. third.found t ∙ ap (λ (f : Option Rrset). found_then (rrset_of t after) (due_at soa after t) f) (there t) ∙ due_where t soa (rrset_of t before) (rrset_of t after) ∙ sym (due.found t)) in
    let fit : IsFit owner last = subst (IsFit owner) (sym same) due.fit in
    let adds = are_additions owner before after x.after_is in
    changed_on origin (deletions owner before after) (between ++ additions owner before after) before gone (deletions_let origin (deletions owner before after) before (are_deletions owner after before) x.before_is)
    ∙ changed_on origin between (additions owner before after) gone middle (second.is_let (fit_first owner (additions owner before after) middle adds second.proper fit))
    ∙ additions_let origin owner (additions owner before after) middle adds second.proper fit
    ∙ ap (λ (l : Entry). Ok l) same
