-- One operation, and operations in order.
use Rattle.std.proofs.Common.{◌≡◌, ◌∙◌, ℕ, ◌+◌, ◌-◌, ◌<◌, ◌≤◌, Bool, true, false, not, cond, ltb, List, [], ◌∷◌, ◌++◌, length, map, take, drop, get_or, Some, Result, Ok, Err, refl, sym, ap, subst, arith, append_assoc}
use borrow.Author.Tests.{ltb-false}
use Rattle.std.proofs.lemmas.List.{map-append, map_more, take_all, take-append-drop, take-append-le}
use Rattle.std.specs.List.{AllByRecursion}
use Rattle.std.specs.Ordering.{is_eq}
use Rattle.zone_model.specs.Names.{Name, name_cmp}
use Rattle.zone_model.specs.Records.{Entry, item, item_limit, without_set, without_rr}
use Rattle.zone_model.specs.Versions.{Version, Operation, Add, DeleteName, DeleteSet, DeleteRecord, entry_of, owned, owner_of, changed, apply, all_applied, and_then, put, is_low_soa, is_lone, fitting, keeping_soa, loses_soa, with_added}
use Rattle.zone_model.specs.declared.Refusal.{Refusal}
use Rattle.zone_model.specs.declared.Refusal.TheVariants.{Soa, Cname, Long}
use Rattle.zone_model.proofs.NameLemmas.{same_name-true}
use Rattle.rr_data.specs.ItemViews.{SaysEntry}
use Rattle.zone_change.specs.Counts.{candidate}
use Rattle.zone_answer.specs.Standing.{IsStorable, IsVersion}
use Rattle.zone_edit.proofs.ShrinkLaws.{IsLess, set_less, record_less, item_less}
use Rattle.zone_edit.proofs.StoreLaws.{owns_some}

-- ---- items that are short enough

entry_storable : (name : Name) (version : Version) (entry : Entry) → AllByRecursion IsStorable version → entry_of name version ≡ Some entry → IsStorable (name, entry)
entry_storable name [] entry items e = absurd cc
entry_storable name (pair ∷ rest) entry items e = by_test (λ h. entry_storable name rest entry items.1 h) (is_eq (name_cmp name pair.0)) refl e
  where
    by_test : (entry_of name rest ≡ Some entry → IsStorable (name, entry)) → (b : Bool) → is_eq (name_cmp name pair.0) ≡ b → cond b (Some pair.1) (entry_of name rest) ≡ Some entry → IsStorable (name, entry)
    by_test further true t h =
        let is : pair.1 ≡ entry = cc in
        subst (λ (n : Name). IsStorable (n, entry)) (sym (same_name-true name pair.0 t)) (subst (λ (x : Entry). IsStorable (pair.0, x)) is items.0)
    by_test further false t h = further h

pub owned_short : (name : Name) (version : Version) (entry : Entry) → IsVersion version → entry ≡ owned name version → 0 < length entry → length (item name entry) ≤ item_limit
owned_short name version entry v is some =
    let owned_some : 0 < length (owned name version) = subst (λ (x : Entry). 0 < length x) is some in
    let s = entry_storable name version (owned name version) v.items (owns_some name version owned_some) in
    subst (λ (x : Entry). length (item name x) ≤ item_limit) (sym is) s.short

kept_soa : (before after next : Entry) → keeping_soa before after ≡ Ok next → after ≡ next
kept_soa before after next e = by_test (loses_soa before after) e
  where
    by_test : (b : Bool) → cond b (Err Soa) (Ok after) ≡ Ok next → after ≡ next
    by_test true h = absurd cc
    by_test false h = cc

fitting_short : (owner : Name) (entry next : Entry) → fitting owner entry ≡ Ok next → length (item owner next) ≤ item_limit
fitting_short owner entry next e = by_lone (not (is_lone entry)) e
  where
    by_length : (b : Bool) → ltb item_limit (length (item owner entry)) ≡ b → cond b (Err Long) (Ok entry) ≡ Ok next → length (item owner next) ≤ item_limit
    by_length true t h = absurd cc
    by_length false t h =
        let is : entry ≡ next = cc in
        subst (λ (x : Entry). length (item owner x) ≤ item_limit) is (ltb-false item_limit (length (item owner entry)) t)

    by_lone : (b : Bool) → cond b (Err Cname) (cond (ltb item_limit (length (item owner entry))) (Err Long) (Ok entry)) ≡ Ok next → length (item owner next) ≤ item_limit
    by_lone true h = absurd cc
    by_lone false h = by_length (ltb item_limit (length (item owner entry))) refl h

left_short : (owner : Name) (before after next : Entry) → IsLess after before → keeping_soa before after ≡ Ok next → (0 < length before → length (item owner before) ≤ item_limit) → 0 < length next → length (item owner next) ≤ item_limit
left_short owner before after next less e short some =
    let is = kept_soa before after next e in
    let some_after : 0 < length after = subst (λ (x : Entry). 0 < length x) (sym is) some in
    let fewer = less.0 in
    let some_before : 0 < length before = omega (arith, fewer, some_after) in
    let shorter = item_less owner after before less in
    let most = short some_before in
    subst (λ (x : Entry). length (item owner x) ≤ item_limit) is (omega (arith, shorter, most))

pub changed_short : (origin : Name) (operation : Operation) (before next : Entry) → changed origin operation before ≡ Ok next → (0 < length before → length (item (owner_of operation) before) ≤ item_limit) → 0 < length next → length (item (owner_of operation) next) ≤ item_limit
changed_short origin (Add a) before next e short some = by_low (is_low_soa origin a) e
  where
    by_low : (b : Bool) → cond b (Err Soa) (fitting a.owner (with_added a before)) ≡ Ok next → length (item a.owner next) ≤ item_limit
    by_low true h = absurd cc
    by_low false h = fitting_short a.owner (with_added a before) next h
changed_short origin (DeleteName owner) before next e short some =
    let zero : 0 ≡ length next = ap (λ (x : Entry). length x) (kept_soa before [] next e) in absurd (omega (arith, zero, some))
changed_short origin (DeleteSet owner rtype) before next e short some = left_short owner before (without_set rtype before) next (set_less rtype before) e short some
changed_short origin (DeleteRecord owner rtype octets) before next e short some = left_short owner before (without_rr rtype octets before) next (record_less rtype octets before) e short some

-- ---- an operation is what it makes of its owner's entry

accepted : (origin : Name) (operation : Operation) (before next : Entry) (version : Version) → before ≡ owned (owner_of operation) version → changed origin operation before ≡ Ok next → apply origin operation version ≡ Ok (put (owner_of operation) next version)
accepted origin operation before next version is e =
    ap (λ (r : Result Entry Refusal). and_then r (λ entry. Ok (put (owner_of operation) entry version))) (ap (changed origin operation) (sym is) ∙ e)

pub refused : (origin : Name) (operation : Operation) (before : Entry) (refusal : Refusal) (version : Version) → before ≡ owned (owner_of operation) version → changed origin operation before ≡ Err refusal → apply origin operation version ≡ Err refusal
refused origin operation before refusal version is e =
    ap (λ (r : Result Entry Refusal). and_then r (λ entry. Ok (put (owner_of operation) entry version))) (ap (changed origin operation) (sym is) ∙ e)

-- what no rule refuses is made, by what was read of its owner
pub made_of : (origin : Name) (operation : Operation) (owner : Name) (octets : List ℕ) (before next held : Entry) → owner ≡ owner_of operation
    → ((entry : Entry) → SaysEntry (owner_of operation) octets entry → changed origin operation entry ≡ Ok (candidate operation entry))
    → SaysEntry owner octets held → before ≡ held → next ≡ candidate operation held → changed origin operation before ≡ Ok next
made_of origin operation owner octets before next held is agreed says b n =
    ap (changed origin operation) b ∙ agreed held (subst (λ (x : Name). SaysEntry x octets held) is says) ∙ ap (λ (x : Entry). Ok x) (sym n)

-- so what is stored is what the operation makes
pub made_by : (origin : Name) (operation : Operation) (owner : Name) (octets : List ℕ) (before next : Entry) (version : Version) → owner ≡ owner_of operation
    → ((entry : Entry) → SaysEntry (owner_of operation) octets entry → changed origin operation entry ≡ Ok (candidate operation entry))
    → SaysEntry owner octets (owned owner version) → before ≡ owned owner version → next ≡ candidate operation (owned owner version) → apply origin operation version ≡ Ok (put (owner_of operation) next version)
made_by origin operation owner octets before next version is agreed says b n =
    accepted origin operation before next version (b ∙ ap (λ (x : Name). owned x version) is) (made_of origin operation owner octets before next (owned owner version) is agreed says b n)

-- ---- operations in order

pub applied_on : (origin : Name) (front back : List Operation) (version working : Version) → all_applied origin front version ≡ Ok working → all_applied origin (front ++ back) version ≡ all_applied origin back working
applied_on origin [] back version working e = let same : version ≡ working = cc in ap (all_applied origin back) same
applied_on origin (first ∷ rest) back version working e = by_first (λ (v : Version) (h : all_applied origin rest v ≡ Ok working). applied_on origin rest back v working h) (apply origin first version) e
  where
    by_first : ((v : Version) → all_applied origin rest v ≡ Ok working → all_applied origin (rest ++ back) v ≡ all_applied origin back working) → (r : Result Version Refusal) → and_then r (all_applied origin rest) ≡ Ok working → and_then r (all_applied origin (rest ++ back)) ≡ all_applied origin back working
    by_first further (Ok next) h = further next h
    by_first further (Err refusal) h = absurd cc

pub next_applied : (origin : Name) (front : List Operation) (operation : Operation) (version now next : Version) → all_applied origin front version ≡ Ok now → apply origin operation now ≡ Ok next → all_applied origin (front ++ operation ∷ []) version ≡ Ok next
next_applied origin front operation version now next e a = applied_on origin front (operation ∷ []) version now e ∙ ap (λ (r : Result Version Refusal). and_then r (all_applied origin [])) a

pub refused_applied : (origin : Name) (front back : List Operation) (operation : Operation) (version now : Version) (refusal : Refusal) → all_applied origin front version ≡ Ok now → apply origin operation now ≡ Err refusal → all_applied origin (front ++ operation ∷ back) version ≡ Err refusal
refused_applied origin front back operation version now refusal e a = applied_on origin front (operation ∷ back) version now e ∙ ap (λ (r : Result Version Refusal). and_then r (all_applied origin back)) a

-- the operations up to the one at a place, and all
pub up_to : {C : Type 0} (view : C → Operation) (operations : List C) (i : ℕ) (here : C) → i < length operations → here ≡ get_or operations i here → map view (take (i + 1) operations) ≡ map view (take i operations) ++ view here ∷ []
up_to view operations i here lt is = map_more view operations i here lt ∙ ap (λ (x : _). map view (take i operations) ++ view x ∷ []) (sym is)

pub all_around : {C : Type 0} (view : C → Operation) (operations : List C) (i : ℕ) (here : C) → i < length operations → here ≡ get_or operations i here → map view operations ≡ map view (take i operations) ++ view here ∷ map view (drop (i + 1) operations)
all_around view operations i here lt is =
    ap (map view) (sym (take-append-drop (i + 1) operations)) ∙ map-append view (take (i + 1) operations) (drop (i + 1) operations)
    ∙ ap (λ (l : List Operation). l ++ map view (drop (i + 1) operations)) (up_to view operations i here lt is) ∙ append_assoc (map view (take i operations)) (view here ∷ []) (map view (drop (i + 1) operations))

-- those in front of one
pub taken : (front : List Operation) (one : Operation) (back all : List Operation) (number : ℕ) → all ≡ front ++ one ∷ back → number ≡ length front + 1 → take (number - 1) all ≡ front
taken front one back all number is place =
    let before : number - 1 ≡ length front = omega (arith, place) in
    ap (take (number - 1)) is ∙ ap (λ (n : ℕ). take n (front ++ one ∷ back)) before ∙ take-append-le (length front) front (one ∷ back) (omega arith) ∙ take_all (length front) front (omega arith)
