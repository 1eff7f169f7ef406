-- No RRset is twice among addresses, and none of them is in the answer.
use Rattle.std.proofs.Common.{◌≡◌, ◌∙◌, ℕ, eqb, Bool, true, false, cond, not, ◌&&◌, ◌||◌, ◌⊎◌, List, [], ◌∷◌, ◌++◌, filter, filter_map, flat_map, inl, inr, Option, Some, None, refl, sym, ap, subst}
use borrow.Author.Tests.{eqb-true}
use Rattle.std.specs.List.{AllByRecursion, IsDistinct, list_any}
use Rattle.zone_model.specs.Names.{Name, is_under, same_name}
use Rattle.zone_model.specs.Records.{Rrset, rrset_of}
use Rattle.zone_model.specs.Rows.{Row, rows_of}
use Rattle.zone_model.specs.Versions.{Version, owned}
use Rattle.zone_answer.specs.Agreement.{HasNoneTwice, is_row_of, same_set}
use Rattle.zone_answer.specs.Responses.{OwnedSet, addresses, addresses_for, by_kind, named_by, octets_before, of_type, once, owned_rows, with_owner}
use Rattle.zone_answer.specs.Sections.{AreAliases, Ends}
use Rattle.zone_answer.specs.declared.kind.Kind.{Kind}
use Rattle.zone_answer.specs.declared.kind.Kind.TheVariants.{Answered, Nodata, Nxdomain, Referral, Outside}
use Rattle.zone_answer.proofs.AddressLaws.{no_addresses}
use Rattle.zone_answer.proofs.HeaderLaws.{no_names}
use Rattle.zone_answer.proofs.ResponseLaws.{EndsAs, no_alias, of_type-append, set_gone, set_type}

-- ---- names

others_differ : (name : Name) (xs : List Name) → AllByRecursion (λ y. same_name name y ≡ false) (filter (λ x. not (same_name name x)) xs)
others_differ name [] = tt
others_differ name (x ∷ xs) = by_test (same_name name x) refl (others_differ name xs)
  where
    by_test : (b : Bool) → same_name name x ≡ b → AllByRecursion (λ y. same_name name y ≡ false) (filter (λ x. not (same_name name x)) xs)
        → AllByRecursion (λ y. same_name name y ≡ false) (cond (not (same_name name x)) (x ∷ filter (λ x. not (same_name name x)) xs) (filter (λ x. not (same_name name x)) xs))
    by_test true e later = subst (λ (c : Bool). AllByRecursion (λ y. same_name name y ≡ false) (cond (not c) (x ∷ filter (λ x. not (same_name name x)) xs) (filter (λ x. not (same_name name x)) xs))) (sym e) later
    by_test false e later = subst (λ (c : Bool). AllByRecursion (λ y. same_name name y ≡ false) (cond (not c) (x ∷ filter (λ x. not (same_name name x)) xs) (filter (λ x. not (same_name name x)) xs))) (sym e) (e, later)

all_filter : (P : Name → Type 0) (p : Name → Bool) (xs : List Name) → AllByRecursion P xs → AllByRecursion P (filter p xs)
all_filter P p [] h = tt
all_filter P p (x ∷ xs) h = by_test (p x) (all_filter P p xs h.1)
  where
    by_test : (b : Bool) → AllByRecursion P (filter p xs) → AllByRecursion P (cond b (x ∷ filter p xs) (filter p xs))
    by_test true later = (h.0, later)
    by_test false later = later

rest_distinct : (p : Name → Bool) (xs : List Name) → IsDistinct same_name xs → IsDistinct same_name (filter p xs)
unfolding IsDistinct
rest_distinct p [] h = tt
rest_distinct p (x ∷ xs) h = by_test (p x) (all_filter (λ y. same_name x y ≡ false) p xs h.0) (rest_distinct p xs h.1)
  where
    by_test : (b : Bool) → AllByRecursion (λ y. same_name x y ≡ false) (filter p xs) → IsDistinct same_name (filter p xs) → IsDistinct same_name (cond b (x ∷ filter p xs) (filter p xs))
    by_test true all later = (all, later)
    by_test false all later = later

once_distinct : (names : List Name) → IsDistinct same_name (once names)
unfolding IsDistinct
once_distinct [] = tt
once_distinct (name ∷ names) = (others_differ name (once names), rest_distinct (λ x. not (same_name name x)) (once names) (once_distinct names))

-- ---- their addresses

abbrev IsAddress : ℕ → Type 0
IsAddress t = (t ≡ 1) ⊎ (t ≡ 28)

abbrev IsOf : Name → OwnedSet → Type 0
IsOf name x = (x.owner ≡ name) × IsAddress x.set.rtype

all_append : (P : OwnedSet → Type 0) (xs ys : List OwnedSet) → AllByRecursion P xs → AllByRecursion P ys → AllByRecursion P (xs ++ ys)
all_append P [] ys a b = b
all_append P (x ∷ xs) ys a b = (a.0, all_append P xs ys a.1 b)

one_is : (name : Name) (t : ℕ) (o : Option Rrset) → ((s : Rrset) → o ≡ Some s → IsAddress s.rtype) → AllByRecursion (IsOf name) (with_owner name o)
one_is name t None h = tt
one_is name t (Some s) h = ((refl, h s refl), tt)

pub addresses_are : (origin : Name) (version : Version) (name : Name) → AllByRecursion (IsOf name) (addresses origin version name)
addresses_are origin version name = by_test (is_under name origin)
  where
    by_test : (b : Bool) → AllByRecursion (IsOf name) (cond b (with_owner name (rrset_of 1 (owned name version)) ++ with_owner name (rrset_of 28 (owned name version))) [])
    by_test true = all_append (IsOf name) (with_owner name (rrset_of 1 (owned name version))) (with_owner name (rrset_of 28 (owned name version)))
        (one_is name 1 (rrset_of 1 (owned name version)) (λ s e. inl (set_type 1 (owned name version) s e)))
        (one_is name 28 (rrset_of 28 (owned name version)) (λ s e. inr (set_type 28 (owned name version) s e)))
    by_test false = tt

and_false : (b : Bool) → (b && false) ≡ false
and_false true = refl
and_false false = refl

two_distinct : (name : Name) (a b : Option Rrset) → ((s : Rrset) → a ≡ Some s → s.rtype ≡ 1) → ((s : Rrset) → b ≡ Some s → s.rtype ≡ 28) → IsDistinct same_set (with_owner name a ++ with_owner name b)
unfolding IsDistinct
two_distinct name None None h k = tt
two_distinct name None (Some s) h k = (tt, tt)
two_distinct name (Some s) None h k = (tt, tt)
two_distinct name (Some s) (Some t) h k =
    let differ : eqb s.rtype t.rtype ≡ false = ap (λ (n : ℕ). eqb n t.rtype) (h s refl) ∙ ap (λ (n : ℕ). eqb 1 n) (k t refl) in
    ((ap (λ (b : Bool). same_name name name && b) differ ∙ and_false (same_name name name), tt), (tt, tt))

addresses_distinct : (origin : Name) (version : Version) (name : Name) → IsDistinct same_set (addresses origin version name)
unfolding IsDistinct
addresses_distinct origin version name = by_test (is_under name origin)
  where
    by_test : (b : Bool) → IsDistinct same_set (cond b (with_owner name (rrset_of 1 (owned name version)) ++ with_owner name (rrset_of 28 (owned name version))) [])
    by_test true = two_distinct name (rrset_of 1 (owned name version)) (rrset_of 28 (owned name version)) (λ s e. set_type 1 (owned name version) s e) (λ s e. set_type 28 (owned name version) s e)
    by_test false = tt

differs : (x : OwnedSet) (n : Name) (ys : List OwnedSet) → x.owner ≡ n → AllByRecursion (λ (y : OwnedSet). same_name n y.owner ≡ false) ys → AllByRecursion (λ y. same_set x y ≡ false) ys
differs x n [] e h = tt
differs x n (y ∷ ys) e h =
    (ap (λ (m : Name). same_name m y.owner && eqb x.set.rtype y.set.rtype) e ∙ ap (λ (b : Bool). b && eqb x.set.rtype y.set.rtype) h.0, differs x n ys e h.1)

append_distinct : (xs ys : List OwnedSet) (n : Name) → AllByRecursion (IsOf n) xs → IsDistinct same_set xs → AllByRecursion (λ (y : OwnedSet). same_name n y.owner ≡ false) ys → IsDistinct same_set ys → IsDistinct same_set (xs ++ ys)
unfolding IsDistinct
append_distinct [] ys n own d other e = e
append_distinct (x ∷ xs) ys n own d other e = (all_append (λ y. same_set x y ≡ false) xs ys d.0 (differs x n ys own.0.0 other), append_distinct xs ys n own.1 d.1 other e)

not_of : (n m : Name) (xs : List OwnedSet) → same_name n m ≡ false → AllByRecursion (IsOf m) xs → AllByRecursion (λ (y : OwnedSet). same_name n y.owner ≡ false) xs
not_of n m [] e h = tt
not_of n m (x ∷ xs) e h = (ap (same_name n) h.0.0 ∙ e, not_of n m xs e h.1)

of_others : (origin : Name) (version : Version) (n : Name) (names : List Name) → AllByRecursion (λ m. same_name n m ≡ false) names → AllByRecursion (λ (y : OwnedSet). same_name n y.owner ≡ false) (flat_map (addresses origin version) names)
of_others origin version n [] h = tt
of_others origin version n (m ∷ names) h =
    all_append (λ (y : OwnedSet). same_name n y.owner ≡ false) (addresses origin version m) (flat_map (addresses origin version) names) (not_of n m (addresses origin version m) h.0 (addresses_are origin version m)) (of_others origin version n names h.1)

all_distinct : (origin : Name) (version : Version) (names : List Name) → IsDistinct same_name names → IsDistinct same_set (flat_map (addresses origin version) names)
unfolding IsDistinct
all_distinct origin version [] h = tt
all_distinct origin version (n ∷ names) h =
    append_distinct (addresses origin version n) (flat_map (addresses origin version) names) n (addresses_are origin version n) (addresses_distinct origin version n) (of_others origin version n names h.0) (all_distinct origin version names h.1)

-- ---- the answer has none of them

none_of_it : (x : OwnedSet) (rows : List Row) → of_type x.set.rtype rows ≡ [] → list_any (is_row_of x) rows ≡ false
none_of_it x [] e = refl
none_of_it x (r ∷ rows) e = by_test (eqb r.rtype x.set.rtype) refl (none_of_it x rows)
  where
    by_test : (b : Bool) → eqb r.rtype x.set.rtype ≡ b → (of_type x.set.rtype rows ≡ [] → list_any (is_row_of x) rows ≡ false) → list_any (is_row_of x) (r ∷ rows) ≡ false
    by_test true h later = let never : r ∷ of_type x.set.rtype rows ≡ [] = ap (λ (b : Bool). cond b (r ∷ of_type x.set.rtype rows) (of_type x.set.rtype rows)) (sym h) ∙ e in absurd cc
    by_test false h later =
        let rest = later (ap (λ (b : Bool). cond b (r ∷ of_type x.set.rtype rows) (of_type x.set.rtype rows)) (sym h) ∙ e) in
        ap (λ (b : Bool). (same_name r.owner x.owner && b) || list_any (is_row_of x) rows) h ∙ ap (λ (b : Bool). b || list_any (is_row_of x) rows) (and_false (same_name r.owner x.owner)) ∙ rest

abbrev IsApart : List Row → OwnedSet → Type 0
IsApart rows x = list_any (is_row_of x) rows ≡ false

each_apart : (rows : List Row) → ((t : ℕ) → IsAddress t → of_type t rows ≡ []) → (n : Name) (xs : List OwnedSet) → AllByRecursion (IsOf n) xs → AllByRecursion (IsApart rows) xs
each_apart rows none n [] h = tt
each_apart rows none n (x ∷ xs) h = (none_of_it x rows (none x.set.rtype h.0.1), each_apart rows none n xs h.1)

all_apart : (rows : List Row) → ((t : ℕ) → IsAddress t → of_type t rows ≡ []) → (origin : Name) (version : Version) (names : List Name) → AllByRecursion (IsApart rows) (flat_map (addresses origin version) names)
all_apart rows none origin version [] = tt
all_apart rows none origin version (n ∷ names) =
    all_append (IsApart rows) (addresses origin version n) (flat_map (addresses origin version) names) (each_apart rows none n (addresses origin version n) (addresses_are origin version n)) (all_apart rows none origin version names)

alias_apart : (rows : List Row) → AreAliases rows → (t : ℕ) → IsAddress t → of_type t rows ≡ []
alias_apart rows a t (inl e) = no_alias rows t (ap (eqb 5) e) a
alias_apart rows a t (inr e) = no_alias rows t (ap (eqb 5) e) a

named_apart : (rtype place : ℕ) → octets_before rtype ≡ Some place → (t : ℕ) → IsAddress t → eqb rtype t ≡ false
named_apart rtype place p t is = by_test (eqb rtype t) refl is
  where
    by_test : (b : Bool) → eqb rtype t ≡ b → IsAddress t → eqb rtype t ≡ false
    by_test true h (inl e) = let never : None ≡ Some place = sym (ap octets_before (eqb-true rtype t h ∙ e)) ∙ p in absurd cc
    by_test true h (inr e) = let never : None ≡ Some place = sym (ap octets_before (eqb-true rtype t h ∙ e)) ∙ p in absurd cc
    by_test false h is = h

ends_apart : (version : Version) (rtype place : ℕ) (rows : List Row) → octets_before rtype ≡ Some place → Ends version rtype rows → (t : ℕ) → IsAddress t → of_type t rows ≡ []
ends_apart version rtype place rows p (inl a) t is = alias_apart rows a t is
ends_apart version rtype place rows p (inr e) t is =
    let other : eqb e.set.rtype t ≡ false = ap (λ (n : ℕ). eqb n t) (set_type rtype e.entry e.set e.set_is) ∙ named_apart rtype place p t is in
    ap (of_type t) e.rows_are ∙ of_type-append t e.before (rows_of e.owner e.set) ∙ ap (λ (l : List Row). l ++ of_type t (rows_of e.owner e.set)) (alias_apart e.before e.aliases t is) ∙ set_gone e.owner e.set t other

type_twice : (rows : List Row) → of_type 5 (of_type 5 rows) ≡ of_type 5 rows
type_twice [] = refl
type_twice (r ∷ rows) = by_test (eqb r.rtype 5) refl (type_twice rows)
  where
    by_test : (b : Bool) → eqb r.rtype 5 ≡ b → of_type 5 (of_type 5 rows) ≡ of_type 5 rows → of_type 5 (cond b (r ∷ of_type 5 rows) (of_type 5 rows)) ≡ cond b (r ∷ of_type 5 rows) (of_type 5 rows)
    by_test true h later = ap (λ (b : Bool). cond b (r ∷ of_type 5 (of_type 5 rows)) (of_type 5 (of_type 5 rows))) h ∙ ap (λ (l : List Row). r ∷ l) later
    by_test false h later = later

-- ---- the response

answered_once : (origin : Name) (version : Version) (rtype : ℕ) (rows : List Row) (o : Option ℕ) → octets_before rtype ≡ o → Ends version rtype rows → HasNoneTwice (by_kind origin version Answered rows)
unfolding IsDistinct
answered_once origin version rtype rows None p e = record { sets = []; rows_are = ap owned_rows (no_addresses origin version rows (no_names version rtype rows e p)); distinct = tt; apart = tt }
answered_once origin version rtype rows (Some place) p e = record {
  sets = addresses_for origin version rows;
  rows_are = refl;
  distinct = all_distinct origin version (once (filter_map named_by rows)) (once_distinct (filter_map named_by rows));
  apart = all_apart rows (ends_apart version rtype place rows p e) origin version (once (filter_map named_by rows));
}

pub none_twice : (origin : Name) (version : Version) (rtype : ℕ) (kind : Kind) (rows : List Row) → EndsAs version rtype kind rows → HasNoneTwice (by_kind origin version kind rows)
unfolding IsDistinct
none_twice origin version rtype Answered rows e = answered_once origin version rtype rows (octets_before rtype) refl e
none_twice origin version rtype Nodata rows e = record { sets = []; rows_are = refl; distinct = tt; apart = tt }
none_twice origin version rtype Nxdomain rows e = record { sets = []; rows_are = refl; distinct = tt; apart = tt }
none_twice origin version rtype Referral rows e = record {
  sets = addresses_for origin version (of_type 2 rows);
  rows_are = refl;
  distinct = all_distinct origin version (once (filter_map named_by (of_type 2 rows))) (once_distinct (filter_map named_by (of_type 2 rows)));
  apart = all_apart (of_type 5 rows) (alias_apart (of_type 5 rows) (type_twice rows)) origin version (once (filter_map named_by (of_type 2 rows)));
}
none_twice origin version rtype Outside rows e = record { sets = []; rows_are = refl; distinct = tt; apart = tt }
