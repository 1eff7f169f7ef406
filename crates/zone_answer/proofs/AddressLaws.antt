-- The addresses of names, one record after the other.
use Rattle.std.proofs.Common.{◌≡◌, ◌∙◌, ◌≤◌, ℕ, eqb, length, arith, Bool, true, false, cond, not, ◌||◌, List, [], ◌∷◌, ◌++◌, filter, filter_map, flat_map, Option, Some, None, option_and_then, refl, sym, ap, append_assoc, append-nil}
use Rattle.std.proofs.lemmas.Grind.{flat_map-append}
use Rattle.std.specs.List.{cons_option}
use borrow.Author.Tests.{eqb-true}
use Rattle.zone_model.specs.Names.{Name, same_name}
use Rattle.zone_model.specs.Records.{Rrset}
use Rattle.zone_model.specs.Rows.{Row, rows_of}
use Rattle.zone_model.specs.Versions.{Version}
use Rattle.zone_answer.specs.Responses.{OwnedSet, addresses, addresses_for, name_from, named_by, octets_before, of_type, once, owned_rows}
use Rattle.zone_answer.specs.Parts.{Adds}
use Rattle.zone_answer.specs.Sections.{AreAliases, GoesTo, addresses_of}

owned_rows-append : (xs ys : List OwnedSet) → owned_rows (xs ++ ys) ≡ owned_rows xs ++ owned_rows ys
owned_rows-append xs ys = flat_map-append (λ (x : OwnedSet). rows_of x.owner x.set) xs ys

-- ---- all names

cons_addresses : (origin : Name) (version : Version) (o : Option Name) (names : List Name) → flat_map (addresses origin version) (cons_option o names) ≡ addresses_of origin version o ++ flat_map (addresses origin version) names
cons_addresses origin version None names = refl
cons_addresses origin version (Some name) names = refl

-- those of the record in front, and those behind it
pub each_more : (origin : Name) (version : Version) (h : List ℕ → Option Name) (octets : List ℕ) (left records : List (List ℕ)) (whole rows : List Row) → records ≡ octets ∷ left
    → whole ≡ rows ++ owned_rows (flat_map (addresses origin version) (filter_map h records))
    → whole ≡ (rows ++ owned_rows (addresses_of origin version (h octets))) ++ owned_rows (flat_map (addresses origin version) (filter_map h left))
each_more origin version h octets left records whole rows e so =
    let rest = flat_map (addresses origin version) (filter_map h left) in
    so ∙ ap (λ (l : List (List ℕ)). rows ++ owned_rows (flat_map (addresses origin version) (filter_map h l))) e
    ∙ ap (λ (l : List OwnedSet). rows ++ owned_rows l) (cons_addresses origin version (h octets) (filter_map h left))
    ∙ ap (λ (l : List Row). rows ++ l) (owned_rows-append (addresses_of origin version (h octets)) rest)
    ∙ sym (append_assoc rows (owned_rows (addresses_of origin version (h octets))) (owned_rows rest))

pub each_done : (origin : Name) (version : Version) (h : List ℕ → Option Name) (records : List (List ℕ)) (whole rows : List Row) → records ≡ [] → whole ≡ rows ++ owned_rows (flat_map (addresses origin version) (filter_map h records)) → whole ≡ rows
each_done origin version h records whole rows e so = so ∙ ap (λ (l : List (List ℕ)). rows ++ owned_rows (flat_map (addresses origin version) (filter_map h l))) e ∙ append-nil rows

-- ---- each name once

-- the names that were not gone to, each where it comes first
abbrev pub unseen : (Name → Bool) → List Name → List Name
unseen gone names = filter (λ name. not (gone name)) (once names)

filter_same : (p q : Name → Bool) → ((x : Name) → p x ≡ q x) → (xs : List Name) → filter p xs ≡ filter q xs
filter_same p q e [] = refl
filter_same p q e (x ∷ xs) = ap (λ (b : Bool). cond b (x ∷ filter p xs) (filter p xs)) (e x) ∙ ap (λ (l : List Name). cond (q x) (x ∷ l) l) (filter_same p q e xs)

filter_twice : (p q r : Name → Bool) → ((x : Name) → r x ≡ cond (q x) (p x) false) → (xs : List Name) → filter p (filter q xs) ≡ filter r xs
filter_twice p q r e [] = refl
filter_twice p q r e (x ∷ xs) = by_test (q x) refl (filter_twice p q r e xs)
  where
    by_test : (b : Bool) → q x ≡ b → filter p (filter q xs) ≡ filter r xs → filter p (cond (q x) (x ∷ filter q xs) (filter q xs)) ≡ cond (r x) (x ∷ filter r xs) (filter r xs)
    by_test true h later =
        ap (λ (b : Bool). filter p (cond b (x ∷ filter q xs) (filter q xs))) h ∙ ap (λ (l : List Name). cond (p x) (x ∷ l) l) later
        ∙ ap (λ (b : Bool). cond b (x ∷ filter r xs) (filter r xs)) (sym (e x ∙ ap (λ (b : Bool). cond b (p x) false) h))
    by_test false h later =
        ap (λ (b : Bool). filter p (cond b (x ∷ filter q xs) (filter q xs))) h ∙ later
        ∙ ap (λ (b : Bool). cond b (x ∷ filter r xs) (filter r xs)) (sym (e x ∙ ap (λ (b : Bool). cond b (p x) false) h))

-- a name was gone to, or is
gone_now : (name : Name) (gone after : Name → Bool) → ((x : Name) → after x ≡ (same_name name x || gone x)) → (x : Name) → not (after x) ≡ cond (not (same_name name x)) (not (gone x)) false
gone_now name gone after e x = ap not (e x) ∙ by_test (same_name name x)
  where
    by_test : (b : Bool) → not (b || gone x) ≡ cond (not b) (not (gone x)) false
    by_test true = refl
    by_test false = refl

rest_unseen : (name : Name) (names : List Name) (gone after : Name → Bool) → ((x : Name) → after x ≡ (same_name name x || gone x)) → filter (λ x. not (gone x)) (filter (λ x. not (same_name name x)) (once names)) ≡ unseen after names
rest_unseen name names gone after e = filter_twice (λ x. not (gone x)) (λ x. not (same_name name x)) (λ x. not (after x)) (gone_now name gone after e) (once names)

unseen_more : (origin : Name) (version : Version) (name : Name) (names : List Name) (gone after : Name → Bool) (b : Bool) → gone name ≡ b → ((x : Name) → after x ≡ (same_name name x || gone x))
    → flat_map (addresses origin version) (unseen gone (name ∷ names)) ≡ cond b [] (addresses origin version name) ++ flat_map (addresses origin version) (unseen after names)
unseen_more origin version name names gone after true g e =
    ap (λ (b : Bool). flat_map (addresses origin version) (cond (not b) (name ∷ filter (λ x. not (gone x)) (filter (λ x. not (same_name name x)) (once names))) (filter (λ x. not (gone x)) (filter (λ x. not (same_name name x)) (once names))))) g
    ∙ ap (flat_map (addresses origin version)) (rest_unseen name names gone after e)
unseen_more origin version name names gone after false g e =
    ap (λ (b : Bool). flat_map (addresses origin version) (cond (not b) (name ∷ filter (λ x. not (gone x)) (filter (λ x. not (same_name name x)) (once names))) (filter (λ x. not (gone x)) (filter (λ x. not (same_name name x)) (once names))))) g
    ∙ ap (λ (l : List Name). addresses origin version name ++ flat_map (addresses origin version) l) (rest_unseen name names gone after e)

stays : (p : Name → Bool) (xs : List Name) → ((x : Name) → p x ≡ true) → xs ≡ filter p xs
stays p [] e = refl
stays p (x ∷ xs) e = ap (λ (l : List Name). x ∷ l) (stays p xs e) ∙ sym (ap (λ (b : Bool). cond b (x ∷ filter p xs) (filter p xs)) (e x))

pub none_seen : (gone : Name → Bool) (names : List Name) → ((x : Name) → gone x ≡ false) → once names ≡ unseen gone names
none_seen gone names e = stays (λ x. not (gone x)) (once names) (λ x. ap not (e x))

-- the name of the record in front is gone to, if it has one
abbrev Went : Option Name → (Name → Bool) → (Name → Bool) → Type 0
Went None gone after = (x : Name) → after x ≡ gone x
Went (Some name) gone after = (x : Name) → after x ≡ (same_name name x || gone x)

abbrev new_of : Name → Version → Option Name → (Name → Bool) → List OwnedSet
new_of origin version None gone = []
new_of origin version (Some name) gone = cond (gone name) [] (addresses origin version name)

cons_unseen : (origin : Name) (version : Version) (o : Option Name) (names : List Name) (gone after : Name → Bool) → Went o gone after
    → flat_map (addresses origin version) (unseen gone (cons_option o names)) ≡ new_of origin version o gone ++ flat_map (addresses origin version) (unseen after names)
cons_unseen origin version None names gone after e = ap (flat_map (addresses origin version)) (filter_same (λ x. not (gone x)) (λ x. not (after x)) (λ x. ap not (sym (e x))) (once names))
cons_unseen origin version (Some name) names gone after e = unseen_more origin version name names gone after (gone name) refl e

abbrev pub Goes : Name → Version → Option Name → (Name → Bool) → (Name → Bool) → (List Row → Type 0) → (List Row → Type 0) → Type 0
Goes origin version o gone after had has = Went o gone after × Adds had has (owned_rows (new_of origin version o gone))

goes : (origin : Name) (version : Version) (o : Option Name) (gone after : Name → Bool) (had has : List Row → Type 0) → GoesTo (addresses origin version) o gone after had has → Goes origin version o gone after had has
goes origin version None gone after had has h = h
goes origin version (Some name) gone after had has h = h

-- the rows with those of the record in front
pub once_more : (origin : Name) (version : Version) (h : List ℕ → Option Name) (octets : List ℕ) (left records : List (List ℕ)) (gone after : Name → Bool) (had has : List Row → Type 0) (whole rows : List Row) → records ≡ octets ∷ left
    → GoesTo (addresses origin version) (h octets) gone after had has → had rows
    → whole ≡ rows ++ owned_rows (flat_map (addresses origin version) (unseen gone (filter_map h records)))
    → (more : List Row) × has more × (whole ≡ more ++ owned_rows (flat_map (addresses origin version) (unseen after (filter_map h left))))
once_more origin version h octets left records gone after had has whole rows e gives here so =
    let rest = flat_map (addresses origin version) (unseen after (filter_map h left)) in
    let new = new_of origin version (h octets) gone in
    let went = goes origin version (h octets) gone after had has gives in (
      rows ++ owned_rows new,
      went.1 rows here,
      so ∙ ap (λ (l : List (List ℕ)). rows ++ owned_rows (flat_map (addresses origin version) (unseen gone (filter_map h l)))) e
          ∙ ap (λ (l : List OwnedSet). rows ++ owned_rows l) (cons_unseen origin version (h octets) (filter_map h left) gone after went.0)
          ∙ ap (λ (l : List Row). rows ++ l) (owned_rows-append new rest)
          ∙ sym (append_assoc rows (owned_rows new) (owned_rows rest)),
    )

pub once_done : (origin : Name) (version : Version) (h : List ℕ → Option Name) (gone : Name → Bool) (records : List (List ℕ)) (whole rows : List Row) → records ≡ []
    → whole ≡ rows ++ owned_rows (flat_map (addresses origin version) (unseen gone (filter_map h records))) → whole ≡ rows
once_done origin version h gone records whole rows e so = so ∙ ap (λ (l : List (List ℕ)). rows ++ owned_rows (flat_map (addresses origin version) (unseen gone (filter_map h l)))) e ∙ append-nil rows

-- ---- the names of rows

rows_named : (place : ℕ) (owner : Name) (rtype ttl : ℕ) (records : List (List ℕ)) → octets_before rtype ≡ Some place → filter_map named_by (rows_of owner (record { rtype = rtype; ttl = ttl; records = records })) ≡ filter_map (name_from place) records
rows_named place owner rtype ttl [] e = refl
rows_named place owner rtype ttl (octets ∷ records) e =
    ap (λ (o : Option ℕ). cons_option (option_and_then (λ place. name_from place octets) o) (filter_map named_by (rows_of owner (record { rtype = rtype; ttl = ttl; records = records })))) e
    ∙ ap (cons_option (name_from place octets)) (rows_named place owner rtype ttl records e)

rows_unnamed : (owner : Name) (rtype ttl : ℕ) (records : List (List ℕ)) → octets_before rtype ≡ None → filter_map named_by (rows_of owner (record { rtype = rtype; ttl = ttl; records = records })) ≡ []
rows_unnamed owner rtype ttl [] e = refl
rows_unnamed owner rtype ttl (octets ∷ records) e =
    ap (λ (o : Option ℕ). cons_option (option_and_then (λ place. name_from place octets) o) (filter_map named_by (rows_of owner (record { rtype = rtype; ttl = ttl; records = records })))) e
    ∙ rows_unnamed owner rtype ttl records e

pub set_names : (place : ℕ) (owner : Name) (s : Rrset) → octets_before s.rtype ≡ Some place → filter_map named_by (rows_of owner s) ≡ filter_map (name_from place) s.records
set_names place owner s e = rows_named place owner s.rtype s.ttl s.records e

pub no_set_names : (owner : Name) (s : Rrset) → octets_before s.rtype ≡ None → filter_map named_by (rows_of owner s) ≡ []
no_set_names owner s e = rows_unnamed owner s.rtype s.ttl s.records e

pub alias_names : (rows : List Row) → filter_map named_by (of_type 5 rows) ≡ []
alias_names [] = refl
alias_names (r ∷ rows) = by_test (eqb r.rtype 5) refl (alias_names rows)
  where
    by_test : (b : Bool) → eqb r.rtype 5 ≡ b → filter_map named_by (of_type 5 rows) ≡ [] → filter_map named_by (cond (eqb r.rtype 5) (r ∷ of_type 5 rows) (of_type 5 rows)) ≡ []
    by_test true h later =
        ap (λ (b : Bool). filter_map named_by (cond b (r ∷ of_type 5 rows) (of_type 5 rows))) h
        ∙ ap (λ (t : ℕ). cons_option (option_and_then (λ place. name_from place r.octets) (octets_before t)) (filter_map named_by (of_type 5 rows))) (eqb-true r.rtype 5 h) ∙ later
    by_test false h later = ap (λ (b : Bool). filter_map named_by (cond b (r ∷ of_type 5 rows) (of_type 5 rows))) h ∙ later

-- aliases name nobody whose addresses are wanted
pub no_alias_names : (rows : List Row) → AreAliases rows → filter_map named_by rows ≡ []
no_alias_names rows a = ap (filter_map named_by) (sym a) ∙ alias_names rows

-- of an RRset of one record no name is twice
pub one_name : (h : List ℕ → Option Name) (octets : List ℕ) → once (filter_map h (octets ∷ [])) ≡ filter_map h (octets ∷ [])
one_name h octets = by_name (h octets)
  where
    by_name : (o : Option Name) → once (cons_option o []) ≡ cons_option o []
    by_name None = refl
    by_name (Some name) = refl

few_names : (h : List ℕ → Option Name) (records : List (List ℕ)) → length records ≤ 1 → once (filter_map h records) ≡ filter_map h records
few_names h [] l = refl
few_names h (octets ∷ []) l = one_name h octets
few_names h (octets ∷ next ∷ records) l = absurd (omega arith)

pub few_addresses : (origin : Name) (version : Version) (place : ℕ) (owner : Name) (s : Rrset) → octets_before s.rtype ≡ Some place → length s.records ≤ 1 → flat_map (addresses origin version) (filter_map (name_from place) s.records) ≡ addresses_for origin version (rows_of owner s)
few_addresses origin version place owner s e few = sym (ap (λ (l : List Name). flat_map (addresses origin version) (once l)) (set_names place owner s e) ∙ ap (flat_map (addresses origin version)) (few_names (name_from place) s.records few))

pub once_addresses : (origin : Name) (version : Version) (place : ℕ) (owner : Name) (s : Rrset) → octets_before s.rtype ≡ Some place → flat_map (addresses origin version) (once (filter_map (name_from place) s.records)) ≡ addresses_for origin version (rows_of owner s)
once_addresses origin version place owner s e = sym (ap (λ (l : List Name). flat_map (addresses origin version) (once l)) (set_names place owner s e))

pub no_addresses : (origin : Name) (version : Version) (rows : List Row) → filter_map named_by rows ≡ [] → addresses_for origin version rows ≡ []
no_addresses origin version rows e = ap (λ (l : List Name). flat_map (addresses origin version) (once l)) e
