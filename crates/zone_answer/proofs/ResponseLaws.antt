-- How the rows of an answer end.
use Rattle.std.proofs.Common.{◌≡◌, ◌∙◌, ℕ, zero, suc, eqb, Bool, true, false, cond, ◌||◌, List, [], ◌∷◌, ◌++◌, inl, inr, Option, Some, None, unwrap_or, refl, sym, ap, subst, append_assoc, append-nil}
use Rattle.std.proofs.lemmas.List.Elements.{filter-append}
use borrow.Author.Tests.{eqb-true}
use Rattle.zone_model.specs.Names.{Name, same_name, is_under}
use Rattle.zone_model.specs.Records.{Rrset, Entry, rrset_of}
use Rattle.zone_model.specs.Rows.{Row, rows_of}
use Rattle.zone_model.specs.Versions.{Version, owned, entry_of, exists}
use Rattle.zone_model.proofs.NameLemmas.{same_name-true}
use Rattle.zone_answer.specs.Answers as answers
use Rattle.zone_answer.specs.Answers.{Answer, Next, LeadsTo, Step, alias_in, answer, behind, by_alias, by_cut, by_node, by_type, cut_above, encloser, followed, going_on, most_aliases, no_more, node, set_rows, step, target_of, wildcard_under}
use Rattle.zone_answer.specs.Responses.{of_type}
use Rattle.zone_answer.specs.Sections.{AreAliases, Ends}
use Rattle.zone_answer.specs.declared.kind.Kind.{Kind}
use Rattle.zone_answer.proofs.AncestorLaws.{self_under}
use Rattle.zone_answer.specs.declared.kind.Kind.TheVariants.{Answered, Nodata, Nxdomain, Referral, Outside}

-- ---- rows by type

pub set_type : (rtype : ℕ) (entry : Entry) (s : Rrset) → rrset_of rtype entry ≡ Some s → s.rtype ≡ rtype
set_type rtype [] s e = let k : None ≡ Some s = e in absurd cc
set_type rtype (first ∷ rest) s e = by_test (eqb first.rtype rtype) refl (set_type rtype rest s)
  where
    by_test : (b : Bool) → eqb first.rtype rtype ≡ b → (rrset_of rtype rest ≡ Some s → s.rtype ≡ rtype) → s.rtype ≡ rtype
    by_test true t later =
        let k : Some first ≡ Some s = ap (λ (c : Bool). cond c (Some first) (rrset_of rtype rest)) (sym t) ∙ e in
        let same : first ≡ s = cc in
        subst (λ (x : Rrset). x.rtype ≡ rtype) same (eqb-true first.rtype rtype t)
    by_test false t later = later (ap (λ (c : Bool). cond c (Some first) (rrset_of rtype rest)) (sym t) ∙ e)

abbrev rows_with : Name → ℕ → ℕ → List (List ℕ) → List Row
rows_with owner rtype ttl records = rows_of owner (record { rtype = rtype; ttl = ttl; records = records })

same_kept : (owner : Name) (rtype ttl t : ℕ) (records : List (List ℕ)) → eqb rtype t ≡ true → of_type t (rows_with owner rtype ttl records) ≡ rows_with owner rtype ttl records
same_kept owner rtype ttl t [] e = refl
same_kept owner rtype ttl t (octets ∷ records) e =
    let first : Row = record { owner = owner; rtype = rtype; ttl = ttl; octets = octets } in
    ap (λ (c : Bool). cond c (first ∷ of_type t (rows_with owner rtype ttl records)) (of_type t (rows_with owner rtype ttl records))) e ∙ ap (λ (l : List Row). first ∷ l) (same_kept owner rtype ttl t records e)

other_gone : (owner : Name) (rtype ttl t : ℕ) (records : List (List ℕ)) → eqb rtype t ≡ false → of_type t (rows_with owner rtype ttl records) ≡ []
other_gone owner rtype ttl t [] e = refl
other_gone owner rtype ttl t (octets ∷ records) e =
    let first : Row = record { owner = owner; rtype = rtype; ttl = ttl; octets = octets } in
    ap (λ (c : Bool). cond c (first ∷ of_type t (rows_with owner rtype ttl records)) (of_type t (rows_with owner rtype ttl records))) e ∙ other_gone owner rtype ttl t records e

pub set_kept : (owner : Name) (s : Rrset) (t : ℕ) → eqb s.rtype t ≡ true → of_type t (rows_of owner s) ≡ rows_of owner s
set_kept owner s t e = same_kept owner s.rtype s.ttl t s.records e

pub set_gone : (owner : Name) (s : Rrset) (t : ℕ) → eqb s.rtype t ≡ false → of_type t (rows_of owner s) ≡ []
set_gone owner s t e = other_gone owner s.rtype s.ttl t s.records e

pub of_type-append : (t : ℕ) (xs ys : List Row) → of_type t (xs ++ ys) ≡ of_type t xs ++ of_type t ys
of_type-append t xs ys = filter-append (λ (r : Row). eqb r.rtype t) xs ys

none_twice : (t : ℕ) → eqb 5 t ≡ false → (rows : List Row) → of_type t (of_type 5 rows) ≡ []
none_twice t e [] = refl
none_twice t e (r ∷ rows) = by_test (eqb r.rtype 5) refl (none_twice t e rows)
  where
    by_test : (b : Bool) → eqb r.rtype 5 ≡ b → of_type t (of_type 5 rows) ≡ [] → of_type t (cond (eqb r.rtype 5) (r ∷ of_type 5 rows) (of_type 5 rows)) ≡ []
    by_test true h later =
        let here : eqb r.rtype t ≡ false = ap (λ (n : ℕ). eqb n t) (eqb-true r.rtype 5 h) ∙ e in
        ap (λ (c : Bool). of_type t (cond c (r ∷ of_type 5 rows) (of_type 5 rows))) h
        ∙ ap (λ (c : Bool). cond c (r ∷ of_type t (of_type 5 rows)) (of_type t (of_type 5 rows))) here ∙ later
    by_test false h later = ap (λ (c : Bool). of_type t (cond c (r ∷ of_type 5 rows) (of_type 5 rows))) h ∙ later

-- aliases are of no other type
pub no_alias : (rows : List Row) (t : ℕ) → eqb 5 t ≡ false → AreAliases rows → of_type t rows ≡ []
no_alias rows t e all = ap (of_type t) (sym all) ∙ none_twice t e rows

-- ---- what is owned is there

pub owner_exists : (name : Name) (version : Version) (entry : Entry) → entry_of name version ≡ Some entry → exists name version ≡ true
owner_exists name [] entry e = let k : None ≡ Some entry = e in absurd cc
owner_exists name (pair ∷ version) entry e = by_test (same_name name pair.0) refl (owner_exists name version entry)
  where
    by_test : (b : Bool) → same_name name pair.0 ≡ b → (entry_of name version ≡ Some entry → exists name version ≡ true) → (is_under pair.0 name || exists name version) ≡ true
    by_test true t later = ap (λ (n : Name). is_under n name || exists name version) (sym (same_name-true name pair.0 t)) ∙ ap (λ (b : Bool). b || exists name version) (self_under name)
    by_test false t later = or_right (is_under pair.0 name) (exists name version) (later (ap (λ (b : Bool). cond b (Some pair.1) (entry_of name version)) (sym t) ∙ e))
      where
        or_right : (a b : Bool) → b ≡ true → (a || b) ≡ true
        or_right true b h = refl
        or_right false b h = h

owned_there : (name : Name) (version : Version) (s : Rrset) (rtype : ℕ) → rrset_of rtype (owned name version) ≡ Some s → exists name version ≡ true
owned_there name version s rtype e = by_entry (entry_of name version) refl
  where
    by_entry : (o : Option Entry) → entry_of name version ≡ o → exists name version ≡ true
    by_entry None h = let k : None ≡ Some s = ap (λ (o : Option Entry). rrset_of rtype (unwrap_or o [])) (sym h) ∙ e in absurd cc
    by_entry (Some entry) h = owner_exists name version entry h

-- what answers for a name that owns an RRset is what it owns
owner_node : (name : Name) (version : Version) (s : Rrset) (rtype : ℕ) → rrset_of rtype (owned name version) ≡ Some s → node version name ≡ Some (owned name version)
owner_node name version s rtype e = ap (λ (b : Bool). cond b (Some (owned name version)) (wildcard_under version (encloser version name))) (owned_there name version s rtype e)

-- ---- one name

-- how the rows of an answer of a kind end
abbrev pub EndsAs : Version → ℕ → Kind → List Row → Type 0
EndsAs version rtype Answered rows = Ends version rtype rows
EndsAs version rtype Nodata rows = AreAliases rows
EndsAs version rtype Nxdomain rows = AreAliases rows
EndsAs version rtype Referral rows = Ends version 2 rows
EndsAs version rtype Outside rows = rows ≡ []

-- those of a name end it, or are aliases
abbrev GoesOn : Version → ℕ → Next → List Row → Type 0
GoesOn version rtype (answers.Ends kind) rows = EndsAs version rtype kind rows
GoesOn version rtype (LeadsTo target) rows = AreAliases rows

abbrev EndsOn : Version → ℕ → Step → Type 0
EndsOn version rtype s = GoesOn version rtype s.next s.rows

set_ends : (version : Version) (rtype : ℕ) (owner : Name) (entry : Entry) (o : Option Rrset) → node version owner ≡ Some entry → rrset_of rtype entry ≡ o → EndsOn version rtype (by_type owner o)
set_ends version rtype owner entry None n e = refl
set_ends version rtype owner entry (Some s) n e = inr (record { before = []; owner = owner; entry = entry; set = s; aliases = refl; node_is = n; set_is = e; rows_are = refl })

abbrev alias_of : ℕ → Entry → Bool → Option Rrset
alias_of rtype entry b = cond b None (rrset_of 5 entry)

is_alias : (rtype : ℕ) (entry : Entry) (alias : Rrset) (b : Bool) → alias_of rtype entry b ≡ Some alias → alias.rtype ≡ 5
is_alias rtype entry alias true e = let k : None ≡ Some alias = e in absurd cc
is_alias rtype entry alias false e = set_type 5 entry alias e

alias_ends : (version : Version) (rtype : ℕ) (owner : Name) (entry : Entry) (o : Option Rrset) → node version owner ≡ Some entry → alias_in rtype entry ≡ o → EndsOn version rtype (by_alias owner rtype entry o)
alias_ends version rtype owner entry None n e = set_ends version rtype owner entry (rrset_of rtype entry) n refl
alias_ends version rtype owner entry (Some alias) n e = set_kept owner alias 5 (ap (λ (t : ℕ). eqb t 5) (is_alias rtype entry alias (eqb rtype 5) e))

node_ends : (version : Version) (rtype : ℕ) (name : Name) (o : Option Entry) → node version name ≡ o → EndsOn version rtype (by_node name rtype o)
node_ends version rtype name None e = refl
node_ends version rtype name (Some entry) e = alias_ends version rtype name entry (alias_in rtype entry) e refl

servers_end : (version : Version) (cut : Name) (o : Option Rrset) → rrset_of 2 (owned cut version) ≡ o → Ends version 2 (set_rows cut o)
servers_end version cut None e = inl refl
servers_end version cut (Some s) e = inr (record { before = []; owner = cut; entry = owned cut version; set = s; aliases = refl; node_is = owner_node cut version s 2 e; set_is = e; rows_are = refl })

cut_ends : (version : Version) (rtype : ℕ) (name : Name) (o : Option Name) → EndsOn version rtype (by_cut version name rtype o)
cut_ends version rtype name None = node_ends version rtype name (node version name) refl
cut_ends version rtype name (Some cut) = servers_end version cut (rrset_of 2 (owned cut version)) refl

-- ---- the answer

aliases_more : (xs ys : List Row) → AreAliases xs → AreAliases ys → AreAliases (xs ++ ys)
aliases_more xs ys a b = of_type-append 5 xs ys ∙ ap (λ (l : List Row). l ++ of_type 5 ys) a ∙ ap (λ (l : List Row). xs ++ l) b

ends_more : (version : Version) (t : ℕ) (xs ys : List Row) → AreAliases xs → Ends version t ys → Ends version t (xs ++ ys)
ends_more version t xs ys a (inl b) = inl (aliases_more xs ys a b)
ends_more version t xs ys a (inr e) = inr (record {
  before = xs ++ e.before;
  owner = e.owner;
  entry = e.entry;
  set = e.set;
  aliases = aliases_more xs e.before a e.aliases;
  node_is = e.node_is;
  set_is = e.set_is;
  rows_are = ap (λ (l : List Row). xs ++ l) e.rows_are ∙ sym (append_assoc xs e.before (rows_of e.owner e.set));
})

pub ends_as_more : (version : Version) (rtype : ℕ) (kind : Kind) (xs ys : List Row) → AreAliases xs → (kind ≡ Outside → ⊥) → EndsAs version rtype kind ys → EndsAs version rtype kind (xs ++ ys)
ends_as_more version rtype Answered xs ys a n e = ends_more version rtype xs ys a e
ends_as_more version rtype Nodata xs ys a n e = aliases_more xs ys a e
ends_as_more version rtype Nxdomain xs ys a n e = aliases_more xs ys a e
ends_as_more version rtype Referral xs ys a n e = ends_more version 2 xs ys a e
ends_as_more version rtype Outside xs ys a n e = absurd (n refl)

-- what a step leads on to ends as the whole does
abbrev Ending : Version → ℕ → Answer → Type 0
Ending version rtype a = (a.kind ≡ Outside → ⊥) × EndsAs version rtype a.kind a.rows

not_outside : (kind : Kind) → Answered ≡ kind → kind ≡ Outside → ⊥
not_outside kind a e = let k : Answered ≡ Outside = a ∙ e in absurd cc

abbrev IsInside : Next → Type 0
IsInside (answers.Ends kind) = kind ≡ Outside → ⊥
IsInside (LeadsTo target) = Unit {0}

set_inside : (owner : Name) (o : Option Rrset) → IsInside (by_type owner o).next
set_inside owner None = λ e. absurd cc
set_inside owner (Some s) = λ e. absurd cc

alias_inside : (owner : Name) (rtype : ℕ) (entry : Entry) (o : Option Rrset) → IsInside (by_alias owner rtype entry o).next
alias_inside owner rtype entry None = set_inside owner (rrset_of rtype entry)
alias_inside owner rtype entry (Some alias) = tt

node_inside : (name : Name) (rtype : ℕ) (o : Option Entry) → IsInside (by_node name rtype o).next
node_inside name rtype None = λ e. absurd cc
node_inside name rtype (Some entry) = alias_inside name rtype entry (alias_in rtype entry)

cut_inside : (version : Version) (rtype : ℕ) (name : Name) (o : Option Name) → IsInside (by_cut version name rtype o).next
cut_inside version rtype name None = node_inside name rtype (node version name)
cut_inside version rtype name (Some cut) = λ e. absurd cc

none_more : (version : Version) (rtype : ℕ) (rows : List Row) → AreAliases rows → EndsAs version rtype Answered (rows ++ [])
none_more version rtype rows a = inl (subst AreAliases (sym (append-nil rows)) a)

on_ends : (version : Version) (rtype : ℕ) (at : Name → Answer) (rows : List Row) (next : Next) → ((target : Name) → Ending version rtype (at target)) → IsInside next → GoesOn version rtype next rows → Ending version rtype (behind rows (going_on at next))
on_ends version rtype at rows (answers.Ends kind) rest i g = (i, subst (EndsAs version rtype kind) (sym (append-nil rows)) g)
on_ends version rtype at rows (LeadsTo None) rest i g = ((λ e. absurd cc), none_more version rtype rows g)
on_ends version rtype at rows (LeadsTo (Some target)) rest i g = ((rest target).0, ends_as_more version rtype (at target).kind rows (at target).rows g (rest target).0 (rest target).1)

followed_ends : (left : ℕ) (origin : Name) (version : Version) (rtype : ℕ) (name : Name) → Ending version rtype (followed left origin version rtype name)
unfolding followed
followed_ends zero origin version rtype name = ((λ e. absurd cc), inl refl)
followed_ends (suc left) origin version rtype name = by_test (is_under name origin) (followed_ends left origin version rtype)
  where
    by_test : (b : Bool) → ((target : Name) → Ending version rtype (followed left origin version rtype target))
        → Ending version rtype (cond b (behind (step origin version rtype name).rows (going_on (followed left origin version rtype) (step origin version rtype name).next)) no_more)
    by_test true rest =
        let cut = cut_above origin version name in
        on_ends version rtype (followed left origin version rtype) (by_cut version name rtype cut).rows (by_cut version name rtype cut).next rest (cut_inside version rtype name cut) (cut_ends version rtype name cut)
    by_test false rest = ((λ e. absurd cc), inl refl)

-- an answer's rows end by its kind
pub answer_ends : (origin : Name) (version : Version) (name : Name) (rtype : ℕ) → EndsAs version rtype (answer origin version name rtype).kind (answer origin version name rtype).rows
answer_ends origin version name rtype = by_test (is_under name origin)
  where
    by_test : (b : Bool) → EndsAs version rtype (cond b (followed 16 origin version rtype name) (record { kind = Outside; rows = [] })).kind (cond b (followed 16 origin version rtype name) (record { kind = Outside; rows = [] })).rows
    by_test true = (followed_ends 16 origin version rtype name).1
    by_test false = refl

-- ---- a referral's rows

pub servers_whole : (version : Version) (rows : List Row) → Ends version 2 rows → of_type 5 rows ++ of_type 2 rows ≡ rows
servers_whole version rows (inl a) = ap (λ (l : List Row). of_type 5 rows ++ l) (no_alias rows 2 refl a) ∙ append-nil (of_type 5 rows) ∙ a
servers_whole version rows (inr e) =
    let here : eqb e.set.rtype 2 ≡ true = ap (λ (t : ℕ). eqb t 2) (set_type 2 e.entry e.set e.set_is) in
    let other : eqb e.set.rtype 5 ≡ false = ap (λ (t : ℕ). eqb t 5) (set_type 2 e.entry e.set e.set_is) in
    let last = rows_of e.owner e.set in
    let aliases : of_type 5 rows ≡ e.before = ap (of_type 5) e.rows_are ∙ of_type-append 5 e.before last ∙ ap (λ (l : List Row). l ++ of_type 5 last) e.aliases ∙ ap (λ (l : List Row). e.before ++ l) (set_gone e.owner e.set 5 other) ∙ append-nil e.before in
    let servers : of_type 2 rows ≡ last = ap (of_type 2) e.rows_are ∙ of_type-append 2 e.before last ∙ ap (λ (l : List Row). l ++ of_type 2 last) (no_alias e.before 2 refl e.aliases) ∙ set_kept e.owner e.set 2 here in
    ap (λ (l : List Row). l ++ of_type 2 rows) aliases ∙ ap (λ (l : List Row). e.before ++ l) servers ∙ sym e.rows_are
