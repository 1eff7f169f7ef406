-- What is known of a response's rows by how many there are.
use Rattle.std.proofs.Common.{◌≡◌, ◌∙◌, ℕ, suc, ◌-◌, ◌≤◌, eqb, Bool, true, false, cond, List, [], ◌∷◌, ◌++◌, length, filter_map, inl, inr, Option, Some, None, refl, sym, ap, subst, arith, length-append, append-nil}
use Rattle.std.proofs.lemmas.List.Elements.{filter_map-append}
use Rattle.zone_model.specs.Names.{Name}
use Rattle.zone_model.specs.Records.{Rrset, Entry, rrset_of}
use Rattle.zone_model.specs.Rows.{Row, rows_of}
use Rattle.zone_model.specs.Versions.{Version}
use Rattle.zone_answer.specs.Answers.{node}
use Rattle.zone_answer.specs.Responses.{by_kind, named_by, octets_before, of_type}
use Rattle.zone_answer.specs.Sections.{AreAliases, AreCounted, Ends, EndsWithSet, IsResponded, last_owner}
use Rattle.zone_answer.specs.declared.header.Code.TheVariants.{Refused}
use Rattle.zone_answer.specs.declared.header.Header.{Header}
use Rattle.zone_answer.specs.declared.kind.Kind.TheVariants.{Outside}
use Rattle.zone_answer.proofs.AddressLaws.{alias_names, no_alias_names, no_set_names}
use Rattle.zone_answer.proofs.ResponseLaws.{servers_whole, set_type}
use Rattle.zone_answer.proofs.SectionLaws.{last_of_set}

fewer : (t : ℕ) (rows : List Row) → length (of_type t rows) ≤ length rows
fewer t [] = omega arith
fewer t (r ∷ rows) = by_test (eqb r.rtype t) (fewer t rows)
  where
    by_test : (b : Bool) → length (of_type t rows) ≤ length rows → length (cond b (r ∷ of_type t rows) (of_type t rows)) ≤ suc (length rows)
    by_test true l = omega arith
    by_test false l = omega arith

-- as many as all
pub all_aliases : (rows : List Row) → length rows ≡ length (of_type 5 rows) → AreAliases rows
all_aliases [] e = refl
all_aliases (r ∷ rows) e = by_test (eqb r.rtype 5) e (all_aliases rows) (fewer 5 rows)
  where
    by_test : (b : Bool) → suc (length rows) ≡ length (cond b (r ∷ of_type 5 rows) (of_type 5 rows)) → (length rows ≡ length (of_type 5 rows) → AreAliases rows) → length (of_type 5 rows) ≤ length rows → cond b (r ∷ of_type 5 rows) (of_type 5 rows) ≡ r ∷ rows
    by_test true h later l = ap (λ (x : List Row). r ∷ x) (later (omega arith))
    by_test false h later l = absurd (omega arith)

names_behind : (version : Version) (rtype : ℕ) (given : List Row) (e : EndsWithSet version rtype given) → filter_map named_by given ≡ filter_map named_by (rows_of e.owner e.set)
names_behind version rtype given e =
    ap (filter_map named_by) e.rows_are ∙ filter_map-append named_by e.before (rows_of e.owner e.set) ∙ ap (λ (l : List Name). l ++ filter_map named_by (rows_of e.owner e.set)) (no_alias_names e.before e.aliases)

-- rows of no type that names anybody
pub no_names : (version : Version) (rtype : ℕ) (given : List Row) → Ends version rtype given → octets_before rtype ≡ None → filter_map named_by given ≡ []
no_names version rtype given (inl a) n = no_alias_names given a
no_names version rtype given (inr e) n = names_behind version rtype given e ∙ no_set_names e.owner e.set (ap octets_before (set_type rtype e.entry e.set e.set_is) ∙ n)

-- the RRset that an answer's rows end with
pub record Known (version : Version) (rtype : ℕ) (given : List Row) (last : Option Name) : Type 0 where
  pub owner : Name
  pub entry : Entry
  pub set : Rrset
  pub last_is : last ≡ Some owner
  pub node_is : node version owner ≡ Some entry
  pub set_is : rrset_of rtype entry ≡ Some set
  pub names : filter_map named_by given ≡ filter_map named_by (rows_of owner set)

none_of : (owner : Name) (rtype ttl : ℕ) (records : List (List ℕ)) → length records ≡ 0 → rows_of owner (record { rtype = rtype; ttl = ttl; records = records }) ≡ []
none_of owner rtype ttl [] z = refl
none_of owner rtype ttl (octets ∷ records) z = absurd (omega arith)

bare : (has : List Row → Type 0) (count aliases : ℕ) (last : Option Name) (version : Version) (rtype : ℕ) (given : List Row) → AreCounted has count aliases last given → (e : EndsWithSet version rtype given) → length e.set.records ≡ 0 → count ≡ aliases
bare has count aliases last version rtype given c e none =
    let alone : given ≡ e.before = e.rows_are ∙ ap (λ (l : List Row). e.before ++ l) (none_of e.owner e.set.rtype e.set.ttl e.set.records none) ∙ append-nil e.before in
    let all : AreAliases given = subst AreAliases (sym alone) e.aliases in
    c.counted ∙ ap (λ (l : List Row). length l) (sym all) ∙ sym c.aliases_counted

pub known : (has : List Row → Type 0) (count aliases : ℕ) (last : Option Name) (version : Version) (rtype : ℕ) (given : List Row) → AreCounted has count aliases last given → Ends version rtype given → (count ≡ aliases → ⊥) → Known version rtype given last
known has count aliases last version rtype given c (inl a) more = absurd (more (c.counted ∙ ap (λ (l : List Row). length l) (sym a) ∙ sym c.aliases_counted))
known has count aliases last version rtype given c (inr e) more = record {
  owner = e.owner;
  entry = e.entry;
  set = e.set;
  last_is = c.last_is ∙ ap last_owner e.rows_are ∙ last_of_set e.before e.owner e.set (λ none. more (bare has count aliases last version rtype given c e none));
  node_is = e.node_is;
  set_is = e.set_is;
  names = names_behind version rtype given e;
}

-- the RRset that was found again
pub found_names : (version : Version) (rtype : ℕ) (given : List Row) (last : Option Name) (k : Known version rtype given last) (owner : Name) (entry view : Entry) (s : Rrset) → last ≡ Some owner → node version owner ≡ Some entry → view ≡ entry → rrset_of rtype view ≡ Some s
    → filter_map named_by given ≡ filter_map named_by (rows_of owner s)
found_names version rtype given last k owner entry view s l n v f =
    let same : k.owner ≡ owner = (let e : Some k.owner ≡ Some owner = sym k.last_is ∙ l in cc) in
    let again : k.entry ≡ entry = (let e : Some k.entry ≡ Some entry = sym k.node_is ∙ ap (node version) same ∙ n in cc) in
    let set : k.set ≡ s = (let e : Some k.set ≡ Some s = sym k.set_is ∙ ap (rrset_of rtype) (again ∙ sym v) ∙ f in cc) in
    k.names ∙ ap (λ (o : Name). filter_map named_by (rows_of o k.set)) same ∙ ap (λ (x : Rrset). filter_map named_by (rows_of owner x)) set

-- rows more
pub more_by : (had has : List Row → Type 0) (count aliases more more_aliases : ℕ) (last more_last : Option Name) (given new : List Row) → AreCounted had count aliases last given → AreCounted has more more_aliases more_last (given ++ new) → more - count ≡ length new
more_by had has count aliases more more_aliases last more_last given new c d = omega (arith, c.counted, d.counted, length-append given new)

-- ---- referrals

pub servers_counted : (had : List Row → Type 0) (count aliases : ℕ) (last : Option Name) (version : Version) (given : List Row) → AreCounted had count aliases last given → Ends version 2 given → count - aliases ≡ length (of_type 2 given)
servers_counted had count aliases last version given c e =
    let whole = ap (λ (l : List Row). length l) (servers_whole version given e) in
    omega (arith, c.counted, c.aliases_counted, whole, length-append (of_type 5 given) (of_type 2 given))

pub servers_names : (version : Version) (given : List Row) → Ends version 2 given → filter_map named_by given ≡ filter_map named_by (of_type 2 given)
servers_names version given e =
    ap (filter_map named_by) (sym (servers_whole version given e)) ∙ filter_map-append named_by (of_type 5 given) (of_type 2 given) ∙ ap (λ (l : List Name). l ++ filter_map named_by (of_type 2 given)) (alias_names given)

-- ---- outside of the zone

pub says_refused : (has : List Row → Type 0) (origin : Name) (zone : Version) (rows : List Row) (header : Header) → header ≡ record { code = Refused; authoritative = false; answer = 0; authority = 0; additional = 0 } → has []
    → IsResponded has (by_kind origin zone Outside rows) header
says_refused has origin zone rows header is none =
    subst (IsResponded has (by_kind origin zone Outside rows)) (sym is) (record { code_is = refl; authoritative_is = refl; answer_counted = refl; authority_counted = refl; additional_counted = refl; rows = none })
