-- A dump is read as the version that it is a dump of.
use Rattle.std.proofs.Common.{◌≡◌, ◌∙◌, ℕ, ◌+◌, ◌<◌, Bool, true, false, cond, List, [], ◌∷◌, ◌++◌, length, refl, sym, ap, subst, arith, Option, Some, None, Result, Ok, append_assoc, append-nil}
use Rattle.std.specs.List.{AllByRecursion, flat_map}
use Rattle.std.specs.List.Sorted.{IsStrictlySortedBy}
use Rattle.std.specs.Map.{keys_of}
use Rattle.zone_model.specs.Refusals.{Refused, ◌>>=◌}
use Rattle.zone_model.specs.declared.ZoneKind.{ZoneKind}
use Rattle.zone_model.specs.declared.ZoneKind.TheVariants.{SoaRule}
use Rattle.zone_model.specs.Names.{Name, is_under, name_cmp}
use Rattle.zone_model.specs.Lines.{lines_of}
use Rattle.zone_model.specs.Tokens.{refused}
use Rattle.zone_model.specs.Records.{Rrset, Entry, IsItem, item, RisingSets}
use Rattle.zone_model.specs.Versions.{Version, owned, has_soa, is_lone}
use Rattle.zone_model.specs.MasterFile.{Reader, added, after_record, zone_from, at_first, with_soa, zone_of}
use Rattle.zone_model.specs.Rows.{Row, rows_of, Directives, line_text}
use Rattle.zone_model.specs.Zones.{has_low_soa}
use Rattle.zone_model.specs.Dumps.{rows_at, all_rows, owner_lines, version_lines}
use Rattle.rr_data.proofs.RecordLineLemmas.{flat_map-append}
use Rattle.master_file.specs.Rows.{IsRecord, StandsUnder, KnowsOwner, written, CanBeDumped}
use Rattle.master_file.proofs.OwnerLemmas.{added_placed}
use Rattle.master_file.proofs.PrintedLineLemmas.{row_back, no_lines}
use Rattle.master_file.proofs.JoinLemmas.{partial_set, set_in, CanStand, Before, names_before, with_last, next_placed, one_counted, few_soas, not_low}

-- ---- texts that lead from one reader to another

-- behind the text the reader is another one
pub record ReadsTo (apex : Name) (text : List ℕ) (before after : Reader) : Type 0 where
  pub lines : ℕ
  pub read : (n : ℕ) (rest : List ℕ) → zone_from apex n (lines_of (text ++ rest)) None before ≡ zone_from apex (n + lines) (lines_of rest) None after

reads_none : (apex : Name) (r : Reader) → ReadsTo apex [] r r
reads_none apex r = record { lines = 0; read = λ n rest. let e : n ≡ n + 0 = omega arith in ap (λ (k : ℕ). zone_from apex k (lines_of rest) None r) e }

pub reads_more : (apex : Name) (s t : List ℕ) (a b c : Reader) → ReadsTo apex s a b → ReadsTo apex t b c → ReadsTo apex (s ++ t) a c
reads_more apex s t a b c p q = record {
  lines = p.lines + q.lines;
  read = λ n rest.
      let e : n + p.lines + q.lines ≡ n + (p.lines + q.lines) = omega arith in
      ap (λ (l : List ℕ). zone_from apex n (lines_of l) None a) (append_assoc s t rest) ∙ p.read n (t ++ rest) ∙ q.read (n + p.lines) rest ∙ ap (λ (k : ℕ). zone_from apex k (lines_of rest) None c) e;
}

-- behind a text some records of an owner were read, and the version is this one
record Reached (d : Option Directives) (apex : Name) (text : List ℕ) (before : Reader) (owner : Name) (version : Version) : Type 0 where
  pub after : Reader
  pub reads : ReadsTo apex text before after
  pub stands : StandsUnder d after
  pub owner_is : after.owner ≡ Some owner
  pub version_is : after.version ≡ version

reached_more : (d : Option Directives) (apex : Name) (s t : List ℕ) (r : Reader) (owner : Name) (v w : Version) (a : Reached d apex s r owner v) → Reached d apex t a.after owner w → Reached d apex (s ++ t) r owner w
reached_more d apex s t r owner v w a b =
    record { after = b.after; reads = reads_more apex s t r a.after b.after a.reads b.reads; stands = b.stands; owner_is = b.owner_is; version_is = b.version_is }

stands_after : (d : Option Directives) (time : Option ℕ) (rtype : ℕ) (octets : List ℕ) (owner : Name) (r : Reader) (version : Version) → StandsUnder d r → StandsUnder d (after_record time rtype octets owner r version)
stands_after None time rtype octets owner r version h = tt
stands_after (Some d) time rtype octets owner r version h = h

knows_first : (d : Option Directives) (owner : Name) (r : Reader) → KnowsOwner d true owner r
knows_first None owner r = tt
knows_first (Some d) owner r = tt

knows_later : (d : Option Directives) (owner : Name) (r : Reader) → r.owner ≡ Some owner → KnowsOwner d false owner r
knows_later None owner r h = tt
knows_later (Some d) owner r h = h

-- ---- one record

one_row : (d : Option Directives) (first : Bool) (row : Row) (apex : Name) (r : Reader) (version : Version) → IsRecord row → StandsUnder d r → KnowsOwner d first row.owner r
    → ((n : ℕ) → added apex n row.owner row.rtype row.ttl row.octets r.version ≡ Ok version) → Reached d apex (line_text d first row) r row.owner version
one_row d first row apex r version h stands knows joins =
    let after : Reader = after_record (written d row.ttl) row.rtype row.octets row.owner r version in
    record {
      after = after;
      reads = record {
        lines = 1;
        read = λ n rest.
            row_back d first row apex n rest r h stands knows
            ∙ ap (λ (x : Result Version (Refused ZoneKind)). (x >>= (λ (v : Version). Ok (after_record (written d row.ttl) row.rtype row.octets row.owner r v))) >>= zone_from apex (n + 1) (lines_of rest) None) (joins n);
      };
      stands = stands_after d (written d row.ttl) row.rtype row.octets row.owner r version stands;
      owner_is = refl;
      version_is = refl;
    }

-- ---- one name

-- a name behind others, and what it owns
record NameFacts (apex : Name) (front : Version) (owner : Name) (entry : Entry) : Type 0 where
  pub before : Before owner front
  pub under : is_under owner apex ≡ true
  pub rising : RisingSets None entry
  pub stands : CanStand owner entry
  pub low : has_low_soa apex (owner, entry) ≡ false

some_partial : (s : Rrset) (got : List (List ℕ)) (octets : List ℕ) → partial_set s (got ++ octets ∷ []) ≡ (record s { records = got ++ octets ∷ [] }) ∷ []
some_partial s [] octets = refl
some_partial s (x ∷ got) octets = refl

some_last : (front : Version) (owner : Name) (done : Entry) (s : Rrset) → with_last front owner (done ++ s ∷ []) ≡ front ++ (owner, done ++ s ∷ []) ∷ []
some_last front owner [] s = refl
some_last front owner (t ∷ done) s = refl

-- the next record of the RRset that is under way joins
joins_next : (apex : Name) (front : Version) (owner : Name) (entry done : Entry) (s : Rrset) (rest : Entry) (got : List (List ℕ)) (octets : List ℕ) (more : List (List ℕ)) → NameFacts apex front owner entry
    → entry ≡ done ++ s ∷ rest → s.records ≡ got ++ octets ∷ more → (n : ℕ)
    → added apex n owner s.rtype s.ttl octets (with_last front owner (done ++ partial_set s got)) ≡ Ok (with_last front owner (done ++ partial_set s (got ++ octets ∷ [])))
joins_next apex front owner entry done s rest got octets more f e k n =
    let low = not_low apex owner done s rest (subst (λ (x : Entry). has_low_soa apex (owner, x) ≡ false) e f.low) in
    added_placed apex n owner s.rtype s.ttl octets (with_last front owner (done ++ partial_set s got)) f.under low
    ∙ next_placed n front owner entry done s rest got octets more f.before f.rising f.stands e k
    ∙ ap (λ (v : Version). Ok v)
    (sym (ap (λ (l : Entry). with_last front owner (done ++ l)) (some_partial s got octets) ∙ some_last front owner done (record s { records = got ++ octets ∷ [] })))

-- the records of an RRset that are left
records_read : (d : Option Directives) (apex : Name) (front : Version) (owner : Name) (entry done : Entry) (s : Rrset) (rest : Entry) → NameFacts apex front owner entry → entry ≡ done ++ s ∷ rest
    → (got left : List (List ℕ)) → s.records ≡ got ++ left → (r : Reader) → StandsUnder d r → r.owner ≡ Some owner → r.version ≡ with_last front owner (done ++ partial_set s got)
    → AllByRecursion IsRecord (rows_of owner (record s { records = left }))
    → Reached d apex (flat_map (line_text d false) (rows_of owner (record s { records = left }))) r owner (with_last front owner (done ++ partial_set s s.records))
records_read d apex front owner entry done s rest f e got [] k r stands o v all = record {
  after = r;
  reads = reads_none apex r;
  stands = stands;
  owner_is = o;
  version_is = v ∙ ap (λ (l : List (List ℕ)). with_last front owner (done ++ partial_set s l)) (sym (k ∙ append-nil got));
}
records_read d apex front owner entry done s rest f e got (octets ∷ more) k r stands o v all =
    let row : Row = record { owner = owner; rtype = s.rtype; ttl = s.ttl; octets = octets } in
    let next = with_last front owner (done ++ partial_set s (got ++ octets ∷ [])) in
    let step : Reached d apex (line_text d false row) r owner next =
    one_row d false row apex r next all.0 stands (knows_later d owner r o)
    (λ n. ap (λ (x : Version). added apex n owner s.rtype s.ttl octets x) v ∙ joins_next apex front owner entry done s rest got octets more f e k n) in
    reached_more d apex (line_text d false row) (flat_map (line_text d false) (rows_of owner (record s { records = more }))) r owner next (with_last front owner (done ++ partial_set s s.records)) step
    (records_read d apex front owner entry done s rest f e (got ++ octets ∷ []) more (k ∙ sym (append_assoc got (octets ∷ []) more)) step.after step.stands step.owner_is step.version_is all.1)

whole_set : (s : Rrset) (l : List (List ℕ)) → l ≡ s.records → 0 < length l → partial_set s l ≡ s ∷ []
whole_set s [] e h = absurd (omega arith)
whole_set s (x ∷ l) e h = ap (λ (y : List (List ℕ)). (let z : Rrset = record s { records = y } in z) ∷ []) e

all_front : {A : Type 0} (P : A → Type 0) (xs ys : List A) → AllByRecursion P (xs ++ ys) → AllByRecursion P xs
all_front P [] ys h = tt
all_front P (x ∷ xs) ys h = (h.0, all_front P xs ys h.1)

all_back : {A : Type 0} (P : A → Type 0) (xs ys : List A) → AllByRecursion P (xs ++ ys) → AllByRecursion P ys
all_back P [] ys h = h
all_back P (x ∷ xs) ys h = all_back P xs ys h.1

-- the RRsets that are left
sets_read : (d : Option Directives) (apex : Name) (front : Version) (owner : Name) (entry : Entry) → NameFacts apex front owner entry → (done sets : Entry) → entry ≡ done ++ sets
    → (r : Reader) → StandsUnder d r → r.owner ≡ Some owner → r.version ≡ with_last front owner done → AllByRecursion IsRecord (flat_map (rows_of owner) sets)
    → Reached d apex (flat_map (line_text d false) (flat_map (rows_of owner) sets)) r owner (with_last front owner entry)
sets_read d apex front owner entry f done [] e r stands o v all = record {
  after = r;
  reads = reads_none apex r;
  stands = stands;
  owner_is = o;
  version_is = v ∙ ap (λ (l : Entry). with_last front owner l) (sym (e ∙ append-nil done));
}
sets_read d apex front owner entry f done (s ∷ rest) e r stands o v all =
    let some = (set_in done s rest (subst (RisingSets None) e f.rising)).some in
    let start : r.version ≡ with_last front owner (done ++ partial_set s []) = v ∙ ap (λ (l : Entry). with_last front owner l) (sym (append-nil done)) in
    let here = all_front IsRecord (rows_of owner s) (flat_map (rows_of owner) rest) all in
    let behind = all_back IsRecord (rows_of owner s) (flat_map (rows_of owner) rest) all in
    let set : Reached d apex (flat_map (line_text d false) (rows_of owner s)) r owner (with_last front owner (done ++ partial_set s s.records)) =
    records_read d apex front owner entry done s rest f e [] s.records refl r stands o start here in
    let whole : with_last front owner (done ++ partial_set s s.records) ≡ with_last front owner (done ++ s ∷ []) = ap (λ (l : Entry). with_last front owner (done ++ l)) (whole_set s s.records refl some) in
    let more = sets_read d apex front owner entry f (done ++ s ∷ []) rest (e ∙ sym (append_assoc done (s ∷ []) rest)) set.after set.stands set.owner_is (set.version_is ∙ whole) behind in
    subst (λ (t : List ℕ). Reached d apex t r owner (with_last front owner entry)) (sym (flat_map-append (line_text d false) (rows_of owner s) (flat_map (rows_of owner) rest)))
    (reached_more d apex (flat_map (line_text d false) (rows_of owner s)) (flat_map (line_text d false) (flat_map (rows_of owner) rest)) r owner (with_last front owner (done ++ partial_set s s.records)) (with_last front owner entry) set more)

-- all records of a name, by the first one
first_read : (d : Option Directives) (apex : Name) (front : Version) (owner : Name) (rtype ttl : ℕ) (octets : List ℕ) (more : List (List ℕ)) (rest : Entry)
    → NameFacts apex front owner ((record { rtype = rtype; ttl = ttl; records = octets ∷ more }) ∷ rest) → (r : Reader) → StandsUnder d r → r.version ≡ front
    → AllByRecursion IsRecord (rows_at (owner, (record { rtype = rtype; ttl = ttl; records = octets ∷ more }) ∷ rest))
    → Reached d apex (owner_lines d (rows_at (owner, (record { rtype = rtype; ttl = ttl; records = octets ∷ more }) ∷ rest))) r owner (front ++ (owner, (record { rtype = rtype; ttl = ttl; records = octets ∷ more }) ∷ rest) ∷ [])
first_read d apex front owner rtype ttl octets more rest f r stands v all =
    let s : Rrset = record { rtype = rtype; ttl = ttl; records = octets ∷ more } in
    let left : Rrset = record { rtype = rtype; ttl = ttl; records = more } in
    let row : Row = record { owner = owner; rtype = rtype; ttl = ttl; octets = octets } in
    let entry : Entry = s ∷ rest in
    let next = with_last front owner ([] ++ partial_set s ([] ++ octets ∷ [])) in
    let later = flat_map (line_text d false) (rows_of owner left) in
    let sets = flat_map (line_text d false) (flat_map (rows_of owner) rest) in
    let here = all_front IsRecord (rows_of owner left) (flat_map (rows_of owner) rest) all.1 in
    let behind = all_back IsRecord (rows_of owner left) (flat_map (rows_of owner) rest) all.1 in
    let one : Reached d apex (line_text d true row) r owner next =
    one_row d true row apex r next all.0 stands (knows_first d owner r) (λ n. ap (λ (x : Version). added apex n owner rtype ttl octets x) v ∙ joins_next apex front owner entry [] s rest [] octets more f refl refl n) in
    let set : Reached d apex later one.after owner (with_last front owner (s ∷ [])) =
    records_read d apex front owner entry [] s rest f refl (octets ∷ []) more refl one.after one.stands one.owner_is one.version_is here in
    let all_sets : Reached d apex sets set.after owner (with_last front owner entry) =
    sets_read d apex front owner entry f (s ∷ []) rest refl set.after set.stands set.owner_is set.version_is behind in
    let text : line_text d true row ++ (later ++ sets) ≡ owner_lines d (rows_at (owner, entry)) = ap (λ (t : List ℕ). line_text d true row ++ t) (sym (flat_map-append (line_text d false) (rows_of owner left) (flat_map (rows_of owner) rest))) in
    subst (λ (t : List ℕ). Reached d apex t r owner (with_last front owner entry)) text
    (reached_more d apex (line_text d true row) (later ++ sets) r owner next (with_last front owner entry) one
    (reached_more d apex later sets one.after owner (with_last front owner (s ∷ [])) (with_last front owner entry) set all_sets))

name_read : (d : Option Directives) (apex : Name) (front : Version) (owner : Name) (entry : Entry) → NameFacts apex front owner entry → 0 < length entry → (r : Reader) → StandsUnder d r → r.version ≡ front
    → AllByRecursion IsRecord (rows_at (owner, entry)) → Reached d apex (owner_lines d (rows_at (owner, entry))) r owner (front ++ (owner, entry) ∷ [])
name_read d apex front owner [] f some r stands v all = absurd (omega arith)
name_read d apex front owner (s ∷ rest) f some r stands v all = by_records s.records refl
  where
    by_records : (l : List (List ℕ)) → l ≡ s.records → Reached d apex (owner_lines d (rows_at (owner, s ∷ rest))) r owner (front ++ (owner, s ∷ rest) ∷ [])
    by_records [] e = let lt = f.rising.0.some in let none : length s.records ≡ 0 = ap (λ (l : List (List ℕ)). length l) (sym e) in absurd (omega arith)
    by_records (octets ∷ more) e =
        let path : ◌≡◌ {A = Rrset} (record s { records = octets ∷ more }) s = ap (λ (l : List (List ℕ)). let z : Rrset = record s { records = l } in z) e in
        subst (λ (x : Rrset). Reached d apex (owner_lines d (rows_at (owner, x ∷ rest))) r owner (front ++ (owner, x ∷ rest) ∷ [])) path
        (first_read d apex front owner s.rtype s.ttl octets more rest (subst (λ (x : Rrset). NameFacts apex front owner (x ∷ rest)) (sym path) f) r stands v
        (subst (λ (x : Rrset). AllByRecursion IsRecord (rows_at (owner, x ∷ rest))) (sym path) all))

-- ---- all names

-- behind a text a whole version was read
pub record VersionRead (apex : Name) (text : List ℕ) (before : Reader) (version : Version) : Type 0 where
  pub after : Reader
  pub reads : ReadsTo apex text before after
  pub version_is : after.version ≡ version

-- what is known of names that are left
record NamesLeft (apex : Name) (pairs : Version) : Type 0 where
  pub inside : AllByRecursion (λ (pair : Name × Entry). is_under pair.0 apex ≡ true) pairs
  pub low : AllByRecursion (λ (pair : Name × Entry). has_low_soa apex pair ≡ false) pairs
  pub lone : AllByRecursion (λ (pair : Name × Entry). is_lone pair.1 ≡ true) pairs
  pub items : AllByRecursion (λ (pair : Name × Entry). IsItem (item pair.0 pair.1) pair.0 pair.1) pairs
  pub records : AllByRecursion IsRecord (all_rows pairs)

names_read : (d : Option Directives) (apex : Name) (version : Version) → CanBeDumped apex version → (front pairs : Version) → version ≡ front ++ pairs → NamesLeft apex pairs → (r : Reader) → StandsUnder d r → r.version ≡ front
    → VersionRead apex (version_lines d pairs) r version
names_read d apex version h front [] e l r stands v = record { after = r; reads = reads_none apex r; version_is = v ∙ sym (e ∙ append-nil front) }
names_read d apex version h front (pair ∷ rest) e l r stands v =
    let before = names_before front pair rest (subst (λ (x : Version). IsStrictlySortedBy name_cmp (keys_of x)) e h.rising) in
    let facts : NameFacts apex front pair.0 pair.1 = record {
      before = before;
      under = l.inside.0;
      rising = l.items.0.proper;
      stands = record { soa = few_soas apex version front pair rest e before h.zone.soa l.low.0; lone = l.lone.0; short = l.items.0.short };
      low = l.low.0;
    } in
    let name : Reached d apex (owner_lines d (rows_at pair)) r pair.0 (front ++ pair ∷ []) =
    name_read d apex front pair.0 pair.1 facts l.items.0.some r stands v (all_front IsRecord (rows_at pair) (all_rows rest) l.records) in
    let left : NamesLeft apex rest = record { inside = l.inside.1; low = l.low.1; lone = l.lone.1; items = l.items.1; records = all_back IsRecord (rows_at pair) (all_rows rest) l.records } in
    let more = names_read d apex version h (front ++ pair ∷ []) rest (e ∙ sym (append_assoc front (pair ∷ []) rest)) left name.after name.stands name.version_is in
    record { after = more.after; reads = reads_more apex (owner_lines d (rows_at pair)) (version_lines d rest) r name.after more.after name.reads more.reads; version_is = more.version_is }

pub version_read : (d : Option Directives) (apex : Name) (version : Version) → CanBeDumped apex version → (r : Reader) → StandsUnder d r → r.version ≡ [] → VersionRead apex (version_lines d version) r version
version_read d apex version h r stands v =
    names_read d apex version h [] version refl (record { inside = h.zone.inside; low = h.zone.no_low_soa; lone = h.zone.lone; items = h.items; records = h.records }) r stands v

-- ---- the zone

pub zone_is : (apex : Name) (text : List ℕ) (version : Version) → CanBeDumped apex version → VersionRead apex text (at_first apex) version → zone_of apex (lines_of text) ≡ Ok version
unfolding zone_of
zone_is apex text version h p =
    let read : zone_from apex 1 (lines_of text) None (at_first apex) ≡ Ok p.after =
    ap (λ (l : List ℕ). zone_from apex 1 (lines_of l) None (at_first apex)) (sym (append-nil text)) ∙ p.reads.read 1 [] ∙ no_lines apex (1 + p.reads.lines) p.after in
    let last = length (lines_of text) + 1 in
    ap (λ (x : Result Reader (Refused ZoneKind)). x >>= with_soa apex last) read
    ∙ ap (λ (v : Version). cond (has_soa apex v) (Ok v) (refused last SoaRule)) p.version_is
    ∙ ap (λ (b : Bool). cond b (Ok version) (refused last SoaRule)) (one_counted (owned apex version) h.zone.soa)
