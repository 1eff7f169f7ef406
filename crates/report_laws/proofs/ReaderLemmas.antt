-- A zone that lines of octets say can be dumped.
use Rattle.std.proofs.Common.{◌≡◌, ℕ, ◌+◌, ◌≤◌, Bool, true, false, cond, not, ◌&&◌, eqb, ltb, eqb-true, List, [], ◌∷◌, length, Option, Some, None, Result, Ok, Err, refl, ap, subst, arith, codes}
use borrow.Author.Tests.{ltb-false}
use Rattle.std.specs.Prelude.{is_none}
use Rattle.std.specs.List.{AllByRecursion}
use Rattle.std.specs.List.Sorted.{IsStrictlySortedBy}
use Rattle.std.specs.Map.{keys_of}
use Rattle.std.specs.BTreeMap.{insert_entry}
use Rattle.zone_model.specs.Refusals.{Refused, ◌>>=◌}
use Rattle.zone_model.specs.declared.ZoneKind.{ZoneKind}
use Rattle.zone_model.specs.declared.ZoneKind.TheVariants.{BadName, NoOwner, NoTtl, BadTtl, UnknownType, OutsideZone, CnameAndOther, SoaRule, LongEntry}
use Rattle.zone_model.specs.declared.DataRefusal.{DataRefusal}
use Rattle.zone_model.specs.Names.{Name, IsName, name_cmp, is_under, same_name}
use Rattle.zone_model.specs.Records.{Entry, item, with_rr, item_limit}
use Rattle.zone_model.specs.Versions.{Version, owned, has_soa, is_lone, soa_type}
use Rattle.zone_model.specs.Tokens.{Token, refused, line_tokens}
use Rattle.zone_model.specs.DataWords.{most_time, is_word}
use Rattle.zone_model.specs.Data.{data_of}
use Rattle.zone_model.specs.MasterFile.{Reader, required, name_word, time_word, type_word, class_word, is_time, is_directive, one_argument, set_time_word, set_origin_word, directive, Front, front_of, placed, minimum_of, or_else, time_for, soa_count, entry_fault, unless_fault, placed_in, added, after_record, record_says, last_line, entry_says, Pending, goes_on, zone_from, at_first, with_soa, zone_at, zone_of}
use Rattle.master_file.specs.Rows.{CanBeDumped}
use Rattle.zone_model.proofs.EntryLaws.{entry_with}
use Rattle.report_laws.specs.Octets.{AllOctets}
use Rattle.report_laws.proofs.EntryLemmas.{IsData, IsRr, sets_with, some_with}
use Rattle.report_laws.proofs.WellFormedLemmas.{IsOwned, IsWellFormed, Owns, owns, well_formed_put, can_be_dumped}
use Rattle.report_laws.proofs.WordLemmas.{IsType, type_is, time_most}
use Rattle.report_laws.proofs.DataLemmas.{IsTokenText, AllTexts, named_is, data_is, bound}
use Rattle.report_laws.proofs.TokenLemmas.{either, IsScan, line_is, fresh_is}
use Rattle.report_laws.proofs.MinimumLemmas.{minimum_is}

-- ---- words

pub given : {A : Type 0} (n : ℕ) (kind : ZoneKind) (o : Option A) (x : A) → required n kind o ≡ Ok x → o ≡ Some x
given n kind (Some y) x h = let is : y ≡ x = cc in ap Some is
given n kind None x h = absurd cc

pub name_said : (origin : Name) (t : Token) (name : Name) → IsTokenText t → IsName origin → name_word origin t ≡ Some name → IsName name
name_said origin t name b o h = either t.quoted _ _ (Some name) (λ k. absurd cc) (named_is t.text origin name b o) h

pub time_said : (t : Token) (n : ℕ) → time_word t ≡ Some n → n ≤ most_time
time_said t n h = either t.quoted _ _ (Some n) (λ k. absurd cc) (time_most t.text n) h

pub type_said : (t : Token) (n : ℕ) → type_word t ≡ Some n → IsType n
type_said t n h = either t.quoted _ _ (Some n) (λ k. absurd cc) (type_is t.text n) h

-- a time, if there is one, is one that may be written
abbrev IfTime : Option ℕ → Type 0
IfTime None = Unit {0}
IfTime (Some n) = n ≤ most_time

abbrev IfName : Option Name → Type 0
IfName None = Unit {0}
IfName (Some name) = IsName name

some_time : (o : Option ℕ) (n : ℕ) → IfTime o → o ≡ Some n → n ≤ most_time
some_time None n h e = absurd cc
some_time (Some m) n h e = let is : m ≡ n = cc in subst (λ (k : ℕ). k ≤ most_time) is h

some_name : (o : Option Name) (name : Name) → IfName o → o ≡ Some name → IsName name
some_name None name h e = absurd cc
some_name (Some x) name h e = let is : x ≡ name = cc in subst IsName is h

either_time : (a b : Option ℕ) → IfTime a → IfTime b → IfTime (or_else a b)
either_time None b h k = k
either_time (Some n) b h k = h

-- what the entries so far leave
pub record IsReader (apex : Name) (r : Reader) : Type 0 where
  pub origin : IsName r.origin
  pub set_time : IfTime r.set_time
  pub last_time : IfTime r.last_time
  pub minimum : IfTime r.minimum
  pub owner : IfName r.owner
  pub well_formed : IsWellFormed apex r.version

reader_is : (apex : Name) (x new : Reader) → IsReader apex x → ◌≡◌ {A = Result Reader (Refused ZoneKind)} (Ok x) (Ok new) → IsReader apex new
reader_is apex x new s h = let is : x ≡ new = cc in subst (IsReader apex) is s

-- ---- directives

time_is_set : (apex : Name) (r new : Reader) (a : Token) → IsReader apex r → set_time_word r a ≡ Ok new → IsReader apex new
time_is_set apex r new a h e =
    let b = bound (required a.line BadTtl (time_word a)) (λ (time : ℕ). Ok (record r { set_time = Some time })) new e in
    let most = time_said a b.0 (given a.line BadTtl (time_word a) b.0 b.1) in
    reader_is apex (record r { set_time = Some b.0 }) new (record { origin = h.origin; set_time = most; last_time = h.last_time; minimum = h.minimum; owner = h.owner; well_formed = h.well_formed }) b.2

origin_is_set : (apex : Name) (r new : Reader) (a : Token) → IsTokenText a → IsReader apex r → set_origin_word r a ≡ Ok new → IsReader apex new
origin_is_set apex r new a t h e =
    let b = bound (required a.line BadName (name_word r.origin a)) (λ (name : Name). Ok (record r { origin = name })) new e in
    let name = name_said r.origin a b.0 t h.origin (given a.line BadName (name_word r.origin a) b.0 b.1) in
    reader_is apex (record r { origin = b.0 }) new (record { origin = name; set_time = h.set_time; last_time = h.last_time; minimum = h.minimum; owner = h.owner; well_formed = h.well_formed }) b.2

argument_is : (last : ℕ) (tokens : List Token) (a : Token) → AllTexts tokens → one_argument last tokens ≡ Ok a → IsTokenText a
argument_is last [] a t e = absurd cc
argument_is last (b ∷ []) a t e = let is : b ≡ a = cc in subst IsTokenText is t.0
argument_is last (b ∷ c ∷ more) a t e = absurd cc

directive_is : (apex : Name) (t : Token) (arguments : List Token) (r new : Reader) → AllTexts arguments → IsReader apex r → directive t arguments r ≡ Ok new → IsReader apex new
unfolding directive
directive_is apex t arguments r new texts h e =
    either (is_word t.text (codes "$INCLUDE")) _ _ (Ok new) (λ k. absurd cc)
    (either (is_word t.text (codes "$TTL")) _ _ (Ok new) (λ k. let b = bound (one_argument t.line arguments) (set_time_word r) new k in time_is_set apex r new b.0 h b.2)
    (either (is_word t.text (codes "$ORIGIN")) _ _ (Ok new)
    (λ k. let b = bound (one_argument t.line arguments) (set_origin_word r) new k in origin_is_set apex r new b.0 (argument_is t.line arguments b.0 texts b.1) h b.2)
    (λ k. absurd cc))) e

-- ---- what stands before the data

record IsFront (front : Front) : Type 0 where
  time : IfTime front.time
  rtype : IsType front.rtype
  rest : AllTexts front.rest

-- a word is no class, the one that is taken, or another
by_class : {P : Type 0} (o : Option Bool) → (o ≡ None → P) → (o ≡ Some true → P) → (o ≡ Some false → P) → P
by_class None f g h = f refl
by_class (Some true) f g h = g refl
by_class (Some false) f g h = h refl

typed_front : (time : Option ℕ) (token : Token) (tokens : List Token) (front : Front) → IfTime time → AllTexts tokens
    → required token.line UnknownType (type_word token) >>= (λ (rtype : ℕ). Ok (record { time = time; rtype = rtype; rest = tokens })) ≡ Ok front → IsFront front
typed_front time token tokens front h t e =
    let b = bound (required token.line UnknownType (type_word token)) (λ (rtype : ℕ). Ok (record { time = time; rtype = rtype; rest = tokens })) front e in
    let is : ◌≡◌ {A = Front} (record { time = time; rtype = b.0; rest = tokens }) front = cc in
    subst IsFront is (record { time = h; rtype = type_said token b.0 (given token.line UnknownType (type_word token) b.0 b.1); rest = t })

front_is : (last : ℕ) (time : Option ℕ) (classed : Bool) (tokens : List Token) (front : Front) → IfTime time → AllTexts tokens → front_of last time classed tokens ≡ Ok front → IsFront front
unfolding front_of
front_is last time classed [] front h t e = absurd cc
front_is last time classed (token ∷ tokens) front h t e =
    either (is_none time && is_time token) _ _ (Ok front)
    (λ k.
    let b = bound (required token.line BadTtl (time_word token)) (λ (x : ℕ). front_of last (Some x) classed tokens) front k in
    front_is last (Some b.0) classed tokens front (time_said token b.0 (given token.line BadTtl (time_word token) b.0 b.1)) t.1 b.2)
    (λ k.
    by_class (cond classed None (class_word token))
    (λ c. typed_front time token tokens front h t.1 (rw c at k))
    (λ c. front_is last time true tokens front h t.1 (rw c at k))
    (λ c. let bad = rw c at k in absurd cc)) e

-- ---- a record

rr_of : (apex owner : Name) (rtype time : ℕ) (octets : List ℕ) → IsType rtype → time ≤ most_time → IsData rtype octets → (eqb rtype soa_type && not (same_name owner apex)) ≡ false → IsRr apex owner rtype time octets
rr_of apex owner rtype time octets t le d place = record { number = t.number; kind = t.kind; time = le; each = (d, tt); place = place }

-- an entry that can stand
record Stands (owner : Name) (entry : Entry) : Type 0 where
  few : soa_count entry ≤ 1
  lone : is_lone entry ≡ true
  short : length (item owner entry) ≤ item_limit

faultless : (owner : Name) (entry : Entry) → entry_fault owner entry ≡ None → Stands owner entry
faultless owner entry h = by_tests (ltb 1 (soa_count entry)) (is_lone entry) (ltb item_limit (length (item owner entry))) refl refl refl h
  where
    by_tests : (a b c : Bool) → ltb 1 (soa_count entry) ≡ a → is_lone entry ≡ b → ltb item_limit (length (item owner entry)) ≡ c → cond a (Some SoaRule) (cond (not b) (Some CnameAndOther) (cond c (Some LongEntry) None)) ≡ None → Stands owner entry
    by_tests true b c e f g k = absurd cc
    by_tests false false c e f g k = absurd cc
    by_tests false true true e f g k = absurd cc
    by_tests false true false e f g k = record { few = ltb-false 1 (soa_count entry) e; lone = f; short = ltb-false item_limit (length (item owner entry)) g }

placed_is : (apex : Name) (last : ℕ) (owner : Name) (rtype time : ℕ) (octets : List ℕ) (version new : Version) → IsName owner → is_under owner apex ≡ true → IsRr apex owner rtype time octets → IsWellFormed apex version
    → placed_in last owner rtype time octets version ≡ Ok new → IsWellFormed apex new
placed_is apex last owner rtype time octets version new name under rr h e = by_fault (entry_fault owner entry) refl e
  where
    before : Owns apex owner (owned owner version)
    before = owns apex owner version h.each

    entry : Entry
    entry = with_rr rtype time octets (owned owner version)

    put_is : Stands owner entry → IsOwned apex (owner, entry)
    put_is s = record {
      under = under;
      lone = s.lone;
      few = s.few;
      item = record { name = name; some = some_with rtype time octets (owned owner version); proper = entry_with rtype time octets (owned owner version) rr.number (let le = rr.time in omega arith) rr.each.0.short before.proper; octets = refl; short = s.short };
      sets = sets_with apex owner rtype time octets (owned owner version) rr before.sets;
    }

    by_fault : (f : Option ZoneKind) → entry_fault owner entry ≡ f → unless_fault last f (insert_entry name_cmp version owner entry) ≡ Ok new → IsWellFormed apex new
    by_fault None f k = let is : insert_entry name_cmp version owner entry ≡ new = cc in subst (IsWellFormed apex) is (well_formed_put apex owner entry version (put_is (faultless owner entry f)) h)
    by_fault (Some kind) f k = absurd cc

added_is : (apex : Name) (last : ℕ) (owner : Name) (rtype time : ℕ) (octets : List ℕ) (version new : Version) → IsName owner → IsType rtype → time ≤ most_time → IsData rtype octets → IsWellFormed apex version
    → added apex last owner rtype time octets version ≡ Ok new → IsWellFormed apex new
unfolding added
added_is apex last owner rtype time octets version new name t le d h e = by_tests (is_under owner apex) (eqb rtype soa_type && not (same_name owner apex)) refl refl e
  where
    by_tests : (a b : Bool) → is_under owner apex ≡ a → (eqb rtype soa_type && not (same_name owner apex)) ≡ b
        → cond (not a) (refused last OutsideZone) (cond b (refused last SoaRule) (placed_in last owner rtype time octets version)) ≡ Ok new → IsWellFormed apex new
    by_tests false b f g k = absurd cc
    by_tests true true f g k = absurd cc
    by_tests true false f g k = placed_is apex last owner rtype time octets version new name f (rr_of apex owner rtype time octets t le d g) h k

-- ---- the record that words say

minimum_time : (rtype : ℕ) (octets : List ℕ) (o : Option ℕ) → IsData rtype octets → IfTime o → IfTime (cond (eqb rtype soa_type) (Some (minimum_of octets)) o)
minimum_time rtype octets o d h = by_type (eqb rtype 6) refl
  where
    by_type : (b : Bool) → eqb rtype 6 ≡ b → IfTime (cond b (Some (minimum_of octets)) o)
    by_type true e = minimum_is octets (subst (λ (t : ℕ). IsData t octets) (eqb-true rtype 6 e) d)
    by_type false e = h

time_for_is : (apex : Name) (written : Option ℕ) (rtype : ℕ) (octets : List ℕ) (r : Reader) → IsReader apex r → IfTime written → IsData rtype octets → IfTime (time_for written rtype octets r)
time_for_is apex written rtype octets r h w d =
    let least = minimum_time rtype octets r.minimum d h.minimum in
    let learnt = either_time r.last_time (cond (eqb rtype soa_type) (Some (minimum_of octets)) r.minimum) h.last_time least in
    let in_force = either_time r.set_time (or_else r.last_time (cond (eqb rtype soa_type) (Some (minimum_of octets)) r.minimum)) h.set_time learnt in
    either_time written (or_else r.set_time (or_else r.last_time (cond (eqb rtype soa_type) (Some (minimum_of octets)) r.minimum))) w in_force

after_is : (apex : Name) (written : Option ℕ) (rtype : ℕ) (octets : List ℕ) (owner : Name) (r : Reader) (version : Version) → IsReader apex r → IfTime written → IsData rtype octets → IsName owner → IsWellFormed apex version
    → IsReader apex (after_record written rtype octets owner r version)
after_is apex written rtype octets owner r version h w d name k = record {
  origin = h.origin;
  set_time = h.set_time;
  last_time = either_time written r.last_time w h.last_time;
  minimum = minimum_time rtype octets r.minimum d h.minimum;
  owner = name;
  well_formed = k;
}

octets_placed : (last : ℕ) (tokens : List Token) (r : Result (List ℕ) DataRefusal) (octets : List ℕ) → placed last tokens r ≡ Ok octets → r ≡ Ok octets
octets_placed last tokens (Ok x) octets e = let is : x ≡ octets = cc in ap (λ (l : List ℕ). Ok l) is
octets_placed last tokens (Err refusal) octets e = absurd cc

record_is : (apex : Name) (last : ℕ) (owner : Name) (words : List Token) (r new : Reader) → AllTexts words → IsName owner → IsReader apex r → record_says apex last owner words r ≡ Ok new → IsReader apex new
unfolding record_says
record_is apex last owner words r new t name h e =
    let a = bound (front_of last None false words) _ new e in
    let front = front_is last None false words a.0 tt t a.1 in
    let b = bound (placed last a.0.rest (data_of r.origin a.0.rtype a.0.rest)) _ new a.2 in
    let d = data_is r.origin a.0.rtype a.0.rest b.0 front.rest h.origin (octets_placed last a.0.rest (data_of r.origin a.0.rtype a.0.rest) b.0 b.1) in
    let c = bound (required last NoTtl (time_for a.0.time a.0.rtype b.0 r)) _ new b.2 in
    let time = some_time (time_for a.0.time a.0.rtype b.0 r) c.0 (time_for_is apex a.0.time a.0.rtype b.0 r h front.time d) (given last NoTtl (time_for a.0.time a.0.rtype b.0 r) c.0 c.1) in
    let v = bound (added apex last owner a.0.rtype c.0 b.0 r.version) _ new c.2 in
    let k = added_is apex last owner a.0.rtype c.0 b.0 r.version v.0 name front.rtype time d h.well_formed v.1 in
    reader_is apex (after_record a.0.time a.0.rtype b.0 owner r v.0) new (after_is apex a.0.time a.0.rtype b.0 owner r v.0 h front.time d name k) v.2

-- ---- an entry

entry_is : (apex : Name) (n : ℕ) (blank : Bool) (tokens : List Token) (r new : Reader) → AllTexts tokens → IsReader apex r → entry_says apex n blank tokens r ≡ Ok new → IsReader apex new
unfolding entry_says
entry_is apex n blank [] r new t h e = reader_is apex r new h e
entry_is apex n blank (token ∷ tokens) r new t h e =
    either blank _ _ (Ok new)
    (λ k.
    let b = bound (required n NoOwner r.owner) _ new k in
    record_is apex (last_line token.line tokens) b.0 (token ∷ tokens) r new t (some_name r.owner b.0 h.owner (given n NoOwner r.owner b.0 b.1)) h b.2)
    (either (is_directive token) _ _ (Ok new) (directive_is apex token tokens r new t.1 h)
    (λ k.
    let b = bound (required token.line BadName (name_word r.origin token)) _ new k in
    record_is apex (last_line token.line tokens) b.0 tokens r new t.1 (name_said r.origin token b.0 t.0 h.origin (given token.line BadName (name_word r.origin token) b.0 b.1)) h b.2)) e

-- ---- the lines

abbrev IfPending : Option Pending → Type 0
IfPending None = Unit {0}
IfPending (Some p) = IsScan p.scan

begun_is : (n : ℕ) (line : List ℕ) (pending : Option Pending) → IfPending pending → IsScan (goes_on n line pending).scan
begun_is n line None h = fresh_is
begun_is n line (Some p) h = h

zone_lines_are : (apex : Name) (n : ℕ) (lines : List (List ℕ)) (pending : Option Pending) (r new : Reader) → AllByRecursion AllOctets lines → IfPending pending → IsReader apex r → zone_from apex n lines pending r ≡ Ok new → IsReader apex new
unfolding zone_from
zone_lines_are apex n [] None r new l p h e = reader_is apex r new h e
zone_lines_are apex n [] (Some pending) r new l p h e = absurd cc
zone_lines_are apex n (line ∷ lines) pending r new l p h e =
    let q = goes_on n line pending in
    let b = bound (line_tokens n line q.scan) _ new e in
    let s = line_is n line q.scan b.0 l.0 (begun_is n line pending p) b.1 in
    either (eqb b.0.depth 0) _ _ (Ok new)
    (λ k.
    let c = bound (entry_says apex q.first q.blank b.0.tokens r) (zone_from apex (n + 1) lines None) new k in
    zone_lines_are apex (n + 1) lines None c.0 new l.1 tt (entry_is apex q.first q.blank b.0.tokens r c.0 s.tokens h c.1) c.2)
    (zone_lines_are apex (n + 1) lines (Some (record q { scan = b.0 })) r new l.1 s h) b.2

no_names : IsStrictlySortedBy name_cmp (keys_of {K = Name} {X = Entry} [])
unfolding IsStrictlySortedBy
no_names = tt

empty_is : (apex : Name) → IsName apex → IsReader apex (at_first apex)
empty_is apex name = record { origin = name; set_time = tt; last_time = tt; minimum = tt; owner = tt; well_formed = record { each = tt; rising = no_names } }

pub zone_dumped_at : (n : ℕ) (origin : Name) (lines : List (List ℕ)) (zone : Version) → AllByRecursion AllOctets lines → IsName origin → zone_at n origin lines ≡ Ok zone → CanBeDumped origin zone
zone_dumped_at n origin lines zone l name e =
    let b = bound (zone_from origin n lines None (at_first origin)) (with_soa origin (length lines + n)) zone e in
    let r = zone_lines_are origin n lines None (at_first origin) b.0 l tt (empty_is origin name) b.1 in
    by_soa b.0 r (has_soa origin b.0.version) refl b.2
  where
    by_soa : (r : Reader) → IsReader origin r → (soa : Bool) → has_soa origin r.version ≡ soa → cond soa (Ok r.version) (refused (length lines + n) SoaRule) ≡ Ok zone → CanBeDumped origin zone
    by_soa r i true s k = let is : r.version ≡ zone = cc in subst (CanBeDumped origin) is (can_be_dumped origin r.version name i.well_formed s)
    by_soa r i false s k = absurd cc

pub zone_dumped : (origin : Name) (lines : List (List ℕ)) (zone : Version) → AllByRecursion AllOctets lines → IsName origin → zone_of origin lines ≡ Ok zone → CanBeDumped origin zone
unfolding zone_of
zone_dumped origin lines zone l name e = zone_dumped_at 1 origin lines zone l name e
