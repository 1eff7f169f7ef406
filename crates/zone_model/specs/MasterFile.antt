-- The zone that lines say, or the first refusal (RFC 1035, sections 5.1 and 5.2).
use Rattle.std.specs.Prelude.{ℕ, zero, suc, ◌+◌, ◌-◌, ◌*◌, Bool, true, false, ◌&&◌, not, List, [], ◌∷◌, length, nat_lt, ◌==◌, if◌then◌else◌, Option, Some, None, Result, Ok, Err, codes, unwrap_or, is_none, slice_index}
use Rattle.std.specs.BTreeMap.{insert_entry}
use Rattle.std.specs.Char.{is_ascii_digit}
use Rattle.zone_model.specs.Names.{Name, is_under, same_name, name_cmp}
use Rattle.zone_model.specs.NameText.{name_of}
use Rattle.zone_model.specs.Texts.{named}
use Rattle.zone_model.specs.Records.{Rrset, Entry, rrset_of, with_rr, item, item_limit}
use Rattle.zone_model.specs.Versions.{Version, entry_of, has_soa, is_lone, soa_type}
use Rattle.zone_model.specs.Refusals.{Refused, ◌>>=◌}
use Rattle.zone_model.specs.declared.ZoneKind.{ZoneKind}
use Rattle.zone_model.specs.declared.ZoneKind.TheVariants.{BadName, BadToken, OpenParen, NoOwner, NoTtl, BadTtl, BadClass, UnknownType, BadRdata, Include, OutsideZone, CnameAndOther, SoaRule, LongEntry}
use Rattle.zone_model.specs.declared.DataRefusal.{DataRefusal}
use Rattle.zone_model.specs.declared.DataRefusal.TheVariants as refusals
use Rattle.zone_model.specs.Tokens.{Token, Scan, fresh, refused, line_tokens, begins_blank}
use Rattle.zone_model.specs.DataWords.{time_of, type_named, class_named, is_word}
use Rattle.zone_model.specs.Data.{data_of}

-- What the entries so far leave: the origin in force, the time that a directive set, the last time written in a record, the
-- minimum of an SOA, the last owner, and the records.
pub record Reader : Type 0 where
  pub origin : Name
  pub set_time : Option ℕ
  pub last_time : Option ℕ
  pub minimum : Option ℕ
  pub owner : Option Name
  pub version : Version

abbrev pub required : {A : Type 0} → ℕ → ZoneKind → Option A → Result A (Refused ZoneKind)
required n kind (Some x) = Ok x
required n kind None = refused n kind

abbrev pub word_text : Token → Option (List ℕ)
word_text t = if t.quoted then None else Some t.text

abbrev pub name_word : Name → Token → Option Name
name_word origin t = if t.quoted then None else named (name_of t.text origin)

abbrev pub time_word : Token → Option ℕ
time_word t = if t.quoted then None else time_of t.text

abbrev pub type_word : Token → Option ℕ
type_word t = if t.quoted then None else type_named t.text

-- ---- directives

abbrev pub begins_with : ℕ → List ℕ → Bool
begins_with c [] = false
begins_with c (d ∷ text) = d == c

abbrev pub is_directive : Token → Bool
is_directive t = not t.quoted && begins_with 36 t.text

-- One argument. One too many is refused at its own line, one too few at the line of the last token.
abbrev pub one_argument : ℕ → List Token → Result Token (Refused ZoneKind)
one_argument last [] = refused last BadToken
one_argument last (a ∷ []) = Ok a
one_argument last (a ∷ b ∷ more) = refused b.line BadToken

abbrev pub set_time_word : Reader → Token → Result Reader (Refused ZoneKind)
set_time_word r a = required a.line BadTtl (time_word a) >>= (λ time. Ok (record r { set_time = Some time }))

abbrev pub set_origin_word : Reader → Token → Result Reader (Refused ZoneKind)
set_origin_word r a = required a.line BadName (name_word r.origin a) >>= (λ name. Ok (record r { origin = name }))

-- a directive with its arguments
unfoldable pub directive : Token → List Token → Reader → Result Reader (Refused ZoneKind)
directive t arguments r =
    if is_word t.text (codes "$INCLUDE") then refused t.line Include
    else if is_word t.text (codes "$TTL") then one_argument t.line arguments >>= set_time_word r
    else if is_word t.text (codes "$ORIGIN") then one_argument t.line arguments >>= set_origin_word r
    else refused t.line BadToken

-- ---- records

-- what stands before the data: the time, if one is written, the type, and the data's tokens
pub record Front : Type 0 where
  pub time : Option ℕ
  pub rtype : ℕ
  pub rest : List Token

abbrev pub is_time : Token → Bool
is_time t = not t.quoted && is_digit_first t.text
  where
    is_digit_first : List ℕ → Bool
    is_digit_first [] = false
    is_digit_first (c ∷ text) = is_ascii_digit c

abbrev pub class_word : Token → Option Bool
class_word t = if t.quoted then None else class_named t.text

-- The words behind the owner: a time and a class, in either order and at most once, and then the type. `last` is the line
-- of the entry's last token.
unfoldable pub front_of : ℕ → Option ℕ → Bool → List Token → Result Front (Refused ZoneKind)
front_of last time classed [] = refused last UnknownType
front_of last time classed (t ∷ tokens) =
    if is_none time && is_time t then required t.line BadTtl (time_word t) >>= (λ x. front_of last (Some x) classed tokens)
    else by_class (if classed then None else class_word t) t tokens time (front_of last time true tokens)
  where
    by_class : Option Bool → Token → List Token → Option ℕ → Result Front (Refused ZoneKind) → Result Front (Refused ZoneKind)
    by_class (Some true) t tokens time rest = rest
    by_class (Some false) t tokens time rest = refused t.line BadClass
    by_class None t tokens time rest = required t.line UnknownType (type_word t) >>= (λ rtype. Ok (record { time = time; rtype = rtype; rest = tokens }))

-- the line of the token at a place, or the last line where one is missing
abbrev pub line_of : ℕ → ℕ → List Token → ℕ
line_of last at [] = last
line_of last zero (t ∷ tokens) = t.line
line_of last (suc at) (t ∷ tokens) = line_of last at tokens

abbrev pub refusal_line : ℕ → List Token → DataRefusal → ℕ
refusal_line last tokens (refusals.BadRdata at) = line_of last at tokens
refusal_line last tokens (refusals.LongString at) = line_of last at tokens

abbrev pub placed : {A : Type 0} → ℕ → List Token → Result A DataRefusal → Result A (Refused ZoneKind)
placed last tokens (Ok x) = Ok x
placed last tokens (Err e) = refused (refusal_line last tokens e) BadRdata

abbrev pub number_at : ℕ → List ℕ → ℕ
number_at n octets = ((slice_index octets n * 256 + slice_index octets (n + 1)) * 256 + slice_index octets (n + 2)) * 256 + slice_index octets (n + 3)

-- the minimum of an SOA: its last number
abbrev pub minimum_of : List ℕ → ℕ
minimum_of octets = number_at (length octets - 4) octets

abbrev pub or_else : {A : Type 0} → Option A → Option A → Option A
or_else (Some x) other = Some x
or_else None other = other

-- the time of a record: written, set by a directive, last written, or an SOA's minimum
abbrev pub time_for : Option ℕ → ℕ → List ℕ → Reader → Option ℕ
time_for written rtype octets r = or_else written (or_else r.set_time (or_else r.last_time (if rtype == soa_type then Some (minimum_of octets) else r.minimum)))

abbrev pub soa_count : Entry → ℕ
soa_count entry = count_in (rrset_of 6 entry)
  where
    count_in : Option Rrset → ℕ
    count_in None = 0
    count_in (Some s) = length s.records

-- why an entry can't stand
abbrev pub entry_fault : Name → Entry → Option ZoneKind
entry_fault owner entry =
    if nat_lt 1 (soa_count entry) then Some SoaRule
    else if not (is_lone entry) then Some CnameAndOther
    else if nat_lt item_limit (length (item owner entry)) then Some LongEntry
    else None

abbrev pub unless_fault : {A : Type 0} → ℕ → Option ZoneKind → A → Result A (Refused ZoneKind)
unless_fault last None x = Ok x
unless_fault last (Some kind) x = refused last kind

-- a record joins its owner's entry
abbrev pub placed_in : ℕ → Name → ℕ → ℕ → List ℕ → Version → Result Version (Refused ZoneKind)
placed_in last owner rtype time octets version =
    let entry = with_rr rtype time octets (unwrap_or (entry_of owner version) []) in
    unless_fault last (entry_fault owner entry) (insert_entry name_cmp version owner entry)

-- a record is added to the zone of an origin
unfoldable pub added : Name → ℕ → Name → ℕ → ℕ → List ℕ → Version → Result Version (Refused ZoneKind)
added apex last owner rtype time octets version =
    if not (is_under owner apex) then refused last OutsideZone
    else if (rtype == soa_type) && not (same_name owner apex) then refused last SoaRule
    else placed_in last owner rtype time octets version

abbrev pub after_record : Option ℕ → ℕ → List ℕ → Name → Reader → Version → Reader
after_record written rtype octets owner r version =
    record r { last_time = or_else written r.last_time; minimum = (if rtype == soa_type then Some (minimum_of octets) else r.minimum); owner = Some owner; version = version }

-- the record of an owner that words say
unfoldable pub record_says : Name → ℕ → Name → List Token → Reader → Result Reader (Refused ZoneKind)
record_says apex last owner words r =
    front_of last None false words >>= (λ front.
    placed last front.rest (data_of r.origin front.rtype front.rest) >>= (λ octets.
    required last NoTtl (time_for front.time front.rtype octets r) >>= (λ time.
    added apex last owner front.rtype time octets r.version >>= (λ version.
    Ok (after_record front.time front.rtype octets owner r version)))))

-- ---- entries

abbrev pub last_line : ℕ → List Token → ℕ
last_line n [] = n
last_line n (t ∷ tokens) = last_line t.line tokens

-- an entry that begins on line n, perhaps with a space or tab
unfoldable pub entry_says : Name → ℕ → Bool → List Token → Reader → Result Reader (Refused ZoneKind)
entry_says apex n blank [] r = Ok r
entry_says apex n blank (t ∷ tokens) r =
    if blank then required n NoOwner r.owner >>= (λ owner. record_says apex (last_line t.line tokens) owner (t ∷ tokens) r)
    else if is_directive t then directive t tokens r
    else required t.line BadName (name_word r.origin t) >>= (λ owner. record_says apex (last_line t.line tokens) owner tokens r)

-- an entry that isn't at its end: its first line, how that begins, and its tokens so far
pub record Pending : Type 0 where
  pub first : ℕ
  pub blank : Bool
  pub scan : Scan

abbrev pub goes_on : ℕ → List ℕ → Option Pending → Pending
goes_on n line (Some p) = p
goes_on n line None = record { first = n; blank = begins_blank line; scan = fresh }

-- the lines from line n on
unfoldable pub zone_from : Name → ℕ → List (List ℕ) → Option Pending → Reader → Result Reader (Refused ZoneKind)
zone_from apex n [] None r = Ok r
zone_from apex n [] (Some p) r = refused p.scan.outer OpenParen
zone_from apex n (line ∷ lines) pending r =
    let p = goes_on n line pending in
    line_tokens n line p.scan >>= (λ s.
    if s.depth == 0 then entry_says apex p.first p.blank s.tokens r >>= zone_from apex (n + 1) lines None
    else zone_from apex (n + 1) lines (Some (record p { scan = s })) r)

abbrev pub at_first : Name → Reader
at_first apex = record { origin = apex; set_time = None; last_time = None; minimum = None; owner = None; version = [] }

abbrev pub with_soa : Name → ℕ → Reader → Result Version (Refused ZoneKind)
with_soa apex n r = if has_soa apex r.version then Ok r.version else refused n SoaRule

-- the names of a zone with their entries, and its origin
pub record Zone : Type 0 where
  pub origin : Name
  pub pairs : Version

-- the zone of an origin that lines say, the first of which has the number n
abbrev pub zone_at : ℕ → Name → List (List ℕ) → Result Version (Refused ZoneKind)
zone_at n apex lines = zone_from apex n lines None (at_first apex) >>= with_soa apex (length lines + n)

unfoldable pub zone_of : Name → List (List ℕ) → Result Version (Refused ZoneKind)
zone_of apex lines = zone_at 1 apex lines
