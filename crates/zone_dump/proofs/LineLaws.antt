-- The lines of names' records.
use Rattle.std.proofs.Common.{◌≡◌, ◌∙◌, ℕ, ◌+◌, ◌<◌, Bool, true, false, List, [], ◌∷◌, ◌++◌, length, refl, sym, ap, subst, arith, append_assoc, length-append, Option, Some, None}
use Rattle.std.proofs.lemmas.List.{length-map}
use Rattle.std.specs.List.{flat_map, AllByRecursion}
use Rattle.std.specs.Int.{w16, to_be_bytes}
use Rattle.zone_model.specs.Names.{Name, IsName, BeginsWith, wire}
use Rattle.zone_model.specs.Records.{Rrset, Entry, RisingSets, IsItem, rrset_bytes}
use Rattle.zone_model.specs.Versions.{Version}
use Rattle.zone_model.specs.Rows.{Row, rows_of, Directives, line_text, row_text}
use Rattle.zone_model.specs.Dumps.{rows_at, all_rows, owner_lines, version_lines, dump}
use Rattle.rr_data.specs.ItemViews.{SaysEntry}
use Rattle.dns_name.proofs.ScanLemmas.{begins_once}
use Rattle.rr_data.proofs.ItemViewLemmas.{item_says}
use Rattle.rr_data.proofs.RecordLineLemmas.{full_lines}
use Rattle.zone_model.specs.declared.Style.{Style}
use Rattle.zone_model.specs.declared.Style.TheVariants.{Full, Short}
use Rattle.zone_dump.specs.Files.{lines_from, head_text, file_text, directives_in}

-- ---- one name

lines_later : (d : Option Directives) (rows : List Row) → lines_from d false rows ≡ flat_map (line_text d false) rows
lines_later d [] = refl
lines_later d (row ∷ rows) = ap (λ (l : List ℕ). line_text d false row ++ l) (lines_later d rows)

pub lines_first : (d : Option Directives) (rows : List Row) → lines_from d true rows ≡ owner_lines d rows
lines_first d [] = refl
lines_first d (row ∷ rows) = ap (λ (l : List ℕ). line_text d true row ++ l) (lines_later d rows)

-- behind some lines the others are no first ones
pub lines_from-append : (d : Option Directives) (first : Bool) (rows more : List Row) → 0 < length rows → lines_from d first (rows ++ more) ≡ lines_from d first rows ++ lines_from d false more
lines_from-append d first [] more h = absurd (omega arith)
lines_from-append d first (row ∷ []) more h = sym (append_assoc (line_text d first row) [] (lines_from d false more))
lines_from-append d first (row ∷ next ∷ rows) more h =
    ap (λ (l : List ℕ). line_text d first row ++ l) (lines_from-append d false (next ∷ rows) more (omega arith))
    ∙ sym (append_assoc (line_text d first row) (lines_from d false (next ∷ rows)) (lines_from d false more))

-- the line of the next of an RRset's records, under the directives that there were
pub set_line : (had d : Option Directives) (first : Bool) (owner : Name) (s : Rrset) (octets : List ℕ) (records others : List (List ℕ)) → d ≡ had → records ≡ octets ∷ others
    → lines_from had first (rows_of owner (record s { records = records }))
    ≡ line_text d first (record { owner = owner; rtype = s.rtype; ttl = s.ttl; octets = octets }) ++ lines_from had false (rows_of owner (record s { records = others }))
set_line had d first owner s octets records others same e =
    ap (λ (l : List (List ℕ)). lines_from had first (rows_of owner (record s { records = l }))) e
    ∙ ap (λ (x : Option Directives). line_text x first (record { owner = owner; rtype = s.rtype; ttl = s.ttl; octets = octets }) ++ lines_from had false (rows_of owner (record s { records = others }))) (sym same)

-- each RRset has a record
abbrev pub HaveRecords : Entry → Type 0
HaveRecords entry = AllByRecursion (λ (s : Rrset). 0 < length s.records) entry

have_behind : (t : ℕ) (entry : Entry) → RisingSets (Some t) entry → HaveRecords entry
have_behind t [] h = tt
have_behind t (s ∷ entry) h = (h.1.some, have_behind s.rtype entry h.2)

pub have_records : (entry : Entry) → RisingSets None entry → HaveRecords entry
have_records [] h = tt
have_records (s ∷ entry) h = (h.0.some, have_behind s.rtype entry h.1)

-- the lines of the RRsets that are left
abbrev pub sets_lines : Option Directives → Bool → Name → Entry → List ℕ
sets_lines d first owner sets = lines_from d first (flat_map (rows_of owner) sets)

pub sets_lines-first : (had d : Option Directives) (first : Bool) (owner : Name) (left others : Entry) (s : Rrset) → d ≡ had → left ≡ s ∷ others → HaveRecords left
    → sets_lines had first owner left ≡ lines_from d first (rows_of owner s) ++ sets_lines had false owner others
sets_lines-first had d first owner left others s same e h =
    let g : HaveRecords (s ∷ others) = subst HaveRecords e h in
    ap (λ (l : Entry). sets_lines had first owner l) e
    ∙ lines_from-append had first (rows_of owner s) (flat_map (rows_of owner) others) (omega (arith, g.0, length-map s.records (λ (octets : List ℕ). row_of owner s octets)))
    ∙ ap (λ (x : Option Directives). lines_from x first (rows_of owner s) ++ sets_lines had false owner others) (sym same)
  where
    row_of : Name → Rrset → List ℕ → Row
    row_of owner s octets = record { owner = owner; rtype = s.rtype; ttl = s.ttl; octets = octets }

pub have_others : (left others : Entry) (s : Rrset) → left ≡ s ∷ others → HaveRecords left → HaveRecords others
have_others left others s e h = let g : HaveRecords (s ∷ others) = subst HaveRecords e h in g.1

pub count_first : (owner : Name) (left others : Entry) (s : Rrset) → left ≡ s ∷ others → length (flat_map (rows_of owner) left) ≡ length s.records + length (flat_map (rows_of owner) others)
count_first owner left others s e =
    ap (λ (l : Entry). length (flat_map (rows_of owner) l)) e ∙ length-append (rows_of owner s) (flat_map (rows_of owner) others)
    ∙ ap (λ (n : ℕ). n + length (flat_map (rows_of owner) others)) (length-map s.records (λ (octets : List ℕ). row_of owner s octets))
  where
    row_of : Name → Rrset → List ℕ → Row
    row_of owner s octets = record { owner = owner; rtype = s.rtype; ttl = s.ttl; octets = octets }

-- ---- one version

pub file_is_dump : (style : Style) (origin : Name) (version : Version) → file_text (directives_in style origin version) version ≡ dump style origin version
file_is_dump Full origin version = full_lines version
file_is_dump Short origin version = refl

-- a head and the lines behind it
pub file_from : (directives d : Option Directives) (text : List ℕ) (version : Version) → text ≡ head_text directives → d ≡ directives → text ++ version_lines d version ≡ file_text directives version
file_from directives d text version e same =
    ap (λ (l : List ℕ). l ++ version_lines d version) e ∙ ap (λ (x : Option Directives). head_text directives ++ version_lines x version) same

pub file_is_full : (version : Version) → file_text None version ≡ flat_map row_text (all_rows version)
file_is_full version = full_lines version

-- ---- an item

begins_item : (bytes : List ℕ) (name : Name) (entry : Entry) → IsItem bytes name entry → BeginsWith bytes name
begins_item bytes name entry h = (to_be_bytes w16 (length entry) ++ flat_map rrset_bytes entry, h.octets ∙ append_assoc (wire name) (to_be_bytes w16 (length entry)) (flat_map rrset_bytes entry))

-- octets begin with one name, and that is the owner whose item they are
pub item_owner : (bytes : List ℕ) (owner name : Name) (entry : Entry) → IsName owner → BeginsWith bytes owner → IsItem bytes name entry → name ≡ owner
item_owner bytes owner name entry is begins h = begins_once bytes name owner h.name.each is.each (begins_item bytes name entry h) begins

pub item_begun : (bytes : List ℕ) (owner name : Name) (entry : Entry) → IsName owner → BeginsWith bytes owner → IsItem bytes name entry → SaysEntry owner bytes entry
item_begun bytes owner name entry is begins h = subst (λ (n : Name). SaysEntry n bytes entry) (item_owner bytes owner name entry is begins h) (item_says name bytes entry h)

-- the records that were seen are those of whoever's item the octets are
pub rows_seen : (bytes : List ℕ) (owner : Name) (sets : Entry) → IsName owner → BeginsWith bytes owner → ((entry : Entry) → SaysEntry owner bytes entry → sets ≡ entry) → (name : Name) (entry : Entry) → IsItem bytes name entry
    → flat_map (rows_of owner) sets ≡ rows_at (name, entry)
rows_seen bytes owner sets is begins seen name entry h =
    ap (λ (e : Entry). flat_map (rows_of owner) e) (seen entry (item_begun bytes owner name entry is begins h)) ∙ ap (λ (n : Name). flat_map (rows_of n) entry) (sym (item_owner bytes owner name entry is begins h))

pub seen_records : (bytes : List ℕ) (owner : Name) (sets : Entry) → IsName owner → BeginsWith bytes owner → ((entry : Entry) → SaysEntry owner bytes entry → sets ≡ entry) → (name : Name) (entry : Entry) → IsItem bytes name entry → HaveRecords sets
seen_records bytes owner sets is begins seen name entry h = subst HaveRecords (sym (seen entry (item_begun bytes owner name entry is begins h))) (have_records entry h.proper)

pub lines_seen : (d : Option Directives) (rows all : List Row) → rows ≡ all → lines_from d true rows ≡ owner_lines d all
lines_seen d rows all e = lines_first d rows ∙ ap (owner_lines d) e
