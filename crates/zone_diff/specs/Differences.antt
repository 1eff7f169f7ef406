-- The difference of two versions of a zone, as operations (RFC 2136, section 3.4.2): what one has and the other hasn't is deleted, and
-- what the other has is added (RFC 1995, section 4). A record that is there keeps its time to live when it is added again, and a zone
-- keeps its SOA: so an RRset whose time changes goes first, and an SOA whose time alone changes comes by way of another serial.
use Rattle.std.specs.Prelude.{ℕ, Bool, ◌&&◌, not, List, [], ◌∷◌, ◌++◌, map, filter, ◌==◌, if◌then◌else◌, Option, Some, None}
use Rattle.std.specs.List.{flat_map, list_any}
use Rattle.std.specs.Ordering.{match_ordering}
use Rattle.zone_model.specs.Names.{Name, name_cmp}
use Rattle.zone_model.specs.Records.{Rrset, Entry, rrset_of, has_record, changed_at}
use Rattle.zone_model.specs.Versions.{Version, Operation, Add, DeleteName, DeleteSet, DeleteRecord, owned, put, soa_type}
use Rattle.zone_diff.specs.declared.Serial.{Serial}
use Rattle.zone_diff.specs.declared.sets.Side.{Side}
use Rattle.zone_diff.specs.declared.sets.Side.TheVariants.{Before, After}
use Rattle.zone_diff.specs.Serials.{renumbered, counts_as}

-- a record comes
abbrev pub addition : Name → ℕ → ℕ → List ℕ → Operation
addition owner rtype ttl octets = Add (record { owner = owner; rtype = rtype; ttl = ttl; octets = octets })

-- the records that others haven't
abbrev pub lacking : List (List ℕ) → List (List ℕ) → List (List ℕ)
lacking others records = filter (λ octets. not (has_record octets others)) records

-- ---- one RRset

-- what becomes of a record: it goes where it is of the version before, and comes where it is of the one after
abbrev pub record_change : Side → Name → Rrset → List ℕ → Operation
record_change Before owner s octets = DeleteRecord owner s.rtype octets
record_change After owner s octets = addition owner s.rtype s.ttl octets

-- what becomes of a whole RRset
abbrev pub whole_change : Side → Name → Rrset → List Operation
whole_change Before owner s = DeleteSet owner s.rtype ∷ []
whole_change After owner s = map (record_change After owner s) s.records

-- what becomes of an RRset, by the one of its type on the other side
abbrev pub set_changes : Side → Name → Option Rrset → Rrset → List Operation
set_changes side owner None s = whole_change side owner s
set_changes side owner (Some t) s = if s.ttl == t.ttl then map (record_change side owner s) (lacking t.records s.records) else whole_change side owner s

-- what goes of an RRset, by the one that takes its place, and what comes of one, by the one whose place it takes
abbrev pub set_deletions : Name → Option Rrset → Rrset → List Operation
set_deletions = set_changes Before

abbrev pub set_additions : Name → Option Rrset → Rrset → List Operation
set_additions = set_changes After

-- ---- the SOA

-- the RRset has an SOA record that counts as this one, with this time to live
abbrev pub stays : Serial → Rrset → ℕ → List ℕ → Bool
stays mode s ttl octets = (s.ttl == ttl) && list_any (counts_as mode octets) s.records

-- how an SOA record takes the place of an RRset
abbrev pub soa_exchange : Serial → Name → Option Rrset → ℕ → List ℕ → List Operation
soa_exchange mode owner None ttl octets = addition owner soa_type ttl octets ∷ []
soa_exchange mode owner (Some s) ttl octets =
    if stays mode s ttl octets then []
    else if has_record octets s.records then addition owner soa_type ttl (renumbered octets) ∷ addition owner soa_type ttl octets ∷ []
    else addition owner soa_type ttl octets ∷ []

abbrev pub soa_additions : Serial → Name → Option Rrset → Option Rrset → List Operation
soa_additions mode owner before None = []
soa_additions mode owner before (Some t) = flat_map (soa_exchange mode owner before t.ttl) t.records

-- ---- one name

-- nothing of an SOA, which is exchanged otherwise
abbrev pub unless_soa : Rrset → List Operation → List Operation
unless_soa s operations = if s.rtype == soa_type then [] else operations

-- what becomes of the RRsets on one side
abbrev pub entry_changes : Side → Name → Entry → Entry → List Operation
entry_changes side owner others sets = flat_map (λ (s : Rrset). unless_soa s (set_changes side owner (rrset_of s.rtype others) s)) sets

abbrev pub deletions : Name → Entry → Entry → List Operation
deletions owner before after = entry_changes Before owner after before

abbrev pub additions : Name → Entry → Entry → List Operation
additions owner before after = entry_changes After owner before after

-- What makes of the entry of a name that owns records before and after the one after. What goes, goes first: so an alias is gone before
-- addresses come, and no item is longer on the way than in the end. For the latter the SOA comes before all else.
abbrev pub entry_difference : Serial → Name → Entry → Entry → List Operation
entry_difference mode owner before after =
    deletions owner before after ++ (soa_additions mode owner (rrset_of soa_type before) (rrset_of soa_type after) ++ additions owner before after)

-- ---- all names

-- a name with its entry before, what else there is by the names after, and the names after
abbrev pub merged : Serial → Name × Entry → (Version → List Operation) → Version → List Operation
merged mode b others [] = DeleteName b.0 ∷ others []
merged mode b others (a ∷ after) = match_ordering (name_cmp b.0 a.0)
    (DeleteName b.0 ∷ others (a ∷ after))
    (entry_difference mode b.0 b.1 a.1 ++ others after)
    (entry_difference mode a.0 [] a.1 ++ merged mode b others after)

-- The operations that make of the version before the one after, name by name in canonical order.
abbrev pub difference : Serial → Version → Version → List Operation
difference mode [] after = flat_map (λ (a : Name × Entry). entry_difference mode a.0 [] a.1) after
difference mode (b ∷ before) after = merged mode b (difference mode before) after

-- ---- what they make

-- the SOA RRset that stays, if it does
abbrev pub staying : Serial → Option Rrset → Option Rrset → Option Rrset
staying mode None after = None
staying mode (Some s) None = None
staying mode (Some s) (Some t) = if list_any (stays mode s t.ttl) t.records then Some s else None

-- the entry with an RRset in the place of the one of its type
abbrev pub with_set : Option Rrset → Entry → Entry
with_set None entry = entry
with_set (Some s) entry = changed_at s.rtype (λ f. s ∷ []) entry

-- the entry after, with the SOA from before where that counts as the same
abbrev pub made_entry : Serial → Entry → Entry → Entry
made_entry mode before after = with_set (staying mode (rrset_of soa_type before) (rrset_of soa_type after)) after

-- the version after, with the SOA from before where that counts as the same
abbrev pub made : Serial → Name → Version → Version → Version
made mode origin before after = put origin (made_entry mode (owned origin before) (owned origin after)) after
