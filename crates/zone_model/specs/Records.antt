-- Records (RFC 2181, section 5): an entry is the RRsets of one name, in strictly rising type, each with one time to
-- live and its records' octets in strictly rising order.
use Rattle.std.specs.Prelude.{◌≡◌, ℕ, ◌<◌, ◌≤◌, Bool, List, [], ◌∷◌, ◌++◌, length, ◌==◌, if◌then◌else◌, Option, Some, None}
use Rattle.std.specs.List.{flat_map, list_any}
use Rattle.std.specs.Int.{w16, w32, to_be_bytes}
use Rattle.std.specs.declared.cmp.Ordering.{Ordering}
use Rattle.std.specs.declared.cmp.Ordering.TheVariants.{Less}
use Rattle.std.specs.Ordering.{nat_cmp, match_ordering, is_eq}
use Rattle.std.specs.Cmp.Lexicographic.{slice_cmp}
use Rattle.zone_model.specs.Names.{Name, IsName, wire}

pub record Rrset : Type 0 where
  pub rtype : ℕ
  pub ttl : ℕ
  pub records : List (List ℕ)

abbrev pub Entry : Type 0
Entry = List Rrset

-- octets are compared one by one, a prefix comes first
abbrev pub octets_cmp : List ℕ → List ℕ → Ordering
octets_cmp = slice_cmp nat_cmp

-- the RRset of a type
abbrev pub rrset_of : ℕ → Entry → Option Rrset
rrset_of rtype [] = None
rrset_of rtype (first ∷ rest) = if first.rtype == rtype then Some first else rrset_of rtype rest

-- ---- what changes an entry

-- The entry in which the RRset of a type, or its absence, becomes what `change` makes of it.
abbrev pub changed_at : ℕ → (Option Rrset → List Rrset) → Entry → Entry
changed_at rtype change [] = change None
changed_at rtype change (first ∷ rest) = match_ordering (nat_cmp rtype first.rtype)
    (change None ++ (first ∷ rest))
    (change (Some first) ++ rest)
    (first ∷ changed_at rtype change rest)

-- the records with one more, unless it is there
abbrev pub with_record : List ℕ → List (List ℕ) → List (List ℕ)
with_record octets [] = octets ∷ []
with_record octets (first ∷ rest) =
    match_ordering (octets_cmp octets first) (octets ∷ (first ∷ rest)) (first ∷ rest) (first ∷ with_record octets rest)

-- the records without one
abbrev pub without_record : List ℕ → List (List ℕ) → List (List ℕ)
without_record octets [] = []
without_record octets (first ∷ rest) =
    match_ordering (octets_cmp octets first) (first ∷ rest) rest (first ∷ without_record octets rest)

-- the record is there
abbrev pub has_record : List ℕ → List (List ℕ) → Bool
has_record octets records = list_any (λ r. is_eq (octets_cmp octets r)) records

abbrev pub fresh : ℕ → ℕ → List ℕ → Rrset
fresh rtype ttl octets = record { rtype = rtype; ttl = ttl; records = octets ∷ [] }

-- a record joins the RRset of its type, whose time to live stays
abbrev pub joined : ℕ → ℕ → List ℕ → Option Rrset → List Rrset
joined rtype ttl octets None = fresh rtype ttl octets ∷ []
joined rtype ttl octets (Some s) = (record s { records = with_record octets s.records }) ∷ []

-- the RRset, unless it has no record
abbrev pub unless_empty : Rrset → List Rrset
unless_empty s = if length s.records == 0 then [] else s ∷ []

-- a record leaves its RRset
abbrev pub lessened : List ℕ → Option Rrset → List Rrset
lessened octets None = []
lessened octets (Some s) = unless_empty (record s { records = without_record octets s.records })

-- the entry with one more record, unless it is there
abbrev pub with_rr : ℕ → ℕ → List ℕ → Entry → Entry
with_rr rtype ttl octets = changed_at rtype (joined rtype ttl octets)

-- the entry without one record
abbrev pub without_rr : ℕ → List ℕ → Entry → Entry
without_rr rtype octets = changed_at rtype (lessened octets)

-- the entry without the RRset of a type
abbrev pub without_set : ℕ → Entry → Entry
without_set rtype = changed_at rtype (λ s. [])

-- ---- items

-- The octets of an item are its owner and then the entry, numbers in network order: the count of RRsets; for each its
-- type, time to live and count of records; for each of these its length and octets.
abbrev pub record_bytes : List ℕ → List ℕ
record_bytes octets = to_be_bytes w16 (length octets) ++ octets

abbrev pub rrset_bytes : Rrset → List ℕ
rrset_bytes s = to_be_bytes w16 s.rtype ++ to_be_bytes w32 s.ttl ++ to_be_bytes w16 (length s.records) ++ flat_map record_bytes s.records

abbrev pub item : Name → Entry → List ℕ
item owner entry = wire owner ++ to_be_bytes w16 (length entry) ++ flat_map rrset_bytes entry

-- the most octets of an item
abbrev pub item_limit : ℕ
item_limit = 65535

-- ---- what an entry is

abbrev pub AboveOctets : Option (List ℕ) → List ℕ → Type 0
AboveOctets None octets = Unit {0}
AboveOctets (Some before) octets = octets_cmp before octets ≡ Less

-- octets of at most 65,535, rising without a repeat, above what came before
abbrev pub RisingOctets : Option (List ℕ) → List (List ℕ) → Type 0
RisingOctets before [] = Unit {0}
RisingOctets before (octets ∷ rest) = AboveOctets before octets × (length octets ≤ 65535) × RisingOctets (Some octets) rest

pub record IsRrset (s : Rrset) : Type 0 where
  pub rtype : s.rtype ≤ 65535
  pub ttl : s.ttl ≤ 4294967295
  pub some : 0 < length s.records
  pub rising : RisingOctets None s.records

-- RRsets in strictly rising type, above a type
abbrev pub RisingSets : Option ℕ → Entry → Type 0
RisingSets before [] = Unit {0}
RisingSets None (s ∷ rest) = IsRrset s × RisingSets (Some s.rtype) rest
RisingSets (Some t) (s ∷ rest) = (t < s.rtype) × IsRrset s × RisingSets (Some s.rtype) rest

abbrev pub IsEntry : Entry → Type 0
IsEntry entry = RisingSets None entry

-- the octets are the item of an owner and of an entry with some record
pub record IsItem (bytes : List ℕ) (owner : Name) (entry : Entry) : Type 0 where
  pub name : IsName owner
  pub some : 0 < length entry
  pub proper : IsEntry entry
  pub octets : bytes ≡ item owner entry
  pub short : length bytes ≤ item_limit
