-- A version of the zone is the list of its names with their entries, in canonical order. Operations change it.
use Rattle.std.specs.Prelude.{ℕ, Bool, true, false, ◌&&◌, ◌||◌, not, List, [], ◌∷◌, length, nat_lt, nat_le, ◌==◌, if◌then◌else◌, Option, Some, None, unwrap_or, is_some, is_none, Result, Ok, Err}
use Rattle.std.specs.BTreeMap.{insert_entry, is_at}
use Rattle.std.specs.Map.{lookup, remove_entry}
use Rattle.std.specs.List.{list_any}
use Rattle.zone_model.specs.Names.{Name, name_cmp, same_name, is_under}
use Rattle.zone_model.specs.Records.{Rrset, Entry, rrset_of, has_record, with_rr, without_rr, without_set, item, item_limit}
use Rattle.zone_model.specs.declared.Refusal.{Refusal}
use Rattle.zone_model.specs.declared.Refusal.TheVariants.{Soa, Cname, Long}

abbrev pub Version : Type 0
Version = List (Name × Entry)

abbrev pub entry_of : Name → Version → Option Entry
entry_of name version = lookup (is_at (name_cmp name)) version

-- what a name owns; nothing where it isn't there
abbrev pub owned : Name → Version → Entry
owned name version = unwrap_or (entry_of name version) []

-- the name or one under it owns records
abbrev pub exists : Name → Version → Bool
exists name version = list_any (λ pair. is_under pair.0 name) version

-- the version in which a name owns this entry; a name without records leaves it
abbrev pub put : Name → Entry → Version → Version
put name [] version = remove_entry (is_at (name_cmp name)) version
put name (first ∷ rest) version = insert_entry name_cmp version name (first ∷ rest)

pub record Addition : Type 0 where
  pub owner : Name
  pub rtype : ℕ
  pub ttl : ℕ
  pub octets : List ℕ

pub data Operation : Type 0 where
  Add : (addition : Addition) → Operation
  DeleteName : (owner : Name) → Operation
  DeleteSet : (owner : Name) (rtype : ℕ) → Operation
  DeleteRecord : (owner : Name) (rtype : ℕ) (octets : List ℕ) → Operation

-- the type of the start of authority (RFC 1035, section 3.2.2)
abbrev pub soa_type : ℕ
soa_type = 6

-- the entry has this record
abbrev pub holds : ℕ → List ℕ → Entry → Bool
holds rtype octets entry = among (rrset_of rtype entry)
  where
    among : Option Rrset → Bool
    among None = false
    among (Some s) = has_record octets s.records

-- the version has an SOA at its apex
abbrev pub has_soa : Name → Version → Bool
has_soa origin version = is_some (rrset_of soa_type (owned origin version))

-- A zone has one SOA: another takes its place, with its own time to live. The same one again changes nothing.
abbrev pub with_soa : ℕ → List ℕ → Entry → Entry
with_soa ttl octets entry =
    if holds soa_type octets entry then entry else with_rr soa_type ttl octets (without_set soa_type entry)

-- the entry with the record of an addition
abbrev pub with_added : Addition → Entry → Entry
with_added a entry = if a.rtype == soa_type then with_soa a.ttl a.octets entry else with_rr a.rtype a.ttl a.octets entry

-- the type of an alias (RFC 1035, section 3.3.1)
abbrev pub cname_type : ℕ
cname_type = 5

-- an alias stands alone (RFC 1034, section 3.6.2)
abbrev pub is_lone : Entry → Bool
is_lone [] = true
is_lone (s ∷ []) = not (s.rtype == cname_type) || nat_le (length s.records) 1
is_lone (s ∷ t ∷ more) = is_none (rrset_of cname_type (s ∷ t ∷ more))

-- an SOA below the apex
abbrev pub is_low_soa : Name → Addition → Bool
is_low_soa origin a = (a.rtype == soa_type) && not (same_name a.owner origin)

-- an entry whose alias stands alone and whose item isn't too long
abbrev pub fitting : Name → Entry → Result Entry Refusal
fitting owner entry =
    if not (is_lone entry) then Err Cname
    else if nat_lt item_limit (length (item owner entry)) then Err Long else Ok entry

-- The SOA would leave. It stands at the apex alone.
abbrev pub loses_soa : Entry → Entry → Bool
loses_soa before after = is_some (rrset_of soa_type before) && is_none (rrset_of soa_type after)

-- what is left of an entry, unless that loses the SOA
abbrev pub keeping_soa : Entry → Entry → Result Entry Refusal
keeping_soa before after = if loses_soa before after then Err Soa else Ok after

-- the name that an operation changes
abbrev pub owner_of : Operation → Name
owner_of (Add a) = a.owner
owner_of (DeleteName owner) = owner
owner_of (DeleteSet owner rtype) = owner
owner_of (DeleteRecord owner rtype octets) = owner

-- what an operation makes of its owner's entry, in the zone of an origin, or why it is refused
abbrev pub changed : Name → Operation → Entry → Result Entry Refusal
changed origin (Add a) entry = if is_low_soa origin a then Err Soa else fitting a.owner (with_added a entry)
changed origin (DeleteName owner) entry = keeping_soa entry []
changed origin (DeleteSet owner rtype) entry = keeping_soa entry (without_set rtype entry)
changed origin (DeleteRecord owner rtype octets) entry = keeping_soa entry (without_rr rtype octets entry)

abbrev pub and_then : {A B E : Type 0} → Result A E → (A → Result B E) → Result B E
and_then (Ok x) f = f x
and_then (Err e) f = Err e

-- what an operation makes of a version, or why it is refused
abbrev pub apply : Name → Operation → Version → Result Version Refusal
apply origin operation version =
    and_then (changed origin operation (owned (owner_of operation) version)) (λ entry. Ok (put (owner_of operation) entry version))

-- what operations make of a version, in order, or the first refusal
abbrev pub all_applied : Name → List Operation → Version → Result Version Refusal
all_applied origin [] version = Ok version
all_applied origin (first ∷ rest) version = and_then (apply origin first version) (all_applied origin rest)
