-- What a message of an authoritative server says of one version: a code, a flag, and three sections (RFC 1035, section 4.1; RFC 1034,
-- section 4.3.2).
use Rattle.std.specs.Prelude.{ℕ, min, nat_lt, Bool, true, false, not, List, [], ◌∷◌, ◌++◌, length, drop, filter, filter_map, flat_map, ◌==◌, if◌then◌else◌, Option, Some, None, option_and_then}
use Rattle.std.specs.Option.{option_map}
use Rattle.zone_model.specs.Names.{Name, is_under, same_name}
use Rattle.zone_model.specs.MasterFile.{minimum_of}
use Rattle.zone_model.specs.Records.{Rrset, rrset_of}
use Rattle.zone_model.specs.Rows.{Row, rows_of}
use Rattle.zone_model.specs.Splits.{split_name}
use Rattle.zone_model.specs.Versions.{Version, owned, cname_type, soa_type}
use Rattle.zone_answer.specs.Answers.{ns_type, set_rows, answer}
use Rattle.zone_answer.specs.declared.header.Code.{Code}
use Rattle.zone_answer.specs.declared.header.Code.TheVariants.{NoError, NxDomain, Refused}
use Rattle.zone_answer.specs.declared.kind.Kind.{Kind}
use Rattle.zone_answer.specs.declared.kind.Kind.TheVariants.{Answered, Nodata, Nxdomain, Referral, Outside}

pub record Response : Type 0 where
  pub code : Code
  pub authoritative : Bool
  pub answer : List Row
  pub authority : List Row
  pub additional : List Row

-- ---- the SOA of a negative answer

-- An SOA with the lesser of its time to live and its minimum (RFC 2308, sections 3 and 5).
abbrev pub with_lesser_time : Rrset → Rrset
with_lesser_time soa = by_data soa.records
  where
    by_data : List (List ℕ) → Rrset
    by_data [] = soa
    by_data (octets ∷ more) = record soa { ttl = min soa.ttl (minimum_of octets) }

abbrev pub negative_soa : Name → Version → List Row
negative_soa origin version = set_rows origin (option_map with_lesser_time (rrset_of soa_type (owned origin version)))

-- ---- the names that records name

-- How many octets stand before the name in the data of NS, MX and SRV records (RFC 1035, sections 3.3.11 and 3.3.9; RFC 2782).
abbrev pub octets_before : ℕ → Option ℕ
octets_before rtype = if rtype == 2 then Some 0 else if rtype == 15 then Some 2 else if rtype == 33 then Some 6 else None

abbrev pub whole_name : Option (Name × List ℕ) → Option Name
whole_name None = None
whole_name (Some (name, [])) = Some name
whole_name (Some (name, octet ∷ more)) = None

-- the name that data are from a place on, if they are just a name there
abbrev pub name_from : ℕ → List ℕ → Option Name
name_from place octets = whole_name (split_name (drop place octets))

abbrev pub named_by : Row → Option Name
named_by row = option_and_then (λ place. name_from place row.octets) (octets_before row.rtype)

-- each name where it comes first
abbrev pub once : List Name → List Name
once [] = []
once (name ∷ names) = name ∷ filter (λ other. not (same_name name other)) (once names)

-- ---- their addresses

pub record OwnedSet : Type 0 where
  pub owner : Name
  pub set : Rrset

abbrev pub with_owner : Name → Option Rrset → List OwnedSet
with_owner owner None = []
with_owner owner (Some s) = record { owner = owner; set = s } ∷ []

-- The A and AAAA RRsets that a version has for a name of the zone, below a cut too. No wildcard answers for it, and no alias is followed.
abbrev pub addresses : Name → Version → Name → List OwnedSet
addresses origin version name =
    if is_under name origin then
    with_owner name (rrset_of 1 (owned name version)) ++ with_owner name (rrset_of 28 (owned name version))
    else []

-- those of all names that some records name (RFC 1034, section 4.3.2, step 6; RFC 9471)
abbrev pub addresses_for : Name → Version → List Row → List OwnedSet
addresses_for origin version rows = flat_map (addresses origin version) (once (filter_map named_by rows))

abbrev pub owned_rows : List OwnedSet → List Row
owned_rows sets = flat_map (λ (x : OwnedSet). rows_of x.owner x.set) sets

-- ---- the response

abbrev pub of_type : ℕ → List Row → List Row
of_type rtype rows = filter (λ (r : Row). r.rtype == rtype) rows

-- Nothing of the name asked for is there, or nothing of the type: the SOA says so (RFC 2308, section 2).
abbrev pub negative : Name → Version → Code → List Row → Response
negative origin version code rows = record {
  code = code;
  authoritative = true;
  answer = rows;
  authority = negative_soa origin version;
  additional = [];
}

-- A referral is the zone's own word only as far as aliases led to it.
abbrev pub referral : Name → Version → List Row → List Row → Response
referral origin version aliases servers = record {
  code = NoError;
  authoritative = nat_lt 0 (length aliases);
  answer = aliases;
  authority = servers;
  additional = owned_rows (addresses_for origin version servers);
}

-- the response whose answer has a kind and some rows
abbrev pub by_kind : Name → Version → Kind → List Row → Response
by_kind origin version Answered rows =
    record { code = NoError; authoritative = true; answer = rows; authority = []; additional = owned_rows (addresses_for origin version rows) }
by_kind origin version Nodata rows = negative origin version NoError rows
by_kind origin version Nxdomain rows = negative origin version NxDomain rows
by_kind origin version Referral rows = referral origin version (of_type cname_type rows) (of_type ns_type rows)
by_kind origin version Outside rows = record { code = Refused; authoritative = false; answer = []; authority = []; additional = [] }

abbrev pub respond : Name → Version → Name → ℕ → Response
respond origin version name rtype = by_kind origin version (answer origin version name rtype).kind (answer origin version name rtype).rows
