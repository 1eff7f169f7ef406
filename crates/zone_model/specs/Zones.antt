-- What makes a version a zone.
use Rattle.std.specs.Prelude.{◌≡◌, Bool, true, false, ◌&&◌, not, is_some}
use Rattle.std.specs.List.{AllByRecursion}
use Rattle.zone_model.specs.Names.{Name, is_under, same_name}
use Rattle.zone_model.specs.Records.{Entry, rrset_of}
use Rattle.zone_model.specs.Versions.{Version, owned, soa_type, is_lone}
use Rattle.zone_model.specs.MasterFile.{soa_count}

-- a name other than the origin has an SOA
abbrev pub has_low_soa : Name → Name × Entry → Bool
has_low_soa origin pair = is_some (rrset_of soa_type pair.1) && not (same_name pair.0 origin)

pub record IsZoneOf (origin : Name) (version : Version) : Type 0 where
  -- each name is the origin or lies under it
  pub inside : AllByRecursion (λ (pair : Name × Entry). is_under pair.0 origin ≡ true) version
  -- there is one SOA at the origin (RFC 1035, section 5.2)
  pub soa : soa_count (owned origin version) ≡ 1
  -- and none at another name
  pub no_low_soa : AllByRecursion (λ (pair : Name × Entry). has_low_soa origin pair ≡ false) version
  -- an alias stands alone (RFC 1034, section 3.6.2)
  pub lone : AllByRecursion (λ (pair : Name × Entry). is_lone pair.1 ≡ true) version
