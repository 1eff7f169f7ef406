-- Records with their owners, and how they are printed: as lines of a master file (RFC 1035, section 5.1).
use Rattle.std.specs.Prelude.{ℕ, Bool, true, false, List, [], ◌++◌, map, codes, ◌==◌, if◌then◌else◌, Option, Some, None}
use Rattle.std.specs.Option.{option_map}
use Rattle.std.specs.Fmt.{decimal}
use Rattle.zone_model.specs.Names.{Name}
use Rattle.zone_model.specs.NameText.{text_of, relative_text}
use Rattle.zone_model.specs.DataText.{type_text, data_text_in}
use Rattle.zone_model.specs.Records.{Rrset}

pub record Row : Type 0 where
  pub owner : Name
  pub rtype : ℕ
  pub ttl : ℕ
  pub octets : List ℕ

abbrev pub rows_of : Name → Rrset → List Row
rows_of owner s = map (λ octets. record { owner = owner; rtype = s.rtype; ttl = s.ttl; octets = octets }) s.records

-- ---- directives

-- What directives at the head of a file set: the origin of relative names, and the time to live of records that state none
-- (RFC 2308, section 4).
pub record Directives : Type 0 where
  pub origin : Name
  pub ttl : ℕ

abbrev pub directives_text : Directives → List ℕ
directives_text d = codes "$ORIGIN " ++ text_of d.origin ++ codes "\n$TTL " ++ decimal d.ttl ++ codes "\n"

abbrev pub origin_of : Option Directives → Option Name
origin_of directives = option_map (λ (d : Directives). d.origin) directives

-- ---- lines

-- the owner with a space behind it, or a tab, which stands for the owner stated last
abbrev pub owner_field : Directives → Bool → Name → List ℕ
owner_field d true owner = relative_text d.origin owner ++ codes " "
owner_field d false owner = codes "\t"

-- the time to live with a space behind it, unless it is what the directive says
abbrev pub ttl_field : Directives → ℕ → List ℕ
ttl_field d ttl = if ttl == d.ttl then [] else decimal ttl ++ codes " "

-- What stands in front of a record's type: owner, time to live and class. Under directives the first record of a name alone
-- states its owner.
abbrev pub head_text : Option Directives → Bool → Name → ℕ → List ℕ
head_text None first owner ttl = text_of owner ++ codes " " ++ decimal ttl ++ codes " IN "
head_text (Some d) first owner ttl = owner_field d first owner ++ ttl_field d ttl ++ codes "IN "

-- the line of a record, which is the first one of its name or a later one
abbrev pub line_text : Option Directives → Bool → Row → List ℕ
line_text directives first r =
    head_text directives first r.owner r.ttl ++ type_text r.rtype ++ codes " " ++ data_text_in (origin_of directives) r.rtype r.octets ++ codes "\n"

-- the line of a record in full
abbrev pub row_text : Row → List ℕ
row_text r = line_text None true r
