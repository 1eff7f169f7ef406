-- The types of data that have a name here (RFC 1035, sections 3.2.2 and 3.3; RFC 3596, section 2.1; RFC 2782): one table.
use Rattle.std.specs.Prelude.{ℕ, List, [], ◌∷◌, ◌==◌, Option, codes}
use Rattle.std.specs.Option.{option_map}
use Rattle.std.specs.List.{find}
use Rattle.std.specs.Str.{str_eq_ignore_ascii_case}

-- a part of a type's data, which one word says
pub data Field : Type 0 where
  NameField : Field
  ShortField : Field
  NumberField : Field
  TimeField : Field
  AddressField : Field
  Address6Field : Field

-- a type's data is a row of fields, or strings, each behind its length
pub data Form : Type 0 where
  Fields : (fields : List Field) → Form
  Strings : Form

pub record NamedType : Type 0 where
  pub mnemonic : List ℕ
  pub number : ℕ
  pub form : Form

abbrev pub named_type : List ℕ → ℕ → Form → NamedType
named_type mnemonic number form = record { mnemonic = mnemonic; number = number; form = form }

abbrev pub named_types : List NamedType
named_types =
    named_type (codes "A") 1 (Fields (AddressField ∷ []))
    ∷ named_type (codes "NS") 2 (Fields (NameField ∷ []))
    ∷ named_type (codes "CNAME") 5 (Fields (NameField ∷ []))
    ∷ named_type (codes "SOA") 6 (Fields (NameField ∷ NameField ∷ NumberField ∷ TimeField ∷ TimeField ∷ TimeField ∷ TimeField ∷ []))
    ∷ named_type (codes "PTR") 12 (Fields (NameField ∷ []))
    ∷ named_type (codes "MX") 15 (Fields (ShortField ∷ NameField ∷ []))
    ∷ named_type (codes "TXT") 16 Strings
    ∷ named_type (codes "AAAA") 28 (Fields (Address6Field ∷ []))
    ∷ named_type (codes "SRV") 33 (Fields (ShortField ∷ ShortField ∷ ShortField ∷ NameField ∷ []))
    ∷ []

-- the row of a type's number
abbrev pub type_numbered : ℕ → Option NamedType
type_numbered rtype = find (λ (t : NamedType). t.number == rtype) named_types

-- the row of a mnemonic, in letters of either case
abbrev pub type_spelled : List ℕ → Option NamedType
type_spelled text = find (λ (t : NamedType). str_eq_ignore_ascii_case text t.mnemonic) named_types

-- the form of a type's data, where it is known
abbrev pub form_of : ℕ → Option Form
form_of rtype = option_map (λ (t : NamedType). t.form) (type_numbered rtype)
