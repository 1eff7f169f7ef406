-- A zone with a delegation, glue, an alias into the delegation, a wildcard that owns servers, and mail that two records send to one host.
use Rattle.std.specs.Prelude.{◌≡◌, ℕ, Bool, List, [], ◌∷◌, codes, map}
use Rattle.zone_model.specs.Names.{Label, Name, wire}
use Rattle.zone_model.specs.Rows.{Row}
use Rattle.zone_model.specs.Versions.{Version}
use Rattle.zone_answer.specs.AnswerExample.{first_data, named, origin, second_data, set}
use Rattle.zone_answer.specs.Responses.{Response, respond}
use Rattle.zone_answer.specs.declared.header.Code.{Code}

abbrev pub ns : Name
ns = named (codes "ns" ∷ [])

abbrev pub mail : Name
mail = named (codes "mail" ∷ [])

abbrev pub sub : Name
sub = named (codes "sub" ∷ [])

abbrev pub ns_sub : Name
ns_sub = named (codes "ns" ∷ codes "sub" ∷ [])

abbrev pub other : Name
other = codes "ns" ∷ codes "other" ∷ []

-- the SOA's data end with its minimum, 60; all times are 3600, but the SOA's
abbrev pub zone : ℕ → Version
zone time =
    (origin, set 2 (wire ns ∷ []) ∷ record { rtype = 6; ttl = time; records = (0 ∷ 0 ∷ 0 ∷ 60 ∷ []) ∷ [] } ∷ set 15 ((0 ∷ 10 ∷ wire mail) ∷ (0 ∷ 20 ∷ wire mail) ∷ []) ∷ [])
    ∷ (named (codes "*" ∷ []), set 2 (wire ns ∷ []) ∷ [])
    ∷ (named (codes "in" ∷ []), set 5 (wire (named (codes "x" ∷ codes "sub" ∷ [])) ∷ []) ∷ [])
    ∷ (mail, set 1 (first_data ∷ []) ∷ set 28 (second_data ∷ []) ∷ [])
    ∷ (ns, set 1 (first_data ∷ second_data ∷ []) ∷ [])
    ∷ (sub, set 2 (wire ns ∷ wire other ∷ wire ns_sub ∷ []) ∷ [])
    ∷ (ns_sub, set 1 (first_data ∷ []) ∷ [])
    ∷ []

-- the response for a name under the origin
unfoldable pub responded : List Label → ℕ → Response
responded labels rtype = respond origin (zone 3600) (named labels) rtype

-- owners and types
abbrev pub heads : List Row → List (Name × ℕ)
heads rows = map (λ (r : Row). (r.owner, r.rtype)) rows

pub record Says (code : Code) (authoritative : Bool) (answer authority additional : List (Name × ℕ)) (r : Response) : Type 0 where
  pub code_is : r.code ≡ code
  pub authoritative_is : r.authoritative ≡ authoritative
  pub answer_is : heads r.answer ≡ answer
  pub authority_is : heads r.authority ≡ authority
  pub additional_is : heads r.additional ≡ additional

-- the time of the SOA beside a negative answer, where the SOA has a time of its own
unfoldable pub negative_time : ℕ → List ℕ
negative_time time = map (λ (r : Row). r.ttl) (respond origin (zone time) ns 16).authority
