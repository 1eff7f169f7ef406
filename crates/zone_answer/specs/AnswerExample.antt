-- The zone of RFC 4592, section 2.2.1, with octets of two records for all data, and beside it two aliases that lead to each other.
use Rattle.std.specs.Prelude.{◌≡◌, ℕ, List, [], ◌∷◌, ◌++◌, length, codes}
use Rattle.zone_model.specs.Names.{Label, Name, wire}
use Rattle.zone_model.specs.Records.{Rrset, Entry}
use Rattle.zone_model.specs.Versions.{Version}
use Rattle.zone_answer.specs.Answers.{Answer, answer}
use Rattle.zone_answer.specs.declared.kind.Kind.{Kind}

abbrev pub origin : Name
origin = codes "example" ∷ []

abbrev pub named : List Label → Name
named labels = labels ++ origin

-- an RRset of some data
abbrev pub set : ℕ → List (List ℕ) → Rrset
set rtype records = record { rtype = rtype; ttl = 3600; records = records }

abbrev pub first_data : List ℕ
first_data = 1 ∷ []

abbrev pub second_data : List ℕ
second_data = 2 ∷ []

-- the alias of a name to another
abbrev pub alias : Label → Label → Name × Entry
alias label target = (named (label ∷ []), set 5 (wire (named (target ∷ [])) ∷ []) ∷ [])

abbrev pub zone : Version
zone =
    (origin, set 2 (first_data ∷ second_data ∷ []) ∷ set 6 (first_data ∷ []) ∷ [])
    ∷ (named (codes "*" ∷ []), set 15 (first_data ∷ []) ∷ set 16 (first_data ∷ []) ∷ [])
    ∷ (named (codes "sub" ∷ codes "*" ∷ []), set 16 (second_data ∷ []) ∷ [])
    ∷ alias (codes "a") (codes "b")
    ∷ alias (codes "b") (codes "a")
    ∷ (named (codes "host1" ∷ []), set 1 (first_data ∷ []) ∷ [])
    ∷ (named (codes "_ssh" ∷ codes "_tcp" ∷ codes "host1" ∷ []), set 33 (first_data ∷ []) ∷ [])
    ∷ (named (codes "_ssh" ∷ codes "_tcp" ∷ codes "host2" ∷ []), set 33 (first_data ∷ []) ∷ [])
    ∷ (named (codes "subdel" ∷ []), set 2 (first_data ∷ second_data ∷ []) ∷ [])
    ∷ (named (codes "deeper" ∷ codes "subdel" ∷ []), set 2 (first_data ∷ []) ∷ [])
    ∷ []

-- the answer for a name under the origin
unfoldable pub asked : List Label → ℕ → Answer
asked labels rtype = answer origin zone (named labels) rtype

-- its kind, and how many rows it has
abbrev pub Says : Kind → ℕ → Answer → Type 0
Says kind rows told = (told.kind ≡ kind) × (length told.rows ≡ rows)
