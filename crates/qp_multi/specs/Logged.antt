-- How the logic stores a list of operations.
use Rattle.std.specs.Prelude.{◌≡◌, ℕ, List, [], ◌==◌, if◌then◌else◌, refl}
use Rattle.std.specs.Coded.{Coded, code_by, coded×, coded_ℕ, coded_list}
use Rattle.trie_model.specs.Keys.{Entry}
use Rattle.qp_multi.specs.declared.meaning.Operation.{Operation}
use Rattle.qp_multi.specs.declared.meaning.Operation.TheVariants.{Insert, Replace, Delete}

abbrev Parts : Type 0
Parts = ℕ × (List ℕ × List ℕ)

abbrev to_parts : Operation → Parts
to_parts (Insert e) = (0, (e.key, e.item))
to_parts (Replace e) = (1, (e.key, e.item))
to_parts (Delete key) = (2, (key, []))

abbrev entry_in : Parts → Entry
entry_in parts = record { key = parts.1.0; item = parts.1.1 }

abbrev from_parts : Parts → Operation
from_parts parts = if parts.0 == 0 then Insert (entry_in parts) else if parts.0 == 1 then Replace (entry_in parts) else Delete parts.1.0

pub from_parts-to_parts : (o : Operation) → from_parts (to_parts o) ≡ o
from_parts-to_parts (Insert e) = refl
from_parts-to_parts (Replace e) = refl
from_parts-to_parts (Delete key) = refl

abbrev pub operations_code : Coded (List Operation)
operations_code = coded_list (code_by Parts (coded× coded_ℕ (coded× (coded_list coded_ℕ) (coded_list coded_ℕ))) to_parts from_parts from_parts-to_parts)
