-- What an index operation makes of a version: a list of entries in the order of their keys.
use Rattle.std.specs.Prelude.{ℕ, ◌≤◌, Option, Some, None, List, ◌∷◌, ◌++◌, length}
use Rattle.std.specs.List.{filter, fold}
use Rattle.std.specs.Ordering.{is_lt}
use Rattle.zone_model.specs.Keys.{key_cmp}
use Rattle.trie_model.specs.Keys.{Entry}
use Rattle.qp_multi.specs.declared.meaning.Operation.{Operation}
use Rattle.qp_multi.specs.declared.meaning.Operation.TheVariants.{Insert, Replace, Delete}

-- the entries whose keys come before the key, and those whose keys come after it

abbrev pub below : List ℕ → List Entry → List Entry
below key es = filter (λ (e : Entry). is_lt (key_cmp e.key key)) es

abbrev pub above : List ℕ → List Entry → List Entry
above key es = filter (λ (e : Entry). is_lt (key_cmp key e.key)) es

-- the version with the entry at its place, whether its name was there or not
abbrev pub with_entry : List Entry → Entry → List Entry
with_entry es e = below e.key es ++ (e ∷ above e.key es)

-- the version without the key
abbrev pub without : List Entry → List ℕ → List Entry
without es key = below key es ++ above key es

abbrev pub operated : List Entry → Operation → List Entry
operated es (Insert e) = with_entry es e
operated es (Replace e) = with_entry es e
operated es (Delete key) = without es key

-- a transaction's operations, one after another
abbrev pub applied : List Entry → List Operation → List Entry
applied es operations = fold operated es operations

-- no more than the most that a commit may have, where there is one
abbrev pub AreWithin : Option ℕ → List Operation → Type 0
AreWithin None operations = Unit {0}
AreWithin (Some most) operations = length operations ≤ most
