-- The names of a version around a name, in canonical order (RFC 4034, section 6.1).
use Rattle.std.specs.Prelude.{ℕ, Bool, true, false, not, List, [], ◌∷◌, take, reverse, Option, None}
use Rattle.std.specs.List.{filter, last_or, list_any}
use Rattle.std.specs.Map.{keys_of}
use Rattle.std.specs.Ordering.{is_lt, is_gt}
use Rattle.zone_model.specs.Names.{Name, name_cmp, same_name, is_under}
use Rattle.zone_model.specs.Versions.{Version}
use Rattle.trie_read.specs.declared.found.Kind.{Kind}
use Rattle.trie_read.specs.declared.found.Kind.TheVariants.{Exact, Partial, Absent}

-- those at or above it, the top first
abbrev pub chain : Name → Version → List Name
chain name version = filter (λ other. is_under name other) (keys_of version)

-- those before it; those at or after it; those that aren't after it
abbrev pub before : Name → Version → List Name
before name version = filter (λ other. is_lt (name_cmp other name)) (keys_of version)

abbrev pub from : Name → Version → List Name
from name version = filter (λ other. not (is_lt (name_cmp other name))) (keys_of version)

abbrev pub up_to : Name → Version → List Name
up_to name version = filter (λ other. not (is_gt (name_cmp other name))) (keys_of version)

-- by whether the name is there, and what is there at or above it
abbrev pub kind_by : Bool → List Name → Kind
kind_by true names = Exact
kind_by false [] = Absent
kind_by false (top ∷ names) = Partial

-- what a version has of a name: whether it is there, the names at or above it, and the last name that isn't after it
pub record Found : Type 0 where
  pub kind : Kind
  pub chain : List Name
  pub predecessor : Option Name

abbrev pub find : Name → Version → Found
find name version = record {
  kind = kind_by (list_any (same_name name) (keys_of version)) (chain name version);
  chain = chain name version;
  predecessor = last_or None (up_to name version);
}

-- the first so many names at or after a name
abbrev pub walk : Name → ℕ → Version → List Name
walk name most version = take most (from name version)

-- the last so many names before a name, the nearest first
abbrev pub back : Name → ℕ → Version → List Name
back name most version = take most (reverse (before name version))
