-- What is sought in a list of entries by a key: where the key would stand, the last entry that isn't after it, and the entries
-- of the names at or above its name.
use Rattle.std.specs.Prelude.{◌≡◌, ℕ, ◌-◌, ◌⊎◌, Bool, true, false, ◌&&◌, ◌==◌, List, [], ◌∷◌, ◌++◌, map, count_by, Option, Some, None}
use Rattle.std.specs.List.{filter}
use Rattle.trie_model.specs.Keys.{at, Entry, InList, Less}

-- a comes before b, or is b
abbrev pub IsUpTo : List ℕ → List ℕ → Type 0
IsUpTo a b = (a ≡ b) ⊎ Less a b

-- the entries before the key, and those at or after it
pub record IsSplitAt (key : List ℕ) (all before after : List Entry) : Type 0 where
  pub whole : all ≡ before ++ after
  pub lower : (x : Entry) → InList x before → Less x.key key
  pub upper : (x : Entry) → InList x after → IsUpTo key x.key

-- the last entry whose key isn't after the key
pub record IsLastUpTo (key : List ℕ) (all : List Entry) (e : Entry) : Type 0 where
  pub before : List Entry
  pub after : List Entry
  pub whole : all ≡ before ++ (e ∷ after)
  pub up_to : IsUpTo e.key key
  pub beyond : (x : Entry) → InList x after → Less key x.key

-- its key; none where each entry is after the key
abbrev pub IsPredecessor : List ℕ → List Entry → Option (List ℕ) → Type 0
IsPredecessor key all None = (x : Entry) → InList x all → Less key x.key
IsPredecessor key all (Some found) = (e : Entry) × IsLastUpTo key all e × (found ≡ e.key)

-- A key is the beginning of another exactly where its name is at or above the other's: labels stand from the root downwards, and
-- each label is ended.
abbrev pub begins : List ℕ → List ℕ → Bool
begins [] key = true
begins (p ∷ ps) [] = false
begins (p ∷ ps) (q ∷ qs) = (p == q) && begins ps qs

-- the entries of the names at or above the key's, the top first
abbrev pub chain : List ℕ → List Entry → List Entry
chain key all = filter (λ (e : Entry). begins e.key key) all

-- a label of the key ends before this place, or it is the first
abbrev pub EndsAt : ℕ → List ℕ → Type 0
EndsAt place key = (place ≡ 0) ⊎ (at key (place - 1) ≡ 0)

-- how many labels a key's name has
abbrev pub labels_in : List ℕ → ℕ
labels_in key = count_by (λ position. position == 0) key

abbrev pub chain_labels : List ℕ → List Entry → List ℕ
chain_labels key all = map (λ (e : Entry). labels_in e.key) (chain key all)

abbrev pub IsThere : List ℕ → List Entry → Type 0
IsThere key all = (e : Entry) × InList e all × (e.key ≡ key)
