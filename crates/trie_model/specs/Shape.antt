-- How many nodes and cells the trie of some keys has. It depends on the keys and the items' lengths alone:
-- no key has no node; one key is a leaf; more are a branch at the first place at which two of them differ, and below it,
-- for each position that keys have there, the trie of those keys.
use Rattle.std.specs.Prelude.{ℕ, zero, suc, ◌+◌, Bool, true, ◌==◌, List, [], ◌∷◌, length, map, filter, sum_by, if◌then◌else◌}
use Rattle.std.specs.List.{list_all, range_with_len}
use Rattle.trie_model.specs.Keys.{at, Entry}
use Rattle.trie_model.specs.Extents.{cells_in}
use Rattle.trie_model.specs.Trees.{Tree, Twigs}
use Rattle.trie_model.specs.Trees.Tree.{leaf, branch}
use Rattle.trie_model.specs.Trees.Twigs.{none, twig}

-- the keys have one position at the place
abbrev pub alike : ℕ → List (List ℕ) → Bool
alike place [] = true
alike place (key ∷ keys) = list_all (λ k. at k place == at key place) keys

-- the first place from this one on, of n, at which they have not
abbrev pub difference_from : ℕ → ℕ → List (List ℕ) → ℕ
difference_from zero place keys = place
difference_from (suc n) place keys = if alike place keys then difference_from n (suc place) keys else place

unfoldable pub first_difference : List (List ℕ) → ℕ
first_difference keys = difference_from 504 0 keys

-- those with the position at the place
abbrev pub part : ℕ → ℕ → List (List ℕ) → List (List ℕ)
part place position keys = filter (λ k. at k place == position) keys

-- those with position 0, 1, .. at the first place at which they differ
abbrev pub parts : List (List ℕ) → List (List (List ℕ))
parts keys = map (λ position. part (first_difference keys) position keys) (range_with_len 0 47)

-- the parts of n keys have fewer keys each, so n steps are enough
unfoldable pub nodes_within : ℕ → List (List ℕ) → ℕ
nodes_within zero keys = 0
nodes_within (suc n) [] = 0
nodes_within (suc n) (key ∷ []) = 1
nodes_within (suc n) (key ∷ (other ∷ keys)) = suc (sum_by (nodes_within n) (parts (key ∷ (other ∷ keys))))

unfoldable pub nodes : List (List ℕ) → ℕ
nodes keys = nodes_within (length keys) keys

abbrev pub keys_of : List Entry → List (List ℕ)
keys_of entries = map (λ (e : Entry). e.key) entries

-- with the cells of the items
abbrev pub cells : List Entry → ℕ
cells entries = nodes (keys_of entries) + sum_by (λ (e : Entry). cells_in e.item) entries

-- the nodes of a tree
abbrev mutual
  pub nodes_of : Tree → ℕ
  nodes_of (leaf e where_at) = 1
  nodes_of (branch o where_at below) = suc (nodes_in below)

  pub nodes_in : Twigs → ℕ
  nodes_in none = 0
  nodes_in (twig p t rest) = nodes_of t + nodes_in rest
