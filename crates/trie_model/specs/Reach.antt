-- The references that a trie reaches: of its nodes, and of the cells of its items, link cells with them.
use Rattle.std.specs.Prelude.{◌≡◌, ℕ, suc, ◌+◌, ◌/◌, Bool, true, List, [], ◌∷◌, ◌++◌, length, map, count_by, ◌==◌, if◌then◌else◌}
use Rattle.trie_model.specs.Extents.{spots, WithinExtents, weigh_extents}
use Rattle.trie_model.specs.Trees.{Tree, Twigs}
use Rattle.trie_model.specs.Trees.Tree.{leaf, branch}
use Rattle.trie_model.specs.Trees.Twigs.{none, twig}

abbrev mutual
  -- below the top node
  pub reach_below : Tree → List ℕ
  reach_below (leaf e x) = spots (length e.item) x
  reach_below (branch o where_at below) = reach_twigs where_at below

  -- of twigs that lie from r on
  pub reach_twigs : ℕ → Twigs → List ℕ
  reach_twigs r none = []
  reach_twigs r (twig p t rest) = r ∷ (reach_below t ++ reach_twigs (suc r) rest)

-- with the top node at r
abbrev pub reach : ℕ → Tree → List ℕ
reach r t = r ∷ reach_below t

-- the chunks that they lie in
abbrev pub chunks : ℕ → Tree → List ℕ
chunks r t = map (λ q. q / 1024) (reach r t)

-- how many of them lie in a chunk
abbrev pub live_in : ℕ → ℕ → Tree → ℕ
live_in chunk r t = count_by (λ q. q / 1024 == chunk) (reach r t)

-- Proofs go along the tree in place of the list (laws join the two). Each reference below the top node passes the test:
abbrev mutual
  pub WithinTree : (ℕ → Bool) → Tree → Type 0
  WithinTree P (leaf e x) = WithinExtents P (length e.item) x
  WithinTree P (branch o where_at below) = Within P where_at below

  pub Within : (ℕ → Bool) → ℕ → Twigs → Type 0
  Within P r none = Unit {0}
  Within P r (twig p t rest) = (P r ≡ true) × WithinTree P t × Within P (suc r) rest

-- The sum of what the references below the top node weigh, each by w.
abbrev mutual
  pub weigh_tree : (ℕ → ℕ) → Tree → ℕ
  weigh_tree w (leaf e x) = weigh_extents w (length e.item) x
  weigh_tree w (branch o r below) = weigh w r below

  pub weigh : (ℕ → ℕ) → ℕ → Twigs → ℕ
  weigh w r none = 0
  weigh w r (twig p t rest) = w r + weigh_tree w t + weigh w (suc r) rest

-- 1 for a reference in the chunk, so that the sum is how many of them are there
abbrev pub in_chunk : ℕ → ℕ → ℕ
in_chunk chunk r = if r / 1024 == chunk then 1 else 0
