-- What lies on the path of a key.
use Rattle.std.specs.Prelude.{ℕ, suc, ◌+◌, ◌-◌, ◌==◌, Bool, List, [], ◌∷◌, ◌++◌, map, length, if◌then◌else◌}
use Rattle.trie_model.specs.Keys.{at}
use Rattle.trie_model.specs.Trees.{Tree, Twigs, count}
use Rattle.trie_model.specs.Trees.Tree.{leaf, branch}
use Rattle.trie_model.specs.Trees.Twigs.{none, twig}
use Rattle.trie_write.specs.Laid.{extent_sizes}

-- the twigs of all branches on the path of a key
abbrev mutual
  pub twigs_on_path : List ℕ → Tree → ℕ
  twigs_on_path key (leaf e where_at) = 0
  twigs_on_path key (branch o where_at below) = count below + twigs_past key (at key o) below

  -- of those past a branch, at the twig of a position
  pub twigs_past : List ℕ → ℕ → Twigs → ℕ
  twigs_past key position none = 0
  twigs_past key position (twig p t rest) = if p == position then twigs_on_path key t else twigs_past key position rest

-- How many cells there are to copy before the end of a key's path may be written: none while its cells are mutable, and from the first
-- immutable one on all twigs of all branches. The cell past a branch is one of n twigs, from r on.
abbrev mutual
  pub copied_below : (ℕ → Bool) → List ℕ → Tree → ℕ
  copied_below mutable key (leaf e where_at) = 0
  copied_below mutable key (branch o where_at below) = copied_past mutable key (at key o) (count below) where_at below

  pub copied_past : (ℕ → Bool) → List ℕ → ℕ → ℕ → ℕ → Twigs → ℕ
  copied_past mutable key position n r none = 0
  copied_past mutable key position n r (twig p t rest) =
      if p == position then (if mutable r then copied_below mutable key t else n + twigs_on_path key t) else copied_past mutable key position n (suc r) rest

-- with the root
abbrev pub to_copy : (ℕ → Bool) → List ℕ → ℕ → Tree → ℕ
to_copy mutable key r t = if mutable r then copied_below mutable key t else 1 + twigs_on_path key t

-- how many twigs each branch on the path of a key has
abbrev mutual
  pub branches_on_path : List ℕ → Tree → List ℕ
  branches_on_path key (leaf e where_at) = []
  branches_on_path key (branch o where_at below) = count below ∷ branches_past key (at key o) below

  -- each of those past a branch, at the twig of a position
  pub branches_past : List ℕ → ℕ → Twigs → List ℕ
  branches_past key position none = []
  branches_past key position (twig p t rest) = if p == position then branches_on_path key t else branches_past key position rest

-- How many cells side by side a call may ask for, where the branches on its key's path have so many twigs.

-- to put an item in: those of an extent, two for a new branch, one for a root, those of a branch, or one more
abbrev pub insert_asks : List ℕ → List ℕ → List ℕ
insert_asks item branches = extent_sizes (length item) ++ (2 ∷ 1 ∷ (branches ++ map suc branches))

-- to exchange one: those of an extent, one for a root, or those of a branch
abbrev pub replace_asks : List ℕ → List ℕ → List ℕ
replace_asks item branches = extent_sizes (length item) ++ (1 ∷ branches)

-- to take one out: one for a root, those of a branch, or one fewer
abbrev pub delete_asks : List ℕ → List ℕ
delete_asks branches = 1 ∷ (branches ++ map (λ (n : ℕ). n - 1) branches)
