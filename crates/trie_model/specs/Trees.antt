-- The trie as a tree, with the references at which its parts lie.
use Rattle.std.specs.Prelude.{◌≡◌, ℕ, suc, ◌+◌, ◌^◌, ◌<◌, ◌≤◌, List, [], ◌∷◌, ◌++◌, length}
use Rattle.trie_model.specs.Extents.{Extents, AreExtents, IsRow}
use Rattle.trie_model.specs.Keys.{at, Same, Entry, IsEntry, InList}

mutual
  -- a leaf with the extents of its item; a branch with its offset and its first twig's reference
  pub data Tree : Type 0 where
    leaf : Entry → Extents → Tree
    branch : ℕ → ℕ → Twigs → Tree

  -- in rising position
  pub data Twigs : Type 0 where
    none : Twigs
    twig : ℕ → Tree → Twigs → Twigs

abbrev mutual
  -- what the leaves hold, in twig order
  pub entries_of : Tree → List Entry
  entries_of (leaf e x) = e ∷ []
  entries_of (branch o where_at below) = entries below

  pub entries : Twigs → List Entry
  entries none = []
  entries (twig p t rest) = entries_of t ++ entries rest

abbrev pub count : Twigs → ℕ
count none = 0
count (twig p t rest) = suc (count rest)

-- bit p is set where there is a twig at position p
abbrev pub bitmap_of : Twigs → ℕ
bitmap_of none = 0
bitmap_of (twig p t rest) = 2 ^ p + bitmap_of rest

-- positions rise, from lo on and below hi
abbrev pub Rising : ℕ → ℕ → Twigs → Type 0
Rising lo hi none = lo ≤ hi
Rising lo hi (twig p t rest) = (lo ≤ p) × (p < hi) × Rising (suc p) hi rest

-- all keys of the list have the position p at o
abbrev pub AllAt : ℕ → ℕ → List Entry → Type 0
AllAt o p es = (e : Entry) → InList e es → at e.key o ≡ p

-- the keys of the list agree before o
abbrev pub Agree : ℕ → List Entry → Type 0
Agree o es = (a b : Entry) → InList a es → InList b es → Same o a.key b.key

abbrev mutual
  -- offsets are at least low, and rise downwards; the keys below a branch agree before its offset
  pub IsTree : ℕ → Tree → Type 0
  IsTree low (leaf e x) = IsEntry e × AreExtents (length e.item) x
  IsTree low (branch o where_at below) = (low ≤ o) × (o ≤ 503) × IsRow where_at (count below) × (2 ≤ count below) × Agree o (entries below) × AreTwigs o 0 below

  -- the twigs of a branch at o: positions from low on, the keys below a twig having its position at o
  pub AreTwigs : ℕ → ℕ → Twigs → Type 0
  AreTwigs o low none = Unit {0}
  AreTwigs o low (twig p t rest) = (low ≤ p) × (p < 47) × AllAt o p (entries_of t) × IsTree (suc o) t × AreTwigs o (suc p) rest

abbrev pub beside : Twigs → Twigs → Twigs
beside none ys = ys
beside (twig p t rest) ys = twig p t (beside rest ys)
