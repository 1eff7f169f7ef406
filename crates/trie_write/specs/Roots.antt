-- What a root that stands tells of a key's path.
use Rattle.std.specs.Prelude.{◌≡◌, ℕ, ◌+◌, Bool, true, List, [], Option, Some, None}
use Rattle.packed_node.specs.declared.Cell.{Cell}
use Rattle.trie_model.specs.Keys.{Entry}
use Rattle.trie_model.specs.Reach.{weigh_tree}
use Rattle.trie_model.specs.Trees.{Tree}
use Rattle.zone_model.specs.Keys.{Leads}
use Rattle.trie_read.specs.Reads.{EachTells}
use Rattle.chunk_usage.specs.Rooms.{Account}
use Rattle.trie_write.specs.Paths.{twigs_on_path, branches_on_path, to_copy}
use Rattle.trie_space.specs.Standing.{StandsIn}
use Rattle.trie_space.specs.Weights.{at_place}

-- the cell is neither the root nor met below it; and no root that stands reaches it
abbrev pub IsOutside : ℕ → Tree → ℕ → Type 0
IsOutside r t q = at_place q r + weigh_tree (at_place q) t ≡ 0

abbrev pub Unreached : (ℕ → Cell → Type 0) → (ℕ → Bool) → (ℕ → ℕ) → Option ℕ → ℕ → Type 0
Unreached has used live None q = Unit {0}
Unreached has used live (Some r) q = (t : Tree) × (version : List Entry) × StandsIn has used live r t version × EachTells Leads version × IsOutside r t q

-- how many twigs there are on the path of a key
abbrev pub OnPath : (ℕ → Cell → Type 0) → (ℕ → Bool) → (ℕ → ℕ) → Option ℕ → List ℕ → ℕ → Type 0
OnPath has used live None key n = n ≡ 0
OnPath has used live (Some r) key n = (t : Tree) × (version : List Entry) × StandsIn has used live r t version × EachTells Leads version × (n ≡ twigs_on_path key t)

-- and how many each branch there has
abbrev pub OnBranches : (ℕ → Cell → Type 0) → (ℕ → Bool) → (ℕ → ℕ) → Option ℕ → List ℕ → List ℕ → Type 0
OnBranches has used live None key branches = branches ≡ []
OnBranches has used live (Some r) key branches = (t : Tree) × (version : List Entry) × StandsIn has used live r t version × EachTells Leads version × (branches ≡ branches_on_path key t)

-- the same of a root in some cells and a space; how many cells there are to copy before the end of the key's path may be written; and
-- that a root that stands doesn't reach a cell
abbrev pub TwigsOnPath : {S A : Type 0} → (S → ℕ → Cell → Type 0) → (A → Account) → S → A → Option ℕ → List ℕ → ℕ → Type 0
TwigsOnPath has account s a root key n = OnPath (has s) (account a).used (account a).live root key n

abbrev pub BranchesOnPath : {S A : Type 0} → (S → ℕ → Cell → Type 0) → (A → Account) → S → A → Option ℕ → List ℕ → List ℕ → Type 0
BranchesOnPath has account s a root key branches = OnBranches (has s) (account a).used (account a).live root key branches

abbrev pub ToCopy : {S A : Type 0} → (S → ℕ → Cell → Type 0) → (A → Account) → S → A → Option ℕ → List ℕ → ℕ → Type 0
ToCopy has account s a None key n = n ≡ 0
ToCopy has account s a (Some r) key n = (t : Tree) × (version : List Entry) × StandsIn (has s) (account a).used (account a).live r t version × EachTells Leads version × (n ≡ to_copy (account a).mutable key r t)

abbrev pub Beyond : {S A : Type 0} → (S → ℕ → Cell → Type 0) → (A → Account) → S → A → Option ℕ → ℕ → Type 0
Beyond has account s a root q = ((account a).used q ≡ true) × Unreached (has s) (account a).used (account a).live root q
