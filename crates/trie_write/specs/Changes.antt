-- What changes a trie: what it is asked, and what it leaves.
use Rattle.std.specs.Prelude.{◌≡◌, ℕ, ◌+◌, ◌≤◌, Bool, true, List, Option, Contains}
use Rattle.zone_model.specs.Keys.{Leads}
use Rattle.packed_node.specs.declared.Cell.{Cell}
use Rattle.trie_model.specs.Keys.{Entry}
use Rattle.trie_model.specs.Trees.{Tree}
use Rattle.trie_read.specs.Reads.{EachTells}
use Rattle.chunk_usage.specs.declared.space.Shortage.{Shortage}
use Rattle.chunk_usage.specs.Rooms.{Account}
use Rattle.trie_space.specs.Spaces.{Fenced, Ready, Unchanged}
use Rattle.trie_space.specs.Standing.{HasTrie}
use Rattle.trie_write.specs.declared.refusal.NotDone.{NotDone}
use Rattle.trie_write.specs.declared.refusal.NotDone.TheVariants.{Refused, Full}
use Rattle.trie_write.specs.Paths.{branches_on_path, to_copy, twigs_on_path}
use Rattle.trie_write.specs.Roots.{Beyond, BranchesOnPath, IsOutside, ToCopy, TwigsOnPath}

-- ---- at any root

-- a trie of named items stands at the root, and may be changed
pub record CanChange {S A : Type 0} (has : S → ℕ → Cell → Type 0) (kept : S → List ℕ) (given : S → List Bool) (account : A → Account) (s : S) (a : A) (root : Option ℕ) : Type 0 where
  pub stands : (version : List Entry) × HasTrie has account s a root version × EachTells Leads version
  -- cells and space know the same chunks as given
  pub ready : Ready kept given account s a

-- and be given the item of a name
pub record CanPut {S A : Type 0} (has : S → ℕ → Cell → Type 0) (kept : S → List ℕ) (given : S → List Bool) (account : A → Account) (s : S) (a : A) (root : Option ℕ) (key item : List ℕ) : Type 0 where
  pub stands : (version : List Entry) × HasTrie has account s a root version × EachTells Leads version
  -- the item begins with the name's wire form
  pub leads : Leads key item
  pub ready : Ready kept given account s a

-- It isn't changed.
pub record StaysAsItWas {S A : Type 0} (has : S → ℕ → Cell → Type 0) (account : A → Account) (lacks : A → Shortage → Type 0) (s : S) (a : A) (s_new : S) (a_new : A) (root : Option ℕ) (key : List ℕ) (asks : List ℕ → List ℕ) (why : NotDone) : Type 0 where
  -- what stood at the root stands there
  pub stands : (version : List Entry) → HasTrie has account s a root version → HasTrie has account s_new a_new root version
  -- what is in use is as it was, and the same cells count
  pub unchanged : Unchanged has account s a s_new a_new
  -- a name that is refused costs nothing
  pub denied : why ≡ Refused → a_new ≡ a
  -- the numbers say why there is no room
  pub full : (f : Shortage) → why ≡ Full f → lacks a_new f
  -- so many cells side by side were asked for, where the branches on the key's path have so many twigs
  pub asked : (f : Shortage) → why ≡ Full f → (branches : List ℕ) → BranchesOnPath has account s a root key branches → Contains (asks branches) f.needed

-- What else there is stays, whether it is changed or not.
pub record ChangesTrie {S A : Type 0} (has : S → ℕ → Cell → Type 0) (kept : S → List ℕ) (given : S → List Bool) (account : A → Account) (s : S) (a : A) (s_new : S) (a_new : A) (root : Option ℕ) (key : List ℕ) (most most_beside : ℕ) : Type 0 where
  -- cells in use that the root doesn't reach say what they said
  pub outside : (q : ℕ) (c : Cell) → Beyond has account s a root q → has s q c → has s_new q c
  -- beside the twigs on the key's path so many cells were consumed at most; and so many beside those that had to be copied
  pub consumes : (n : ℕ) → TwigsOnPath has account s a root key n → (account a_new).consumed ≤ (account a).consumed + (most + n)
  pub copies : (n : ℕ) → ToCopy has account s a root key n → (account a_new).consumed ≤ (account a).consumed + (most_beside + n)
  -- none but mutable cells in use were written, and what is kept is kept
  pub frame : Fenced has kept given account s a s_new a_new
  pub ready : Ready kept given account s_new a_new

-- ---- below a root, where a tree is asked for

-- the same of it
pub record ChangesTree {S A : Type 0} (has : S → ℕ → Cell → Type 0) (kept : S → List ℕ) (given : S → List Bool) (account : A → Account) (s : S) (a : A) (s_new : S) (a_new : A) (r : ℕ) (key : List ℕ) (asked : Tree → List Entry → Type 0) (most most_beside : ℕ) : Type 0 where
  pub outside : (t : Tree) (version : List Entry) → asked t version → (q : ℕ) (c : Cell) → (account a).used q ≡ true → IsOutside r t q → has s q c → has s_new q c
  pub consumes : (t : Tree) (version : List Entry) → asked t version → (account a_new).consumed ≤ (account a).consumed + (most + twigs_on_path key t)
  pub copies : (t : Tree) (version : List Entry) → asked t version → (account a_new).consumed ≤ (account a).consumed + (most_beside + to_copy (account a).mutable key r t)
  pub frame : Fenced has kept given account s a s_new a_new
  pub ready : Ready kept given account s_new a_new

-- so many cells side by side may be asked for
abbrev pub MayAsk : List ℕ → (Tree → List Entry → Type 0) → (List ℕ → List ℕ) → ℕ → Type 0
MayAsk key asked asks n = (t : Tree) (version : List Entry) → asked t version → Contains (asks (branches_on_path key t)) n
