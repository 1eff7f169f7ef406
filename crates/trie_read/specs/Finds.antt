-- What is told of a key beside the keys that are there.
use Rattle.std.specs.Prelude.{◌≡◌, ℕ, Bool, true, false, List, if◌then◌else◌}
use Rattle.packed_node.specs.declared.Cell.{Cell}
use Rattle.packed_node.specs.declared.Branch.{Branch}
use Rattle.trie_model.specs.Keys.{Entry, InList}
use Rattle.trie_model.specs.Trees.{Twigs, bitmap_of, IsTree}
use Rattle.trie_model.specs.Trees.Tree.{branch}
use Rattle.trie_model.specs.Memory.{Lie}
use Rattle.trie_model.specs.Order.{IsThere, begins}
use Rattle.trie_read.specs.declared.found.Kind.{Kind}
use Rattle.trie_read.specs.declared.found.Kind.TheVariants.{Exact, Partial, Absent}

-- the name is there, or else names above it
abbrev pub IsKind : List ℕ → List Entry → Kind → Type 0
IsKind key all Exact = IsThere key all
IsKind key all Partial = (¬ IsThere key all) × ((e : Entry) × InList e all × (begins e.key key ≡ true))
IsKind key all Absent = (e : Entry) → InList e all → begins e.key key ≡ false

-- the kind, by whether the name is there, and whether no name is at or above it
abbrev pub kind_of : Bool → Bool → Kind
kind_of true alone = Exact
kind_of false alone = if alone then Absent else Partial

-- the branch has these twigs below it, which lie in the memory
pub record IsBranchOf (has : ℕ → Cell → Type 0) (b : Branch) (below : Twigs) : Type 0 where
  pub tree : IsTree 0 (branch b.offset b.twigs below)
  pub lies : Lie has b.twigs below
  pub bitmap : b.bitmap ≡ bitmap_of below
