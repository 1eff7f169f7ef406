-- An entry exchanged for another of the same key.
use Rattle.std.specs.Prelude.{◌≡◌, ℕ, Bool, List, ◌∷◌, ◌++◌, length}
use Rattle.zone_model.specs.Keys.{Leads}
use Rattle.packed_node.specs.declared.Cell.{Cell}
use Rattle.trie_model.specs.Extents.{AreExtents}
use Rattle.trie_model.specs.Keys.{Entry}
use Rattle.trie_model.specs.Trees.{Tree}
use Rattle.trie_model.specs.Trees.Tree.{leaf}
use Rattle.chunk_cells.specs.Laying.{extents_in}
use Rattle.chunk_usage.specs.Rooms.{Account}
use Rattle.trie_space.specs.Spaces.{Ready}
use Rattle.trie_write.specs.declared.change.CellChange.{CellChange}
use Rattle.trie_write.specs.Asks.{HasKey, KeyIsThere}
use Rattle.trie_write.specs.Puts.{IsTaken, Makes}

-- the list with the entry in the place of the one that had its key
pub record Exchanged (e : Entry) (old new : List Entry) : Type 0 where
  pub before : List Entry
  pub gone : Entry
  pub after : List Entry
  pub old_is : old ≡ before ++ (gone ∷ after)
  pub new_is : new ≡ before ++ (e ∷ after)
  pub same_key : gone.key ≡ e.key

-- ---- the steps to that

-- the item of a name that is there may be exchanged
pub record CanReplace {S A : Type 0} (has : S → ℕ → Cell → Type 0) (kept : S → List ℕ) (given : S → List Bool) (account : A → Account) (s : S) (a : A) (r : ℕ) (key item : List ℕ) : Type 0 where
  -- the new one begins with the name
  pub leads : Leads key item
  pub there : KeyIsThere has account s a r key
  pub ready : Ready kept given account s a

-- the change makes of its leaf that of the new item, in cells that weren't in use
pub record IsOtherLeaf {S A : Type 0} (has : S → ℕ → Cell → Type 0) (account : A → Account) (s : S) (a : A) (s_new : S) (a_new : A) (r : ℕ) (key item : List ℕ) (c : CellChange) : Type 0 where
  pub makes : (t : Tree) (version : List Entry) (h : HasKey has account s a r key t version)
      → Makes has s_new c (leaf h.entry h.first) (leaf (record { key = key; item = item }) (extents_in c.new_item))
  pub extents : AreExtents (length item) (extents_in c.new_item)
  pub taken : IsTaken (account a) (account a_new) c
