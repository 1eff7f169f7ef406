-- What a pass reads that has pinned a version.
use Rattle.std.specs.Prelude.{◌≡◌, ℕ, List, Option}
use Rattle.trie_model.specs.Keys.{Entry}
use Rattle.shared_cells.specs.declared.pinned.PinnedSeat.{PinnedSeat}
use Rattle.shared_cells.specs.Views.{pinned_image}
use Rattle.qp_multi.specs.declared.meaning.Operation.{Operation}
use Rattle.qp_multi.specs.Bases.{CommitsAreWithin}
use Rattle.qp_multi.specs.Meanings.{Holds, IsVersion}
use Rattle.qp_multi.specs.Passes.{Known, version_seen}

-- It reads the version that it has seen last, from this root.
pub record Reads (most : Option ℕ) (v : Known) (root : Option ℕ) : Type 0 where
  -- no commit up to it has more operations than the most, where there is one
  pub few_operations : CommitsAreWithin most v
  -- the pinned image is the version's trie
  pub shows : IsVersion (pinned_image v.progress) root (version_seen v.seen)
  -- what is read there are the version's entries
  pub holds : Holds (pinned_image v.progress) root (version_seen v.seen)

-- It has it pinned still.
pub record StaysPinned (old new : PinnedSeat (List Entry) (List Operation)) : Type 0 where
  -- at the same table
  pub table : new.place.table_id ≡ old.place.table_id
  -- the same version with the same root
  pub version : new.version ≡ old.version
  pub root : new.root ≡ old.root
