-- Why a transaction's call finds no room.
use Rattle.std.specs.Prelude.{◌≡◌, ◌⊎◌, ℕ, ◌+◌, ◌-◌, ◌*◌, ◌<◌, ◌≤◌, true, false, List, Contains, length, take, slice_index}
use Rattle.std.specs.List.{sum_by}
use Rattle.trie_model.specs.Shape.{cells}
use Rattle.trie_model.specs.Capacity.{filled_cells}
use Rattle.chunk_usage.specs.declared.space.Shortage.{Shortage}
use Rattle.chunk_usage.specs.Ledger.{Ledger, is_bump, is_given, free_count, reserve_of}
use Rattle.chunk_usage.specs.Keeping.{is_in_rows, kept_versions}
use Rattle.shared_cells.specs.History.{version_after}
use Rattle.qp_multi.specs.declared.writer.WorkingVersion.{WorkingVersion}
use Rattle.qp_multi.specs.declared.kept.Versions.{Versions}
use Rattle.qp_multi.specs.declared.refusal.OutOfSpace.{OutOfSpace}
use Rattle.qp_multi.specs.Operations.{applied}
use Rattle.qp_multi.specs.Passes.{Known, first_version}
use Rattle.qp_multi.specs.WorkingVersions.{working_set}
use Rattle.qp_multi.specs.Keepings.{versions_in}
use Rattle.qp_multi.specs.Rooms.{Fails, MakesRoom}
use Rattle.qp_multi.specs.Tries.{PathHas, PathHasEach}
use Rattle.trie_model.specs.Keys.{Entry}

-- the version of a number that was seen
abbrev pub version_at : Known → ℕ → List Entry
version_at v n = version_after applied (first_version v.seen) (take n v.seen.history)

-- how many cells these versions have together
abbrev pub cells_kept : Known → List ℕ → ℕ
cells_kept v versions = sum_by (λ n. cells (version_at v n)) versions

-- a refused request, with the versions that are kept
abbrev pub full_with : Shortage → Versions → OutOfSpace
full_with f versions = record { shortage = f; kept = versions }

-- At the refused request of a call, behind a round and a freeing that left this usage.
-- The call is for a key, and writes so many cells beside the twigs on the key's path. Where the branches there have so many twigs, it
-- asks for these numbers of cells.
pub record WhyOutOfSpace (after : Ledger) (d : WorkingVersion) (key : List ℕ) (written : ℕ) (asks : List ℕ → List ℕ) (f : OutOfSpace) : Type 0 where
  -- no chunk but the reserve is free
  pub none_free : free_count d.usage ≤ reserve_of d.usage
  -- the bump chunk of that round, and the chunks that were allocated since: of `filled_cells` that were written one, at most
  pub opened : List ℕ
  pub opened_here : (k : ℕ) → Contains opened k → (is_bump after.bump k ≡ true) ⊎ ((is_given after k ≡ false) × (is_given d.usage k ≡ true))
  pub path : ℕ
  pub on_path : PathHas d.seat.place.me.0 d.usage d.root key path
  pub branches : List ℕ
  pub on_branches : PathHasEach d.seat.place.me.0 d.usage d.root key branches
  pub needed : Contains (asks branches) f.shortage.needed
  pub few_opened : filled_cells * length opened ≤ filled_cells + (written + path)
  -- each other allocated chunk is the one to which a rollback returns, or has a cell of the working set or of a kept version
  pub others_met : (k : ℕ) → is_given d.usage k ≡ true
      → ((is_bump d.usage.fender k ≡ true) ⊎ Contains opened k) ⊎ ((0 < slice_index d.usage.live k) ⊎ (is_in_rows d.usage.rows k ≡ true))
  -- So the cells are many: a root meets no more chunks than it has cells less branches, an item fills few chunks, and each other
  -- chunk that the call filled goes with a branch of the key's path.
  pub many_cells : length d.usage.given - reserve_of d.usage - 8 ≤ cells (working_set d) + cells_kept d.seat.place.me.0 (versions_in f.kept)

-- The call's first try had found no room either, and this was left when room was made, with the versions that are told.
pub record CausedBy (first d : WorkingVersion) (key : List ℕ) (written : ℕ) (asks : List ℕ → List ℕ) (f : OutOfSpace) : Type 0 where
  pub left : WorkingVersion
  pub makes : MakesRoom first left
  pub kept : versions_in f.kept ≡ kept_versions left.usage
  pub fails : Fails left d
  pub cause : WhyOutOfSpace left.usage d key written asks f

pub record CausedFrom (old d : WorkingVersion) (key : List ℕ) (written : ℕ) (asks : List ℕ → List ℕ) (f : OutOfSpace) : Type 0 where
  pub first : WorkingVersion
  pub fails : Fails old first
  pub caused : CausedBy first d key written asks f
