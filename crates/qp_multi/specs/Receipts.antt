-- What a commit tells of itself.
use Rattle.std.specs.Prelude.{◌≡◌, ◌+◌, ◌<◌, ◌≤◌, ℕ, Bool, true, false, Some, length}
use Rattle.chunk_usage.specs.Counting.{sparse_count}
use Rattle.chunk_usage.specs.Ledger.{Ledger, free_count}
use Rattle.chunk_usage.specs.Keeping.{frozen, kept_versions}
use Rattle.evacuate.specs.declared.evacuation.EvacuationEnd.{EvacuationEnd}
use Rattle.evacuate.specs.declared.evacuation.EvacuationEnd.TheVariants.{Whole, Stopped}
use Rattle.shared_cells.specs.Views.{words_of}
use Rattle.shared_cells.specs.Steps.{Published}
use Rattle.qp_multi.specs.declared.commit.Receipt.{Receipt}
use Rattle.qp_multi.specs.declared.writer.WorkingVersion.{WorkingVersion}
use Rattle.qp_multi.specs.Bounds.{WhereRoomy}
use Rattle.qp_multi.specs.WorkingVersions.{Works}
use Rattle.qp_multi.specs.Images.{image_at}
use Rattle.qp_multi.specs.Keepings.{GoesOn, Rounds}
use Rattle.qp_multi.specs.Movings.{Evacuates, FewThin}
use Rattle.qp_multi.specs.Passes.{Known}

-- how an evacuation ended, by whether what it moved is whole
abbrev pub ended : Bool → EvacuationEnd
ended true = Whole
ended false = Stopped

-- A working set was made ready for a commit: where so many chunks are sparse, or fewer, nothing was done; else what lay in them was moved.
pub record Settles (most : ℕ) (first d : WorkingVersion) (whole : Bool) : Type 0 where
  pub goes_on : GoesOn first.seat.place.me.0 d.seat.place.me.0
  pub seen : d.seat.place.me.0.seen ≡ first.seat.place.me.0.seen
  pub works : Works d
  pub log : d.log.operations ≡ first.log.operations
  pub few : sparse_count first.usage ≤ most → (d.usage ≡ first.usage) × (whole ≡ true)
  pub many : most < sparse_count first.usage → Evacuates first.usage d.usage (ended whole)

-- It was published, and a round was made behind that.
pub record Publishes (d : WorkingVersion) (after : Known) (r : Receipt) : Type 0 where
  -- what the turn then knew: the new version's root is that of the working set, and CUR has it
  pub published : Known
  pub publishes : Published d.seat.place.me.0 (Some d.log.operations) d.root (image_at (words_of d.seat.place.me.0.turn) d.root) published
  -- its pass has seen this, and the round behind it
  pub history : after.seen.history ≡ published.seen.history
  pub pass : after.pass ≡ published.pass
  -- the usage that the round left; how many chunks were freed, and how many versions are kept
  pub left : Ledger
  pub round : Rounds r.version d.seat.passes d.seat.place.me.0.seen.namings after.seen.namings (frozen d.usage r.version) left
  pub freed : free_count left ≡ free_count d.usage + r.freed
  pub kept : r.kept ≡ length (kept_versions left)

-- The same of a transaction with this working version, whose commit leaves so many chunks sparse.
pub record Recycles (most : ℕ) (first : WorkingVersion) (after : Known) (r : Receipt) : Type 0 where
  pub settled : WorkingVersion
  pub settles : Settles most first settled r.whole
  pub publishes : Publishes settled after r
  -- So of no more chunks than so many, beside the bump chunk, does the new version have cells, and 256 or fewer; or no chunk was free,
  -- so that those that are now free are those that were freed.
  pub whole : r.whole ≡ true → FewThin most settled.usage
  pub stopped : r.whole ≡ false → free_count settled.usage ≡ 0
  -- which isn't so where the table has room for what was published and done
  pub roomy : WhereRoomy first (r.whole ≡ true)
