-- What a transaction has: its base, and roots that stand for versions in the turn's cells.
use Rattle.std.specs.Prelude.{◌≡◌, ℕ, List, Option, Some, All, slice_index}
use Rattle.packed_node.specs.declared.Cell.{Cell}
use Rattle.zone_model.specs.Keys.{Leads}
use Rattle.trie_model.specs.Keys.{Entry}
use Rattle.chunk_usage.specs.Ledger.{Ledger, is_used}
use Rattle.trie_read.specs.Reads.{EachTells}
use Rattle.trie_space.specs.Standing.{Standing}
use Rattle.shared_cells.specs.declared.view.Entry.{Entry as Commit}
use Rattle.shared_cells.specs.declared.view.PassView.{PassView}
use Rattle.shared_cells.specs.History.{StartsWith, IsPartOf, entries_by, version_after}
use Rattle.shared_cells.specs.Cells.{HasCell}
use Rattle.qp_multi.specs.declared.meaning.Operation.{Operation}
use Rattle.qp_multi.specs.Operations.{applied, AreWithin}
use Rattle.qp_multi.specs.Passes.{Known, first_version, version_seen}
use Rattle.qp_multi.specs.Turns.{cells_with}

-- The root stands for these entries, in cells that are in use and that count, and each item tells its key.
pub record IsRooted (has : ℕ → Cell → Type 0) (u : Ledger) (root : Option ℕ) (es : List Entry) : Type 0 where
  pub stands : Standing has (is_used u) (λ k. slice_index u.live k) root es
  pub tells : EachTells Leads es

-- the same in the cells of who has the turn
abbrev pub StandsFor : Known → Ledger → Option ℕ → List Entry → Type 0
StandsFor v u root es = IsRooted (HasCell (cells_with u v.turn)) u root es

-- A pass has joined the turn. What it had seen is a beginning of what the turn has, and of its commits the history has those
-- that it made and no others. The base is lawful, and so is each version before it.
pub record Joined (lawful : List Entry → List Entry → Type 0) (before now : Known) : Type 0 where
  pub pass : now.pass ≡ before.pass
  pub grows : IsPartOf now.seen before.seen
  pub commits : (own : PassView (List Operation)) → now.pass ≡ Some own → own.entries ≡ entries_by own.number now.seen.history
  pub good : lawful (first_version now.seen) (version_seen now.seen)
  pub versions : (part : List (Commit (List Operation))) → StartsWith now.seen.history part → lawful (first_version now.seen) (version_after applied (first_version now.seen) part)

-- each commit that was seen has no more operations than the most, where there is one
abbrev pub CommitsAreWithin : Option ℕ → Known → Type 0
CommitsAreWithin most v = All (λ c. AreWithin most c.change) v.seen.history
