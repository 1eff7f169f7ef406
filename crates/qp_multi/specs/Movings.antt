-- What lies in sparse chunks, moved: on the turn's cells, from a root.
use Rattle.std.specs.Prelude.{◌≡◌, ℕ, ◌+◌, ◌/◌, ◌≤◌, nat_lt, Bool, ◌&&◌, List, length, count_by, Option, slice_index}
use Rattle.std.specs.List.{range_with_len}
use Rattle.trie_model.specs.Keys.{Entry}
use Rattle.trie_model.specs.Shape.{cells}
use Rattle.trie_model.specs.Capacity.{filled_cells}
use Rattle.chunk_usage.specs.Ledger.{Ledger, IsLedger, free_count}
use Rattle.chunk_usage.specs.Counting.{is_sparse}
use Rattle.evacuate.specs.declared.evacuation.EvacuationEnd.{EvacuationEnd}
use Rattle.evacuate.specs.declared.evacuation.EvacuationEnd.TheVariants.{Whole, Stopped}
use Rattle.evacuate.specs.Evacuations.{FillsNew, IsCleared, IsDense, HasSparse, refused}
use Rattle.evacuate.specs.Fillings.{IsUsedUp}
use Rattle.shared_cells.specs.Views.{words_of}
use Rattle.shared_cells.specs.Cells.{with_words}
use Rattle.qp_multi.specs.Passes.{Known}
use Rattle.qp_multi.specs.Bases.{StandsFor}
use Rattle.qp_multi.specs.Tries.{Grown}

-- What lay in sparse chunks was moved, to chunks that were free, which it fills; where nothing did, nothing was done.
pub record Evacuates (u n : Ledger) (done : EvacuationEnd) : Type 0 where
  pub ledger : IsLedger n
  pub grown : Grown u n
  pub fills : FillsNew u n
  pub none : IsCleared u → n ≡ u
  -- of each chunk that has cells that count, but the bump chunk, over 256 do; or no chunk was free for what is left in sparse ones
  pub whole : done ≡ Whole → IsDense n
  pub stopped : done ≡ Stopped → IsUsedUp n × HasSparse n

-- The new root stands for what the root stood for. What the turn knows is the same but for the words.
pub record Moved (root : Option ℕ) (v : Known) (u : Ledger) (w : Known) (n : Ledger) (new : Option ℕ) (done : EvacuationEnd) : Type 0 where
  pub stands : (es : List Entry) → StandsFor v u root es → StandsFor w n new es
  pub same : w ≡ with_words v (words_of w.turn)
  pub evacuates : Evacuates u n done
  -- a chunk was asked for, or taken, for each `filled_cells` at most, and one more
  pub asks : (es : List Entry) → StandsFor v u root es → free_count u + refused done ≤ free_count n + (cells es / filled_cells + 1)

-- cells of the chunk count, but few of them do
abbrev pub is_thin : Ledger → ℕ → Bool
is_thin u k = is_sparse u k && nat_lt 0 (slice_index u.live k)

-- at most so many chunks, beside the bump chunk, have cells that count and no more than 256 of them
abbrev pub FewThin : ℕ → Ledger → Type 0
FewThin most u = count_by (is_thin u) (range_with_len 0 (length u.given)) ≤ most
