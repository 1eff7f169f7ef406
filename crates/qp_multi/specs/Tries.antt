-- An operation tried: on the turn's cells, from a root.
use Rattle.std.specs.Prelude.{◌≡◌, ◌↔◌, ◌⊎◌, ℕ, ◌+◌, ◌<◌, ◌≤◌, true, false, List, Contains, length, Option, Result, Err, IfOk, IfErr, slice_index}
use Rattle.trie_model.specs.Keys.{Entry}
use Rattle.chunk_usage.specs.declared.space.Shortage.{Shortage}
use Rattle.chunk_usage.specs.Ledger.{Ledger, is_bump, is_used, is_given, frozen_part, reserved}
use Rattle.chunk_usage.specs.Handing.{Lacks, consumed}
use Rattle.trie_write.specs.Roots.{OnPath, OnBranches}
use Rattle.shared_cells.specs.Views.{words_of}
use Rattle.shared_cells.specs.Cells.{HasCell, with_words}
use Rattle.qp_multi.specs.declared.change.TrieChange.{TrieChange}
use Rattle.trie_write.specs.declared.refusal.NotDone.{NotDone}
use Rattle.trie_write.specs.declared.refusal.NotDone.TheVariants.{Refused, Full}
use Rattle.qp_multi.specs.Operations.{operated}
use Rattle.qp_multi.specs.Passes.{Known}
use Rattle.qp_multi.specs.Turns.{cells_with}
use Rattle.qp_multi.specs.Bases.{StandsFor}
use Rattle.qp_multi.specs.Changes.{operation_of, key_of, written_by, asked_by, IsRefused}

-- how many twigs there are on the path of a key
abbrev pub PathHas : Known → Ledger → Option ℕ → List ℕ → ℕ → Type 0
PathHas v u root key n = OnPath (HasCell (cells_with u v.turn)) (is_used u) (λ k. slice_index u.live k) root key n

-- and how many each branch there has
abbrev pub PathHasEach : Known → Ledger → Option ℕ → List ℕ → List ℕ → Type 0
PathHasEach v u root key branches = OnBranches (HasCell (cells_with u v.turn)) (is_used u) (λ k. slice_index u.live k) root key branches

-- Cells were handed out: allocated chunks stay so, what was frozen stays, and a chunk that became the bump chunk was free.
pub record Grown (old new : Ledger) : Type 0 where
  pub wide : length new.given ≡ length old.given
  pub frozen : frozen_part new ≡ frozen_part old
  pub given : (k : ℕ) → is_given old k ≡ true → is_given new k ≡ true
  pub opens : (k : ℕ) → is_bump new.bump k ≡ true → (is_bump old.bump k ≡ true) ⊎ (is_given old k ≡ false)
  -- a chunk with a cell that counts had one before, was the bump chunk, or was free
  pub meets : (k : ℕ) → 0 < slice_index new.live k → (0 < slice_index old.live k) ⊎ ((is_bump old.bump k ≡ true) ⊎ (is_given old k ≡ false))

-- and no chunk of the reserve was taken for them
pub record Spares (old new : Ledger) : Type 0 where
  pub grown : Grown old new
  pub reserve : reserved new ≡ reserved old

-- The new root stands for what the operation makes of the version; where there is none, the root stands for what it did.
pub record Tried (c : TrieChange) (root : Option ℕ) (v : Known) (u : Ledger) (w : Known) (n : Ledger) (r : Result (Option ℕ) NotDone) : Type 0 where
  pub done : IfOk r (λ new. (es : List Entry) → StandsFor v u root es → StandsFor w n new (operated es (operation_of c)))
  pub refused : (es : List Entry) → StandsFor v u root es → (r ≡ Err Refused) ↔ IsRefused c es
  -- then no cell was handed out
  pub denied : r ≡ Err Refused → n ≡ u
  pub stays : IfErr r (λ _. (es : List Entry) → StandsFor v u root es → StandsFor w n root es)
  pub full : (f : Shortage) → r ≡ Err (Full f) → Lacks n f
  pub asked : (f : Shortage) → r ≡ Err (Full f) → (branches : List ℕ) → PathHasEach v u root (key_of c) branches → Contains (asked_by c branches) f.needed
  -- what the turn knows is the same but for the words
  pub same : w ≡ with_words v (words_of w.turn)
  pub spares : Spares u n
  -- without a new root the counts are as before
  pub counts : IfErr r (λ _. (k : ℕ) → slice_index n.live k ≡ slice_index u.live k)
  pub path : IfErr r (λ _. (twigs : ℕ) → PathHas v u root (key_of c) twigs → PathHas w n root (key_of c) twigs)
  pub branches : IfErr r (λ _. (branches : List ℕ) → PathHasEach v u root (key_of c) branches → PathHasEach w n root (key_of c) branches)
  pub consumes : (twigs : ℕ) → PathHas v u root (key_of c) twigs → consumed n ≤ consumed u + (written_by c + twigs)
