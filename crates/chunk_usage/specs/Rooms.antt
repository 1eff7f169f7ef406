-- Cells that are handed out, and what stays as it is while they are.
use Rattle.std.specs.Prelude.{◌≡◌, ◌⊎◌, ℕ, ◌+◌, ◌/◌, ◌<◌, ◌≤◌, Bool, true, false, List, Option, Some, None, slice_set, slice_index}
use Rattle.trie_model.specs.Extents.{IsRow, row}
use Rattle.trie_model.specs.Reach.{in_chunk}
use Rattle.chunk_cells.specs.Chunks.{IsGiven, IsFree}
use Rattle.chunk_usage.specs.declared.space.Grant.{Grant}
use Rattle.chunk_usage.specs.declared.space.Shortage.{Shortage}
use Rattle.chunk_usage.specs.Ledger.{Ledger, Frozen, is_bump, is_used, is_mutable, frozen_part, reserved}
use Rattle.chunk_usage.specs.Handing.{consumed}

-- What a space that hands out cells knows of them.
pub record Account : Type 0 where
  -- the cell has been handed out: its chunk is given, and if it is the bump chunk, it lies before the next free cell
  pub used : ℕ → Bool
  -- no version that was frozen has the cell, so it may be written
  pub mutable : ℕ → Bool
  -- of each chunk, whether it is given
  pub given : List Bool
  -- the chunk is the bump chunk
  pub opened : ℕ → Bool
  -- how many cells of a chunk count
  pub live : ℕ → ℕ
  -- `filled_cells` for each given chunk but the bump chunk, and of that one what is handed out, at most so many. For a chunk is left for another
  -- only where fewer than 256 of its cells are left, so n cells raise it by no more than n.
  pub consumed : ℕ
  -- how many of the chunks that are kept free are free. Cells are handed out of no such chunk, so it stays as it is
  pub reserved : ℕ
  -- what was kept at freezes
  pub frozen : Frozen

-- what a ledger tells; and what it tells who may take the reserve, for whom no chunk is kept free
abbrev pub account_of : Ledger → Account
account_of l = record {
  used = is_used l;
  mutable = is_mutable l;
  given = l.given;
  opened = is_bump l.bump;
  live = slice_index l.live;
  consumed = consumed l;
  reserved = reserved l;
  frozen = frozen_part l;
}

abbrev pub reserve_account_of : Ledger → Account
reserve_account_of l = record (account_of l) { reserved = 0 }

-- n cells of one given chunk that were not in use and now are, that may be written, and that count
pub record Handed (old new : Account) (first n : ℕ) : Type 0 where
  pub twigs : IsRow first n
  pub unused : (i : ℕ) → i < n → old.used (first + i) ≡ false
  pub taken : (i : ℕ) → i < n → new.used (first + i) ≡ true
  pub writable : (i : ℕ) → i < n → new.mutable (first + i) ≡ true
  pub in_given : IsGiven new.given (first / 1024)
  pub counts : (k : ℕ) → new.live k ≡ old.live k + row (in_chunk k) first n

-- what becomes of the given chunks where a chunk is handed out with the cells, or none is
abbrev pub GivesChunk : List Bool → List Bool → Option ℕ → Type 0
GivesChunk given new None = new ≡ given
GivesChunk given new (Some chunk) = IsFree given chunk × (new ≡ slice_set given chunk true)

-- what is in use stays so, and so does whether it is mutable
pub record Grows (used new mutable mutable_new : ℕ → Bool) : Type 0 where
  pub stays : (q : ℕ) → used q ≡ true → new q ≡ true
  pub settled : (q : ℕ) → used q ≡ true → mutable_new q ≡ mutable q
  pub fresher : (q : ℕ) → mutable q ≡ true → mutable_new q ≡ true

-- a chunk that becomes the bump chunk was not given
abbrev pub OpensFree : List Bool → (ℕ → Bool) → (ℕ → Bool) → Type 0
OpensFree given opened new = (k : ℕ) → new k ≡ true → (opened k ≡ true) ⊎ (IsGiven given k → ⊥)

-- a chunk with a cell that counts had one before, was the bump chunk, or wasn't given
abbrev pub Meets : Account → Account → Type 0
Meets old new = (k : ℕ) → 0 < new.live k → (0 < old.live k) ⊎ ((old.opened k ≡ true) ⊎ (IsGiven old.given k → ⊥))

-- ---- what a call that hands out n cells comes to

-- they are handed out, and the chunk that was taken for them is given
pub record Grants (old new : Account) (n : ℕ) (g : Grant) : Type 0 where
  pub handed : Handed old new g.at n
  pub gives : GivesChunk old.given new.given g.given

-- however it goes
pub record Leaves (old new : Account) (n : ℕ) : Type 0 where
  -- a chunk that becomes the bump chunk was not given
  pub opens : OpensFree old.given old.opened new.opened
  -- a chunk with a cell that counts had one before, was the bump chunk, or wasn't given
  pub meets : Meets old new
  -- what is in use stays so
  pub grows : Grows old.used new.used old.mutable new.mutable
  -- n cells are consumed at most
  pub consumes : new.consumed ≤ old.consumed + n
  -- where a chunk is given, more are free than are kept free
  pub spares : new.reserved ≡ old.reserved
  -- what was kept at freezes is kept
  pub frozen : new.frozen ≡ old.frozen

-- There is no room.
pub record Refuses {A : Type 0} (lacks : A → Shortage → Type 0) (a a_new : A) (n : ℕ) (f : Shortage) : Type 0 where
  -- the numbers say why
  pub full : lacks a_new f
  pub needed : f.needed ≡ n
  -- nothing is changed
  pub same : a_new ≡ a
