-- What cells, and the space that hands them out, know together, and what a call leaves of it.
use Rattle.std.specs.Prelude.{◌≡◌, ◌⊎◌, ℕ, ◌+◌, ◌/◌, ◌<◌, Bool, true, false, List, Contains}
use Rattle.packed_node.specs.declared.Cell.{Cell}
use Rattle.chunk_cells.specs.Chunks.{IsGiven}
use Rattle.chunk_usage.specs.declared.space.Shortage.{Shortage}
use Rattle.chunk_usage.specs.Rooms.{Account, OpensFree, Grows}

-- both know the same given chunks; what is kept is in use, and immutable
pub record Ready {S A : Type 0} (kept : S → List ℕ) (given : S → List Bool) (account : A → Account) (s : S) (a : A) : Type 0 where
  pub same : given s ≡ (account a).given
  pub in_use : (q : ℕ) → Contains (kept s) q → (account a).used q ≡ true
  pub settled : (q : ℕ) → Contains (kept s) q → (account a).mutable q ≡ false

-- A call that leaves what is there: cells in use stay as they are and in use, and immutable cells as they are, in use or not.
-- What is kept is kept, and given chunks stay given; one that becomes the bump chunk was not given. No chunk of the reserve is taken.
pub record Frame {S A : Type 0} (has : S → ℕ → Cell → Type 0) (kept : S → List ℕ) (given : S → List Bool) (account : A → Account) (s : S) (a : A) (s_new : S) (a_new : A) : Type 0 where
  pub stays : (q : ℕ) (c : Cell) → (account a).used q ≡ true → has s q c → has s_new q c
  pub frozen : (q : ℕ) (c : Cell) → (account a_new).mutable q ≡ false → has s q c → has s_new q c
  pub keeps : kept s_new ≡ kept s
  pub given_stays : (k : ℕ) → IsGiven (given s) k → IsGiven (given s_new) k
  pub opens : OpensFree (given s) (account a).opened (account a_new).opened
  pub grows : Grows (account a).used (account a_new).used (account a).mutable (account a_new).mutable
  pub spares : (account a_new).reserved ≡ (account a).reserved
  pub last : (account a_new).frozen ≡ (account a).frozen
  -- a chunk with a cell that counts had one before, was the bump chunk, or wasn't given
  pub meets : (k : ℕ) → 0 < (account a_new).live k → (0 < (account a).live k) ⊎ (((account a).opened k ≡ true) ⊎ (IsGiven (given s) k → ⊥))

-- A call that may write cells in use: the same, but for mutable ones.
pub record Fenced {S A : Type 0} (has : S → ℕ → Cell → Type 0) (kept : S → List ℕ) (given : S → List Bool) (account : A → Account) (s : S) (a : A) (s_new : S) (a_new : A) : Type 0 where
  pub frozen : (q : ℕ) (c : Cell) → (account a_new).mutable q ≡ false → has s q c → has s_new q c
  pub keeps : kept s_new ≡ kept s
  pub given_stays : (k : ℕ) → IsGiven (given s) k → IsGiven (given s_new) k
  pub opens : OpensFree (given s) (account a).opened (account a_new).opened
  pub grows : Grows (account a).used (account a_new).used (account a).mutable (account a_new).mutable
  pub spares : (account a_new).reserved ≡ (account a).reserved
  pub last : (account a_new).frozen ≡ (account a).frozen
  -- a chunk with a cell that counts had one before, was the bump chunk, or wasn't given
  pub meets : (k : ℕ) → 0 < (account a_new).live k → (0 < (account a).live k) ⊎ (((account a).opened k ≡ true) ⊎ (IsGiven (given s) k → ⊥))

-- A call that changes nothing: cells in use are as they were, and so are the counts.
pub record Unchanged {S A : Type 0} (has : S → ℕ → Cell → Type 0) (account : A → Account) (s : S) (a : A) (s_new : S) (a_new : A) : Type 0 where
  pub untouched : (q : ℕ) (c : Cell) → (account a).used q ≡ true → has s q c → has s_new q c
  pub counts : (k : ℕ) → (account a_new).live k ≡ (account a).live k

-- and that found no room. The numbers say why.
pub record Refused {S A : Type 0} (has : S → ℕ → Cell → Type 0) (account : A → Account) (lacks : A → Shortage → Type 0) (s : S) (a : A) (s_new : S) (a_new : A) (f : Shortage) : Type 0 where
  pub untouched : (q : ℕ) (c : Cell) → (account a).used q ≡ true → has s q c → has s_new q c
  pub counts : (k : ℕ) → (account a_new).live k ≡ (account a).live k
  pub lack : lacks a_new f

-- n cells side by side that may be written
pub record MayWrite {S : Type 0} (kept : S → List ℕ) (given : S → List Bool) (s : S) (first n : ℕ) : Type 0 where
  pub in_given : (i : ℕ) → i < n → IsGiven (given s) ((first + i) / 1024)
  pub unkept : (i : ℕ) → i < n → Contains (kept s) (first + i) → ⊥

-- none but these are written
pub record Wrote {S : Type 0} (has : S → ℕ → Cell → Type 0) (kept : S → List ℕ) (given : S → List Bool) (s s_new : S) (first n : ℕ) : Type 0 where
  pub others : (q : ℕ) (c : Cell) → ((i : ℕ) → i < n → q ≡ first + i → ⊥) → has s q c → has s_new q c
  pub same_given : given s_new ≡ given s
  pub same_kept : kept s_new ≡ kept s

-- a cell in use that may be written
pub record IsWritable {S A : Type 0} (given : S → List Bool) (account : A → Account) (s : S) (a : A) (q : ℕ) : Type 0 where
  pub in_use : (account a).used q ≡ true
  pub mutable : (account a).mutable q ≡ true
  pub in_given : IsGiven (given s) (q / 1024)
