-- What any step of a change asks for, takes and leaves, over cells and the space that hands them out.
use Rattle.std.specs.Prelude.{◌≡◌, ℕ, ◌+◌, ◌-◌, ◌^◌, ◌<◌, ◌≤◌, Bool, true, List}
use Rattle.packed_node.specs.declared.Cell.{Cell}
use Rattle.trie_model.specs.Reach.{in_chunk}
use Rattle.chunk_usage.specs.declared.space.Shortage.{Shortage}
use Rattle.chunk_usage.specs.Rooms.{Account, Handed}
use Rattle.trie_write.specs.declared.change.Span.{Span}
use Rattle.trie_space.specs.Spaces.{Frame, MayWrite, Ready, Refused}

-- ---- what a step leaves

-- none but new cells were written
pub record OnlyAdds {S A : Type 0} (has : S → ℕ → Cell → Type 0) (kept : S → List ℕ) (given : S → List Bool) (account : A → Account) (s : S) (a : A) (s_new : S) (a_new : A) : Type 0 where
  -- cells in use are as they were, and what is kept is kept
  pub frame : Frame has kept given account s a s_new a_new
  -- cells and space know the same chunks as given, so the next step may follow
  pub ready : Ready kept given account s_new a_new

-- none but new cells were written, and n were consumed at most
pub record TakesCells {S A : Type 0} (has : S → ℕ → Cell → Type 0) (kept : S → List ℕ) (given : S → List Bool) (account : A → Account) (s : S) (a : A) (s_new : S) (a_new : A) (n : ℕ) : Type 0 where
  pub consumes : (account a_new).consumed ≤ (account a).consumed + n
  -- cells in use are as they were, and what is kept is kept
  pub frame : Frame has kept given account s a s_new a_new
  -- cells and space know the same chunks as given, so the next step may follow
  pub ready : Ready kept given account s_new a_new

-- There was no room.
pub record LacksRoom {S A : Type 0} (has : S → ℕ → Cell → Type 0) (account : A → Account) (lacks : A → Shortage → Type 0) (s : S) (a : A) (s_new : S) (a_new : A) (may_be_asked : ℕ → Type 0) (f : Shortage) : Type 0 where
  -- what is in use is as it was, the same cells count, and the numbers say why
  pub refused : Refused has account lacks s a s_new a_new f
  -- so many cells side by side were asked for
  pub asked : may_be_asked f.needed

-- Cells of this weight count no more.
pub record Releases {A : Type 0} (account : A → Account) (lacks : A → Shortage → Type 0) (weight : (ℕ → ℕ) → ℕ) (a a_new : A) : Type 0 where
  pub counts : (k : ℕ) → (account a_new).live k + weight (in_chunk k) ≡ (account a).live k
  -- nothing else is changed
  pub rest : account a_new ≡ record (account a) { live = (account a_new).live }
  -- numbers that say why there is no room still do
  pub lack : (f : Shortage) → lacks a f → lacks a_new f

-- ---- cells side by side

-- n of them may be asked for
pub record CanAsk {S A : Type 0} (kept : S → List ℕ) (given : S → List Bool) (account : A → Account) (s : S) (a : A) (n : ℕ) : Type 0 where
  pub some : 0 < n
  -- as many as a row of twigs, or an extent, may have
  pub few : n ≤ 256
  pub ready : Ready kept given account s a

-- n new ones begin here
pub record IsRoom {S A : Type 0} (kept : S → List ℕ) (given : S → List Bool) (account : A → Account) (a : A) (s_new : S) (a_new : A) (at n : ℕ) : Type 0 where
  -- they weren't in use, and now are
  pub handed : Handed (account a) (account a_new) at n
  -- they may be written
  pub blank : MayWrite kept given s_new at n

-- some may be copied but for a few, with a gap there
pub record CanCopyApart {S A : Type 0} (has : S → ℕ → Cell → Type 0) (kept : S → List ℕ) (given : S → List Bool) (account : A → Account) (s : S) (a : A) (from : Span) (first skip gap : ℕ) : Type 0 where
  -- those that are left out are among them
  pub index : first + skip ≤ from.n
  -- the copies and the gap may be asked for
  pub some : 0 < from.n - skip + gap
  pub few : from.n - skip + gap ≤ 256
  pub inside : from.at + from.n ≤ 2 ^ 22
  -- each says something, and is in use
  pub there : (i : ℕ) → i < from.n → (c : Cell) × has s (from.at + i) c
  pub in_use : (i : ℕ) → i < from.n → (account a).used (from.at + i) ≡ true
  pub ready : Ready kept given account s a

-- the copies begin here
pub record IsCopiedApart {S A : Type 0} (has : S → ℕ → Cell → Type 0) (kept : S → List ℕ) (given : S → List Bool) (account : A → Account) (s : S) (a : A) (s_new : S) (a_new : A) (from : Span) (index skip gap to : ℕ) : Type 0 where
  -- they and the gap weren't in use, and now are
  pub handed : Handed (account a) (account a_new) to (from.n - skip + gap)
  -- they may be written
  pub blank : MayWrite kept given s_new to (from.n - skip + gap)
  -- those before the gap say what the first ones said, and those after it what the last ones did
  pub before : (i : ℕ) (c : Cell) → i < index → has s (from.at + i) c → has s_new (to + i) c
  pub after : (i : ℕ) (c : Cell) → index + skip + i < from.n → has s (from.at + (index + skip + i)) c → has s_new (to + (index + gap + i)) c
