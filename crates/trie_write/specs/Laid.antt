-- The cells of an item that is put in, extent by extent.
use Rattle.std.specs.Prelude.{◌≡◌, ℕ, ◌+◌, ◌-◌, ◌*◌, ◌/◌, ◌<◌, ◌≤◌, Bool, true, false, List, ◌∷◌, length, replicate}
use Rattle.packed_node.specs.declared.Cell.{Cell}
use Rattle.trie_model.specs.Extents.{Extents, linked_cells, content_cells, links, AreExtents, AreApart, EachCell, WithinExtents, ItemLies, weigh_extents}
use Rattle.trie_model.specs.Extents.Extents.{last}
use Rattle.trie_model.specs.Reach.{in_chunk}
use Rattle.chunk_cells.specs.Chunks.{IsGiven}
use Rattle.chunk_cells.specs.Laying.{extents_in}
use Rattle.chunk_cells.specs.declared.extents.Extents.{Extents as Laid}
use Rattle.chunk_usage.specs.Rooms.{Account}
use Rattle.trie_space.specs.Spaces.{Ready}

-- cells for n octets that were not in use and now are, no cell twice, that may be written, and that count
pub record HandedItem (old new : Account) (n : ℕ) (x : Extents) : Type 0 where
  pub are : AreExtents n x
  pub apart : AreApart n x
  pub unused : EachCell (λ q. old.used q ≡ false) n x
  pub taken : WithinExtents new.used n x
  pub writable : EachCell (λ q. new.mutable q ≡ true) n x
  pub in_given : EachCell (λ q. IsGiven new.given (q / 1024)) n x
  pub counts : (k : ℕ) → new.live k ≡ old.live k + weigh_extents (in_chunk k) n x

-- how many cells each extent of n octets has, that of the last one first
abbrev pub extent_sizes : ℕ → List ℕ
extent_sizes n = content_cells (n - 4080 * links n) ∷ replicate (links n) linked_cells

-- the item of n octets lies in these extents; that of none in no cells
pub record IsItemAt (l : Laid) (n : ℕ) (x : Extents) : Type 0 where
  pub len : l.len ≡ n
  pub there : extents_in l ≡ x

abbrev pub IsNoItem : Laid → Type 0
IsNoItem l = IsItemAt l 0 (last 0)

-- the item lies in cells in use
pub record IsLaid {S A : Type 0} (has : S → ℕ → Cell → Type 0) (account : A → Account) (s : S) (a : A) (x : Laid) (item : List ℕ) : Type 0 where
  pub len : x.len ≡ length item
  pub are : AreExtents (length item) (extents_in x)
  pub lies : ItemLies (has s) (extents_in x) item
  pub in_use : WithinExtents (account a).used (length item) (extents_in x)

-- ---- room for an item

-- an item of n octets may be put into new cells
pub record CanLay {S A : Type 0} (kept : S → List ℕ) (given : S → List Bool) (account : A → Account) (s : S) (a : A) (n : ℕ) : Type 0 where
  pub some : 0 < n
  pub short : n ≤ 65535
  pub ready : Ready kept given account s a

-- it lies in new cells
pub record IsLaidAnew {S A : Type 0} (has : S → ℕ → Cell → Type 0) (account : A → Account) (a : A) (s_new : S) (a_new : A) (item : List ℕ) (x : Laid) : Type 0 where
  pub len : x.len ≡ length item
  -- they weren't in use, and now are
  pub handed : HandedItem (account a) (account a_new) (length item) (extents_in x)
  -- and hold its octets
  pub lies : ItemLies (has s_new) (extents_in x) item

-- cells for n octets may be asked for, in extents whose places are written to so many
pub record CanPlace {S A : Type 0} (kept : S → List ℕ) (given : S → List Bool) (account : A → Account) (s : S) (a : A) (n places : ℕ) : Type 0 where
  pub some : 0 < n
  pub enough : links n < places
  pub ready : Ready kept given account s a
