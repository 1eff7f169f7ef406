-- What an operation is tried on, and what each step of its call leaves.
use Rattle.std.specs.Prelude.{◌≡◌, ℕ, ◌+◌, ◌≤◌, Bool, List, Option, Err, length}
use Rattle.atomic_table.specs.Seated.{TableId}
use Rattle.packed_node.specs.declared.Cell.{Cell}
use Rattle.trie_model.specs.Keys.{Entry}
use Rattle.chunk_usage.specs.declared.space.Shortage.{Shortage}
use Rattle.chunk_usage.specs.Handing.{Lacks, consumed}
use Rattle.chunk_usage.specs.Keeping.{kept_versions}
use Rattle.chunk_usage.specs.Ledger.{Ledger, IsLedger}
use Rattle.chunk_usage.specs.Rooms.{account_of}
use Rattle.trie_space.specs.Spaces.{Fenced, Ready}
use Rattle.trie_write.specs.declared.refusal.NotDone.{NotDone}
use Rattle.trie_write.specs.declared.refusal.NotDone.TheVariants.{Full}
use Rattle.trie_write.specs.Roots.{TwigsOnPath}
use Rattle.qp_multi.specs.declared.change.TrieChange.{TrieChange}
use Rattle.qp_multi.specs.declared.writer.WorkingVersion.{WorkingVersion}
use Rattle.qp_multi.specs.declared.kept.Versions.{Versions}
use Rattle.qp_multi.specs.declared.meaning.Operation.{Operation}
use Rattle.qp_multi.specs.Bases.{IsRooted}
use Rattle.qp_multi.specs.Bounds.{Crowds, HasRoom, IsCramped, IsCrowded, StaysSmall}
use Rattle.qp_multi.specs.Changes.{IsRefused, LeadsItem, asked_by, key_of, operation_of, written_by}
use Rattle.qp_multi.specs.WorkingVersions.{IsFull, Operates, Works}
use Rattle.qp_multi.specs.Fulls.{CausedBy, CausedFrom, full_with}
use Rattle.qp_multi.specs.Keepings.{versions_in}
use Rattle.qp_multi.specs.Operations.{operated}
use Rattle.qp_multi.specs.Rooms.{Fails, MakesRoom, SparesReserve}
use Rattle.qp_multi.specs.Tries.{Spares, Tried}

-- ---- on a trie

-- a trie stands at the root, and may be changed so
pub record CanTry {S : Type 0} (has : S → ℕ → Cell → Type 0) (kept : S → List ℕ) (given : S → List Bool) (s : S) (u : Ledger) (root : Option ℕ) (c : TrieChange) : Type 0 where
  pub rooted : (es : List Entry) × IsRooted (has s) u root es
  -- the item begins with the name of its key
  pub leads : LeadsItem c
  -- cells and usage know the same chunks as given
  pub ready : Ready kept given account_of s u

-- The new root stands for what the operation makes of what the root stood for.
abbrev pub Becomes : {S : Type 0} → (S → ℕ → Cell → Type 0) → S → Ledger → S → Ledger → Option ℕ → TrieChange → Option ℕ → Type 0
Becomes has s u s_new u_new root c new = (es : List Entry) → IsRooted (has s) u root es → IsRooted (has s_new) u_new new (operated es (operation_of c))

-- What else there is stays, whether it is changed or not.
pub record ChangesFew {S : Type 0} (has : S → ℕ → Cell → Type 0) (kept : S → List ℕ) (given : S → List Bool) (s : S) (u : Ledger) (s_new : S) (u_new : Ledger) (root : Option ℕ) (c : TrieChange) : Type 0 where
  -- beside the twigs on the key's path so many cells were consumed at most
  pub consumes : (n : ℕ) → TwigsOnPath has account_of s u root (key_of c) n → consumed u_new ≤ consumed u + (written_by c + n)
  -- none but mutable cells in use were written, and what is kept is kept
  pub frame : Fenced has kept given account_of s u s_new u_new
  pub ready : Ready kept given account_of s_new u_new

-- ---- on the working set of a working version

-- the working version is of this table
pub record IsWorkingOf (there : TableId) (d : WorkingVersion) : Type 0 where
  pub table : d.seat.place.table_id ≡ there
  -- its root stands for the working set
  pub works : Works d

-- and the operation may be tried on it
pub record CanOperate (there : TableId) (c : TrieChange) (d : WorkingVersion) : Type 0 where
  pub table : d.seat.place.table_id ≡ there
  -- its root stands for the working set
  pub works : Works d
  -- the item begins with the name of its key
  pub leads : LeadsItem c

-- a try leaves what it wasn't to change: seat, root and log are as they were
pub record IsLeft (old new : WorkingVersion) : Type 0 where
  pub table : new.seat.place.table_id ≡ old.seat.place.table_id
  pub passes : new.seat.passes ≡ old.seat.passes
  pub root : new.root ≡ old.root
  pub log : new.log.operations ≡ old.log.operations

-- A try took cells, or none.
pub record TakesFree (old new : WorkingVersion) : Type 0 where
  pub table : new.seat.place.table_id ≡ old.seat.place.table_id
  -- no chunk of the reserve was taken for them
  pub spares : Spares old.usage new.usage
  pub ledger : IsLedger new.usage
  -- so what a transaction keeps of the table's room is kept
  pub room : HasRoom old → HasRoom new

-- It did nothing.
pub record IsUndone (c : TrieChange) (old new : WorkingVersion) (why : NotDone) : Type 0 where
  pub tried : Tried c old.root old.seat.place.me.0 old.usage new.seat.place.me.0 new.usage (Err why)
  pub root : new.root ≡ old.root
  -- where it found no room, the usage refuses what was asked for
  pub full : (f : Shortage) → why ≡ Full f → Lacks new.usage f
  pub fails : (f : Shortage) → why ≡ Full f → Fails old new
  -- and the table hadn't room for what was published and done
  pub cramped : HasRoom old → (f : Shortage) → why ≡ Full f → IsCramped old

-- ---- when room was made

-- Room was made, and the operation was tried on what that left.
pub record TriesAtLast (old new : WorkingVersion) : Type 0 where
  pub table : new.seat.place.table_id ≡ old.seat.place.table_id
  -- no chunk of the reserve was taken for the try
  pub room : (left : WorkingVersion) × MakesRoom old left × Spares left.usage new.usage
  -- of a small working set few chunks are met
  pub small : StaysSmall old new.usage

-- these versions are kept
abbrev pub AreKept : WorkingVersion → Versions → Type 0
AreKept d kept = versions_in kept ≡ kept_versions d.usage

-- The last try found no room.
pub record IsFullAtLast (c : TrieChange) (old d : WorkingVersion) (f : Shortage) : Type 0 where
  pub full : (kept : Versions) → AreKept d kept → IsFull d (full_with f kept)
  pub cause : (kept : Versions) → AreKept d kept → CausedBy old d (key_of c) (written_by c) (asked_by c) (full_with f kept)
  -- a small working set and few kept versions meet as many chunks as there are but for the reserve
  pub crowded : Crowds old d (key_of c) (written_by c)

-- A call found no room.
pub record FindsNoRoom (c : TrieChange) (old d : WorkingVersion) (f : Shortage) : Type 0 where
  pub full : (kept : Versions) → AreKept d kept → IsFull d (full_with f kept)
  -- its first try had found none either, and room was made before the last
  pub cause : (kept : Versions) → AreKept d kept → CausedFrom old d (key_of c) (written_by c) (asked_by c) (full_with f kept)
  -- the table hasn't room for what was published and done
  pub cramped : HasRoom old → IsCramped old
  -- small sets meet as many chunks as there are but for the reserve
  pub crowded : HasRoom old → (kept : Versions) → AreKept d kept → IsCrowded d (key_of c) (written_by c) (length (versions_in kept))

-- A call was to do the operation, and did it or not.
pub record Does (o : Operation) (denied : List Entry → Type 0) (old new : WorkingVersion) (is_done is_denied : Type 0) : Type 0 where
  pub operates : Operates o denied old new is_done is_denied
  -- its last try took no chunk of the reserve
  pub spares : SparesReserve old new

-- the same of a call's operation, which is refused where its name is, or isn't, there
abbrev pub DoesChange : TrieChange → Type 0 → Type 0 → WorkingVersion → WorkingVersion → Type 0
DoesChange c is_done is_denied old new = Does (operation_of c) (IsRefused c) old new is_done is_denied
