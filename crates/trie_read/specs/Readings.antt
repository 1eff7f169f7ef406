-- What the calls of one version give.
use Rattle.std.specs.Prelude.{◌≡◌, ℕ, suc, List, [], ◌∷◌, ◌++◌, length, take, Option, Some, None}
use Rattle.packed_node.specs.declared.Cell.{Cell}
use Rattle.packed_node.specs.declared.Leaf.{Leaf}
use Rattle.zone_model.specs.Keys.{Leads}
use Rattle.shift_key.specs.Differences.{IsDifference}
use Rattle.shift_key.specs.declared.difference.Difference.{Difference}
use Rattle.trie_model.specs.Keys.{Same, Entry, InList}
use Rattle.trie_model.specs.Memory.{Stands}
use Rattle.trie_model.specs.Order.{IsThere, IsSplitAt}
use Rattle.trie_read.specs.Reads.{EachTells}
use Rattle.trie_read.specs.declared.iter.Met.{Met}

-- there are entries that are held
abbrev pub IsHeld : (List Entry → Type 0) → Type 0
IsHeld holds = (version : List Entry) × holds version

-- what can be read from a root in a memory: a trie of these entries, whose items tell their keys
abbrev pub Told : (ℕ → Cell → Type 0) → Option ℕ → List Entry → Type 0
Told has root version = Stands has root version × EachTells Leads version

-- whichever it is, this holds of it
abbrev pub Whichever : (ℕ → Cell → Type 0) → Option ℕ → (List Entry → Type 0) → Type 0
Whichever has root holds = (version : List Entry) → Stands has root version → EachTells Leads version → holds version

-- an iterator stands somewhere
abbrev pub IsStanding : (List Entry → List Entry → Type 0) → Type 0
IsStanding stands = (before : List Entry) × ((after : List Entry) × stands before after)

-- wherever it stands, this holds of the entries before it and after it
abbrev pub Everywhere : (List Entry → List Entry → Type 0) → (List Entry → List Entry → Type 0) → Type 0
Everywhere stands holds = (before after : List Entry) → stands before after → holds before after

-- of the whole version this holds
abbrev pub OfVersion : (List Entry → List Entry → Type 0) → (List Entry → Type 0) → Type 0
OfVersion stands holds = (before after : List Entry) → stands before after → holds (before ++ after)

-- the next entry is told of; the previous one is
abbrev pub TellsNext : (List Entry → List Entry → Type 0) → (Entry → Type 0) → Type 0
TellsNext stands told = (before after : List Entry) (e : Entry) → stands before (e ∷ after) → told e

abbrev pub TellsLast : (List Entry → List Entry → Type 0) → (Entry → Type 0) → Type 0
TellsLast stands told = (before after : List Entry) (e : Entry) → stands (before ++ e ∷ []) after → told e

-- A step of an iterator to the next entry, of which something is told.
pub record GoesNext (stands stands_new : List Entry → List Entry → Type 0) (told : Entry → Type 0) (none : Type 0) : Type 0 where
  -- where there is one it is told of, and the iterator stands right after it
  pub next : (before after : List Entry) (e : Entry) → stands before (e ∷ after) → told e
  pub passed : (before after : List Entry) (e : Entry) → stands before (e ∷ after) → stands_new (before ++ e ∷ []) after
  -- at the end nothing is told, and the iterator stays
  pub end : (before : List Entry) → stands before [] → none
  pub stays : (before : List Entry) → stands before [] → stands_new before []

-- A step to the previous one.
pub record GoesBack (stands stands_new : List Entry → List Entry → Type 0) (told : Entry → Type 0) (none : Type 0) : Type 0 where
  -- where there is one it is told of, and the iterator stands right before it
  pub prev : (before after : List Entry) (e : Entry) → stands (before ++ e ∷ []) after → told e
  pub passed : (before after : List Entry) (e : Entry) → stands (before ++ e ∷ []) after → stands_new before (e ∷ after)
  -- at the beginning nothing is told, and the iterator stays
  pub beginning : (after : List Entry) → stands [] after → none
  pub stays : (after : List Entry) → stands [] after → stands_new [] after

-- it stands where the key splits the version
pub record AtSplit (stands : List Entry → List Entry → Type 0) (key : List ℕ) (version : List Entry) : Type 0 where
  pub before : List Entry
  pub after : List Entry
  pub split : IsSplitAt key version before after
  pub standing : stands before after

-- the item of the key lies in front; without one nothing was written
abbrev pub Fetched : List ℕ → List Entry → List ℕ → List ℕ → Option ℕ → Type 0
Fetched key version old new None = (¬ IsThere key version) × (new ≡ old)
Fetched key version old new (Some len) = (e : Entry) × InList e version × (e.key ≡ key) × (len ≡ length e.item) × (take len new ≡ e.item)

-- the leaf of an entry, where the entry's key first differs from the key, and that no entry has more positions in common with the key
pub record IsNearest (lies : Leaf → Entry → Type 0) (key : List ℕ) (version : List Entry) (met : Met) : Type 0 where
  pub entry : Entry
  pub there : InList entry version
  pub leaf : lies met.leaf entry
  pub differs : IsDifference key entry.key met.difference
  pub most : (d : Difference) → met.difference ≡ Some d → (x : Entry) → InList x version → Same (suc d.place) key x.key → ⊥

-- it is met exactly where there is an entry
abbrev pub MeetsNearest : (Leaf → Entry → Type 0) → List ℕ → List Entry → Option Met → Type 0
MeetsNearest lies key version None = version ≡ []
MeetsNearest lies key version (Some met) = IsNearest lies key version met
